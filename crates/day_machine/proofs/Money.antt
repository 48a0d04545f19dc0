-- The money that an ask makes and a moment ends, by the awards and by the accounts.
use Rattle.std.proofs.Common.{◌≡◌, ◌∙◌, ℕ, zero, suc, ◌+◌, ◌≤◌, ◌<◌, List, [], ◌∷◌, ◌++◌, map, length, drop, refl, sym, ap, arith}
use Rattle.std.specs.List.{enumerate_from, sum_by, range_with_len}
use Rattle.std.proofs.Math.Seq.{drop-append_seam}
use Rattle.std.proofs.lemmas.List.{length-map}
use Rattle.std.proofs.lemmas.List.FromFn.{length-enumerate_from, sum_by-map-range_with_len_more}
use Rattle.std.proofs.lemmas.List.Sums.{sum_by-cons}
use Rattle.adx_units.specs.declared.units.Units.{Units}
use Rattle.campaign_book.specs.Accounts.{Account, account_at}
use Rattle.allocator_core.proofs.Lists.{sum_by-map}
use Rattle.notice_book.specs.declared.award.Award.{Award}
use Rattle.day_rules.specs.declared.ask.Ask.{Ask}
use Rattle.day_rules.specs.declared.entry.Entry.{Entry}
use Rattle.day_rules.specs.Books.{account_in, accounts_in, award_of, awards_of, reserved, sales_of}
use Rattle.day_rules.specs.DayState.{IsDay}
use Rattle.day_rules.specs.Legal.{IsLegal}
use Rattle.day_rules.specs.Terms.{Terms, budgets_after}
use Rattle.day_rules.proofs.Asking.{awards_ask}
use Rattle.day_rules.proofs.Budgets.{budgets_length}
use Rattle.day_rules.proofs.Counting.{count_push}
use Rattle.day_rules.proofs.Money.{account_here}
use Rattle.day_rules.specs.DayMeters.{charge_of, meters_after}
use Rattle.day_rules.proofs.Campaigns.{day_meters}
use Rattle.day_machine.specs.Metered.{reserved_in_all}

-- a sum over one number more of a range
pub range_more : (f : ℕ → ℕ) (n : ℕ) → sum_by f (range_with_len 0 (n + 1)) ≡ sum_by f (range_with_len 0 n) + f n
range_more f n =
    ap (λ (l : List ℕ). sum_by f l) (sym (map_same (range_with_len 0 (n + 1))))
    ∙ (sum_by-map-range_with_len_more f (λ k. k) 0 n n (omega arith)
    ∙ ap (λ (l : List ℕ). sum_by f l + f n) (map_same (range_with_len 0 n)))
  where
    map_same : (l : List ℕ) → map (λ (k : ℕ). k) l ≡ l
    map_same [] = refl
    map_same (k ∷ l) = ap (λ (t : List ℕ). k ∷ t) (map_same l)

-- a sum over a part of a range is no greater
pub range_within : (f : ℕ → ℕ) (n k : ℕ) → sum_by f (range_with_len 0 n) ≤ sum_by f (range_with_len 0 (n + k))
range_within f n zero =
    let none : n + 0 ≡ n = omega arith in
    let same = ap (λ (m : ℕ). sum_by f (range_with_len 0 m)) none in
    omega (arith, same)
range_within f n (suc k) =
    let next : n + suc k ≡ n + k + 1 = omega arith in
    let same = ap (λ (m : ℕ). sum_by f (range_with_len 0 m)) next in
    omega (arith, same, range_more f (n + k), range_within f n k)

-- equal terms give equal sums over a range
range_same : (f g : ℕ → ℕ) (low n : ℕ) → ((c : ℕ) → low ≤ c → c < low + n → f c ≡ g c) → sum_by f (range_with_len low n) ≡ sum_by g (range_with_len low n)
range_same f g low zero same = refl
range_same f g low (suc n) same =
    let rest : sum_by f (range_with_len (low + 1) n) ≡ sum_by g (range_with_len (low + 1) n) =
    range_same f g (low + 1) n (λ c above below. same c (omega arith) (omega arith)) in
    let here : f low ≡ g low = same low (omega arith) (omega arith) in
    omega (arith, here, rest, sum_by-cons f low (range_with_len (low + 1) n), sum_by-cons g low (range_with_len (low + 1) n))

-- what is reserved of all accounts of a day are its meters' reserved money
pub reserved_all : (terms : Terms) (history : List Entry) → IsDay terms history
    → reserved_in_all (accounts_in (budgets_after terms history) (awards_of history)) ≡ (meters_after history).reserved
reserved_all terms history day =
    let budgets : List Units = budgets_after terms history in
    let ws : List Award = awards_of history in
    let accounts : List Account = accounts_in budgets ws in
    let count : length accounts ≡ length terms.budgets =
    length-map (enumerate_from 0 budgets) (account_in ws) ∙ (length-enumerate_from 0 budgets ∙ budgets_length terms history) in
    let each : (c : ℕ) → 0 ≤ c → c < 0 + length accounts → (account_at accounts c).reserved ≡ reserved history c =
    λ c low below. ap (λ (a : Account). a.reserved) (account_here budgets ws c (omega (arith, count, budgets_length terms history))) in
    range_same (λ c. (account_at accounts c).reserved) (reserved history) 0 (length accounts) each
    ∙ (ap (λ (n : ℕ). sum_by (reserved history) (range_with_len 0 n)) count ∙ sym (day_meters terms history day).reserved)

-- how many awards an ask makes
pub ask_count : (history : List Entry) (a : Ask) → length (awards_of (history ++ Entry.Ask a ∷ [])) ≡ length (awards_of history) + length (sales_of a)
ask_count history a = omega (arith, count_push history (Entry.Ask a), length-map (sales_of a) (award_of (length history)))

-- and their charges
pub ask_money : (terms : Terms) (history : List Entry) (a : Ask) → IsLegal terms history
    → sum_by (λ w. w.charge.0) (drop (length (awards_of history)) (awards_of (history ++ Entry.Ask a ∷ []))) ≡ sum_by (λ s. s.charge) (sales_of a)
ask_money terms history a legal =
    let ws : List Award = awards_of history in
    let own : List Award = map (award_of (length history)) (sales_of a) in
    ap (λ (l : List Award). sum_by (λ w. w.charge.0) (drop (length ws) l)) (awards_ask terms history a legal)
    ∙ (ap (λ (l : List Award). sum_by (λ w. w.charge.0) l) (drop-append_seam ws own)
    ∙ sum_by-map (λ (w : Award). w.charge.0) (award_of (length history)) (sales_of a))

-- the charges from an award on
pub charges_more : (ws : List Award) (n : ℕ) → n < length ws → sum_by (λ w. w.charge.0) (drop n ws) ≡ charge_of n ws + sum_by (λ w. w.charge.0) (drop (n + 1) ws)
charges_more [] n below = absurd (omega arith)
charges_more (w ∷ ws) zero below = sum_by-cons (λ (w : Award). w.charge.0) w ws
charges_more (w ∷ ws) (suc n) below =
    let e : suc n + 1 ≡ suc (n + 1) = omega arith in
    charges_more ws n (omega arith) ∙ ap (λ (k : ℕ). charge_of n ws + sum_by (λ w. w.charge.0) (drop k (w ∷ ws))) (sym e)
