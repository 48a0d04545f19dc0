-- What the journal of a generated day comes to with all that it holds, in either format: each call adds at most 1,000 bytes.
use Rattle.std.proofs.Common.{◌≡◌, ◌⊎◌, inl, inr, ℕ, suc, ◌+◌, ◌*◌, ◌%◌, ◌^◌, ◌<◌, ◌≤◌, List, [], ◌∷◌, ◌++◌, map, length, codes, decimal, Bool, true, false, Option, Some, None, if◌then◌else◌, refl, ap, arith, length-append, filter, ◌==◌, ◌&&◌}
use Rattle.std.specs.List.{flat_map, cons_option, sum_by, range_with_len, enumerate_from}
use Rattle.std.proofs.lemmas.List.{length-map}
use Rattle.std.proofs.lemmas.List.Sums.{sum_by_push}
use Rattle.std.proofs.lemmas.Fmt.{length-decimal-le}
use Rattle.sha2.proofs.Facts256.{length-sha256}
use Rattle.adx_units.specs.declared.offer.Offer.{Offer}
use Rattle.adx_units.specs.declared.units.Units.{Units}
use Rattle.allocator_core.proofs.Settled.{length-settled}
use Rattle.allocator_core.specs.Choice.{Standing, decided, reason_at, settled_offers}
use Rattle.allocator_core.specs.declared.reason.TheConstants.{AWARDED}
use Rattle.formats.proofs.Lengths.{few_long, groups_most}
use Rattle.day_machine.specs.Held.{longest_held, longest_record}
use Rattle.day_entries.specs.Entries.{all_kept, ask, entry, imps, kept, name, offer, offers, text}
use Rattle.day_entries.specs.Numbers.{long, numbers_of, short, small, wide}
use Rattle.day_rules.specs.declared.ask.Ask.{Ask}
use Rattle.day_rules.specs.declared.ask.Kept.{Kept}
use Rattle.day_rules.specs.declared.entry.Entry.{Entry}
use Rattle.day_rules.specs.Asks.{is_winners, settled, settled_kept, stays}
use Rattle.day_rules.specs.Books.{awarded_offers, committed, sale_of, sales_of}
use Rattle.day_rules.specs.Terms.{Terms, budgets_after}
use Rattle.command_gen.specs.Generated.{ask_by, kept_by, offer_by, offer_places, offers_by, word_at}
use Rattle.command_gen.specs.declared.generator.TheConstants.{MOST_ASKS}

-- the bytes of the records of a history, and what is held for it, each in the format in which it is more
abbrev pub weight : List Entry → ℕ
weight history = sum_by longest_record history + longest_held history

pub weight_more : (history : List Entry) (e : Entry) → weight (history ++ e ∷ []) ≡ sum_by longest_record history + longest_record e + longest_held (history ++ e ∷ [])
weight_more history e = ap (λ n. n + longest_held (history ++ e ∷ [])) (sum_by_push longest_record history e)

-- format 2 or format 1, and how its parts are written
abbrev format_of : Bool → ℕ
format_of grouped = if grouped then 2 else 1

abbrev long_in : Bool → ℕ → List ℕ
long_in grouped x = (long (numbers_of (format_of grouped))).write x

abbrev wide_in : Bool → ℕ → List ℕ
wide_in grouped x = (wide (numbers_of (format_of grouped))).write x

abbrev short_in : Bool → ℕ → List ℕ
short_in grouped x = (short (numbers_of (format_of grouped))).write x

abbrev small_in : Bool → ℕ → List ℕ
small_in grouped x = (small (numbers_of (format_of grouped))).write x

abbrev offer_in : Bool → Offer → List ℕ
offer_in grouped x = (offer (numbers_of (format_of grouped))).write x

abbrev kept_in : Bool → Kept → List ℕ
kept_in grouped x = (kept (numbers_of (format_of grouped))).write x

abbrev text_in : Bool → List ℕ → List ℕ
text_in grouped x = (text (numbers_of (format_of grouped))).write x

abbrev name_in : Bool → List ℕ → List ℕ
name_in grouped x = (name (numbers_of (format_of grouped))).write x

abbrev imps_in : Bool → List (List ℕ) → List ℕ
imps_in grouped x = (imps (numbers_of (format_of grouped))).write x

abbrev offers_in : Bool → List Offer → List ℕ
offers_in grouped x = (offers (numbers_of (format_of grouped))).write x

abbrev all_kept_in : Bool → List Kept → List ℕ
all_kept_in grouped x = (all_kept (numbers_of (format_of grouped))).write x

abbrev entry_in : Bool → Entry → List ℕ
entry_in grouped x = (entry (numbers_of (format_of grouped))).write x

-- the bytes of numbers, in either format
long_any : (g : Bool) (k : ℕ) → length (long_in g k) ≤ 10
long_any false k = omega arith
long_any true k = omega (arith, groups_most 10 k)

wide_any : (g : Bool) (k : ℕ) → length (wide_in g k) ≤ 10
wide_any false k = omega arith
wide_any true k = omega (arith, groups_most 10 k)

long_few : (g : Bool) (k : ℕ) → k < 2 ^ 32 → length (long_in g k) ≤ 5
long_few false k few = omega arith
long_few true k few = omega (arith, few_long k few)

short_few : (g : Bool) (k : ℕ) → k < 2 ^ 32 → length (short_in g k) ≤ 5
short_few false k few = omega arith
short_few true k few = omega (arith, few_long k few)

small_few : (g : Bool) (k : ℕ) → k < 2 ^ 32 → length (small_in g k) ≤ 5
small_few false k few = omega arith
small_few true k few = omega (arith, few_long k few)

-- the bytes of an offer, and of the offers with the reasons that they get
offer_long : (g : Bool) (word reason : ℕ) → reason < 2 ^ 32 → length (offer_in g (record (offer_by word) { reason = reason })) ≤ 30
unfolding offer
offer_long g word reason few =
    let a : List ℕ = small_in g 0 in
    let b : List ℕ = long_in g (word % 16) in
    let c : List ℕ = wide_in g (offer_by word).charge.0 in
    let d : List ℕ = long_in g 3600 in
    let e : List ℕ = short_in g reason in
    let is : offer_in g (record (offer_by word) { reason = reason }) ≡ a ++ (b ++ (c ++ (d ++ e))) = refl in
    omega (
      arith,
      ap (λ (l : List ℕ). length l) is,
      length-append a (b ++ (c ++ (d ++ e))),
      length-append b (c ++ (d ++ e)),
      length-append c (d ++ e),
      length-append d e,
      small_few g 0 (omega arith),
      long_few g (word % 16) (omega arith),
      wide_any g (offer_by word).charge.0,
      long_few g 3600 (omega arith),
      short_few g reason few,
    )

abbrev with_reasons : (ℕ → Offer → ℕ) → List (ℕ × Offer) → List Offer
with_reasons reason offers = map (λ (p : ℕ × Offer). record p.1 { reason = reason p.0 p.1 }) offers

offers_long : (g : Bool) (reason : ℕ → Offer → ℕ) → ((place word : ℕ) → reason place (offer_by word) < 2 ^ 32) → (from : ℕ) (words : List ℕ)
    → length (flat_map (offer_in g) (with_reasons reason (enumerate_from from (map offer_by words)))) ≤ 30 * length words
offers_long g reason few from [] = omega arith
offers_long g reason few from (w ∷ ws) =
    let rest = flat_map (offer_in g) (with_reasons reason (enumerate_from (from + 1) (map offer_by ws))) in
    omega (
      arith,
      length-append (offer_in g (record (offer_by w) { reason = reason from (offer_by w) })) rest,
      offer_long g w (reason from (offer_by w)) (few from w),
      offers_long g reason few (from + 1) ws,
    )

decided_few : (is_chosen does_fit : Bool) → decided is_chosen does_fit < 2 ^ 32
decided_few true does_fit = omega arith
decided_few false true = omega arith
decided_few false false = omega arith

settled_is : (budgets : List Units) (before : Standing) (os : List Offer) → settled_offers budgets before os ≡ with_reasons (reason_at budgets before os) (enumerate_from 0 os)
unfolding settled_offers
settled_is budgets before os = refl

settled_long : (g : Bool) (budgets : List Units) (before : Standing) (seed number : ℕ) → length (flat_map (offer_in g) (settled_offers budgets before (offers_by seed number))) ≤ 240
settled_long g budgets before seed number =
    let os : List Offer = offers_by seed number in
    let words : List ℕ = map (λ place. word_at seed (number + place)) offer_places in
    let all : settled_offers budgets before os ≡ with_reasons (reason_at budgets before os) (enumerate_from 0 (map offer_by words)) = settled_is budgets before os in
    omega (
      arith,
      ap (λ (l : List Offer). length (flat_map (offer_in g) l)) all,
      offers_long g (reason_at budgets before os) (λ place word. decided_few _ _) 0 words,
    )

-- the bytes of a kept bid with empty texts
empty_few : (g : Bool) → length (text_in g []) ≤ 5
unfolding text
empty_few g =
    let is : text_in g [] ≡ long_in g 0 ++ [] = refl in
    omega (arith, ap (λ (l : List ℕ). length l) is, length-append (long_in g 0) [], long_few g 0 (omega arith))

one_kept : (g : Bool) (place : ℕ) → length (kept_in g (kept_by place)) ≤ 45
unfolding kept
one_kept g place =
    let a : List ℕ = long_in g place in
    let t : List ℕ = text_in g [] in
    let is : kept_in g (kept_by place) ≡ a ++ (t ++ (t ++ (t ++ (t ++ (t ++ (t ++ t)))))) = refl in
    omega (
      arith,
      ap (λ (l : List ℕ). length l) is,
      length-append a (t ++ (t ++ (t ++ (t ++ (t ++ (t ++ t)))))),
      length-append t (t ++ (t ++ (t ++ (t ++ (t ++ t))))),
      length-append t (t ++ (t ++ (t ++ (t ++ t)))),
      length-append t (t ++ (t ++ (t ++ t))),
      length-append t (t ++ (t ++ t)),
      length-append t (t ++ t),
      length-append t t,
      long_any g place,
      empty_few g,
    )

-- the bytes of the kept bids that stay: those of winners, since none wants to be notified of its loss
kept_step : (g : Bool) (o : Option Kept) (rest : List Kept) (most : ℕ) → (o ≡ None) ⊎ ((k : Kept) × (o ≡ Some k) × (length (kept_in g k) ≤ 45)) → length (flat_map (kept_in g) rest) ≤ most
    → length (flat_map (kept_in g) (cons_option o rest)) ≤ 45 + most
kept_step g None rest most is few = omega (arith, few)
kept_step g (Some k) rest most (inl is) few = absurd (cc is)
kept_step g (Some k) rest most (inr (l, is, long)) few =
    let same : k ≡ l = cc is in
    omega (arith, length-append (kept_in g k) (flat_map (kept_in g) rest), ap (λ (x : Kept). length (kept_in g x)) same, long, few)

winner_or_none : (g : Bool) (b : Bool) (place : ℕ) → ((if b then Some (kept_by place) else None) ≡ None) ⊎ ((k : Kept) × ((if b then Some (kept_by place) else None) ≡ Some k) × (length (kept_in g k) ≤ 45))
winner_or_none g true place = inr (kept_by place, refl, one_kept g place)
winner_or_none g false place = inl refl

kept_long : (g : Bool) (os : List Offer) (places : List ℕ) → length (flat_map (kept_in g) (settled_kept os (map kept_by places))) ≤ 45 * length places
kept_long g os [] = omega arith
kept_long g os (place ∷ places) =
    let step = kept_step g (stays os (kept_by place)) (settled_kept os (map kept_by places)) (45 * length places) (winner_or_none g (is_winners os (kept_by place)) place) (kept_long g os places) in
    omega (arith, step)

-- the bytes of an ask of one impression
one_imp : (g : Bool) → length (imps_in g (codes "1" ∷ [])) ≤ 11
unfolding imps name text
one_imp g =
    let a : List ℕ = small_in g 1 in
    let b : List ℕ = long_in g 1 in
    let is : imps_in g (codes "1" ∷ []) ≡ a ++ ((b ++ codes "1") ++ []) = refl in
    omega (
      arith,
      ap (λ (l : List ℕ). length l) is,
      length-append a ((b ++ codes "1") ++ []),
      length-append (b ++ codes "1") [],
      length-append b (codes "1"),
      small_few g 1 (omega arith),
      long_few g 1 (omega arith),
    )

name_few : (g : Bool) (id : List ℕ) → length id ≤ 20 → length (name_in g id) ≤ 25
unfolding name text
name_few g id few =
    let is : name_in g id ≡ long_in g (length id) ++ id = refl in
    omega (arith, ap (λ (l : List ℕ). length l) is, length-append (long_in g (length id)) id, long_few g (length id) (omega (arith, few)), few)

offers_few : (g : Bool) (os : List Offer) (most : ℕ) → length (flat_map (offer_in g) os) ≤ most → length (offers_in g os) ≤ 10 + most
unfolding offers
offers_few g os most few =
    let is : offers_in g os ≡ long_in g (length os) ++ flat_map (offer_in g) os = refl in
    omega (arith, ap (λ (l : List ℕ). length l) is, length-append (long_in g (length os)) (flat_map (offer_in g) os), long_any g (length os), few)

kept_few : (g : Bool) (ks : List Kept) (most : ℕ) → length (flat_map (kept_in g) ks) ≤ most → length (all_kept_in g ks) ≤ 10 + most
unfolding all_kept
kept_few g ks most few =
    let is : all_kept_in g ks ≡ long_in g (length ks) ++ flat_map (kept_in g) ks = refl in
    omega (arith, ap (λ (l : List ℕ). length l) is, length-append (long_in g (length ks)) (flat_map (kept_in g) ks), long_any g (length ks), few)

ask_long : (g : Bool) (a : Ask) → length a.auction ≤ 20 → length a.digest ≡ 32 → a.imps ≡ codes "1" ∷ [] → length (flat_map (offer_in g) a.offers) ≤ 240 → length (flat_map (kept_in g) a.kept) ≤ 360
    → length (entry_in g (Entry.Ask a)) ≤ 709
unfolding entry ask
ask_long g a id digest one os ks =
    let p : List ℕ = name_in g a.auction in
    let q : List ℕ = wide_in g a.now in
    let r : List ℕ = long_in g a.first in
    let s : List ℕ = imps_in g a.imps in
    let u : List ℕ = offers_in g a.offers in
    let v : List ℕ = all_kept_in g a.kept in
    let is : entry_in g (Entry.Ask a) ≡ 1 ∷ (p ++ (a.digest ++ (q ++ (r ++ (s ++ (u ++ v)))))) = refl in
    omega (
      arith,
      ap (λ (l : List ℕ). length l) is,
      length-append p (a.digest ++ (q ++ (r ++ (s ++ (u ++ v))))),
      length-append a.digest (q ++ (r ++ (s ++ (u ++ v)))),
      length-append q (r ++ (s ++ (u ++ v))),
      length-append r (s ++ (u ++ v)),
      length-append s (u ++ v),
      length-append u v,
      name_few g a.auction id,
      digest,
      wide_any g a.now,
      long_any g a.first,
      ap (λ (l : List (List ℕ)). length (imps_in g l)) one,
      one_imp g,
      offers_few g a.offers 240 os,
      kept_few g a.kept 360 ks,
    )

-- an ask with one impression makes an award for no more than each offer
filter_few : (p : Offer → Bool) (xs : List Offer) → length (filter p xs) ≤ length xs
filter_few p [] = omega arith
filter_few p (x ∷ xs) = step (p x) (filter p xs) (length xs) (filter_few p xs)
  where
    step : (b : Bool) (rest : List Offer) (n : ℕ) → length rest ≤ n → length (if b then x ∷ rest else rest) ≤ suc n
    step true rest n few = omega (arith, few)
    step false rest n few = omega (arith, few)

sold_few : (a : Ask) → length a.imps ≡ 1 → length (sales_of a) ≤ length a.offers
sold_few a one =
    let sold = awarded_offers a.offers 0 in
    let all : sales_of a ≡ map (sale_of a) sold ++ [] = ap (λ n. flat_map (λ imp. map (sale_of a) (awarded_offers a.offers imp)) (range_with_len 0 n)) one in
    omega (arith, ap (λ l. length l) all, length-append (map (sale_of a) sold) [], length-map sold (sale_of a), filter_few (λ o. o.reason == AWARDED && o.imp == 0) a.offers)

-- an ask adds at most 1,000 bytes
pub ask_adds : (terms : Terms) (history : List Entry) (seed number : ℕ) → number < MOST_ASKS
    → longest_record (Entry.Ask (settled terms history (ask_by seed number))) + 27 * length (sales_of (settled terms history (ask_by seed number))) ≤ 1000
ask_adds terms history seed number few =
    let s : Ask = settled terms history (ask_by seed number) in
    let offers : length s.offers ≡ 8 = length-settled (budgets_after terms history) (committed history) (offers_by seed (9 * number)) in
    let id : length s.auction ≤ 20 = length-decimal-le 20 number (omega arith) (omega (arith, few)) (omega (arith, few)) in
    let digest : length s.digest ≡ 32 = length-sha256 (decimal number) in
    let within : (g : Bool) → length (entry_in g (Entry.Ask s)) ≤ 709 = λ g.
    ask_long g s id digest refl (settled_long g (budgets_after terms history) (committed history) seed (9 * number)) (kept_long g s.offers offer_places) in
    omega (arith, within false, within true, offers, sold_few s refl)
