-- An outbox that has followed a history has followed an entry more behind each step.
use Rattle.std.proofs.Common.{◌≡◌, ℕ, zero, suc, ◌+◌, ◌-◌, ◌<◌, ◌≤◌, ◌^◌, min, List, [], ◌∷◌, ◌++◌, map, length, Bool, true, false, ◌&&◌, cond, refl, sym, ap, ◌∙◌, subst, arith, Option, Some, None, ltb, eqb, eqb-true, inl, inr, length-append, lit≤, Ok, Err}
use Rattle.std.specs.List.{All, enumerate_from, filter, flat_map, list_any, range_with_len, slice_get}
use Rattle.std.specs.List.Sorted.{IsStrictlySortedBy}
use Rattle.std.specs.Map.{keys_of}
use Rattle.std.specs.Option.{IfSome, is_some, option_and_then, option_map, option_map_or, option_or}
use Rattle.std.specs.Ordering.{nat_cmp}
use Rattle.std.specs.BTreeMap.{is_at}
use Rattle.std.proofs.lemmas.Bool.Decides.{nat_tests}
use Rattle.std.proofs.lemmas.List.Elements.{All-append, All-cons, All-filter, All-head, All-nil, All-tail, All-weaker}
use Rattle.std.proofs.lemmas.Option.{slice_get-map, slice_get_past, slice_get_within}
use Rattle.adx_units.specs.declared.offer.Offer.{Offer}
use Rattle.adx_units.specs.declared.units.Units.{Units}
use Rattle.adx_units.specs.declared.memory.OutOfMemory.{OutOfMemory}
use Rattle.allocator_core.specs.declared.reason.TheConstants.{LOST_TO_HIGHER}
use Rattle.notice_book.specs.declared.award.Award.{Award}
use Rattle.notice_book.specs.declared.kind.NoticeKind.{NoticeKind}
use Rattle.notice_book.specs.declared.ruling.Ruling.{Ruling}
use Rattle.notice_book.specs.AwardList.{Counts}
use Rattle.notice_book.specs.Rules.{is_open, noticed_award, ruling_of}
use Rattle.day_rules.specs.declared.ask.Ask.{Ask}
use Rattle.day_rules.specs.declared.entry.Entry.{Entry}
use Rattle.day_rules.specs.declared.limits.TheConstants.{MAX_LIFE}
use Rattle.day_rules.specs.Asks.{IsOffer, IsWellFormed}
use Rattle.day_rules.specs.Books.{awards_of}
use Rattle.day_rules.specs.DayState.{IsDay}
use Rattle.day_rules.specs.Entries.{entry_of_notice}
use Rattle.day_rules.specs.Legal.{AskMayFollow, IsLegal}
use Rattle.day_rules.specs.Terms.{Terms}
use Rattle.day_rules.proofs.Counting.{day_entries}
use Rattle.day_rules.proofs.Histories.{legal_front, legal_last}
use Rattle.day_rules.proofs.Lists.{get-append_left, get-append_right, or_none}
use Rattle.outbox.specs.declared.post.Post.{Post}
use Rattle.outbox.specs.declared.post.TheConstants.{OPPORTUNITY_EXPIRED}
use Rattle.outbox.specs.declared.row.Row.{Row}
use Rattle.outbox.specs.Bids.{Bid, awarded, awarded_bids, is_award}
use Rattle.outbox.specs.Posts.{bill_post, due_post, loss_post, lost_post, win_post}
use Rattle.outbox.specs.Rows.{deadline_of, row_bill, row_loss, row_made, row_of, row_win, rows_made}
use Rattle.outbox.specs.Following.{AreRowsOf, HasFollowed, OutboxState, RowsState, deadline_in, row_in}
use Rattle.outbox.specs.Keeping.{EndsAll, IsForgotten, IsMade, added, beside, billed_row, due_numbers, made_deadline, made_row, put_at, won_row}
use Rattle.outbox.specs.Steps.{AsksFor, Continues, due_in, post_in}
use Rattle.outbox.proofs.Sold.{as_many, bids_ask, bids_change, bids_length, bids_moment, bids_notice, both, changed_bid, get_zip, moment_bid, new_bid, rows_are, winners, winners_for}
use Rattle.outbox.proofs.Cases.{bill_posts, bill_row, due_posts, has_end_url, has_win_url, is_kept_due, loss_posts, lost_row, moment_deadline, moment_row, stays_by, win_deadline, win_posts, win_row}
use Rattle.outbox.proofs.Keyed.{ascends, at_is, due_has, keyed, keyed_is, or-not}

within_some : {X : Type 0} (xs : List X) (n : ℕ) → n < length xs → (x : X) × (slice_get xs n ≡ Some x)
within_some [] n h = absurd (omega arith)
within_some (x ∷ xs) zero h = (x, refl)
within_some (x ∷ xs) (suc n) h = within_some xs n (omega arith)

-- the award of a notice that counts, and its bid
record Sold (history : List Entry) (kind : NoticeKind) (n : ℕ) : Type 0 where
  bid : Bid
  award : Award
  bid_is : slice_get (awarded history) n ≡ Some bid
  known : slice_get (awarded_bids history) n ≡ Some (bid, award)
  counted : ruling_of kind award ≡ Ruling.Counted

sold : (history : List Entry) (kind : NoticeKind) (n : ℕ) → Counts kind n (awards_of history) → Sold history kind n
sold history kind n c =
    let within : n < length (awards_of history) = slice_get_within (awards_of history) n c.award c.known in
    let b = within_some (awarded history) n (omega (arith, as_many history, within)) in
    record {
      bid = b.0;
      award = c.award;
      bid_is = b.1;
      known = get_zip (awarded history) (awards_of history) n ∙ (ap (λ (o : Option Bid). both o (slice_get (awards_of history) n)) b.1 ∙ ap (λ (o : Option Award). both (Some b.0) o) c.known);
      counted = c.counted;
    }

eqb-self : (n : ℕ) → eqb n n ≡ true
eqb-self n = grind (arith, nat_tests)

eqb-swap : (n q : ℕ) → eqb n q ≡ false → eqb q n ≡ false
eqb-swap n q e = grind (arith, nat_tests)

unchanged : {Y : Type 0} (g : Bid × Award → Option Y) (f : Award → Award) (n q : ℕ) (o : Option (Bid × Award)) → eqb q n ≡ false → option_and_then g (option_map (changed_bid f n q) o) ≡ option_and_then g o
unchanged g f n q None e = refl
unchanged g f n q (Some p) e = ap (λ (b : Bool). g (p.0, cond b (f p.1) p.1)) e

-- what is kept at each number behind a notice
put_notice : {Y : Type 0} (g : Bid × Award → Option Y) (history : List Entry) (kind : NoticeKind) (n : ℕ) (c : Counts kind n (awards_of history)) (x : Option Y) (was : ℕ → Option Y)
    → ((q : ℕ) → was q ≡ option_and_then g (slice_get (awarded_bids history) q))
    → x ≡ g ((sold history kind n c).bid, noticed_award kind (sold history kind n c).award)
    → (q : ℕ) → put_at n x was q ≡ option_and_then g (slice_get (awarded_bids (history ++ entry_of_notice kind n ∷ [])) q)
put_notice {Y} g history kind n c x was h own q =
    let s : Sold history kind n = sold history kind n c in
    let behind : slice_get (awarded_bids (history ++ entry_of_notice kind n ∷ [])) q ≡ option_map (changed_bid (noticed_award kind) n q) (slice_get (awarded_bids history) q) = bids_notice history kind n q c in
    elim (or-not (eqb n q)) [
      | inl same ↦ (
          let is : n ≡ q = eqb-true n q same in
          let found : option_map (changed_bid (noticed_award kind) n q) (slice_get (awarded_bids history) q) ≡ Some (s.bid, noticed_award kind s.award) =
          subst (λ k. option_map (changed_bid (noticed_award kind) n k) (slice_get (awarded_bids history) k) ≡ Some (s.bid, noticed_award kind s.award)) is
          (ap (option_map (changed_bid (noticed_award kind) n n)) s.known ∙ ap (λ (b : Bool). Some (s.bid, cond b (noticed_award kind s.award) s.award)) (eqb-self n)) in
          ap (λ (b : Bool). cond b x (was q)) (at_is n q ∙ same) ∙ (own ∙ sym (ap (option_and_then g) (behind ∙ found)))
          )
      | inr other ↦ (
          ap (λ (b : Bool). cond b x (was q)) (at_is n q ∙ other)
          ∙ (h q ∙ (sym (unchanged g (noticed_award kind) n q (slice_get (awarded_bids history) q) (eqb-swap n q other)) ∙ sym (ap (option_and_then g) behind)))
          )
    ]

rows_notice : (history : List Entry) (kind : NoticeKind) (n : ℕ) (old new : RowsState) (c : Counts kind n (awards_of history)) (x : Option Row) (d : Option ℕ)
    → AreRowsOf history old
    → ((q : ℕ) → row_in new q ≡ put_at n x (row_in old) q)
    → ((q : ℕ) → deadline_in new q ≡ put_at n d (deadline_in old) q)
    → x ≡ row_of ((sold history kind n c).bid, noticed_award kind (sold history kind n c).award)
    → d ≡ deadline_of ((sold history kind n c).bid, noticed_award kind (sold history kind n c).award)
    → AreRowsOf (history ++ entry_of_notice kind n ∷ []) new
rows_notice history kind n old new c x d are rows deadlines x_is d_is = record {
  rows = λ q. rows q ∙ put_notice row_of history kind n c x (row_in old) are.rows x_is q;
  deadlines = λ q. deadlines q ∙ put_notice deadline_of history kind n c d (deadline_in old) are.deadlines d_is q;
}

-- what is kept of the award itself
row_is : (history : List Entry) (kind : NoticeKind) (n : ℕ) (old : RowsState) (c : Counts kind n (awards_of history)) → AreRowsOf history old → row_in old n ≡ row_of ((sold history kind n c).bid, (sold history kind n c).award)
row_is history kind n old c are = are.rows n ∙ ap (option_and_then row_of) (sold history kind n c).known

deadline_is : (history : List Entry) (kind : NoticeKind) (n : ℕ) (old : RowsState) (c : Counts kind n (awards_of history)) → AreRowsOf history old → deadline_in old n ≡ deadline_of ((sold history kind n c).bid, (sold history kind n c).award)
deadline_is history kind n old c are = are.deadlines n ∙ ap (option_and_then deadline_of) (sold history kind n c).known

-- ---- an ask

all_placed : (P : Offer → Type 0) (n : ℕ) (os : List Offer) → All P os → All (λ (p : ℕ × Offer). P p.1) (enumerate_from n os)
all_placed P n [] h = All-nil (λ (p : ℕ × Offer). P p.1)
all_placed P n (o ∷ os) h = All-cons (λ (p : ℕ × Offer). P p.1) (n, o) (enumerate_from (n + 1) os) (All-head P o os h) (all_placed P (n + 1) os (All-tail P o os h))

all_flat : {X Y : Type 0} (P : Y → Type 0) (f : X → List Y) (xs : List X) → ((x : X) → All P (f x)) → All P (flat_map f xs)
all_flat P f [] h = All-nil P
all_flat P f (x ∷ xs) h = All-append P (f x) (flat_map f xs) (h x) (all_flat P f xs h)

all_get : {X : Type 0} (P : X → Type 0) (xs : List X) (n : ℕ) (x : X) → All P xs → slice_get xs n ≡ Some x → P x
all_get {X} P [] n x h e = absurd (omega (arith, slice_get_within [] n x e))
all_get {X} P (y ∷ ys) zero x h e = subst (λ (o : Option X). IfSome o P) e (All-head P y ys h)
all_get {X} P (y ∷ ys) (suc n) x h e = all_get P ys n x (All-tail P y ys h) e

lives : (campaigns imps : ℕ) (o : Offer) → IsOffer campaigns imps o → o.life ≤ MAX_LIFE
lives campaigns imps o (inl a) = a.ends
lives campaigns imps o (inr r) = omega (arith, r.life)

winner_lives : (campaigns : ℕ) (a : Ask) (j : ℕ) (p : ℕ × Offer) → IsWellFormed campaigns a → slice_get (winners a) j ≡ Some p → p.1.life ≤ MAX_LIFE
winner_lives campaigns a j p formed e =
    let P : Offer → Type 0 = λ o. o.life ≤ MAX_LIFE in
    let offers : All P a.offers = All-weaker (IsOffer campaigns (length a.imps)) P (lives campaigns (length a.imps)) a.offers formed.offers in
    all_get (λ (p : ℕ × Offer). P p.1) (winners a) j p
    (all_flat (λ (p : ℕ × Offer). P p.1) (winners_for a) (range_with_len 0 (length a.imps)) (λ imp. All-filter (is_award imp) (λ (p : ℕ × Offer). P p.1) (enumerate_from 0 a.offers) (all_placed P 0 a.offers offers))) e

fits : (now life most half cap : ℕ) → now < half → life ≤ most → half + most ≤ cap → min (now + life) cap ≡ now + life
fits now life most half cap small few room = omega arith

moment_fits : (campaigns : ℕ) (a : Ask) (j : ℕ) (p : ℕ × Offer) → IsWellFormed campaigns a → slice_get (winners a) j ≡ Some p → min (a.now + p.1.life) (2 ^ 64 - 1) ≡ a.now + p.1.life
moment_fits campaigns a j p formed e = fits a.now p.1.life MAX_LIFE (2 ^ 63) (2 ^ 64 - 1) formed.now (winner_lives campaigns a j p formed e) (lit≤ tt)

added_is : {Y : Type 0} (g : Bid × Award → Option Y) (k : Row → Option Y) (a : Ask) (place : ℕ) (bids : List (Bid × Award)) (first : ℕ) (was : ℕ → Option Y)
    → first ≡ length bids
    → ((q : ℕ) → was q ≡ option_and_then g (slice_get bids q))
    → ((j : ℕ) (p : ℕ × Offer) → slice_get (winners a) j ≡ Some p → k (row_made a p) ≡ g (new_bid place a p))
    → (q : ℕ) → added first k (rows_made a) was q ≡ option_and_then g (slice_get (bids ++ map (new_bid place a) (winners a)) q)
added_is {Y} g k a place bids first was first_is h same q =
    elim (or-not (ltb q first)) [
      | inl below ↦ (
          let less : q < length bids = subst (λ n. q < n) first_is (grind (arith, nat_tests, below)) in
          ap (λ (b : Bool). cond b (was q) (option_or (option_and_then k (slice_get (rows_made a) (q - first))) (was q))) below
          ∙ (h q ∙ ap (option_and_then g) (sym (get-append_left bids (map (new_bid place a) (winners a)) q less)))
          )
      | inr past ↦ (
          let later : length bids ≤ q = subst (λ n. n ≤ q) first_is (grind (arith, nat_tests, past)) in
          let none : was q ≡ None = h q ∙ ap (option_and_then g) (slice_get_past bids q later) in
          let j : ℕ = q - length bids in
          ap (λ (b : Bool). cond b (was q) (option_or (option_and_then k (slice_get (rows_made a) (q - first))) (was q))) past
          ∙ (ap (λ (o : Option Y). option_or (option_and_then k (slice_get (rows_made a) (q - first))) o) none
          ∙ (or_none (option_and_then k (slice_get (rows_made a) (q - first)))
          ∙ (ap (λ n. option_and_then k (slice_get (rows_made a) (q - n))) first_is
          ∙ (ap (λ (rs : List Row). option_and_then k (slice_get rs j)) (rows_are a)
          ∙ (ap (option_and_then k) (slice_get-map (row_made a) (winners a) j)
          ∙ (each (slice_get (winners a) j) refl
          ∙ (sym (ap (option_and_then g) (slice_get-map (new_bid place a) (winners a) j))
          ∙ sym (ap (option_and_then g) (get-append_right bids (map (new_bid place a) (winners a)) q later)))))))))
          )
    ]
  where
    each : (o : Option (ℕ × Offer)) → slice_get (winners a) (q - length bids) ≡ o → option_and_then k (option_map (row_made a) o) ≡ option_and_then g (option_map (new_bid place a) o)
    each None e = refl
    each (Some p) e = same (q - length bids) p e

first_is : (terms : Terms) (history : List Entry) (a : Ask) → AskMayFollow terms history a → a.first ≡ length (awarded_bids history)
first_is terms history a f = sym (ap (λ (x : Ask). x.first) f.is_settled) ∙ sym (bids_length history)

rows_ask : (terms : Terms) (history : List Entry) (a : Ask) (old new : RowsState) → IsLegal terms history → AskMayFollow terms history a → AreRowsOf history old → IsMade a.first (rows_made a) old new → AreRowsOf (history ++ Entry.Ask a ∷ []) new
rows_ask terms history a old new legal f are is =
    let place : ℕ = length history in
    let behind : awarded_bids (history ++ Entry.Ask a ∷ []) ≡ awarded_bids history ++ map (new_bid place a) (winners a) = bids_ask terms history a legal in
    record {
      rows = λ q. is.rows q ∙ (added_is row_of made_row a place (awarded_bids history) a.first (row_in old) (first_is terms history a f) are.rows
          (λ j p e. ap (λ d. made_row (record (row_made a p) { deadline = d })) (moment_fits (length terms.budgets) a j p f.well_formed e)) q
          ∙ sym (ap (λ (bs : List (Bid × Award)). option_and_then row_of (slice_get bs q)) behind));
      deadlines = λ q. is.deadlines q ∙ (added_is deadline_of made_deadline a place (awarded_bids history) a.first (deadline_in old) (first_is terms history a f) are.deadlines
          (λ j p e. ap (λ d. made_deadline (record (row_made a p) { deadline = d })) (moment_fits (length terms.budgets) a j p f.well_formed e)) q
          ∙ sym (ap (λ (bs : List (Bid × Award)). option_and_then deadline_of (slice_get bs q)) behind));
    }

forgotten_is : {Y : Type 0} (g : Bid × Award → Option Y) (bids : List (Bid × Award)) (first : ℕ) (was : ℕ → Option Y) → first ≡ length bids → ((q : ℕ) → was q ≡ option_and_then g (slice_get bids q)) → (q : ℕ) → cond (ltb q first) (was q) None ≡ option_and_then g (slice_get bids q)
forgotten_is g bids first was first_is h q =
    elim (or-not (ltb q first)) [
      | inl below ↦ ap (λ (b : Bool). cond b (was q) None) below ∙ h q
      | inr past ↦ (
          let later : length bids ≤ q = subst (λ n. n ≤ q) first_is (grind (arith, nat_tests, past)) in
          ap (λ (b : Bool). cond b (was q) None) past ∙ sym (ap (option_and_then g) (slice_get_past bids q later))
          )
    ]

rows_forgotten : (terms : Terms) (history : List Entry) (a : Ask) (old new : RowsState) → AskMayFollow terms history a → AreRowsOf history old → IsForgotten a.first old new → AreRowsOf history new
rows_forgotten terms history a old new f are is = record {
  rows = λ q. is.rows q ∙ forgotten_is row_of (awarded_bids history) a.first (row_in old) (first_is terms history a f) are.rows q;
  deadlines = λ q. is.deadlines q ∙ forgotten_is deadline_of (awarded_bids history) a.first (deadline_in old) (first_is terms history a f) are.deadlines q;
}

-- ---- a moment

due_is : (now : ℕ) (o : Option (Bid × Award)) → option_map_or (λ d. ltb d now) (option_and_then deadline_of o) false ≡ option_map_or (is_kept_due now) o false
due_is now None = refl
due_is now (Some p) = refl

moment_is : {Y : Type 0} (g : Bid × Award → Option Y) (now : ℕ) → ((b : Bid) (w : Award) → cond (is_kept_due now (b, w)) None (g (b, w)) ≡ g (moment_bid now (b, w))) → (o : Option (Bid × Award)) → cond (option_map_or (is_kept_due now) o false) None (option_and_then g o) ≡ option_and_then g (option_map (moment_bid now) o)
moment_is g now h None = refl
moment_is g now h (Some p) = h p.0 p.1

ended_is : {Y : Type 0} (g : Bid × Award → Option Y) (history : List Entry) (now : ℕ) (old : RowsState) (was : ℕ → Option Y) → AreRowsOf history old → IsStrictlySortedBy nat_cmp (keys_of old.deadlines)
    → ((b : Bid) (w : Award) → cond (is_kept_due now (b, w)) None (g (b, w)) ≡ g (moment_bid now (b, w)))
    → ((q : ℕ) → was q ≡ option_and_then g (slice_get (awarded_bids history) q))
    → (q : ℕ) → cond (list_any (λ n. is_at (nat_cmp n) q) (due_in now old)) None (was q) ≡ option_and_then g (slice_get (awarded_bids (history ++ Entry.Expire now ∷ [])) q)
ended_is {Y} g history now old was are sorted each h q =
    let due : list_any (λ n. is_at (nat_cmp n) q) (due_in now old) ≡ option_map_or (is_kept_due now) (slice_get (awarded_bids history) q) false =
    due_has now q 0 old.deadlines (ascends old.deadlines sorted)
    ∙ (ap (λ (o : Option ℕ). option_map_or (λ d. ltb d now) o false) (are.deadlines q) ∙ due_is now (slice_get (awarded_bids history) q)) in
    ap (λ (b : Bool). cond b None (was q)) due
    ∙ (ap (λ (o : Option Y). cond (option_map_or (is_kept_due now) (slice_get (awarded_bids history) q) false) None o) (h q)
    ∙ (moment_is g now each (slice_get (awarded_bids history) q) ∙ sym (ap (option_and_then g) (bids_moment history now q))))

rows_moment : (history : List Entry) (now : ℕ) (old new : RowsState) → AreRowsOf history old → IsStrictlySortedBy nat_cmp (keys_of old.deadlines) → EndsAll (due_in now old) old new → AreRowsOf (history ++ Entry.Expire now ∷ []) new
rows_moment history now old new are sorted ends = record {
  rows = λ q. ends.rows q ∙ ended_is row_of history now old (row_in old) are sorted (moment_row now) are.rows q;
  deadlines = λ q. ends.deadlines q ∙ ended_is deadline_of history now old (deadline_in old) are sorted (moment_deadline now) are.deadlines q;
}

-- the posts of what is due
due_step : (g : ℕ → List Post) (now n d : ℕ) (x : Bool) (rest : List (ℕ × ℕ)) → flat_map g (due_numbers now (option_map_or (λ e. (n, e) ∷ rest) (cond x (Some d) None) rest)) ≡ cond (x && ltb d now) (g n) [] ++ flat_map g (due_numbers now rest)
due_step g now n d false rest = refl
due_step g now n d true rest = by_test (ltb d now)
  where
    by_test : (t : Bool) → flat_map g (map (λ (p : ℕ × ℕ). p.0) (cond t ((n, d) ∷ filter (λ (p : ℕ × ℕ). ltb p.1 now) rest) (filter (λ (p : ℕ × ℕ). ltb p.1 now) rest))) ≡ cond t (g n) [] ++ flat_map g (due_numbers now rest)
    by_test true = refl
    by_test false = refl

due_flat : (g : ℕ → List Post) (now place n : ℕ) (ps : List (Bid × Award)) → ((k : ℕ) (p : Bid × Award) → slice_get ps k ≡ Some p → g (n + k) ≡ option_map_or (row_loss place OPPORTUNITY_EXPIRED) (row_of p) []) → flat_map g (due_numbers now (keyed deadline_of n ps)) ≡ flat_map (due_post place now) ps
due_flat g now place n [] h = refl
due_flat g now place n (p ∷ ps) h =
    let x : Bool = is_open p.1.end && stays_by (has_end_url p.0) (has_win_url p.0) p.1 in
    let t : Bool = ltb p.1.deadline now in
    let rest : List (ℕ × ℕ) = keyed deadline_of (n + 1) ps in
    let own : g n ≡ option_map_or (row_loss place OPPORTUNITY_EXPIRED) (row_of p) [] = subst (λ k. g k ≡ option_map_or (row_loss place OPPORTUNITY_EXPIRED) (row_of p) []) (omega arith) (h 0 p refl) in
    due_step g now n p.1.deadline x rest
    ∙ (ap (λ (v : List Post). cond (x && t) v [] ++ flat_map g (due_numbers now rest)) own
    ∙ (ap (λ (v : List Post). v ++ flat_map g (due_numbers now rest)) (due_posts place OPPORTUNITY_EXPIRED now p.0 p.1)
    ∙ ap (λ (v : List Post). due_post place now p ++ v) (due_flat g now place (n + 1) ps (λ k q e. subst (λ m. g m ≡ option_map_or (row_loss place OPPORTUNITY_EXPIRED) (row_of q) []) (omega arith) (h (suc k) q e)))))

posts_moment : (history : List Entry) (now place : ℕ) (old : RowsState) → AreRowsOf history old → IsStrictlySortedBy nat_cmp (keys_of old.deadlines) → flat_map (post_in (row_loss place OPPORTUNITY_EXPIRED) old) (due_in now old) ≡ flat_map (due_post place now) (awarded_bids history)
posts_moment history now place old are sorted =
    let all : old.deadlines ≡ keyed deadline_of 0 (awarded_bids history) =
    keyed_is deadline_of 0 (awarded_bids history) old.deadlines (ascends old.deadlines sorted) (λ q low. are.deadlines q ∙ ap (λ k. option_and_then deadline_of (slice_get (awarded_bids history) k)) (omega arith)) in
    ap (λ (es : List (ℕ × ℕ)). flat_map (post_in (row_loss place OPPORTUNITY_EXPIRED) old) (due_numbers now es)) all
    ∙ due_flat (post_in (row_loss place OPPORTUNITY_EXPIRED) old) now place 0 (awarded_bids history)
    (λ k p e. ap (λ (o : Option Row). option_map_or (row_loss place OPPORTUNITY_EXPIRED) o []) (ap (row_in old) (omega arith) ∙ (are.rows k ∙ ap (option_and_then row_of) e)))

-- ---- a change of a budget

rows_change : (history : List Entry) (campaign change : ℕ) (budget : Units) (old new : RowsState) → AreRowsOf history old → new ≡ old → AreRowsOf (history ++ Entry.Budget campaign change budget ∷ []) new
rows_change history campaign change budget old new are same =
    let behind : awarded_bids history ≡ awarded_bids (history ++ Entry.Budget campaign change budget ∷ []) = sym (bids_change history campaign change budget) in
    record {
      rows = λ q. ap (λ (k : RowsState). row_in k q) same ∙ (are.rows q ∙ ap (λ (bs : List (Bid × Award)). option_and_then row_of (slice_get bs q)) behind);
      deadlines = λ q. ap (λ (k : RowsState). deadline_in k q) same ∙ (are.deadlines q ∙ ap (λ (bs : List (Bid × Award)). option_and_then deadline_of (slice_get bs q)) behind);
    }

-- ---- every entry

abbrev pub counted_on : OutboxState → OutboxState
counted_on o = record o { followed = min (o.followed + 1) (2 ^ 64 - 1) }

one_more : (n m k cap : ℕ) → n ≡ m → m + 1 ≡ k → k ≤ cap → min (n + 1) cap ≡ k
one_more n m k cap a b c = omega arith

below_cap : (k low cap : ℕ) → k < low → low ≤ cap → k ≤ cap
below_cap k low cap a b = omega arith

count_on : (terms : Terms) (history : List Entry) (e : Entry) (old mid : OutboxState) → HasFollowed history old → IsDay terms (history ++ e ∷ []) → mid.followed ≡ old.followed → min (mid.followed + 1) (2 ^ 64 - 1) ≡ length (history ++ e ∷ [])
count_on terms history e old mid followed day same =
    one_more mid.followed (length history) (length (history ++ e ∷ [])) (2 ^ 64 - 1) (same ∙ followed.count) (sym (length-append history (e ∷ []))) (below_cap (length (history ++ e ∷ [])) (2 ^ 32) (2 ^ 64 - 1) (day_entries terms (history ++ e ∷ []) day) (lit≤ tt))

notice_posts : (history : List Entry) (kind : NoticeKind) (n : ℕ) (old : RowsState) (c : Counts kind n (awards_of history)) (f : Row → List Post) (post : Bid → List Post) → AreRowsOf history old → ((b : Bid) (w : Award) → ruling_of kind w ≡ Ruling.Counted → option_map_or f (row_of (b, w)) [] ≡ post b) → post_in f old n ≡ option_map_or post (slice_get (awarded history) n) []
notice_posts history kind n old c f post are h =
    let s : Sold history kind n = sold history kind n c in
    ap (λ (o : Option Row). option_map_or f o []) (row_is history kind n old c are)
    ∙ (h s.bid s.award s.counted ∙ sym (ap (λ (o : Option Bid). option_map_or post o []) s.bid_is))

pub continues_ok : (terms : Terms) (history : List Entry) (e : Entry) (done : Unit) (old mid : OutboxState) → HasFollowed history old → IsDay terms (history ++ e ∷ []) → AsksFor e (Ok done) old mid → Continues history e (Ok done) old (counted_on mid)
continues_ok terms history (Entry.Ask a) done old mid followed day asks =
    let f : AskMayFollow terms history a = legal_last terms history (Entry.Ask a) [] day.legal in (
      record {
        count = count_on terms history (Entry.Ask a) old mid followed day asks.2;
        rows = rows_ask terms history a old.kept mid.kept (legal_front terms history (Entry.Ask a ∷ []) day.legal) f followed.rows asks.1;
      },
      asks.0 ∙ ap (λ n. old.pending ++ flat_map (lost_post n a) a.kept) followed.count,
      asks.3,
    )
continues_ok terms history (Entry.Win n) done old mid followed day asks =
    let c : Counts NoticeKind.Win n (awards_of history) = legal_last terms history (Entry.Win n) [] day.legal in
    let s : Sold history NoticeKind.Win n = sold history NoticeKind.Win n c in
    let row : row_in old.kept n ≡ row_of (s.bid, s.award) = row_is history NoticeKind.Win n old.kept c followed.rows in
    let deadline : deadline_in old.kept n ≡ deadline_of (s.bid, s.award) = deadline_is history NoticeKind.Win n old.kept c followed.rows in
    let row_then : option_and_then (won_row (is_some (deadline_in old.kept n))) (row_in old.kept n) ≡ option_and_then (won_row (is_some (deadline_of (s.bid, s.award)))) (row_of (s.bid, s.award)) =
    ap (λ (o : Option ℕ). option_and_then (won_row (is_some o)) (row_in old.kept n)) deadline ∙ ap (λ (o : Option Row). option_and_then (won_row (is_some (deadline_of (s.bid, s.award)))) o) row in (
      record {
        count = count_on terms history (Entry.Win n) old mid followed day asks.2;
        rows = rows_notice history NoticeKind.Win n old.kept mid.kept c
            (option_and_then (won_row (is_some (deadline_in old.kept n))) (row_in old.kept n))
            (beside (option_and_then (won_row (is_some (deadline_in old.kept n))) (row_in old.kept n)) (deadline_in old.kept n))
            followed.rows asks.1.rows asks.1.deadlines (row_then ∙ win_row s.bid s.award s.counted)
            (ap (λ (o : Option Row). beside o (deadline_in old.kept n)) row_then ∙ (ap (beside (option_and_then (won_row (is_some (deadline_of (s.bid, s.award)))) (row_of (s.bid, s.award)))) deadline ∙ win_deadline s.bid s.award s.counted));
      },
      asks.0
          ∙ (ap (λ k. old.pending ++ post_in (row_win k) old.kept n) followed.count
          ∙ ap (λ (ps : List Post). old.pending ++ ps) (notice_posts history NoticeKind.Win n old.kept c (row_win (length history)) (win_post (length history)) followed.rows (win_posts (length history)))),
      asks.3,
    )
continues_ok terms history (Entry.Bill n) done old mid followed day asks =
    let c : Counts NoticeKind.Bill n (awards_of history) = legal_last terms history (Entry.Bill n) [] day.legal in
    let s : Sold history NoticeKind.Bill n = sold history NoticeKind.Bill n c in (
      record {
        count = count_on terms history (Entry.Bill n) old mid followed day asks.2;
        rows = rows_notice history NoticeKind.Bill n old.kept mid.kept c (option_and_then billed_row (row_in old.kept n)) None
            followed.rows asks.1.rows asks.1.deadlines
            (ap (option_and_then billed_row) (row_is history NoticeKind.Bill n old.kept c followed.rows) ∙ bill_row s.bid s.award s.counted) refl;
      },
      asks.0
          ∙ (ap (λ k. old.pending ++ post_in (row_bill k) old.kept n) followed.count
          ∙ ap (λ (ps : List Post). old.pending ++ ps) (notice_posts history NoticeKind.Bill n old.kept c (row_bill (length history)) (bill_post (length history)) followed.rows (bill_posts (length history)))),
      asks.3,
    )
continues_ok terms history (Entry.Loss n) done old mid followed day asks =
    let c : Counts NoticeKind.Loss n (awards_of history) = legal_last terms history (Entry.Loss n) [] day.legal in
    let s : Sold history NoticeKind.Loss n = sold history NoticeKind.Loss n c in (
      record {
        count = count_on terms history (Entry.Loss n) old mid followed day asks.2;
        rows = rows_notice history NoticeKind.Loss n old.kept mid.kept c None None followed.rows asks.1.rows asks.1.deadlines
            (sym (lost_row s.bid s.award)) refl;
      },
      asks.0
          ∙ (ap (λ k. old.pending ++ post_in (row_loss k LOST_TO_HIGHER) old.kept n) followed.count
          ∙ ap (λ (ps : List Post). old.pending ++ ps) (notice_posts history NoticeKind.Loss n old.kept c (row_loss (length history) LOST_TO_HIGHER) (loss_post (length history) LOST_TO_HIGHER) followed.rows (loss_posts (length history) LOST_TO_HIGHER))),
      asks.3,
    )
continues_ok terms history (Entry.Expire now) done old mid followed day asks = (
  record {
    count = count_on terms history (Entry.Expire now) old mid followed day asks.2;
    rows = rows_moment history now old.kept mid.kept followed.rows asks.1.0 asks.1.1;
  },
  asks.0
      ∙ (ap (λ k. old.pending ++ flat_map (post_in (row_loss k OPPORTUNITY_EXPIRED) old.kept) (due_in now old.kept)) followed.count
      ∙ ap (λ (ps : List Post). old.pending ++ ps) (posts_moment history now (length history) old.kept followed.rows asks.1.0)),
  asks.3,
)
continues_ok terms history (Entry.Budget campaign change budget) done old mid followed day asks = (
  record {
    count = count_on terms history (Entry.Budget campaign change budget) old mid followed day asks.2;
    rows = rows_change history campaign change budget old.kept mid.kept followed.rows asks.1;
  },
  asks.0,
  asks.3,
)

again : (history : List Entry) (e : Entry) (old new : OutboxState) (wanting : OutOfMemory) → HasFollowed history old → AreRowsOf history new.kept → new.pending ≡ old.pending → new.followed ≡ old.followed → new.undeliverable ≡ old.undeliverable → Continues history e (Err wanting) old new
again history e old new wanting followed rows pending count given_up = (record { count = count ∙ followed.count; rows = rows }, pending, given_up)

as_before : (history : List Entry) (old new : RowsState) → AreRowsOf history old → new ≡ old → AreRowsOf history new
as_before history old new are same = subst (AreRowsOf history) (sym same) are

pub continues_err : (terms : Terms) (history : List Entry) (e : Entry) (wanting : OutOfMemory) (old new : OutboxState) → HasFollowed history old → IsDay terms (history ++ e ∷ []) → AsksFor e (Err wanting) old new → Continues history e (Err wanting) old new
continues_err terms history (Entry.Ask a) wanting old new followed day asks =
    let f : AskMayFollow terms history a = legal_last terms history (Entry.Ask a) [] day.legal in
    again history (Entry.Ask a) old new wanting followed
    (elim asks.1 [ inl same ↦ as_before history old.kept new.kept followed.rows same | inr forgotten ↦ rows_forgotten terms history a old.kept new.kept f followed.rows forgotten ])
    asks.0 asks.2 asks.3
continues_err terms history (Entry.Win n) wanting old new followed day asks = again history (Entry.Win n) old new wanting followed (as_before history old.kept new.kept followed.rows asks.1) asks.0 asks.2 asks.3
continues_err terms history (Entry.Bill n) wanting old new followed day asks = again history (Entry.Bill n) old new wanting followed (as_before history old.kept new.kept followed.rows asks.1) asks.0 asks.2 asks.3
continues_err terms history (Entry.Loss n) wanting old new followed day asks = again history (Entry.Loss n) old new wanting followed (as_before history old.kept new.kept followed.rows asks.1) asks.0 asks.2 asks.3
continues_err terms history (Entry.Expire now) wanting old new followed day asks = again history (Entry.Expire now) old new wanting followed (as_before history old.kept new.kept followed.rows asks.1) asks.0 asks.2 asks.3
continues_err terms history (Entry.Budget campaign change budget) wanting old new followed day asks = again history (Entry.Budget campaign change budget) old new wanting followed (as_before history old.kept new.kept followed.rows asks.1) asks.0 asks.2 asks.3
