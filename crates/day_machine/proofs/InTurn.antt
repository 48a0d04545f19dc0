-- Notices of different awards: each is answered after those before it as it is at the history itself.
use Rattle.std.proofs.Common.{◌≡◌, ℕ, ◌+◌, ◌<◌, ◌≤◌, zero, suc, List, [], ◌∷◌, ◌++◌, map, length, take, get_or, Bool, true, false, cond, eqb, refl, sym, ◌∙◌, ap, arith, Option, Some, None, IfSome, append_assoc, length-append}
use Rattle.std.specs.List.{AllByRecursion, flat_map, slice_get, sum_by}
use Rattle.std.specs.Option.{option_map}
use Rattle.std.proofs.lemmas.Bool.{cond-false, and_left, eq-eqb, false≢true, ne_eqb}
use Rattle.std.proofs.lemmas.List.{append-nil, map-append, take_more}
use Rattle.std.proofs.lemmas.List.Sums.{sum_by-append, sum_by-cons}
use Rattle.std.proofs.lemmas.Map.Keys.{IsDistinct-head, IsDistinct-tail}
use Rattle.std.proofs.lemmas.Grind.{flat_map-append}
use Rattle.std.proofs.lemmas.List.Concat.{flat_map-cons}
use Rattle.notice_book.specs.declared.award.Award.{Award}
use Rattle.notice_book.specs.declared.kind.NoticeKind.{NoticeKind}
use Rattle.notice_book.specs.declared.ruling.Ruling.{Ruling}
use Rattle.notice_book.specs.Rules.{noticed_award, ruling_of}
use Rattle.day_entries.specs.Entries.{IsNoticeOrMoment, entry_bytes, entries_bytes}
use Rattle.day_rules.specs.declared.answer.Answer.{Answer}
use Rattle.day_rules.specs.declared.entry.Entry.{Entry}
use Rattle.day_rules.specs.Books.{awards_of}
use Rattle.day_rules.specs.DayState.{IsDay}
use Rattle.day_rules.specs.Laws.{Arrival, after_arrival, after_arrivals, arrival_reply}
use Rattle.day_rules.specs.Legal.{IsLegal, MayFollow}
use Rattle.day_rules.specs.Replies.{Reply, is_of_auction, known_reply, ruled_reply, with_entry}
use Rattle.day_rules.specs.Terms.{Terms}
use Rattle.day_rules.proofs.Following.{notice_follows}
use Rattle.day_rules.proofs.Lists.{get_numbered}
use Rattle.day_rules.proofs.Ordering.{answer_kept, arrival_awards, arrival_legal, arrived, auction_kept}
use Rattle.day_rules.proofs.Selling.{award_placed}
use Rattle.day_machine.specs.Answered.{entry_if, is_counted}
use Rattle.day_machine.specs.Batches.{AreApart, answers_in_turn, entries_in_turn, added_by}
use Rattle.day_machine.specs.Held.{held, record_size}
use Rattle.day_machine.proofs.NoticeEntries.{counted_entry, notice_kind}
use Rattle.day_machine.proofs.Holding.{held_falls}
use Rattle.day_entries.proofs.Lengths.{some_bytes}

-- an arrival leaves the other awards as they are
other_award : (history : List Entry) (y : Arrival) (n : ℕ) (o : Option Award) → eqb n y.award ≡ false → option_map (λ w. arrived history y (n, w)) o ≡ o
other_award history y n None apart = refl
other_award history y n (Some w) apart =
    ap (λ (v : Award). Some v) (cond-false _ (noticed_award y.kind w) w (and_left (eqb n y.award) _ apart))

award_kept : (history : List Entry) (y : Arrival) (n : ℕ) → (n ≡ y.award → ⊥) → slice_get (awards_of (after_arrival history y)) n ≡ slice_get (awards_of history) n
award_kept history y n apart =
    ap (λ (ws : List Award). slice_get ws n) (arrival_awards history y)
    ∙ (get_numbered (arrived history y) (awards_of history) n
    ∙ other_award history y n (slice_get (awards_of history) n) (ne_eqb n y.award apart))

-- so it leaves the entries that notices of other awards add
ruled_entry : (history next : List Entry) (kind : NoticeKind) (n : ℕ) (r : Ruling) → (ruled_reply next kind n r).entry ≡ (ruled_reply history kind n r).entry
ruled_entry history next kind n Ruling.Counted = refl
ruled_entry history next kind n Ruling.Repeat = refl
ruled_entry history next kind n (Ruling.Conflict end) = refl

entry_alike : (b : Bool) (r s t : Reply) → r.entry ≡ s.entry → (cond b r t).entry ≡ (cond b s t).entry
entry_alike true r s t is = is
entry_alike false r s t is = refl

known_entry : (history : List Entry) (y x : Arrival) (o : Option Award) → slice_get (awards_of history) x.award ≡ o → (known_reply (after_arrival history y) x.kind x.auction x.award o).entry ≡ (known_reply history x.kind x.auction x.award o).entry
known_entry history y x None at = refl
known_entry history y x (Some w) at =
    let next : List Entry = after_arrival history y in
    let entry : Bool → Reply → Option Entry = λ b r. (cond b r (record { answer = Answer.Unknown; entry = None })).entry in
    ap (λ (b : Bool). entry b (ruled_reply next x.kind x.award (ruling_of x.kind w))) (auction_kept history y x.auction w (award_placed history x.award w at))
    ∙ entry_alike (is_of_auction history x.auction w) (ruled_reply next x.kind x.award (ruling_of x.kind w)) (ruled_reply history x.kind x.award (ruling_of x.kind w)) (record { answer = Answer.Unknown; entry = None })
    (ruled_entry history next x.kind x.award (ruling_of x.kind w))

entry_kept : (history : List Entry) (x y : Arrival) → (x.award ≡ y.award → ⊥) → (arrival_reply (after_arrival history y) x).entry ≡ (arrival_reply history x).entry
entry_kept history x y apart =
    ap (λ (o : Option Award). (known_reply (after_arrival history y) x.kind x.auction x.award o).entry) (award_kept history y x.award apart)
    ∙ known_entry history y x (slice_get (awards_of history) x.award) refl

-- the answers to notices and the entries that they add, each at the history itself
abbrev pub answers_now : List Entry → List Arrival → List Answer
answers_now history xs = map (λ (x : Arrival). (arrival_reply history x).answer) xs

abbrev pub entries_now : List Entry → List Arrival → List Entry
entries_now history xs = flat_map (λ (x : Arrival). added_by (arrival_reply history x).entry) xs

same_behind : (terms : Terms) (history : List Entry) (x : Arrival) (xs : List Arrival) → IsLegal terms history → AllByRecursion (λ (m : ℕ). eqb x.award m ≡ false) (map (λ (c : Arrival). c.award) xs)
    → (answers_now (after_arrival history x) xs ≡ answers_now history xs) × (entries_now (after_arrival history x) xs ≡ entries_now history xs)
same_behind terms history x [] legal apart = (refl, refl)
same_behind terms history x (y ∷ ys) legal apart =
    let later = same_behind terms history x ys legal apart.1 in
    let other : y.award ≡ x.award → ⊥ = λ same. false≢true (sym apart.0 ∙ eq-eqb x.award y.award (sym same)) in
    let answer = answer_kept terms history y x legal other in
    let entry = entry_kept history y x other in (
      ap (λ (a : Answer). a ∷ answers_now (after_arrival history x) ys) answer ∙ ap (λ (l : List Answer). (arrival_reply history y).answer ∷ l) later.0,
      ap (λ (o : Option Entry). added_by o ++ entries_now (after_arrival history x) ys) entry ∙ ap (λ (l : List Entry). added_by (arrival_reply history y).entry ++ l) later.1,
    )

-- notices of different awards in turn
pub in_turn : (terms : Terms) (history : List Entry) (xs : List Arrival) → IsLegal terms history → AreApart xs → (answers_in_turn history xs ≡ answers_now history xs) × (entries_in_turn history xs ≡ entries_now history xs)
in_turn terms history [] legal apart = (refl, refl)
in_turn terms history (x ∷ xs) legal apart =
    let numbers = map (λ (c : Arrival). c.award) xs in
    let rest = in_turn terms (after_arrival history x) xs (arrival_legal terms history x legal) (IsDistinct-tail eqb x.award numbers apart) in
    let same = same_behind terms history x xs legal (IsDistinct-head eqb x.award numbers apart) in (
      ap (λ (l : List Answer). (arrival_reply history x).answer ∷ l) (rest.0 ∙ same.0),
      ap (λ (l : List Entry). added_by (arrival_reply history x).entry ++ l) (rest.1 ∙ same.1),
    )

-- each adds at most one entry
added_few : (o : Option Entry) → length (added_by o) ≤ 1
added_few None = omega arith
added_few (Some e) = omega arith

pub entries_few : (history : List Entry) (xs : List Arrival) → length (entries_in_turn history xs) ≤ length xs
entries_few history [] = omega arith
entries_few history (x ∷ xs) =
    let entry = (arrival_reply history x).entry in
    let rest = entries_in_turn (after_arrival history x) xs in
    omega (arith, length-append (added_by entry) rest, added_few entry, entries_few (after_arrival history x) xs)

-- the history after them
with_is : (history : List Entry) (o : Option Entry) → with_entry history o ≡ history ++ added_by o
with_is history None = sym (append-nil history)
with_is history (Some e) = refl

pub arrivals_are : (history : List Entry) (xs : List Arrival) → after_arrivals history xs ≡ history ++ entries_in_turn history xs
arrivals_are history [] = sym (append-nil history)
arrivals_are history (x ∷ xs) =
    let entry = (arrival_reply history x).entry in
    let rest = entries_in_turn (after_arrival history x) xs in
    arrivals_are (after_arrival history x) xs ∙ (ap (λ (h : List Entry). h ++ rest) (with_is history entry) ∙ append_assoc history (added_by entry) rest)

pub arrivals_legal : (terms : Terms) (history : List Entry) (xs : List Arrival) → IsLegal terms history → IsLegal terms (after_arrivals history xs)
arrivals_legal terms history [] legal = legal
arrivals_legal terms history (x ∷ xs) legal = arrivals_legal terms (after_arrival history x) xs (arrival_legal terms history x legal)

-- their records take of what is held
module _ (format : ℕ) where
  one_takes : (terms : Terms) (history : List Entry) (o : Option Entry) → IsDay terms history → IfSome o (MayFollow terms history) → IfSome o IsNoticeOrMoment → sum_by (record_size format) (added_by o) + held format (with_entry history o) ≤ held format history
  one_takes terms history None day follows kind = omega arith
  one_takes terms history (Some e) day follows kind = omega (arith, held_falls format terms history e day follows kind, sum_by-cons (record_size format) e [])

  pub arrivals_take : (terms : Terms) (history : List Entry) (xs : List Arrival) → IsDay terms history → sum_by (record_size format) (entries_in_turn history xs) + held format (after_arrivals history xs) ≤ held format history
  arrivals_take terms history [] day = omega arith
  arrivals_take terms history (x ∷ xs) day =
      let r = arrival_reply history x in
      let next = after_arrival history x in
      omega (
        arith,
        arrivals_take terms next xs (record { terms_ok = day.terms_ok; legal = arrival_legal terms history x day.legal }),
        one_takes terms history r.entry day (notice_follows terms history x.kind x.auction x.award) (notice_kind history x.kind x.auction x.award),
        sum_by-append (record_size format) (added_by r.entry) (entries_in_turn next xs),
      )

  -- the bytes of entries are those of each
  pub bytes_sum : (es : List Entry) → length (entries_bytes format es) ≡ sum_by (λ (e : Entry). length (entry_bytes format e)) es
  bytes_sum [] = refl
  bytes_sum (e ∷ es) =
      omega (
        arith,
        bytes_sum es,
        sum_by-cons (λ (x : Entry). length (entry_bytes format x)) e es,
        ap length (flat_map-cons (entry_bytes format) e es),
        length-append (entry_bytes format e) (entries_bytes format es),
      )

bytes_some : (format : ℕ) (e : Entry) (es : List Entry) → 1 ≤ length (entries_bytes format (e ∷ es))
bytes_some format e es = omega (arith, some_bytes format e, ap length (flat_map-cons (entry_bytes format) e es), length-append (entry_bytes format e) (entries_bytes format es))

-- one notice more, at the history itself
front_more : (xs : List Arrival) (i : ℕ) (x : Arrival) → i < length xs → x ≡ get_or xs i x → take (i + 1) xs ≡ take i xs ++ x ∷ []
front_more xs i x low item = take_more xs i x low ∙ ap (λ (y : Arrival). take i xs ++ y ∷ []) (sym item)

pub answers_more : (history : List Entry) (xs : List Arrival) (i : ℕ) (x : Arrival) (old new : List Answer) (a : Answer) → i < length xs → x ≡ get_or xs i x → old ≡ answers_now history (take i xs) → a ≡ (arrival_reply history x).answer → new ≡ old ++ a ∷ []
    → new ≡ answers_now history (take (i + 1) xs)
answers_more history xs i x old new a low item so_far is more =
    let f : Arrival → Answer = λ y. (arrival_reply history y).answer in
    more
    ∙ (ap (λ (l : List Answer). l ++ a ∷ []) so_far
    ∙ (ap (λ (b : Answer). answers_now history (take i xs) ++ b ∷ []) is
    ∙ sym (ap (answers_now history) (front_more xs i x low item) ∙ map-append f (take i xs) (x ∷ []))))

pub entries_more : (history : List Entry) (xs : List Arrival) (i : ℕ) (x : Arrival) (o : Option Entry) → i < length xs → x ≡ get_or xs i x → o ≡ (arrival_reply history x).entry → entries_now history (take (i + 1) xs) ≡ entries_now history (take i xs) ++ added_by o
entries_more history xs i x o low item is =
    let g : Arrival → List Entry = λ y. added_by (arrival_reply history y).entry in
    ap (entries_now history) (front_more xs i x low item)
    ∙ (flat_map-append g (take i xs) (x ∷ [])
    ∙ (ap (λ (l : List Entry). entries_now history (take i xs) ++ l) (append-nil (g x))
    ∙ ap (λ (e : Option Entry). entries_now history (take i xs) ++ added_by e) (sym is)))

pub bytes_more : (format : ℕ) (history : List Entry) (xs : List Arrival) (i : ℕ) (x : Arrival) (o : Option Entry) (old new : List ℕ) → i < length xs → x ≡ get_or xs i x → o ≡ (arrival_reply history x).entry → old ≡ entries_bytes format (entries_now history (take i xs))
    → new ≡ old ++ entries_bytes format (added_by o) → new ≡ entries_bytes format (entries_now history (take (i + 1) xs))
bytes_more format history xs i x o old new low item is so_far more =
    more
    ∙ (ap (λ (l : List ℕ). l ++ entries_bytes format (added_by o)) so_far
    ∙ (sym (flat_map-append (entry_bytes format) (entries_now history (take i xs)) (added_by o)) ∙ ap (entries_bytes format) (sym (entries_more history xs i x o low item is))))

-- no bytes are those of no entry
pub none_added : (format : ℕ) (es : List Entry) (payload : List ℕ) → payload ≡ entries_bytes format es → length payload ≡ 0 → es ≡ []
none_added format [] payload is none = refl
none_added format (e ∷ es) payload is none = absurd (omega (arith, none, ap length is, bytes_some format e es))

-- and some bytes are those of some
pub some_added : (format : ℕ) (es : List Entry) (payload : List ℕ) → payload ≡ entries_bytes format es → (length payload ≡ 0 → ⊥) → 0 < length es
some_added format [] payload is some = absurd (some (ap length is))
some_added format (e ∷ es) payload is some = omega arith

-- the answers in turn are one for each notice, each after the notices before it
pub answers_length : (history : List Entry) (xs : List Arrival) → length (answers_in_turn history xs) ≡ length xs
answers_length history [] = refl
answers_length history (x ∷ xs) = omega (arith, answers_length (after_arrival history x) xs)

pub answer_at : (history : List Entry) (xs : List Arrival) (i : ℕ) (x : Arrival) (a : Answer) → i < length xs → get_or (answers_in_turn history xs) i a ≡ (arrival_reply (after_arrivals history (take i xs)) (get_or xs i x)).answer
answer_at history [] i x a low = absurd (omega arith)
answer_at history (y ∷ ys) zero x a low = refl
answer_at history (y ∷ ys) (suc i) x a low = answer_at (after_arrival history y) ys i x a (omega arith)

arrivals_append : (history : List Entry) (xs ys : List Arrival) → after_arrivals history (xs ++ ys) ≡ after_arrivals (after_arrivals history xs) ys
arrivals_append history [] ys = refl
arrivals_append history (x ∷ xs) ys = arrivals_append (after_arrival history x) xs ys

pub arrivals_more : (history : List Entry) (xs : List Arrival) (i : ℕ) (x : Arrival) → i < length xs → x ≡ get_or xs i x → after_arrivals history (take (i + 1) xs) ≡ after_arrival (after_arrivals history (take i xs)) x
arrivals_more history xs i x low item = ap (after_arrivals history) (front_more xs i x low item) ∙ arrivals_append history (take i xs) (x ∷ [])

-- the history after a notice that counts, and after another
pub behind_counted : (history : List Entry) (x : Arrival) (b : Bool) → is_counted (arrival_reply history x).answer ≡ b → after_arrival history x ≡ with_entry history (entry_if b x.kind x.award)
behind_counted history x b is =
    ap (with_entry history) (sym (counted_entry history x.kind x.auction x.award) ∙ ap (λ (c : Bool). entry_if c x.kind x.award) is)
