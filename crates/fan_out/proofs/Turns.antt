-- Lanes that are worked, or whose answers are taken, one after the other.
use Rattle.std.specs.Prelude.{◌≡◌, ◌⊎◌, ◌<◌, ◌≤◌, ℕ, ◌+◌, suc, List, [], ◌∷◌, ◌++◌, length, map, drop, slice_set, slice_index_or, Option, Some, None, Result, Ok, Err, IfOk, refl}
use Rattle.std.proofs.Common.{sym, ◌∙◌, ap, subst, inl, inr, arith}
use Rattle.std.proofs.Math.Nat.{eq-or-lt_of_le}
use Rattle.std.proofs.Math.Seq.{drop-cons}
use Rattle.std.proofs.lemmas.List.{append_assoc, append-nil, map-append, drop_all, get_or-set_same, get_or-set_other, get_or_default, length-set}
use Rattle.adx_units.specs.declared.memory.OutOfMemory.{OutOfMemory}
use Rattle.fan_out.specs.declared.answer.BidderAnswer.{BidderAnswer}
use Rattle.fan_out.specs.declared.lane.Lane.{Lane}
use Rattle.fan_out.specs.Lanes.{Outcome}
use Rattle.fan_out.specs.Lasts.{AreTaken, EachLeaves, Leaves, emptied, lane_of}

-- the first n elements were each changed, and the others are as they were
pub record ChangedTo {X : Type 0} (R : X → X → Type 0) (old new : List X) (n : ℕ) : Type 0 where
  pub long : length new ≡ length old
  pub done : (k : ℕ) (d : X) → k < length old → k < n → R (slice_index_or old k d) (slice_index_or new k d)
  pub left : (k : ℕ) (d : X) → n ≤ k → slice_index_or new k d ≡ slice_index_or old k d

pub changed_none : {X : Type 0} (R : X → X → Type 0) (old : List X) → ChangedTo R old old 0
changed_none R old = record { long = refl; done = λ k d within below. absurd (omega (arith, below)); left = λ k d past. refl }

changed_here : {X : Type 0} (R : X → X → Type 0) (old new : List X) (n : ℕ) (d y e : X) → n < length old → R (slice_index_or new n d) y → ChangedTo R old new n
    → R (slice_index_or old n e) (slice_index_or (slice_set new n y) n e)
changed_here {X} R old new n d y e within step w =
    let long : length new ≡ length old = w.long in
    let was : slice_index_or new n d ≡ slice_index_or old n e = w.left n d (omega arith) ∙ get_or_default old n d e within in
    let now : slice_index_or (slice_set new n y) n e ≡ y = get_or-set_same new n y e (omega (arith, within, long)) in
    subst (λ (u : X). R u (slice_index_or (slice_set new n y) n e)) was (subst (λ (v : X). R (slice_index_or new n d) v) (sym now) step)

changed_before : {X : Type 0} (R : X → X → Type 0) (old new : List X) (n : ℕ) (y : X) (k : ℕ) (d : X) → k < length old → k < n → ChangedTo R old new n
    → R (slice_index_or old k d) (slice_index_or (slice_set new n y) k d)
changed_before {X} R old new n y k d within below w =
    subst (λ (v : X). R (slice_index_or old k d) v) (sym (get_or-set_other new n k y d (λ e. absurd (omega (arith, e, below))))) (w.done k d within below)

pub changed_more : {X : Type 0} (R : X → X → Type 0) (old new : List X) (n : ℕ) (e y : X) → n < length old → R (slice_index_or new n e) y → ChangedTo R old new n
    → ChangedTo R old (slice_set new n y) (n + 1)
changed_more {X} R old new n e y within step w = record {
  long = length-set new n y ∙ w.long;
  done = λ k d inside below. by k d inside (eq-or-lt_of_le (omega (arith, below)));
  left = λ k d past. get_or-set_other new n k y d (λ same. absurd (omega (arith, same, past))) ∙ w.left k d (omega (arith, past));
}
  where
    by : (k : ℕ) (d : X) → k < length old → (k ≡ n) ⊎ (k < n) → R (slice_index_or old k d) (slice_index_or (slice_set new n y) k d)
    by k d inside (inl same) = subst (λ (m : ℕ). R (slice_index_or old m d) (slice_index_or (slice_set new n y) m d)) (sym same) (changed_here R old new n e y d within step w)
    by k d inside (inr below) = changed_before R old new n y k d inside below w

pub each_leaves : {L : Type 0} (Works : Lane L → Lane L → Outcome → Type 0) (old new : List (Lane L)) (n : ℕ) → length old ≤ n → ChangedTo (Leaves Works) old new n → EachLeaves Works old new
each_leaves Works old new n past w = record { long = w.long; each = λ k d within. w.done k d within (omega (arith, past, within)) }

map_each : {X : Type 0} (f : X → X) (old new : List X) → length new ≡ length old → ((k : ℕ) (d : X) → k < length old → slice_index_or new k d ≡ f (slice_index_or old k d)) → new ≡ map f old
map_each f [] [] long each = refl
map_each f [] (y ∷ ys) long each = absurd (omega (arith, long))
map_each f (x ∷ xs) [] long each = absurd (omega (arith, long))
map_each {X} f (x ∷ xs) (y ∷ ys) long each =
    let here : y ≡ f x = each 0 x (omega arith) in
    let behind : ys ≡ map f xs = map_each f xs ys (omega (arith, long)) (λ k d within. each (suc k) d (omega (arith, within))) in
    ap (λ (u : X). u ∷ ys) here ∙ ap (λ (t : List X). f x ∷ t) behind

pub all_emptied_so : {L : Type 0} (old new : List (Lane L)) (n : ℕ) → length old ≤ n → ChangedTo (λ (l m : Lane L). m ≡ emptied l) old new n → new ≡ map emptied old
all_emptied_so old new n past w = map_each emptied old new w.long (λ k d within. w.done k d within (omega (arith, past, within)))

-- what the lanes hold, and what was taken of them
abbrev pub lasts : {L : Type 0} → List (Lane L) → List (Option (Result BidderAnswer OutOfMemory))
lasts {L} ls = map (λ (l : Lane L). l.last) ls

abbrev pub gotten : List BidderAnswer → List (Option (Result BidderAnswer OutOfMemory))
gotten answers = map (λ a. Some (Ok a)) answers

-- these answers were taken of the first n lanes
pub record TakenTo {L : Type 0} (old : List (Lane L)) (answers : List BidderAnswer) (n : ℕ) : Type 0 where
  pub split : lasts old ≡ gotten answers ++ lasts (drop n old)

pub taken_start : {L : Type 0} (old : List (Lane L)) → TakenTo old [] 0
taken_start old = record { split = refl }

pub taken_more : {L : Type 0} (old : List (Lane L)) (answers : List BidderAnswer) (n : ℕ) (x : Lane L) (a : BidderAnswer) → n < length old → x ≡ slice_index_or old n x → x.last ≡ Some (Ok a)
    → TakenTo old answers n → TakenTo old (answers ++ a ∷ []) (n + 1)
taken_more {L} old answers n x a within is holds t =
    let suc_is : suc n ≡ n + 1 = omega arith in
    let cut : drop n old ≡ x ∷ drop (n + 1) old = drop-cons old n x within ∙ (ap (λ (u : Lane L). u ∷ drop (suc n) old) (sym is) ∙ ap (λ (m : ℕ). x ∷ drop m old) suc_is) in
    let one : lasts (drop n old) ≡ (Some (Ok a) ∷ []) ++ lasts (drop (n + 1) old) =
    ap (λ (t : List (Lane L)). lasts t) cut ∙ ap (λ (o : Option (Result BidderAnswer OutOfMemory)). o ∷ lasts (drop (n + 1) old)) holds in
    record {
      split =
          t.split
          ∙ (ap (λ (r : List (Option (Result BidderAnswer OutOfMemory))). gotten answers ++ r) one
          ∙ (sym (append_assoc (gotten answers) (Some (Ok a) ∷ []) (lasts (drop (n + 1) old)))
          ∙ ap (λ (r : List (Option (Result BidderAnswer OutOfMemory))). r ++ lasts (drop (n + 1) old)) (sym (map-append (λ (b : BidderAnswer). Some (Ok b)) answers (a ∷ [])))));
    }

pub taken_all : {L : Type 0} (old : List (Lane L)) (answers : List BidderAnswer) (n : ℕ) → length old ≤ n → TakenTo old answers n → AreTaken old answers
taken_all {L} old answers n past t = t.split ∙ (ap (λ (ls : List (Lane L)). gotten answers ++ lasts ls) (drop_all n old past) ∙ append-nil (gotten answers))

module _ {L V : Type 0} (items : V → List BidderAnswer) (old new : List (Lane L)) (n : ℕ) (d : Lane L) (within : n < length old)
    (w : ChangedTo (λ (l m : Lane L). m ≡ emptied l) old new n) (last : Option (Result BidderAnswer OutOfMemory)) (last_is : last ≡ (slice_index_or new n d).last) where
  pub taken_step : (before res : Result V OutOfMemory)
      → IfOk res (λ v. (u : V) × (a : BidderAnswer) × (before ≡ Ok u) × (last ≡ Some (Ok a)) × (items v ≡ items u ++ a ∷ []))
      → IfOk before (λ u. TakenTo old (items u) n) → IfOk res (λ v. TakenTo old (items v) (n + 1))
  taken_step before (Err e) h t = tt
  taken_step before (Ok v) h t =
      let so_far : TakenTo old (items h.0) n = subst (λ (b : Result V OutOfMemory). IfOk b (λ u. TakenTo old (items u) n)) h.2 t in
      let holds : (slice_index_or old n d).last ≡ Some (Ok h.1) = ap (λ (l : Lane L). l.last) (sym (w.left n d (omega arith))) ∙ (sym last_is ∙ h.3) in
      subst (λ (xs : List BidderAnswer). TakenTo old xs (n + 1)) (sym h.4)
      (taken_more old (items h.0) n (slice_index_or old n d) h.1 within (get_or_default old n d (slice_index_or old n d) within) holds so_far)

pub taken_at_end : {L V : Type 0} (items : V → List BidderAnswer) (old : List (Lane L)) (n : ℕ) (res : Result V OutOfMemory) → length old ≤ n
    → IfOk res (λ v. TakenTo old (items v) n) → IfOk res (λ v. AreTaken old (items v))
taken_at_end items old n (Ok v) past t = taken_all old (items v) n past t
taken_at_end items old n (Err e) past t = tt

pub emptied_so : {L : Type 0} (l : Lane L) (last : Option (Result BidderAnswer OutOfMemory)) → last ≡ None → lane_of l.place l.link l.conn last ≡ emptied l
emptied_so l last is = ap (λ (o : Option (Result BidderAnswer OutOfMemory)). lane_of l.place l.link l.conn o) is
