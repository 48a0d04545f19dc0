-- The places of campaigns in the order of their pairs: what a search finds, and what one more place changes.
use Rattle.std.proofs.Common.{◌≡◌, ◌⊎◌, ℕ, ◌+◌, ◌-◌, ◌<◌, ◌≤◌, List, [], ◌∷◌, ◌++◌, length, true, false, ◌&&◌, Result, Ok, Err, IfOk, IfErr, Ordering, Less, Equal, Greater, nat_cmp, is_eq, is_lt, refl, sym, ap, ap₂, ◌∙◌, inl, inr, arith}
use Rattle.std.specs.List.{insert}
use Rattle.std.specs.List.Sorted.{IsSearchInRange, IsBinarySearchResult, IsNonDecreasingBy, IsSortedBy}
use Rattle.std.specs.Ordering.{ordering_index, ordering_reverse, ordering_then}
use Rattle.std.specs.Cmp.{IsTotalOrder}
use Rattle.std.specs.Cmp.Lexicographic.{slice_cmp}
use Rattle.std.proofs.lemmas.Bool.{cases_lt}
use Rattle.std.proofs.lemmas.Cmp.{then_total, on_total, nat_list_cmp_total, tied_back}
use Rattle.std.proofs.lemmas.List.{get_or_default, get_or_append_left, get_or-append-add, length-append}
use Rattle.std.proofs.lemmas.List.Sorted.{searchable_from_sorted}
use Rattle.std.proofs.lemmas.List.Edits.{length-insert, get_or-insert_below, get_or-insert_at, get_or-insert_above}
use Rattle.std.proofs.lemmas.Map.Text.{is_eq-slice_cmp}
use Rattle.deal_floor.specs.Pairs.{Pair, same_pair}
use Rattle.deal_floor.specs.Order.{seat_of, cid_of, pair_cmp, pair_at, place_at, IsOrder, IsFound, IsGap}

pub pair_cmp_total : IsTotalOrder pair_cmp
pair_cmp_total = then_total (on_total seat_of nat_list_cmp_total) (on_total cid_of nat_list_cmp_total)

less_not_greater : (r s : Ordering) → r ≡ Less → s ≡ ordering_reverse r → is_lt s ≡ false
less_not_greater r s h k = ap is_lt (k ∙ ap ordering_reverse h)

then_tied : (r s : Ordering) → is_eq (ordering_then r s) ≡ (is_eq r && is_eq s)
then_tied Less s = refl
then_tied Equal s = refl
then_tied Greater s = refl

-- pairs are the same exactly where they tie
pub tied_is : (p q : Pair) → is_eq (pair_cmp p q) ≡ same_pair p q
tied_is p q = then_tied (slice_cmp nat_cmp p.0 q.0) (slice_cmp nat_cmp p.1 q.1) ∙ ap₂ (λ a b. a && b) (is_eq-slice_cmp p.0 q.0) (is_eq-slice_cmp p.1 q.1)

pub eq_equal : (r : Ordering) → is_eq r ≡ true → r ≡ Equal
eq_equal Less h = cc
eq_equal Equal h = refl
eq_equal Greater h = cc

less_equal : Less ≡ Equal → ⊥
less_equal h = cc

module _ (pairs : List Pair) (order : List ℕ) (sorted : IsOrder pairs order) (pair : Pair) where
  abbrev key : ℕ → Pair
  key place = pair_at pairs place

  neighbours : IsSortedBy (λ a b. is_lt (pair_cmp (pair_at pairs a) (pair_at pairs b))) order
  neighbours k d low high =
      let second = get_or_default order (k + 1) d 0 high in
      let first = get_or_default order k d 0 (omega arith) in
      ap₂ (λ a b. is_lt (pair_cmp (pair_at pairs a) (pair_at pairs b))) second first
      ∙ less_not_greater _ _ (sorted.rising k (k + 1) (omega arith) high) (pair_cmp_total.antisymm (pair_at pairs (place_at order (k + 1))) (pair_at pairs (place_at order k)))

  rise : IsNonDecreasingBy (λ place. ordering_index (pair_cmp (pair_at pairs place) pair)) order
  rise = searchable_from_sorted pair_cmp_total (pair_at pairs) order pair neighbours

  -- a search ends at the pair, or at the gap for it
  pub searched : (r : Result ℕ ℕ) → IsSearchInRange r (length order) → IsBinarySearchResult (λ place. pair_cmp (pair_at pairs place) pair) order r
      → record { found : IfOk r (IsFound pairs order pair); absent : IfErr r (IsGap pairs order pair) }
  searched (Ok at) in_range equal = record { found = record { in_range = in_range; tied = equal 0 }; absent = tt }
  searched (Err at) in_range parted = record {
    found = tt;
    absent = record {
      in_range = in_range;
      less_before = λ j lt. (parted rise).0 j 0 (omega arith) lt;
      greater_after = λ j le lt. (parted rise).1 j 0 le lt;
    };
  }

  -- of two places in the order, one with the pair stands beside no other
  not_two : (i j : ℕ) → i < j → j < length order → pair_cmp (key (place_at order i)) pair ≡ Equal → pair_cmp (key (place_at order j)) pair ≡ Equal → ⊥
  not_two i j low high h k =
      let a = key (place_at order i) in
      let b = key (place_at order j) in
      less_equal (sym (sorted.rising i j low high) ∙ pair_cmp_total.congr a pair b h ∙ tied_back pair_cmp_total b pair k)

  -- the place that is found is the only one with the pair
  pub only_place : (i place : ℕ) → IsFound pairs order pair i → place < length pairs → pair_cmp (key place) pair ≡ Equal → place ≡ place_at order i
  only_place i place found low tied =
      let at = sorted.covers place low in
      let tied_at : pair_cmp (key (place_at order at.0)) pair ≡ Equal = ap (λ q. pair_cmp (key q) pair) at.2 ∙ tied in
      elim (cases_order at.0 i) [
        | inl below ↦ absurd (not_two at.0 i below found.in_range tied_at found.tied)
        | inr above ↦ elim above [
          | inl same ↦ sym at.2 ∙ ap (place_at order) same
          | inr over ↦ absurd (not_two i at.0 over at.1 found.tied tied_at)
        ]
      ]
    where
      cases_order : (a b : ℕ) → (a < b) ⊎ ((a ≡ b) ⊎ (b < a))
      cases_order a b = elim (cases_lt a b) [
        | inl low ↦ inl low
        | inr more ↦ elim (cases_lt b a) [
          | inl over ↦ inr (inr over)
          | inr same ↦ inr (inl (omega arith))
        ]
      ]

  -- beside a gap no place has the pair
  pub no_place : (i place : ℕ) → IsGap pairs order pair i → place < length pairs → pair_cmp (key place) pair ≡ Equal → ⊥
  no_place i place gap low tied =
      let at = sorted.covers place low in
      let tied_at : pair_cmp (key (place_at order at.0)) pair ≡ Equal = ap (λ q. pair_cmp (key q) pair) at.2 ∙ tied in
      elim (cases_lt at.0 i) [
        | inl before ↦ less_equal (sym (gap.less_before at.0 before) ∙ tied_at)
        | inr after ↦ greater_equal (sym (gap.greater_after at.0 after at.1) ∙ tied_at)
      ]
    where
      greater_equal : Greater ≡ Equal → ⊥
      greater_equal h = cc

reversed : (r s : Ordering) → r ≡ Greater → s ≡ ordering_reverse r → s ≡ Less
reversed r s h k = k ∙ ap ordering_reverse h

-- one more pair, and its place put in the gap for it
module _ (pairs : List Pair) (order : List ℕ) (sorted : IsOrder pairs order) (pair : Pair) (at : ℕ) (gap : IsGap pairs order pair at) where
  abbrev more : List Pair
  more = pairs ++ pair ∷ []

  abbrev new : List ℕ
  new = insert order at (length pairs)

  new_length : length new ≡ length order + 1
  new_length = length-insert order at (length pairs) gap.in_range

  more_length : length more ≡ length pairs + 1
  more_length = length-append pairs (pair ∷ [])

  old_pair : (place : ℕ) → place < length pairs → pair_at more place ≡ pair_at pairs place
  old_pair place low = get_or_append_left pairs (pair ∷ []) ([], []) place low

  new_pair : pair_at more (length pairs) ≡ pair
  new_pair = ap (pair_at more) (omega arith) ∙ get_or-append-add pairs (pair ∷ []) 0 ([], [])

  place_below : (i : ℕ) → i < at → place_at new i ≡ place_at order i
  place_below i low = get_or-insert_below order at (length pairs) 0 i low gap.in_range

  place_here : place_at new at ≡ length pairs
  place_here = get_or-insert_at order at (length pairs) 0 gap.in_range

  place_next : (i : ℕ) → at ≤ i → place_at new (i + 1) ≡ place_at order i
  place_next i high = get_or-insert_above order at (length pairs) 0 i high gap.in_range

  place_above : (i : ℕ) → at < i → place_at new i ≡ place_at order (i - 1)
  place_above i high = let is : i ≡ i - 1 + 1 = omega arith in ap (place_at new) is ∙ place_next (i - 1) (omega arith)

  key_below : (i : ℕ) → i < at → pair_at more (place_at new i) ≡ pair_at pairs (place_at order i)
  key_below i low = ap (pair_at more) (place_below i low) ∙ old_pair (place_at order i) (sorted.below i (let h = gap.in_range in omega arith))

  key_here : (i : ℕ) → i ≡ at → pair_at more (place_at new i) ≡ pair
  key_here i is = ap (λ k. pair_at more (place_at new k)) is ∙ ap (pair_at more) place_here ∙ new_pair

  key_above : (i : ℕ) → at < i → i < length new → pair_at more (place_at new i) ≡ pair_at pairs (place_at order (i - 1))
  key_above i high low = ap (pair_at more) (place_above i high) ∙ old_pair (place_at order (i - 1)) (sorted.below (i - 1) (let h = new_length in omega arith))

  compared : (a b c d : Pair) → a ≡ c → b ≡ d → pair_cmp c d ≡ Less → pair_cmp a b ≡ Less
  compared a b c d h k l = ap₂ pair_cmp h k ∙ l

  rises : (i j : ℕ) → i < j → j < length new → pair_cmp (pair_at more (place_at new i)) (pair_at more (place_at new j)) ≡ Less
  rises i j low high =
      let length_is = new_length in
      elim (cases_lt j at) [
        | inl below ↦ compared _ _ _ _ (key_below i (omega arith)) (key_below j below) (sorted.rising i j low (let h = gap.in_range in omega arith))
        | inr from ↦ elim (cases_lt at j) [
          | inl above ↦ elim (cases_lt i at) [
            | inl before ↦ compared _ _ _ _ (key_below i before) (key_above j above high) (sorted.rising i (j - 1) (omega arith) (omega arith))
            | inr behind ↦ elim (cases_lt at i) [
              | inl over ↦ compared _ _ _ _ (key_above i over (omega arith)) (key_above j above high) (sorted.rising (i - 1) (j - 1) (omega arith) (omega arith))
              | inr not_over ↦ compared _ _ _ _ (key_here i (omega arith)) (key_above j above high) (reversed _ _ (gap.greater_after (j - 1) (omega arith) (omega arith)) (pair_cmp_total.antisymm pair (pair_at pairs (place_at order (j - 1)))))
            ]
          ]
          | inr not_above ↦ compared _ _ _ _ (key_below i (omega arith)) (key_here j (omega arith)) (gap.less_before i (omega arith))
        ]
      ]

  lies_below : (i : ℕ) → i < length new → place_at new i < length more
  lies_below i high =
      let length_is = new_length in
      let count = more_length in
      let inside = gap.in_range in
      elim (cases_lt i at) [
        | inl below ↦ let p = place_below i below in let b = sorted.below i (omega arith) in omega arith
        | inr from ↦ elim (cases_lt at i) [
          | inl above ↦ let p = place_above i above in let b = sorted.below (i - 1) (omega arith) in omega arith
          | inr here ↦ let is : i ≡ at = omega arith in let p : place_at new i ≡ length pairs = ap (place_at new) is ∙ place_here in omega arith
        ]
      ]

  covered : (place : ℕ) → place < length more → (i : ℕ) × (i < length new) × (place_at new i ≡ place)
  covered place low =
      let length_is = new_length in
      let count = more_length in
      let inside = gap.in_range in
      elim (cases_lt place (length pairs)) [
        | inl old ↦
            let found = sorted.covers place old in
            elim (cases_lt found.0 at) [
              | inl below ↦ (found.0, (let f = found.1 in omega arith), place_below found.0 below ∙ found.2)
              | inr from ↦ (found.0 + 1, (let f = found.1 in omega arith), place_next found.0 from ∙ found.2)
            ]
        | inr last ↦ (at, omega arith, place_here ∙ omega arith)
      ]

  pub put_in_order : IsOrder more new
  put_in_order = record { rising = rises; below = lies_below; covers = covered }
