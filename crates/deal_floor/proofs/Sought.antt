-- What a search among campaigns says of the list of them.
use Rattle.std.proofs.Common.{◌≡◌, ℕ, zero, suc, ◌<◌, ◌≤◌, ◌==◌, List, [], ◌∷◌, map, length, get_or, Bool, true, false, cond, ◌&&◌, ◌||◌, nat_lt, Some, None, Equal, is_eq, ◌++◌, subst, slice_get, refl, sym, ap, ap₂, ◌∙◌, arith}
use Rattle.std.specs.List.{list_any, position, position_or_len, insert}
use Rattle.std.specs.Option.{option_map_or}
use Rattle.std.proofs.lemmas.Bool.{ltb-true, ltb-false}
use Rattle.std.proofs.lemmas.List.{get_or-map, get_or_default, length-map, map-append}
use Rattle.std.proofs.lemmas.List.Sums.{position_or_len_is}
use Rattle.deal_floor.specs.Pairs.{Pair, pair_of, has_pair, is_campaign}
use Rattle.deal_floor.specs.Order.{pair_cmp, pair_at, place_at, IsOrder, IsFound, IsGap}
use Rattle.deal_floor.specs.declared.campaign.Campaign.{Campaign}
use Rattle.deal_floor.proofs.Order.{tied_is, eq_equal, only_place, no_place, put_in_order}

is_false : (b : Bool) → (b ≡ true → ⊥) → b ≡ false
is_false true h = absurd (h refl)
is_false false h = refl

and_both : (a b : Bool) → (a && b) ≡ true → (a ≡ true) × (b ≡ true)
and_both true b h = (refl, h)
and_both false b h = cc

or_true : (a : Bool) → (a || true) ≡ true
or_true true = refl
or_true false = refl

less_by : (a b : ℕ) (t : Bool) → nat_lt a b ≡ t → a < b → t ≡ true
less_by a b true e h = refl
less_by a b false e h = absurd (let high : b ≤ a = ltb-false a b e in omega arith)

not_less : (n : ℕ) (t : Bool) → nat_lt n n ≡ t → t ≡ false
not_less n true e = absurd (let high : n < n = ltb-true n n e in omega arith)
not_less n false e = refl

-- by each place
module _ {X : Type 0} (p : X → Bool) where
  pub none_any : (xs : List X) → ((k : ℕ) (d : X) → k < length xs → p (get_or xs k d) ≡ false) → list_any p xs ≡ false
  none_any [] h = refl
  none_any (x ∷ xs) h = ap₂ (λ a b. a || b) (h 0 x (omega arith)) (none_any xs (λ k d low. h (suc k) d (omega arith)))

  pub some_any : (xs : List X) (k : ℕ) (d : X) → k < length xs → p (get_or xs k d) ≡ true → list_any p xs ≡ true
  some_any [] k d low h = absurd (omega arith)
  some_any (x ∷ xs) zero d low h = ap (λ a. a || list_any p xs) h
  some_any (x ∷ xs) (suc k) d low h = ap (λ b. p x || b) (some_any xs k d (omega arith) h) ∙ or_true (p x)

  pub none_is : (xs : List X) → ((k : ℕ) (d : X) → k < length xs → p (get_or xs k d) ≡ false) → position p xs ≡ None
  none_is [] h = refl
  none_is (x ∷ xs) h =
      let all = x ∷ xs in
      let is : position_or_len p all ≡ length all = position_or_len_is p all (length all) x (omega arith) (λ k low. h k x low) (λ low. absurd (omega arith)) in
      ap (λ (n : ℕ). cond (nat_lt n (length all)) (Some n) None) is ∙ ap (λ b. cond b (Some (length all)) None) (not_less (length all) _ refl)

  pub some_is : (xs : List X) (i : ℕ) (d : X) → i < length xs → p (get_or xs i d) ≡ true → ((k : ℕ) → k < i → p (get_or xs k d) ≡ false)
      → position p xs ≡ Some i
  some_is xs i d low h before =
      ap (λ (n : ℕ). cond (nat_lt n (length xs)) (Some n) None) (position_or_len_is p xs i d (omega arith) before (λ _. h))
      ∙ ap (λ b. cond b (Some i) None) (less_by i (length xs) _ refl low)

pub pair_here : (cs : List Campaign) (k : ℕ) (d : Campaign) → k < length cs → pair_at (map pair_of cs) k ≡ pair_of (get_or cs k d)
pair_here cs k d low = get_or-map pair_of cs k d ([], []) low

module _ (cs : List Campaign) (order : List ℕ) (sorted : IsOrder (map pair_of cs) order) (seat cid : List ℕ) where
  abbrev pair : Pair
  pair = (seat, cid)

  ties : (k : ℕ) (d : Campaign) → k < length cs → has_pair seat cid (get_or cs k d) ≡ true → pair_cmp (pair_at (map pair_of cs) k) pair ≡ Equal
  ties k d low h = ap (λ p. pair_cmp p pair) (pair_here cs k d low) ∙ eq_equal _ (tied_is (pair_of (get_or cs k d)) pair ∙ h)

  within : (k : ℕ) → k < length cs → k < length (map pair_of cs)
  within k low = let n = length-map cs pair_of in omega arith

  fails : (i : ℕ) → IsGap (map pair_of cs) order pair i → (k : ℕ) (d : Campaign) → k < length cs → has_pair seat cid (get_or cs k d) ≡ false
  fails i gap k d low = is_false _ (λ h. no_place (map pair_of cs) order sorted pair i k gap (within k low) (ties k d low h))

  -- beside a gap there is no campaign with the pair
  pub absent_any : (i : ℕ) → IsGap (map pair_of cs) order pair i → list_any (has_pair seat cid) cs ≡ false
  absent_any i gap = none_any (has_pair seat cid) cs (fails i gap)

  pub absent_place : (bidder i : ℕ) → IsGap (map pair_of cs) order pair i → position (is_campaign bidder seat cid) cs ≡ None
  absent_place bidder i gap = none_is (is_campaign bidder seat cid) cs (λ k d low. is_false _ (λ h. false_true (sym (fails i gap k d low) ∙ (and_both _ _ h).1)))
    where
      false_true : false ≡ true → ⊥
      false_true h = cc

  pub absent_pair : (i : ℕ) → IsGap (map pair_of cs) order pair i → position (has_pair seat cid) cs ≡ None
  absent_pair i gap = none_is (has_pair seat cid) cs (fails i gap)

  pub place_low : (i : ℕ) → IsFound (map pair_of cs) order pair i → place_at order i < length cs
  place_low i found = let n = length-map cs pair_of in let b = sorted.below i found.in_range in omega arith

  has_found : (i : ℕ) (d : Campaign) → IsFound (map pair_of cs) order pair i → has_pair seat cid (get_or cs (place_at order i) d) ≡ true
  has_found i d found =
      sym (tied_is (pair_of (get_or cs (place_at order i) d)) pair) ∙ ap (λ p. is_eq (pair_cmp p pair)) (sym (pair_here cs (place_at order i) d (place_low i found))) ∙ ap is_eq found.tied

  pub found_any : (i : ℕ) (d : Campaign) → IsFound (map pair_of cs) order pair i → list_any (has_pair seat cid) cs ≡ true
  found_any i d found = some_any (has_pair seat cid) cs (place_at order i) d (place_low i found) (has_found i d found)

  -- no campaign at another place has the pair
  only : (i k : ℕ) (d : Campaign) → IsFound (map pair_of cs) order pair i → k < length cs → has_pair seat cid (get_or cs k d) ≡ true → k ≡ place_at order i
  only i k d found low h = only_place (map pair_of cs) order sorted pair i k found (within k low) (ties k d low h)

  -- the campaign that is found
  pub found_pair : (i : ℕ) (d : Campaign) → IsFound (map pair_of cs) order pair i → position (has_pair seat cid) cs ≡ Some (place_at order i)
  found_pair i d found =
      some_is (has_pair seat cid) cs (place_at order i) d (place_low i found) (has_found i d found)
      (λ k low. is_false _ (λ h. let same = only i k d found (let l = place_low i found in omega arith) h in omega arith))

  -- the campaign that is found, where it is the bidder's
  pub found_place : (bidder i : ℕ) (c : Campaign) → IsFound (map pair_of cs) order pair i → c ≡ get_or cs (place_at order i) c
      → (c.bidder == bidder) ≡ true → position (is_campaign bidder seat cid) cs ≡ Some (place_at order i)
  found_place bidder i c found is own =
      some_is (is_campaign bidder seat cid) cs (place_at order i) c (place_low i found)
      (ap₂ (λ a b. a && b) (ap (λ (x : Campaign). x.bidder == bidder) (sym is) ∙ own) (has_found i c found))
      (λ k low. is_false _ (λ h. let same = only i k c found (let l = place_low i found in omega arith) (and_both _ _ h).1 in omega arith))

  -- and where it is another bidder's
  pub found_other : (bidder i : ℕ) (c : Campaign) → IsFound (map pair_of cs) order pair i → c ≡ get_or cs (place_at order i) c
      → (c.bidder == bidder) ≡ false → position (is_campaign bidder seat cid) cs ≡ None
  found_other bidder i c found is other =
      none_is (is_campaign bidder seat cid) cs (λ k d low. is_false _ (λ h.
      let same : k ≡ place_at order i = only i k d found low (and_both _ _ h).1 in
      let here : get_or cs k d ≡ c = ap (λ n. get_or cs n d) same ∙ get_or_default cs (place_at order i) d c (place_low i found) ∙ sym is in
      false_true (sym other ∙ ap (λ (x : Campaign). x.bidder == bidder) (sym here) ∙ (and_both _ _ h).0)))
    where
      false_true : false ≡ true → ⊥
      false_true h = cc

slice_get_is : {X : Type 0} (xs : List X) (i : ℕ) (d : X) → i < length xs → slice_get xs i ≡ Some (get_or xs i d)
slice_get_is [] i d low = absurd (omega arith)
slice_get_is (x ∷ xs) zero d low = refl
slice_get_is (x ∷ xs) (suc i) d low = slice_get_is xs i d (omega arith)

-- what is found stands in a list that isn't empty
pub found_some : (cs : List Campaign) (order : List ℕ) → IsOrder (map pair_of cs) order → (seat cid : List ℕ) (i : ℕ)
    → IsFound (map pair_of cs) order (seat, cid) i → list_any (has_pair seat cid) cs ≡ true
found_some [] order sorted seat cid i found = absurd (let low = sorted.below i found.in_range in omega arith)
found_some (c ∷ cs) order sorted seat cid i found = found_any (c ∷ cs) order sorted seat cid i c found

pub pair_found : (cs : List Campaign) (order : List ℕ) → IsOrder (map pair_of cs) order → (seat cid : List ℕ) (i : ℕ)
    → IsFound (map pair_of cs) order (seat, cid) i → position (has_pair seat cid) cs ≡ Some (place_at order i)
pair_found [] order sorted seat cid i found = absurd (let low = sorted.below i found.in_range in omega arith)
pair_found (c ∷ cs) order sorted seat cid i found = found_pair (c ∷ cs) order sorted seat cid i c found

-- the bidder's campaign was read at the place that was read, or another bidder's
pub own_place : (cs : List Campaign) (order : List ℕ) → IsOrder (map pair_of cs) order → (seat cid : List ℕ) (bidder i n : ℕ)
    → IsFound (map pair_of cs) order (seat, cid) i → n ≡ place_at order i
    → option_map_or (λ (c : Campaign). c.bidder == bidder) (slice_get cs n) false ≡ true → Some n ≡ position (is_campaign bidder seat cid) cs
own_place [] order sorted seat cid bidder i n found read own = absurd (let low = sorted.below i found.in_range in omega arith)
own_place (x ∷ xs) order sorted seat cid bidder i n found read own =
    let cs = x ∷ xs in
    let low : n < length cs = (let l = place_low cs order sorted seat cid i found in omega arith) in
    let c = get_or cs n x in
    let is : c ≡ get_or cs (place_at order i) c = get_or_default cs n x c low ∙ ap (λ k. get_or cs k c) read in
    let here : slice_get cs n ≡ Some c = slice_get_is cs n x low in
    ap Some read ∙ sym (found_place cs order sorted seat cid bidder i c found is (sym (ap (λ o. option_map_or (λ (c : Campaign). c.bidder == bidder) o false) here) ∙ own))

pub other_place : (cs : List Campaign) (order : List ℕ) → IsOrder (map pair_of cs) order → (seat cid : List ℕ) (bidder i n : ℕ)
    → IsFound (map pair_of cs) order (seat, cid) i → n ≡ place_at order i
    → option_map_or (λ (c : Campaign). c.bidder == bidder) (slice_get cs n) false ≡ false → None ≡ position (is_campaign bidder seat cid) cs
other_place [] order sorted seat cid bidder i n found read other = absurd (let low = sorted.below i found.in_range in omega arith)
other_place (x ∷ xs) order sorted seat cid bidder i n found read other =
    let cs = x ∷ xs in
    let low : n < length cs = (let l = place_low cs order sorted seat cid i found in omega arith) in
    let c = get_or cs n x in
    let is : c ≡ get_or cs (place_at order i) c = get_or_default cs n x c low ∙ ap (λ k. get_or cs k c) read in
    let here : slice_get cs n ≡ Some c = slice_get_is cs n x low in
    sym (found_other cs order sorted seat cid bidder i c found is (sym (ap (λ o. option_map_or (λ (c : Campaign). c.bidder == bidder) o false) here) ∙ other))

-- one more campaign behind the others
pub order_more : (cs seen news : List Campaign) (order seen_order newer : List ℕ) (c : Campaign) (at n : ℕ) → IsOrder (map pair_of cs) order
    → seen ≡ cs → seen_order ≡ order → IsGap (map pair_of seen) seen_order (pair_of c) at → news ≡ cs ++ c ∷ [] → n ≡ length cs
    → newer ≡ insert order at n → IsOrder (map pair_of news) newer
order_more cs seen news order seen_order newer c at n sorted seen_is order_is gap more count put =
    let pairs_are : map pair_of news ≡ map pair_of cs ++ pair_of c ∷ [] = ap (map pair_of) more ∙ map-append pair_of cs (c ∷ []) in
    let order_new : newer ≡ insert order at (length (map pair_of cs)) = put ∙ ap (insert order at) (count ∙ sym (length-map cs pair_of)) in
    let gap_here : IsGap (map pair_of cs) order (pair_of c) at = subst (λ o. IsGap (map pair_of cs) o (pair_of c) at) order_is (subst (λ xs. IsGap (map pair_of xs) seen_order (pair_of c) at) seen_is gap) in
    subst (λ ps. IsOrder ps newer) (sym pairs_are) (subst (λ o. IsOrder (map pair_of cs ++ pair_of c ∷ []) o) (sym order_new) (put_in_order (map pair_of cs) order sorted (pair_of c) at gap_here))
