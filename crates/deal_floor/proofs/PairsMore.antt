-- Pairs that stay distinct.
use Rattle.std.proofs.Common.{◌≡◌, List, [], ◌∷◌, ◌++◌, Bool, true, false, ◌&&◌, ◌||◌, not, refl, ap₂, ◌∙◌}
use Rattle.std.specs.List.{list_any}
use Rattle.std.proofs.lemmas.List.Folds.{list_any-append}
use Rattle.deal_floor.specs.Pairs.{Pair, same_pair, is_pair_among, all_pairs_distinct}

and_true : (a b : Bool) → (a && b) ≡ true → (a ≡ true) × (b ≡ true)
and_true true b h = (refl, h)
and_true false b h = cc

or_false : (a b : Bool) → (a || b) ≡ false → (a ≡ false) × (b ≡ false)
or_false false b h = (refl, h)
or_false true b h = cc

not_true : (a : Bool) → not a ≡ true → a ≡ false
not_true true h = cc
not_true false h = refl

none_more : (n : Pair) (ms : List Pair) (x : Pair) → list_any (same_pair n) ms ≡ false → same_pair n x ≡ false → list_any (same_pair n) (ms ++ x ∷ []) ≡ false
none_more n ms x h k = list_any-append (same_pair n) ms (x ∷ []) ∙ ap₂ (λ a b. a || (b || false)) h k

pub pairs_more : (ns : List Pair) (x : Pair) → all_pairs_distinct ns ≡ true → is_pair_among ns x ≡ false → all_pairs_distinct (ns ++ x ∷ []) ≡ true
pairs_more [] x h k = refl
pairs_more (n ∷ ns) x h k =
    let d = and_true (not (list_any (same_pair n) ns)) (all_pairs_distinct ns) h in
    let a = or_false (same_pair n x) (is_pair_among ns x) k in
    ap₂ (λ u v. not u && v) (none_more n ns x (not_true _ d.0) a.0) (pairs_more ns x d.1 a.1)
