-- Names that stay distinct.
use Rattle.std.proofs.Common.{◌≡◌, ℕ, List, [], ◌∷◌, ◌++◌, Bool, true, false, ◌&&◌, ◌||◌, not, bytes_eq, refl, ap₂, ◌∙◌}
use Rattle.std.specs.List.{list_any}
use Rattle.std.proofs.lemmas.List.Folds.{list_any-append}
use Rattle.adx_units.specs.Among.{is_among}
use Rattle.rtb_request.specs.Distinct.{all_distinct}

pub and_true : (a b : Bool) → (a && b) ≡ true → (a ≡ true) × (b ≡ true)
and_true true b h = (refl, h)
and_true false b h = cc

or_false : (a b : Bool) → (a || b) ≡ false → (a ≡ false) × (b ≡ false)
or_false false b h = (refl, h)
or_false true b h = cc

not_true : (a : Bool) → not a ≡ true → a ≡ false
not_true true h = cc
not_true false h = refl

none_more : (n : List ℕ) (ms : List (List ℕ)) (x : List ℕ) → list_any (bytes_eq n) ms ≡ false → bytes_eq n x ≡ false
    → list_any (bytes_eq n) (ms ++ x ∷ []) ≡ false
none_more n ms x h k = list_any-append (bytes_eq n) ms (x ∷ []) ∙ ap₂ (λ a b. a || (b || false)) h k

pub distinct_more : (ns : List (List ℕ)) (x : List ℕ) → all_distinct ns ≡ true → is_among ns x ≡ false → all_distinct (ns ++ x ∷ []) ≡ true
distinct_more [] x h k = refl
distinct_more (n ∷ ns) x h k =
    let d = and_true (not (list_any (bytes_eq n) ns)) (all_distinct ns) h in
    let a = or_false (bytes_eq n x) (is_among ns x) k in
    ap₂ (λ u v. not u && v) (none_more n ns x (not_true _ d.0) a.0) (distinct_more ns x d.1 a.1)
