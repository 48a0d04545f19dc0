-- Two awards have one key only where they are one award.
use Rattle.std.proofs.Common.{◌≡◌, ℕ, List, [], ◌∷◌, ◌++◌, ◌&&◌, ◌==◌, Bool, true, false, bytes_eq, refl, sym, ap, ◌∙◌}
use Rattle.std.specs.Bool.{nat_eq}
use Rattle.std.proofs.lemmas.Bool.{or_parts, eqb-false, ne_eqb}
use Rattle.bidder_core.specs.LedgerState.{has_slash, key_of}

and_true : (b : Bool) → (b && true) ≡ b
and_true true = refl
and_true false = refl

and_false : (b : Bool) → (b && false) ≡ false
and_false true = refl
and_false false = refl

past : (p q r : Bool) → (p && (q && r)) ≡ (q && (p && r))
past true q r = refl
past false q r = sym (and_false q)

at_end : (p q : Bool) → p ≡ false → (p && q) ≡ false
at_end true q h = cc
at_end false q h = refl

swapped : (x y : ℕ) → (y == x) ≡ false → (x == y) ≡ false
swapped x y h = ne_eqb x y (λ e. eqb-false y x h (sym e))

pub same_key : (a b c d : List ℕ) → has_slash b ≡ false → has_slash d ≡ false → bytes_eq (key_of a b) (key_of c d) ≡ (bytes_eq a c && bytes_eq b d)
same_key a [] c [] h i = sym (and_true (bytes_eq a c))
same_key a [] c (y ∷ d) h i = at_end (nat_eq 47 y) (bytes_eq a (d ++ 47 ∷ c)) (swapped 47 y (or_parts (y == 47) (has_slash d) i).0) ∙ sym (and_false (bytes_eq a c))
same_key a (x ∷ b) c [] h i = at_end (nat_eq x 47) (bytes_eq (b ++ 47 ∷ a) c) (or_parts (x == 47) (has_slash b) h).0 ∙ sym (and_false (bytes_eq a c))
same_key a (x ∷ b) c (y ∷ d) h i =
    ap (λ t. nat_eq x y && t) (same_key a b c d (or_parts (x == 47) (has_slash b) h).1 (or_parts (y == 47) (has_slash d) i).1)
    ∙ past (nat_eq x y) (bytes_eq a c) (bytes_eq b d)
