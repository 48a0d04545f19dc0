-- A list that was turned round, from whose end items are taken: they come in the list's order.
use Rattle.std.proofs.Common.{◌≡◌, List, [], ◌∷◌, ◌++◌, append_assoc, sym, ap, ◌∙◌}
use mathlib.Core.List.{reverse}
use Rattle.std.proofs.lemmas.List.{reverse-append, reverse-reverse}

-- before the first item is taken
pub none_taken : {X : Type 0} (all left : List X) → left ≡ reverse all → [] ++ reverse left ≡ all
none_taken all left is = ap reverse is ∙ reverse-reverse all

-- an item is taken
pub one_taken : {X : Type 0} (taken left rest all : List X) (x : X) → left ≡ rest ++ x ∷ [] → taken ++ reverse left ≡ all
    → (taken ++ x ∷ []) ++ reverse rest ≡ all
one_taken taken left rest all x is behind =
    append_assoc taken (x ∷ []) (reverse rest) ∙ ap (λ l. taken ++ l) (sym (reverse-append rest (x ∷ [])) ∙ ap reverse (sym is)) ∙ behind
