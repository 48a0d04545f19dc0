-- The values of a name in a front of the fields, and one field more.
use Rattle.std.proofs.Common.{◌≡◌, ℕ, ◌+◌, ◌<◌, List, [], ◌∷◌, ◌++◌, length, take, drop, map, filter, cond, Bool, true, false, get_or, refl, sym, ap, ◌∙◌, append_assoc}
use Rattle.std.specs.Str.{str_eq_ignore_ascii_case}
use Rattle.std.proofs.lemmas.List.{map-append, take-map, map_more, take-append-drop}
use Rattle.std.proofs.lemmas.List.Elements.{filter-append}
use Rattle.http_grammar.specs.Fields.{values_of}

abbrev pub value_if : List ℕ → List ℕ × List ℕ → List (List ℕ)
value_if name f = cond (str_eq_ignore_ascii_case f.0 name) (f.1 ∷ []) []

single : (b : Bool) (f : List ℕ × List ℕ) → map (λ (f : List ℕ × List ℕ). f.1) (cond b (f ∷ []) []) ≡ cond b (f.1 ∷ []) []
single true f = refl
single false f = refl

pub values-append : (name : List ℕ) (xs ys : List (List ℕ × List ℕ)) → values_of name (xs ++ ys) ≡ values_of name xs ++ values_of name ys
values-append name xs ys =
    let named : List ℕ × List ℕ → Bool = λ (f : List ℕ × List ℕ). str_eq_ignore_ascii_case f.0 name in
    ap (map (λ (f : List ℕ × List ℕ). f.1)) (filter-append named xs ys) ∙ map-append (λ (f : List ℕ × List ℕ). f.1) (filter named xs) (filter named ys)

pub values_next : (name : List ℕ) (xs : List (List ℕ × List ℕ)) (f : List ℕ × List ℕ) → values_of name (xs ++ f ∷ []) ≡ values_of name xs ++ value_if name f
values_next name xs f = values-append name xs (f ∷ []) ∙ ap (λ vs. values_of name xs ++ vs) (single (str_eq_ignore_ascii_case f.0 name) f)

-- a field, and all fields around it
pub field_next : {X Y : Type 0} (f : X → Y) (xs : List X) (i : ℕ) (d : X) → i < length xs → take (i + 1) (map f xs) ≡ take i (map f xs) ++ f (get_or xs i d) ∷ []
field_next f xs i d inside = take-map f (i + 1) xs ∙ map_more f xs i d inside ∙ ap (λ ys. ys ++ f (get_or xs i d) ∷ []) (sym (take-map f i xs))

pub field_among : {X Y : Type 0} (f : X → Y) (xs : List X) (i : ℕ) (d : X) → i < length xs → map f xs ≡ take i (map f xs) ++ f (get_or xs i d) ∷ drop (i + 1) (map f xs)
field_among f xs i d inside =
    sym (take-append-drop (i + 1) (map f xs)) ∙ ap (λ ys. ys ++ drop (i + 1) (map f xs)) (field_next f xs i d inside)
    ∙ append_assoc (take i (map f xs)) (f (get_or xs i d) ∷ []) (drop (i + 1) (map f xs))
