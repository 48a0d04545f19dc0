-- What a walk over a query's pairs found of a name, and what it may still find.
use Rattle.std.proofs.Common.{◌≡◌, ◌∙◌, ap, refl, subst, sym, List, ℕ, [], ◌∷◌, option_map, Bool, true, false, Option, Some, None, if◌then◌else◌}
use Rattle.std.specs.Borrow.{Bor}
use Rattle.std.specs.List.{find}
use Rattle.form_urlencoded.specs.Form.{raw_pairs}
use Rattle.adx_http.specs.Targets.{decoded, first_of, has_name, raw_value_of, value_of}

-- what was found, and else what is still to be found
abbrev pub found_or : Option (List ℕ) → Option (List ℕ) → Option (List ℕ)
found_or (Some v) rest = Some v
found_or None rest = rest

abbrev pub bytes_of : Option (Bor (List ℕ)) → Option (List ℕ)
bytes_of found = option_map (λ (v : Bor (List ℕ)). v.now) found

abbrev pub sought : List ℕ → Option (Bor (List ℕ)) → List (List ℕ × List ℕ) → Option (List ℕ)
sought name found left = found_or (bytes_of found) (option_map (λ (p : List ℕ × List ℕ). p.1) (find (has_name name) left))

-- a further pair, by whether it has the name
moved_by : (has : Bool) (name : List ℕ) (v : Bor (List ℕ)) (rest : Option (List ℕ × List ℕ))
    → option_map (λ (p : List ℕ × List ℕ). p.1) (if has then Some (name, v.now) else rest)
    ≡ found_or (bytes_of (first_of None has v)) (option_map (λ (p : List ℕ × List ℕ). p.1) rest)
moved_by true name v rest = refl
moved_by false name v rest = refl

-- one pair further
pub moved : (wanted : List ℕ) (found : Option (Bor (List ℕ))) (name : List ℕ) (v : Bor (List ℕ)) (left : List (List ℕ × List ℕ)) (has : Bool)
    → has ≡ has_name wanted (name, v.now) → sought wanted found ((name, v.now) ∷ left) ≡ sought wanted (first_of found has v) left
moved wanted (Some earlier) name v left has e = refl
moved wanted None name v left has e =
    subst (λ b. sought wanted None ((name, v.now) ∷ left) ≡ sought wanted (first_of None b v) left) (sym e)
    (moved_by (has_name wanted (name, v.now)) name v (find (has_name wanted) left))

-- at the end of the pairs
pub ended : (wanted : List ℕ) (found : Option (Bor (List ℕ))) → sought wanted found [] ≡ bytes_of found
ended wanted (Some v) = refl
ended wanted None = refl

-- a value as text
pub as_text : (found : Option (Bor (List ℕ))) (wanted query : List ℕ) → bytes_of found ≡ raw_value_of wanted query
    → option_map (λ (v : Bor (List ℕ)). decoded v.now) found ≡ value_of wanted query
as_text found wanted query e = sym (of_bytes found) ∙ ap (option_map decoded) e ∙ of_pair (find (has_name wanted) (raw_pairs query))
  where
    of_bytes : (x : Option (Bor (List ℕ))) → option_map decoded (bytes_of x) ≡ option_map (λ (v : Bor (List ℕ)). decoded v.now) x
    of_bytes (Some v) = refl
    of_bytes None = refl

    of_pair : (x : Option (List ℕ × List ℕ)) → option_map decoded (option_map (λ (p : List ℕ × List ℕ). p.1) x) ≡ option_map (λ (p : List ℕ × List ℕ). decoded p.1) x
    of_pair (Some p) = refl
    of_pair None = refl
