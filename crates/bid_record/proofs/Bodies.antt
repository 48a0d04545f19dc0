-- Reading a text's body byte by byte, as a loop does.
use Rattle.std.proofs.Common.{◌≡◌, ℕ, zero, suc, ◌+◌, ◌<◌, ◌≤◌, List, [], ◌∷◌, ◌++◌, length, drop, Bool, true, false, Option, Some, None, refl, sym, ap, ◌∙◌, subst, arith, append_assoc, append-nil, length-append}
use Rattle.std.proofs.lemmas.Option.{none-some}
use Rattle.adx_units.specs.Number.{begins_with}
use Rattle.adx_units.specs.JsonTexts.{escape}
use Rattle.formats.specs.Parts.{◌>>=◌, behind_byte}
use Rattle.formats.proofs.PartLaws.{byte_takes}
use Rattle.bid_record.specs.Texts.{spelled_at, body_at}
use Rattle.bid_record.proofs.Texts.{byte_spelled, spelling_some}

-- what was read before, and what is still read
abbrev pub with_front : List ℕ → Option (List ℕ × List ℕ) → Option (List ℕ × List ℕ)
with_front front read = read >>= λ x. Some (front ++ x.0, x.1)

regroup : (front : List ℕ) (b : ℕ) (read : Option (List ℕ × List ℕ)) → with_front front (read >>= λ x. Some (b ∷ x.0, x.1)) ≡ with_front (front ++ b ∷ []) read
regroup front b (Some x) = ap (λ (t : List ℕ). Some (t, x.1)) (sym (append_assoc front (b ∷ []) x.0))
regroup front b None = refl

abbrev pub Keeps : List ℕ → List ℕ → List ℕ → Type 0
Keeps bytes front left = (n : ℕ) × (length left ≤ n) × (with_front front (body_at n left) ≡ body_at (length bytes) bytes)

pub shorter : (left : List ℕ) (b : ℕ) (behind : List ℕ) → spelled_at left ≡ Some (b, behind) → length behind < length left
shorter left b behind h =
    let len = ap (λ (s : List ℕ). length s) (byte_spelled left b behind h) ∙ length-append (escape b) behind in
    let some = spelling_some b in
    omega (arith, len, some)

begun : (read : Option (List ℕ × List ℕ)) → with_front [] read ≡ read
begun (Some x) = refl
begun None = refl

quoted : (left rest : List ℕ) → behind_byte 34 left ≡ Some rest → (begins_with 34 left ≡ true) × (drop 1 left ≡ rest) × (1 ≤ length left)
quoted left rest h = subst (λ (l : List ℕ). (begins_with 34 l ≡ true) × (drop 1 l ≡ rest) × (1 ≤ length l)) (sym (byte_takes 34 left rest h)) (refl, refl, omega arith)

pub body_ends : (bytes front left rest : List ℕ) → Keeps bytes front left → behind_byte 34 left ≡ Some rest → body_at (length bytes) bytes ≡ Some (front, rest)
unfolding body_at
body_ends bytes front left rest (zero, short, kept) h = let q = quoted left rest h in absurd (omega (arith, q.2))
body_ends bytes front left rest (suc n, short, kept) h =
    let q = quoted left rest h in
    let read : body_at (suc n) left ≡ Some ([], rest) = rw (q.0, q.1) refl in
    sym kept ∙ ap (with_front front) read ∙ ap (λ (t : List ℕ). Some (t, rest)) (append-nil front)

no_quote : (left : List ℕ) (t : Bool) → begins_with 34 left ≡ t → behind_byte 34 left ≡ None → begins_with 34 left ≡ false
no_quote [] t e h = refl
no_quote (b ∷ left) true e h = absurd (none-some left (sym h ∙ rw e refl))
no_quote (b ∷ left) false e h = e

pub body_fails : (bytes front left : List ℕ) → Keeps bytes front left → behind_byte 34 left ≡ None → spelled_at left ≡ None → body_at (length bytes) bytes ≡ None
unfolding body_at
body_fails bytes front left (zero, short, kept) q h = sym kept
body_fails bytes front left (suc n, short, kept) q h =
    let none : begins_with 34 left ≡ false = no_quote left (begins_with 34 left) refl q in
    let read : body_at (suc n) left ≡ None = rw (none, h) refl in
    sym kept ∙ ap (with_front front) read

pub body_goes_on : (bytes front left : List ℕ) (b : ℕ) (behind : List ℕ) → Keeps bytes front left → behind_byte 34 left ≡ None → spelled_at left ≡ Some (b, behind) → Keeps bytes (front ++ b ∷ []) behind
unfolding body_at
body_goes_on bytes front left b behind (zero, short, kept) q h =
    let len = shorter left b behind h in absurd (omega (arith, len))
body_goes_on bytes front left b behind (suc n, short, kept) q h =
    let none : begins_with 34 left ≡ false = no_quote left (begins_with 34 left) refl q in
    let read : body_at (suc n) left ≡ (body_at n behind >>= λ x. Some (b ∷ x.0, x.1)) = rw (none, h) refl in
    let len = shorter left b behind h in
    (n, omega (arith, len), sym (regroup front b (body_at n behind)) ∙ ap (with_front front) (sym read) ∙ kept)
