-- What a file is, by its first bytes.
use Rattle.std.proofs.Common.{◌≡◌, ◌≢◌, inl, inr, ℕ, ◌+◌, ◌<◌, List, [], ◌∷◌, ◌++◌, length, take, refl, ap, ◌∙◌, arith}
use Rattle.std.specs.Prelude.{slice_get}
use Rattle.std.proofs.lemmas.List.{take_more_same}
use Rattle.std.proofs.lemmas.Option.{get_or_from_slice_get, slice_get_within}
use Rattle.day_journal.specs.Places.{HasNoHead, IsCleared, IsFormat, IsMarked, IsUnfinished, head, mark}

-- the head, where its front and its digit are
pub head_more : (first : List ℕ) (format : ℕ) → take 8 first ≡ take 8 (head format) → slice_get first 8 ≡ slice_get (head format) 8 → take 9 first ≡ head format
head_more first format front digit =
    take_more_same first (head format) 8 0 (slice_get_within first 8 (48 + format) digit) (omega arith) front (get_or_from_slice_get first 8 (48 + format) 0 digit)

-- a file that isn't unfinished
pub finished : (first : List ℕ) → (IsCleared first → ⊥) → 1 < length first → (IsMarked first → ⊥) → IsUnfinished first → ⊥
finished first not_cleared long not_marked (inl one) = omega (arith, one, long)
finished first not_cleared long not_marked (inr (inl cleared)) = not_cleared cleared
finished first not_cleared long not_marked (inr (inr marked)) = not_marked marked

pub no_head_at : (first : List ℕ) (at : ℕ) → (IsUnfinished first → ⊥) → at < 9 → ((format : ℕ) → take at first ≡ take at (head format))
    → ((format : ℕ) → IsFormat format → slice_get first at ≢ slice_get (head format) at) → HasNoHead first at
no_head_at first at whole within before differs = record {
  finished = whole;
  within = λ format known. within;
  before = λ format known. before format;
  differs = differs;
}

pub marked_2 : (first : List ℕ) → ((gate : ℕ) × (first ≡ gate ∷ (mark 2 ++ 0 ∷ []))) → IsMarked first
marked_2 first is = record { format = 2; known = inr refl; marked = record { gate = is.0; split = is.1 } }

pub marked_else : (first : List ℕ) → (((gate : ℕ) × (first ≡ gate ∷ (mark 1 ++ 0 ∷ []))) → ⊥) → IsMarked first → (gate : ℕ) × (first ≡ gate ∷ (mark 2 ++ 0 ∷ []))
marked_else first not is = by is.known
  where
    at : (n : ℕ) → is.format ≡ n → (gate : ℕ) × (first ≡ gate ∷ (mark n ++ 0 ∷ []))
    at n same = (is.marked.gate, is.marked.split ∙ ap (λ (f : ℕ). is.marked.gate ∷ (mark f ++ 0 ∷ [])) same)

    by : IsFormat is.format → (gate : ℕ) × (first ≡ gate ∷ (mark 2 ++ 0 ∷ []))
    by (inl one) = absurd (not (at 1 one))
    by (inr two) = at 2 two
