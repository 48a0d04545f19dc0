-- What a response's head that is alone in its bytes is read as: this head, whose parts the spans cover, or no head with so
-- few fields.
use Rattle.std.specs.Prelude.{ℕ, ◌≤◌, List, [], length, map, All, Option, Some, None}
use Rattle.httparse.specs.Grammar.{ResponseHead, ReadsResponse}
use Rattle.httparse.specs.Spans.{IsResponseAt, IsHeaderWithin, header_bytes}
use Rattle.httparse.specs.declared.spans.HeaderSpan.{HeaderSpan}
use Rattle.httparse.specs.declared.spans.ResponseSpans.{ResponseSpans}

-- what a reader with room for so many fields gives of a response's head: the one reading, or that there is none
abbrev pub ReadsResponseAlone : ℕ → List ℕ → List HeaderSpan → Option ResponseSpans → Type 0
ReadsResponseAlone room head spans None = (h : ResponseHead) → ReadsResponse head h [] → length h.fields ≤ room → ⊥
ReadsResponseAlone room head spans (Some r) = (h : ResponseHead) × ReadsResponse head h [] × IsResponseAt head spans r h

-- the names and the values that spans cover
abbrev pub pairs_at : List ℕ → List HeaderSpan → List (List ℕ × List ℕ)
pairs_at head spans = map (header_bytes head) spans

-- the spans lie in the head
abbrev pub AreWithin : List ℕ → List HeaderSpan → Type 0
AreWithin head spans = All (IsHeaderWithin (length head)) spans
