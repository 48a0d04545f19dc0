-- The rest of an input, read to its end. This project's own.
-- Example: with `ab` before, `cde` left and a limit of 2, `abcd` is there, `e` was taken and is lost, and the
-- answer is that the limit was passed.
use Rattle.std.specs.Prelude.{◌≡◌, ℕ, ◌+◌, ◌≤◌, List, [], ◌∷◌, ◌++◌, length, Result, Ok, Err}
use Rattle.adx_io.specs.Streams.{Tape}
use Rattle.adx_io.specs.declared.rest.Rest.{Rest}
use Rattle.adx_io.specs.declared.stop.Stop.{Stop}

-- the next bytes of a source were added to what was there
abbrev pub Adds : List ℕ → List ℕ → Tape → Tape → Type 0
Adds before now old new = (bytes : List ℕ) × (now ≡ before ++ bytes) × (old.left ≡ bytes ++ new.left) × (new.taken ≡ old.taken ++ bytes)

-- the same, and none is added only at the end; a fault adds none
abbrev pub AddsSome : List ℕ → List ℕ → Result ℕ Stop → Tape → Tape → Type 0
AddsSome before now (Ok n) old new = Adds before now old new × (n ≡ 0 → old.left ≡ [])
AddsSome before now (Err stop) old new = new ≡ old

-- all that was left was added, or as much as the limit allows while one byte more was taken; what was taken before a
-- fault was added too
abbrev pub ReadsRest : ℕ → List ℕ → List ℕ → Result Rest Stop → Tape → Tape → Type 0
ReadsRest limit before now (Ok Rest.Whole) old new = Adds before now old new × (new.left ≡ [])
ReadsRest limit before now (Ok Rest.PastLimit) old new =
    (middle : Tape) × (more : ℕ) × Adds before now old middle × (length now ≡ length before + limit)
    × (middle.left ≡ more ∷ new.left) × (new.taken ≡ middle.taken ++ more ∷ [])
ReadsRest limit before now (Err stop) old new = Adds before now old new

-- whatever a source reports, so many bytes at most come after what was there
abbrev pub Within : ℕ → List ℕ → List ℕ → Type 0
Within limit before now = (bytes : List ℕ) × (now ≡ before ++ bytes) × (length bytes ≤ limit)

-- past the limit so many bytes were added, whatever a source reports
abbrev pub IsFull : ℕ → List ℕ → List ℕ → Rest → Type 0
IsFull limit before now Rest.PastLimit = length now ≡ length before + limit
IsFull limit before now Rest.Whole = Unit
