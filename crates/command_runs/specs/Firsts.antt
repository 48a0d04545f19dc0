-- The first line of an input, which a command reads and judges before anything else. This project's own.
use Rattle.std.specs.Prelude.{◌≡◌, ◌⊎◌, ℕ, ◌-◌, ◌≤◌, ◌<◌, List, [], ◌∷◌, ◌++◌, length, Option, Some, None, Result, Ok, Err}
use Rattle.adx_io.specs.Lines.{HasNoNewline}
use Rattle.adx_io.specs.Talk.{ended}
use Rattle.adx_io.specs.declared.line_buffer.TheConstants.{CHUNK}
use Rattle.adx_io.specs.declared.stop.Stop.{Stop}
use Rattle.command_runs.specs.Meanings.{Meaning}
use Rattle.command_runs.specs.declared.first.NoLine.{NoLine}
use Rattle.command_runs.specs.Limits.{line_limit}
use Rattle.command_runs.specs.declared.outcome.Outcome.{Outcome}

-- This line was read, and at most one piece was taken after it, which was not looked at.
abbrev pub IsAhead : List ℕ → List ℕ → Type 0
IsAhead line taken = (ahead : List ℕ) × (length ahead ≤ CHUNK) × (taken ≡ line ++ ahead)

-- How an input has no first line within its limits, where this was taken of it and that is left: no newline ends the
-- input; or a line is too long, be it with a newline, without one, or past the limit of the input, of which one byte more
-- was taken.
abbrev pub HasNoLine : ℕ → NoLine → List ℕ → List ℕ → Type 0
HasNoLine limit NoLine.Cut taken left = HasNoNewline taken × (length taken ≤ line_limit) × (length taken ≤ limit) × (left ≡ [])
HasNoLine limit NoLine.Long taken left =
    ((line : List ℕ) × HasNoNewline line × (line_limit < length line) × IsAhead (ended line) taken)
    ⊎ ((HasNoNewline taken × (line_limit < length taken) × (length taken ≤ limit) × (left ≡ []))
    ⊎ ((line : List ℕ) × (more : ℕ) × HasNoNewline line × (length line ≡ limit) × (taken ≡ line ++ more ∷ [])))

-- What a first line says to its command: its head. What is written for a line that has none, and where there is no line.
pub record Heads (H : Type 0) : Type 1 where
  pub tells : List ℕ → H → Type 0
  pub refuses : List ℕ → List ℕ → Type 0
  pub lacks : NoLine → List ℕ

module _ {H : Type 0} (heads : Heads H) (limit : ℕ) where
  -- The first line was refused, so this was written.
  abbrev pub IsRefused : List ℕ → List ℕ → List ℕ → Type 0
  IsRefused taken left out =
      ((line : List ℕ) × HasNoNewline line × (length line ≤ line_limit) × heads.refuses line out × IsAhead (ended line) taken)
      ⊎ ((why : NoLine) × HasNoLine limit why taken left × (out ≡ heads.lacks why))

  -- Nothing but the first line, or a part of it, was read, and no more than a piece was taken after that; all of it is
  -- within the limit.
  abbrev pub IsUnanswered : List ℕ → Type 0
  IsUnanswered taken =
      (line : List ℕ) × HasNoNewline line × (length taken ≤ limit) × (IsAhead line taken ⊎ IsAhead (ended line) taken)

  -- what a command means whose first line had no head: the line was refused, or the run stopped before it was judged
  abbrev pub headless : Meaning
  headless = record {
    ends = λ outcome taken left out. (outcome ≡ Outcome.Refused) × IsRefused taken left out;
    awaits = λ taken out. HasNoNewline taken × (length taken ≤ limit) × (out ≡ []);
    breaks = λ taken left put last. (put ≡ []) × (IsRefused taken left last ⊎ (IsUnanswered taken × (last ≡ [])));
  }

  -- The first line had this head, and more was taken after it, of which this holds where so many bytes may be read.
  abbrev pub AfterHead : H → (ℕ → List ℕ → Type 0) → List ℕ → Type 0
  AfterHead h Holds taken =
      (line more : List ℕ) × HasNoNewline line × (length line ≤ line_limit) × heads.tells line h
      × (taken ≡ ended line ++ more) × Holds (limit - length (ended line)) more

  -- what a command means whose first line had this head, by what it means for what comes after the line
  abbrev pub led : H → (ℕ → Meaning) → Meaning
  led h rest = record {
    ends = λ outcome taken left out. AfterHead h (λ allowed more. (rest allowed).ends outcome more left out) taken;
    awaits = λ taken out. AfterHead h (λ allowed more. (rest allowed).awaits more out) taken;
    breaks = λ taken left put last. AfterHead h (λ allowed more. (rest allowed).breaks more left put last) taken;
  }

  -- the same by the head, if there is one, and the course after it
  abbrev pub by_first : {C : Type 0} → (H → ℕ → C → Meaning) → Option (H × C) → Meaning
  by_first meaning None = headless
  by_first meaning (Some (h, c)) = led h (λ allowed. meaning h allowed c)

  -- what was found in a whole line: its head, and nothing was written; or none, and the line was written that refuses it
  abbrev pub FindsHead : List ℕ → List ℕ → List ℕ → Option H → Type 0
  FindsHead line before now (Some h) = heads.tells line h × (now ≡ before)
  FindsHead line before now None = (text : List ℕ) × heads.refuses line text × (now ≡ before ++ text)

  -- the same of a whole line of any length: one above the limit of a line has no head
  abbrev pub FindsFirst : List ℕ → List ℕ → List ℕ → Option H → Type 0
  FindsFirst line before now head =
      ((length line ≤ line_limit) × FindsHead line before now head)
      ⊎ ((line_limit < length line) × (head ≡ None) × (now ≡ before ++ heads.lacks NoLine.Long))

-- where a head was found nothing was written
abbrev pub KeepsOut : {H : Type 0} → List ℕ → List ℕ → Option H → Type 0
KeepsOut before now (Some h) = now ≡ before
KeepsOut before now None = Unit {0}

-- why a last piece without a newline is no first line
abbrev pub IsLackIn : List ℕ → NoLine → Type 0
IsLackIn line NoLine.Cut = length line ≤ line_limit
IsLackIn line NoLine.Long = line_limit < length line

-- how a run ends whose first line had no head: the line was refused, or the run stopped
abbrev pub EndsHeadless : Result Outcome Stop → Type 0
EndsHeadless (Ok outcome) = outcome ≡ Outcome.Refused
EndsHeadless (Err stop) = Unit {0}

-- What a run leaves of what its command uses: all as it was where there was no head.
abbrev pub LeavesFirst : {L H C : Type 0} → (L → L → H → C → Result Outcome Stop → Type 0) → L → L → Option (H × C)
    → Result Outcome Stop → Type 0
LeavesFirst leaves old new None result = (new ≡ old) × EndsHeadless result
LeavesFirst leaves old new (Some (h, c)) result = leaves old new h c result
