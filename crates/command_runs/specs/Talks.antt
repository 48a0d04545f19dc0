-- What a part of a run wrote on a talk, and what is said of the line that a talk keeps. This project's own.
use Rattle.std.specs.Prelude.{List, ℕ, Bool, Result}
use Rattle.adx_io.specs.Lines.{Keeps}
use Rattle.adx_io.specs.Streams.{WhereTold}
use Rattle.adx_io.specs.TalkState.{state_of}
use Rattle.adx_io.specs.declared.source.Source as source
use Rattle.adx_io.specs.declared.sink.Sink as sink
use Rattle.adx_io.specs.declared.stop.Stop.{Stop}
use Rattle.adx_io.specs.declared.talk.Talk.{Talk}
use Rattle.command_runs.specs.Limits.{line_limit}
use Rattle.command_runs.specs.declared.outcome.Outcome.{Outcome}
use Rattle.command_runs.specs.Meanings.{Meaning, Wrote}

-- From there on a run of this meaning wrote so, by how it ended: of what was pending and what the source had, that is left
-- in the source now. Nothing is said where the source doesn't report its bytes.
abbrev pub TalkWrote : {S K : Type 0} {s : source.Ghosts S} {k : sink.Ghosts K} → Meaning → (old new : Talk S K s k)
    → Result Outcome Stop → Type 0
TalkWrote {s = s} {k = k} m old new result =
    WhereTold (state_of old).tape (s.tape new.source.now)
    (λ before now. Wrote m before.left now.left (k.held old.sink.now) (k.held new.sink.now) result)

-- so it is of the line that a buffer keeps, be it longer than a line may be or not
abbrev pub OfLine : Bool → List ℕ → (List ℕ → Type 0) → Type 0
OfLine overlong kept P = (line : List ℕ) → Keeps line_limit overlong kept line → P line
