-- What a command means: what it writes for the bytes that it takes of its input, by how its run ends. This project's own.
-- Example: a command that prints `hi` once its input was read means, at the end `Done`, all of the input taken,
-- nothing left, and `hi`; where the source fails, some bytes taken and nothing written; where the sink fails,
-- nothing in it before the last step, and that step was to add `hi`.
use Rattle.std.specs.Prelude.{◌≡◌, ◌⊎◌, ℕ, List, ◌++◌, Option, Result, Ok, Err}
use Rattle.adx_io.specs.Streams.{Took}
use Rattle.adx_io.specs.declared.stop.Stop.{Stop}
use Rattle.command_runs.specs.declared.outcome.Outcome.{Outcome}

-- What a command means, by what came beside its input. Where its run ends of its own: how, after which bytes of the
-- input, with which bytes left of it, and which bytes it has written. Where the source fails: after which bytes, and
-- which bytes it has written. Where the sink fails or memory is refused: after which bytes, with which left, which bytes
-- were in the sink before its last step, and which bytes that step was to add.
pub record Meaning : Type 1 where
  pub ends : Outcome → List ℕ → List ℕ → List ℕ → Type 0
  pub awaits : List ℕ → List ℕ → Type 0
  pub breaks : List ℕ → List ℕ → List ℕ → List ℕ → Type 0

module _ (m : Meaning) (input left : List ℕ) (held held_now : Option (List ℕ)) where
  -- the run was cut short: the sink took all that was written before the last step, and a front of what that step adds
  abbrev pub WrotePart : Type 0
  WrotePart =
      (taken put last front back : List ℕ) × (input ≡ taken ++ left) × m.breaks taken left put last
      × (last ≡ front ++ back) × Took held held_now (put ++ front)

  -- What a run wrote for an input, of which this is left in the source, by how it ended. Each byte of the input was
  -- taken or is left, and the sink took these bytes and no others.
  abbrev pub Wrote : Result Outcome Stop → Type 0
  Wrote (Ok outcome) = (taken out : List ℕ) × (input ≡ taken ++ left) × m.ends outcome taken left out × Took held held_now out
  Wrote (Err Stop.ReadFault) = (taken out : List ℕ) × (input ≡ taken ++ left) × m.awaits taken out × Took held held_now out
  Wrote (Err Stop.WriteFault) = WrotePart
  Wrote (Err Stop.OutOfMemory) = WrotePart

-- the sink took some front of these bytes
abbrev pub TookPrefix : Option (List ℕ) → Option (List ℕ) → List ℕ → Type 0
TookPrefix held held_now bytes = (front back : List ℕ) × (bytes ≡ front ++ back) × Took held held_now front

-- The last bytes were put, and the run ended as was wanted; or it was cut short, and the sink took a front of them.
abbrev pub PutsEnd : Outcome → Option (List ℕ) → Option (List ℕ) → List ℕ → Result Outcome Stop → Type 0
PutsEnd wanted held held_now bytes (Ok outcome) = (outcome ≡ wanted) × Took held held_now bytes
PutsEnd wanted held held_now bytes (Err Stop.ReadFault) = ⊥
PutsEnd wanted held held_now bytes (Err Stop.WriteFault) = TookPrefix held held_now bytes
PutsEnd wanted held held_now bytes (Err Stop.OutOfMemory) = TookPrefix held held_now bytes

-- how a run ends whose last bytes are put: as was wanted, or at a fault of the sink
abbrev pub MayPut : Outcome → Result Outcome Stop → Type 0
MayPut wanted result = (result ≡ Ok wanted) ⊎ (result ≡ Err Stop.WriteFault)
