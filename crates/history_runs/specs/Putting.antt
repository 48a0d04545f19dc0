-- Bytes that are put in pieces. Private clauses cite this file.
use Rattle.std.specs.Prelude.{◌≡◌, ℕ, List, ◌++◌, Option, Result, Ok, Err}
use Rattle.adx_io.specs.Streams.{Took}
use Rattle.adx_io.specs.declared.stop.Stop.{Stop}
use Rattle.command_runs.specs.Meanings.{TookPrefix}

-- these bytes were put; or, where the sink failed or memory was refused, a prefix of them
abbrev pub PutsBytes : Option (List ℕ) → Option (List ℕ) → List ℕ → Result (Unit {0}) Stop → Type 0
PutsBytes held held_now bytes (Ok done) = Took held held_now bytes
PutsBytes held held_now bytes (Err Stop.ReadFault) = ⊥
PutsBytes held held_now bytes (Err Stop.WriteFault) = TookPrefix held held_now bytes
PutsBytes held held_now bytes (Err Stop.OutOfMemory) = TookPrefix held held_now bytes

-- a front of these bytes was put, and the rest of them is still to be put
pub record PutsFront (held held_now : Option (List ℕ)) (bytes rest : List ℕ) : Type 0 where
  pub front : List ℕ
  pub took : Took held held_now front
  pub split : bytes ≡ front ++ rest

-- the same, unless the run was cut short
abbrev pub PutsPiece : Option (List ℕ) → Option (List ℕ) → List ℕ → List ℕ → Result (Unit {0}) Stop → Type 0
PutsPiece held held_now bytes rest (Ok done) = PutsFront held held_now bytes rest
PutsPiece held held_now bytes rest (Err stop) = PutsBytes held held_now bytes (Err stop)
