-- What a sink took of a reply, and why it failed. This project's own.
use Rattle.std.specs.Prelude.{◌≡◌, ℕ, ◌≤◌, List, length, take, Option, Result, Ok, Err, OnOk, OnErr}
use Rattle.adx_io.specs.Streams.{Took, Rises}
use Rattle.adx_http.specs.declared.reply.WriteFault.{WriteFault}

-- the sink, where it reports its bytes, took all of these, or some front of them
abbrev pub Writes : Option (List ℕ) → Option (List ℕ) → List ℕ → Result Unit WriteFault → Type 0
Writes old new bytes (Ok done) = Took old new bytes
Writes old new bytes (Err fault) = (n : ℕ) × (n ≤ length bytes) × Took old new (take n bytes)

-- the sink's count never falls; a fault is answered only where it rose, and none is passed over
pub record WritesBy (before now : ℕ) (result : Result Unit WriteFault) : Type 0 where
  pub later : before ≤ now
  pub failed : OnErr result (Rises before now)
  pub passed : OnOk result (now ≡ before)
