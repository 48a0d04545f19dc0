-- What a lobby keeps and leaves, by what it and its workers agree on. This project's own.
use Rattle.std.specs.Prelude.{ℕ, Bool}
use Rattle.adx_io.specs.declared.source.Source as source
use Rattle.adx_io.specs.declared.sink.Sink as sink
use Rattle.adx_links.specs.declared.acceptor.Acceptor as acceptor
use Rattle.adx_links.specs.Pairs.{AcceptorTold}
use Rattle.adx_links.specs.Told.{told_by}
use Rattle.turnstile.specs.Passes.{PassView}
use Rattle.adx_links.specs.declared.hall.Hall as halls
use Rattle.adx_links.specs.declared.intake.Intake.{Intake}
use Rattle.adx_links.specs.declared.left.Left.{Left}
use Rattle.adx_links.specs.Lobbies.{AllServed, IsLobby}

module _ {B T I F N : Type 0} (hall : halls.Ghosts B T I F N) where
  -- what a lobby keeps of its acceptor and its first pass
  abbrev pub IsKept : AcceptorTold → PassView I F N → ℕ → ℕ → Intake → Bool → Type 0
  IsKept told p taken given intake wanting = IsLobby hall.served hall.first hall.others hall.faults told p taken given intake wanting

  -- what is left of it, once every pair that was taken was given back
  abbrev pub IsLeft : {A In Out : Type 0} → acceptor.Ghosts A In Out → source.Ghosts In → sink.Ghosts Out → Left A T I F N → Type 0
  IsLeft a s k l = AllServed hall.served hall.first hall.others hall.faults (told_by a s k l.acceptor) l.pass l.intake l.wanting
