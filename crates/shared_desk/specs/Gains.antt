-- What follows of the steps that a pass made. This project's own.
use Rattle.std.specs.Prelude.{◌≡◌, List, map, take}
use Rattle.adx_desk.specs.Histories.{DeskTerms}
use Rattle.adx_desk.specs.declared.turn.Turn.{Turn}
use Rattle.day_rules.specs.declared.entry.Entry.{Entry}
use Rattle.turnstile.specs.declared.noted.Noted.{Noted}
use Rattle.adx_desk.specs.Shared.{call_of}
use Rattle.adx_desk.specs.Called.{Called}
use Rattle.shared_desk.specs.Callers.{DeskPass}
use Rattle.adx_desk.specs.Steps.{Step, calls_of}
use Rattle.shared_desk.specs.Passes.{Gains, ended_of}

-- a turn as a call: at the front of the history that is as long as that at the turn
abbrev pub called_by : List Entry → Noted Turn → Called
called_by history n = record { at = take n.at history; call = call_of n.turn.call; ended = ended_of n.turn.ended }

-- the calls among the steps of a pass are just the turns that it gained, each at its front of the history seen at the end
abbrev pub CallsAreTurns : Type 0
CallsAreTurns = (terms : DeskTerms) (p q : DeskPass) (steps : List Step) (g : Gains terms p q steps) → map (called_by q.seen) g.noted ≡ calls_of steps
