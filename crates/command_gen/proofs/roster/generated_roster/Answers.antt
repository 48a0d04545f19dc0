-- The line is a roster's, so it isn't refused.
use Rattle.std.proofs.Common.{ℕ, List, subst}
use Rattle.script_lines.specs.Rosters.{IsRosterLine, RefusesRosterLine}
use Rattle.command_gen.proofs.Line.{never_refused}
use Rattle.command_gen.proofs.roster.generated_roster.Goals as goal

pub unreachable-requires : goal.unreachable-requires
unreachable-requires c =
    never_refused c.in-Err-Refused.field-0-0
    (subst (λ (l : List ℕ). RefusesRosterLine l c.in-Err-Refused.field-0-0) c.as_bytes.ensures.value (rw c.in-Err-Refused.field-0-is at c.in-Err-Refused.ensures))

pub returns-in-Ok : goal.returns-in-Ok
returns-in-Ok c = subst (λ (l : List ℕ). IsRosterLine l c.in-Ok.roster) c.as_bytes.ensures.value c.in-Ok.ensures
