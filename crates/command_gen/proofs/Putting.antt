-- What was put of a line or a table where the put failed, or memory was refused.
use Rattle.std.proofs.Common.{◌≡◌, ◌∙◌, ℕ, List, Option, Ok, Err, refl, sym, ap}
use Rattle.adx_desk.specs.declared.fault.DeskFault.{DeskFault}
use Rattle.adx_io.specs.declared.stop.Stop.{Stop}
use Rattle.answer_lines.specs.Table.{closing_table}
use Rattle.command_runs.specs.declared.outcome.Outcome.{Outcome}
use Rattle.day_rules.specs.declared.entry.Entry.{Entry}
use Rattle.deal_floor.specs.declared.roster.Roster.{Roster}
use Rattle.history_runs.specs.Unopened.{unopened_end}
use Rattle.history_runs.specs.Output.{unopened_line}
use Rattle.history_runs.specs.Script.{terms_by}
use Rattle.command_gen.specs.GeneratedEnds.{EndsUntaken}
use Rattle.command_gen.specs.Taking.{PutsOutput, PutsTable}

-- a table
pub table_failed : (r : Roster) (history : List Entry) (held held_now : Option (List ℕ)) (stop : Stop) → PutsOutput held held_now (closing_table r.campaigns (terms_by r) history) (Err stop) → PutsTable r history held held_now (Err stop)
table_failed r history held held_now Stop.ReadFault puts = absurd puts
table_failed r history held held_now Stop.WriteFault puts = puts
table_failed r history held held_now Stop.OutOfMemory puts = absurd puts

-- the line of a day that wasn't opened
pub untaken_failed : (why : DeskFault) (held held_now : Option (List ℕ)) (stop : Stop) → unopened_end why ≡ Ok Outcome.NoHistory → PutsOutput held held_now (unopened_line why) (Err stop) → EndsUntaken why held held_now (Err stop)
untaken_failed why held held_now Stop.ReadFault is puts = absurd puts
untaken_failed why held held_now Stop.WriteFault is puts = (is, puts)
untaken_failed why held held_now Stop.OutOfMemory is puts = absurd puts

pub untaken_refused : (why : DeskFault) (held : Option (List ℕ)) → unopened_end why ≡ Ok Outcome.NoHistory → EndsUntaken why held held (Err Stop.OutOfMemory)
untaken_refused why held is = ((λ e. cc (sym (ap unopened_end e) ∙ is)), refl)
