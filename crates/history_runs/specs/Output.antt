-- The lines that a day's script is answered with, each with its newline, and those of a day that isn't opened: JSON (RFC 8259)
-- in its one compact spelling. This project's own.
use Rattle.std.specs.Prelude.{ℕ, List, [], ◌++◌, codes, decimal}
use Rattle.hex.specs.Hex.{encode_lower}
use Rattle.adx_desk.specs.declared.fault.DeskFault.{DeskFault}
use Rattle.adx_io.specs.Talk.{ended}
use Rattle.answer_lines.specs.Answers.{answer_line, ask_told, fault_line}
use Rattle.answer_lines.specs.declared.faults.Fault.{Fault}
use Rattle.day_rules.specs.declared.answer.Answer.{Answer}
use Rattle.day_rules.specs.declared.entry.Entry.{Entry}
use Rattle.deal_floor.specs.declared.campaign.Campaign.{Campaign}
use Rattle.script_lines.specs.Refusals.{refusal_line}
use Rattle.adx_desk.specs.Meanings.{Writing}

-- the line of an answer, from the history that its call left: by the ask that stands there at the place that it names
abbrev pub told_line : List Campaign → List Entry → Answer → List ℕ
told_line campaigns history answer = ended (answer_line campaigns answer (ask_told history answer))

-- how the lines of a day with these campaigns are written
abbrev pub writing : List Campaign → Writing
writing campaigns = record { answer = told_line campaigns; fault = λ f. ended (fault_line f); refusal = refusal_line }

-- why a file is no journal of the day, and where
abbrev pub place_line : List ℕ → ℕ → List ℕ
place_line why at = codes "{\"answer\":\"journal\",\"why\":\"" ++ why ++ codes "\",\"at\":" ++ decimal at ++ codes "}\n"

-- the journal is another roster's, by what it keeps
abbrev pub otherroster_line : List ℕ → List ℕ
otherroster_line kept = codes "{\"answer\":\"journal\",\"why\":\"otherroster\",\"kept\":\"" ++ encode_lower kept ++ codes "\"}\n"

-- a day that wasn't opened, and why; a fault of the disk and want of memory are told by the status alone
abbrev pub unopened_line : DeskFault → List ℕ
unopened_line DeskFault.DiskFault = []
unopened_line (DeskFault.JournalFull size) = ended (fault_line (Fault.JournalFull size))
unopened_line (DeskFault.BadEntry at) = place_line (codes "badentry") at
unopened_line (DeskFault.OtherRoster kept) = otherroster_line kept
unopened_line (DeskFault.NotAJournal at) = place_line (codes "notajournal") at
unopened_line (DeskFault.BadLength at) = place_line (codes "badlength") at
unopened_line DeskFault.OutOfMemory = []
