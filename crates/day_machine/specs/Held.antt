-- The bytes of a journal of a format that are held for the notices and expiries of a history. This project's own.
use Rattle.std.specs.Prelude.{ℕ, ◌+◌, ◌*◌, ◌==◌, max, List, length, Option, Some, None, if◌then◌else◌}
use Rattle.std.specs.List.{count_by}
use Rattle.notice_book.specs.declared.award.Award.{Award}
use Rattle.notice_book.specs.Rules.{may_end, may_win}
use Rattle.day_rules.specs.declared.entry.Entry.{Entry}
use Rattle.day_rules.specs.Books.{awards_of}
use Rattle.day_entries.specs.Entries.{entry_bytes}

-- the bytes of the record of an entry: its gate, four of its length, and the entry
abbrev pub record_size : ℕ → Entry → ℕ
record_size format e = length (entry_bytes format e) + 5

-- the same in that of the two formats in which these are more
abbrev pub longest_record : Entry → ℕ
longest_record e = max (record_size 1 e) (record_size 2 e)

-- the bytes of the longest record of a notice, and of an expiry
abbrev pub notice_record : ℕ → ℕ
notice_record format = if format == 2 then 11 else 10

-- the bytes of the longest record of an expiry
abbrev pub expiry_record : ℕ → ℕ
expiry_record format = if format == 2 then 16 else 14

-- how many awards have no end
abbrev pub open_count : List Award → ℕ
open_count awards = count_by may_end awards

-- the record of an expiry for each award without an end, and that of a notice for each that isn't won and has no end
-- but a bill
abbrev pub held_for : ℕ → List Award → ℕ
held_for format awards = expiry_record format * open_count awards + notice_record format * count_by may_win awards

-- what is held for the notices and expiries of a history
abbrev pub held : ℕ → List Entry → ℕ
held format history = held_for format (awards_of history)

-- the same in that of the two formats in which this is more
abbrev pub longest_held : List Entry → ℕ
longest_held history = held 2 history

-- whether an award that there may be has no end, as a number
abbrev pub open_one : Option Award → ℕ
open_one None = 0
open_one (Some w) = if may_end w then 1 else 0
