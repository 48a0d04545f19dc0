use Rattle.std.proofs.Common.{◌≡◌, ◌++◌, drop, string_bytes}
use Rattle.std.specs.List.{flat_map}
use Rattle.bidder_http.specs.Books.{ledger_line}
use Rattle.bidder_http.proofs.books.push_ledger.Given as goal

-- what was written and the lines that are left give all of them
abbrev pub invariant-loop-row : goal.invariant-loop-row
invariant-loop-row l = string_bytes l.out ++ flat_map ledger_line (drop l.row-index l.rows) ≡ string_bytes l.initial.out ++ flat_map ledger_line l.rows
