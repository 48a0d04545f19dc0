-- The rows of the campaigns so far.
use Rattle.std.proofs.Common.{◌≡◌, ◌++◌, take, string_bytes}
use Rattle.std.specs.List.{flat_map, enumerate_from}
use Rattle.answer_lines.specs.Table.{campaign_line}
use Rattle.answer_lines.proofs.table.push_rows.Given as goal

abbrev pub invariant-loop-place : goal.invariant-loop-place
invariant-loop-place l =
    string_bytes l.out ≡ string_bytes l.initial.out ++ flat_map (campaign_line l.book) (enumerate_from 0 (take l.place l.campaigns))
