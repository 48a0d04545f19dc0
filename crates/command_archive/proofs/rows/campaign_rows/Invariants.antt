use Rattle.std.proofs.Common.{◌≡◌, map, take}
use Rattle.std.specs.List.{enumerate_from}
use Rattle.command_archive.specs.Rows.{row_of}
use Rattle.command_archive.proofs.rows.campaign_rows.Given as goal

abbrev pub invariant-loop-place : goal.invariant-loop-place
invariant-loop-place l = l.rows.items ≡ map (row_of l.day l.bound) (enumerate_from 0 (take l.place l.day.campaigns))
