use Rattle.std.proofs.Common.{◌≡◌, ◌++◌, take, map}
use Rattle.std.specs.String.{string_bytes}
use Rattle.std.specs.List.{flat_map, enumerate_from}
use Rattle.formats.specs.Parts.{ended}
use Rattle.bid_record.specs.Lines.{campaign_line}
use Rattle.bid_record.proofs.write.push_campaigns.Given as goal

abbrev pub invariant-loop-i : goal.invariant-loop-i
invariant-loop-i l = string_bytes l.out ≡ string_bytes l.fn.out ++ flat_map ended (map campaign_line (take l.i (enumerate_from 0 l.campaigns)))
