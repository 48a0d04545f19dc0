use Rattle.std.proofs.Common.{◌≡◌, ◌++◌, take, map}
use Rattle.std.specs.String.{string_bytes}
use Rattle.std.specs.List.{flat_map, enumerate_from}
use Rattle.formats.specs.Parts.{ended}
use Rattle.bid_record.specs.Lines.{imp_line}
use Rattle.bid_record.proofs.write.push_imps.Given as goal

abbrev pub invariant-loop-j : goal.invariant-loop-j
invariant-loop-j l = string_bytes l.out ≡ string_bytes l.fn.out ++ flat_map ended (map imp_line (take l.j (enumerate_from 0 l.imps)))
