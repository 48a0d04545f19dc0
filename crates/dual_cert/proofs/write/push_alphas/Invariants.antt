use Rattle.std.proofs.Common.{◌≡◌, ◌++◌, take, map}
use Rattle.std.specs.List.{flat_map, enumerate_from}
use Rattle.std.specs.String.{string_bytes}
use Rattle.formats.specs.Parts.{ended}
use Rattle.dual_cert.specs.Lines.{alpha_line}
use Rattle.dual_cert.proofs.write.push_alphas.Given as goal

abbrev pub invariant-loop-i : goal.invariant-loop-i
invariant-loop-i l = string_bytes l.out ≡ string_bytes l.fn.out ++ flat_map ended (map alpha_line (take l.i (enumerate_from 0 l.alphas)))
