use Rattle.std.proofs.Common.{◌≡◌, ◌++◌, take, map}
use Rattle.std.specs.List.{flat_map, enumerate_from}
use Rattle.std.specs.String.{string_bytes}
use Rattle.formats.specs.Parts.{ended}
use Rattle.dual_cert.specs.Lines.{beta_line}
use Rattle.dual_cert.proofs.write.push_betas.Given as goal

abbrev pub invariant-loop-j : goal.invariant-loop-j
invariant-loop-j l = string_bytes l.out ≡ string_bytes l.fn.out ++ flat_map ended (map beta_line (take l.j (enumerate_from 0 l.betas)))
