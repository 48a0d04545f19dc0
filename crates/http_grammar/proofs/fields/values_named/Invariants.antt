-- The values among the fields so far.
use Rattle.std.proofs.Common.{take}
use Rattle.http_grammar.specs.Heads.{pairs_at}
use Rattle.http_grammar.specs.Fields.{values_of}
use Rattle.http_grammar.specs.Found.{AreValues}
use Rattle.http_grammar.proofs.fields.values_named.Given as goal

abbrev pub invariant-loop-i : goal.invariant-loop-i
invariant-loop-i l = AreValues l.found (values_of l.name (take l.i (pairs_at l.head l.spans)))
