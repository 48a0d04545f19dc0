-- The lengths among the fields so far.
use Rattle.std.proofs.Common.{take, codes}
use Rattle.http_grammar.specs.Heads.{pairs_at}
use Rattle.http_grammar.specs.Fields.{values_of}
use Rattle.http_grammar.specs.Found.{AreLengths, FirstIsDigits}
use Rattle.http_grammar.proofs.lengths.lengths_of.Given as goal

abbrev pub invariant-loop-i : goal.invariant-loop-i
invariant-loop-i l = AreLengths l.found (values_of (codes "content-length") (take l.i (pairs_at l.head l.spans))) × FirstIsDigits l.found
