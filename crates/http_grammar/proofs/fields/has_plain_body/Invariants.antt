-- Each field so far says `identity` alone.
use Rattle.std.proofs.Common.{◌≡◌, true, take, codes}
use Rattle.std.specs.List.{list_all}
use Rattle.http_grammar.specs.Heads.{pairs_at}
use Rattle.http_grammar.specs.Fields.{values_of, names_only}
use Rattle.http_grammar.proofs.fields.has_plain_body.Given as goal

abbrev pub invariant-loop-i : goal.invariant-loop-i
invariant-loop-i l = list_all (names_only (codes "identity")) (values_of (codes "content-encoding") (take l.i (pairs_at l.head l.spans))) ≡ true
