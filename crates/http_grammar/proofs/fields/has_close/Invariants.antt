-- No field so far says `close`.
use Rattle.std.proofs.Common.{◌≡◌, false, take, codes}
use Rattle.std.specs.List.{list_any}
use Rattle.http_grammar.specs.Heads.{pairs_at}
use Rattle.http_grammar.specs.Fields.{values_of, names_word}
use Rattle.http_grammar.proofs.fields.has_close.Given as goal

abbrev pub invariant-loop-i : goal.invariant-loop-i
invariant-loop-i l = list_any (names_word (codes "close")) (values_of (codes "connection") (take l.i (pairs_at l.head l.spans))) ≡ false
