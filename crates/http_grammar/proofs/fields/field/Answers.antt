-- The spans at the place cover the field there.
use Rattle.httparse.specs.declared.spans.HeaderSpan.{HeaderSpan}
use Rattle.httparse.specs.Spans.{header_bytes}
use Rattle.http_grammar.proofs.FieldLists.{field_next, field_among}
use Rattle.http_grammar.proofs.fields.field.Goals as goal

none : HeaderSpan
none = record { name = record { start = 0; end = 0 }; value = record { start = 0; end = 0 } }

pub returns-clause-next : goal.returns-clause-next
unfolding none
returns-clause-next c = rw (c.of.ensures, c.of-2.ensures) (field_next (header_bytes c.args.head.now) c.args.spans.now c.args.i none c.requires.inside)

pub returns-clause-among : goal.returns-clause-among
unfolding none
returns-clause-among c = rw (c.of.ensures, c.of-2.ensures) (field_among (header_bytes c.args.head.now) c.args.spans.now c.args.i none c.requires.inside)
