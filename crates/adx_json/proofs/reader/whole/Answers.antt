use Rattle.std.proofs.Common.{length, sym, ◌∙◌}
use Rattle.std.proofs.lemmas.Bool.{eqb-true, eqb-false}
use Rattle.adx_json.specs.View.{tree_of}
use Rattle.adx_json.proofs.ReaderParts.{whole_refused, whole_found}
use Rattle.adx_json.proofs.reader.whole.Goals as goal

pub returns-then-not-is_empty-clause-stops : goal.returns-then-not-is_empty-clause-stops
returns-then-not-is_empty-clause-stops c =
    let rest = c.in_ok-value.rest.now in
    whole_refused c.args.bytes.now (tree_of c.in_ok-value.value) rest c.in_ok-value.ensures.found (eqb-false (length rest) 0 (sym c.is_empty.ensures ∙ c.if-not-is_empty.true))

pub returns-clause-found : goal.returns-clause-found
returns-clause-found c =
    let rest = c.in_ok-value.rest.now in
    whole_found c.args.bytes.now (tree_of c.in_ok-value.value) rest c.in_ok-value.ensures.found (eqb-true (length rest) 0 (sym c.is_empty.ensures ∙ c.if-not-is_empty.false))
