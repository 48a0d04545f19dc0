-- One field more.
use Rattle.std.proofs.Common.{◌++◌, ◌∷◌, [], cond, take, subst, sym, ap, ◌∙◌, arith}
use Rattle.std.proofs.lemmas.List.{take_all, length-map}
use Rattle.httparse.specs.Spans.{header_bytes}
use Rattle.http_grammar.specs.Heads.{pairs_at}
use Rattle.http_grammar.specs.Fields.{values_of}
use Rattle.http_grammar.specs.Found.{AreValues}
use Rattle.http_grammar.proofs.FieldLists.{values_next}
use Rattle.http_grammar.proofs.fields.values_named.Goals as goal

pub loop-i-preserved : goal.loop-i-preserved
loop-i-preserved c =
    let name = c.args.name.now in
    let fields = pairs_at c.args.head.now c.args.spans.now in
    let before = values_of name (take c.loop-i.i fields) in
    let w = c.field.result.0.now in
    let v = c.field.result.1.now in
    subst (AreValues c.values_with-found.result)
    (ap (λ b. before ++ cond b (v ∷ []) []) c.same_word.ensures ∙ sym (values_next name (take c.loop-i.i fields) (w, v)) ∙ ap (values_of name) (sym c.field.ensures.next))
    (c.values_with-found.ensures before c.loop-i.invariant)

pub returns : goal.returns
returns c =
    let fields = pairs_at c.args.head.now c.args.spans.now in
    subst (λ fs. AreValues c.loop-i.found (values_of c.args.name.now fs))
    (take_all c.loop-i.i fields (omega (arith, length-map c.args.spans.now (header_bytes c.args.head.now))))
    c.loop-i.invariant
