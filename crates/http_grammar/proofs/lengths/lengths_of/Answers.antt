-- One field more.
use Rattle.std.proofs.Common.{◌++◌, ◌∷◌, [], cond, take, subst, sym, ap, ◌∙◌, arith, codes}
use Rattle.std.proofs.lemmas.List.{take_all, length-map}
use Rattle.httparse.specs.Spans.{header_bytes}
use Rattle.http_grammar.specs.Heads.{pairs_at}
use Rattle.http_grammar.specs.Fields.{values_of}
use Rattle.http_grammar.specs.Found.{AreLengths}
use Rattle.http_grammar.proofs.FieldLists.{values_next}
use Rattle.http_grammar.proofs.lengths.lengths_of.Goals as goal

pub loop-i-preserved : goal.loop-i-preserved
loop-i-preserved c =
    let name = codes "content-length" in
    let fields = pairs_at c.args.head.now c.args.spans.now in
    let before = values_of name (take c.loop-i.i fields) in
    let w = c.field.result.0.now in
    let v = c.field.result.1.now in (
      subst (AreLengths c.lengths_with-found.result)
          (ap (λ b. before ++ cond b (v ∷ []) []) c.same_word.ensures ∙ sym (values_next name (take c.loop-i.i fields) (w, v)) ∙ ap (values_of name) (sym c.field.ensures.next))
          (c.lengths_with-found.ensures.after before c.loop-i.invariant.0),
      c.lengths_with-found.ensures.first,
    )

pub returns-clause-lengths : goal.returns-clause-lengths
returns-clause-lengths c =
    let fields = pairs_at c.args.head.now c.args.spans.now in
    subst (λ fs. AreLengths c.loop-i.found (values_of (codes "content-length") fs))
    (take_all c.loop-i.i fields (omega (arith, length-map c.args.spans.now (header_bytes c.args.head.now))))
    c.loop-i.invariant.0
