use Rattle.std.proofs.Common.{inl, sym, ◌∙◌, true, false}
use Rattle.std.proofs.lemmas.Bool.{false≢true}
use Rattle.dual_cert.proofs.Documents.{first_cut, first_fails}
use Rattle.dual_cert.proofs.read.behind_head.Goals as goal

pub returns-in_default : goal.returns-in_default
returns-in_default c = first_cut c.args.bytes.now c.in_default.ensures

pub returns-else-is_head : goal.returns-else-is_head
returns-else-is_head c = inl (first_fails c.args.bytes.now c.in-Some.line.now c.in-Some.rest.now c.in-Some.ensures.0 c.in-Some.ensures.1 (λ e. false≢true (sym c.if-is_head.false ∙ c.is_head.ensures.1 e)))
