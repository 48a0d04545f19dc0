use Rattle.std.proofs.Common.{inr, ap, sym, ◌∙◌, length, List, ℕ, eqb}
use Rattle.std.proofs.lemmas.Bool.{false≢true}
use Rattle.dual_cert.proofs.Documents.{more_behind}
use Rattle.dual_cert.proofs.read.whole.Goals as goal

pub returns-else-is_empty-clause-fault : goal.returns-else-is_empty-clause-fault
returns-else-is_empty-clause-fault c =
    inr (more_behind c.args.bytes.now c.args.rows.alphas.items c.args.rows.betas.items c.args.bound c.args.rest.now c.args.n c.requires (λ e. false≢true (sym c.if-is_empty.false ∙ c.is_empty.ensures ∙ ap (λ (t : List ℕ). eqb (length t) 0) e)))
