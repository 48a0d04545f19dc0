use Rattle.std.proofs.Common.{refl, subst, sym, List, ℕ, rules}
use Rattle.dual_cert.specs.declared.row.Row.TheVariants.{Alpha, Beta, Bound}
use Rattle.dual_cert.specs.Refusals.{Follows, rows}
use Rattle.dual_cert.proofs.Documents.{taken_row, taken_none}
use Rattle.dual_cert.proofs.read.take_line.Goals as goal

pub returns-in-None : goal.returns-in-None
returns-in-None c = (refl, taken_none c.args.rows.now.alphas.items c.args.rows.now.betas.items c.args.line.now c.len.result c.len-2.result (search rules) (search rules) c.in-None.ensures)

pub returns-in-Some-Bound : goal.returns-in-Some-Bound
returns-in-Some-Bound c = (taken_row c.args.rows.now.alphas.items c.args.rows.now.betas.items c.args.line.now c.len.result c.len-2.result c.in-Some-Bound.field-0 (Bound c.in-Some-Bound.bound) (search rules) (search rules) c.in-Some-Bound.ensures c.in-Some-Bound.field-0-is, refl, refl)

pub returns-in_ok-push-in-Some-Alpha : goal.returns-in_ok-push-in-Some-Alpha
returns-in_ok-push-in-Some-Alpha c =
    let f = taken_row c.args.rows.now.alphas.items c.args.rows.now.betas.items c.args.line.now c.len.result c.len-2.result c.in-Some-Alpha.field-0 (Alpha c.in-Some-Alpha.alpha) (search rules) (search rules) c.in-Some-Alpha.ensures c.in-Some-Alpha.field-0-is in
    subst (λ (xs : List ℕ). Follows (rows c.args.rows.now.alphas.items c.args.rows.now.betas.items) c.args.line.now (rows xs c.args.rows.now.betas.items)) (sym c.in_ok-push-in-Some-Alpha.ensures.items) f

pub returns-in_ok-push-in-Some-Beta : goal.returns-in_ok-push-in-Some-Beta
returns-in_ok-push-in-Some-Beta c =
    let f = taken_row c.args.rows.now.alphas.items c.args.rows.now.betas.items c.args.line.now c.len.result c.len-2.result c.in-Some-Beta.field-0 (Beta c.in-Some-Beta.beta) (search rules) (search rules) c.in-Some-Beta.ensures c.in-Some-Beta.field-0-is in
    subst (λ (bs : List ℕ). Follows (rows c.args.rows.now.alphas.items c.args.rows.now.betas.items) c.args.line.now (rows c.args.rows.now.alphas.items bs)) (sym c.in_ok-push-in-Some-Beta.ensures.items) f
