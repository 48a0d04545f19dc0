use Rattle.std.proofs.Common.{◌≡◌, ℕ, List, length, ap₂, ◌∙◌, rules}
use Rattle.dual_cert.specs.Certificates.{bound_by}
use Rattle.day_close.proofs.Accepted.{closing_holds}
use Rattle.day_close.proofs.Made.{alphas_fit, betas_moved, closing_made}
use Rattle.day_close.proofs.closer.close.Goals as goal

pub betas_of-requires-clause-fit : goal.betas_of-requires-clause-fit
betas_of-requires-clause-fit c =
    let len : length c.in_ok-alphas.alphas.items ≡ length c.args.day.now.campaigns = search rules in
    alphas_fit c.args.day.now c.in_ok-alphas.alphas.items c.as_slice-2.result.now c.as_slice-2.ensures.value len c.in_ok-alphas.ensures.value

pub bound_by-bound-requires-clause-fit : goal.bound_by-bound-requires-clause-fit
bound_by-bound-requires-clause-fit c =
    let len : length c.in_ok-alphas.alphas.items ≡ length c.args.day.now.campaigns = search rules in
    alphas_fit c.args.day.now c.in_ok-alphas.alphas.items c.as_slice-3.result.now c.as_slice-3.ensures.value len c.in_ok-alphas.ensures.value

pub returns-clause-closing : goal.returns-clause-closing
returns-clause-closing c =
    let len : length c.in_ok-alphas.alphas.items ≡ length c.args.day.now.campaigns = search rules in
    let betas_len : length c.in_ok-betas.betas.items ≡ length c.args.day.now.imps = search rules in
    let are = betas_moved c.in_ok-alphas.alphas.items c.as_slice-2.result.now c.in_ok-betas.betas.items c.args.day.now.imps c.as_slice.result.now c.as_slice-2.ensures.value c.as_slice.ensures c.in_ok-betas.ensures.value in
    let bound : c.bound_by-bound.result ≡ bound_by c.in_ok-alphas.alphas.items c.in_ok-betas.betas.items c.args.day.now.campaigns = c.bound_by-bound.ensures ∙ ap₂ (λ (a b : List ℕ). bound_by a b c.args.day.now.campaigns) c.as_slice-3.ensures.value c.as_slice-4.ensures.value in
    closing_made c.args.day.now c.in_ok-alphas.alphas.items c.in_ok-betas.betas.items c.from.result c.from-2.result c.bound_by-bound.result c.from.ensures c.from-2.ensures len betas_len c.in_ok-alphas.ensures.value are bound

pub returns-clause-certificate : goal.returns-clause-certificate
returns-clause-certificate c = closing_holds c.args.day.now _ (returns-clause-closing c)
