-- By the turn at the turnstile.
use Rattle.std.proofs.Common.{◌∙◌, [], ◌∷◌, refl, sym, subst}
use Rattle.std.specs.Prelude.{IsSome}
use Rattle.adx_desk.specs.declared.turn.Call.{Call}
use Rattle.adx_desk.specs.Shared.{terms_in}
use Rattle.shared_desk.specs.Callers.{Passed, raised_by, turn_at}
use Rattle.shared_desk.specs.Jobs.{turn_where_ran}
use Rattle.shared_desk.proofs.Passing.{passed_call, ran_on_opened, some_same}
use Rattle.shared_desk.proofs.shared_desk.SharedDesk.set_budget.Goals as goal

pub unwrap-ran-requires : goal.unwrap-ran-requires
unwrap-ran-requires g c =
    let did = ran_on_opened _ _ _ _ _ _ _ c.args.self.now.fixed c.requires.of.1 c.turn.ensures.turn in
    subst (λ o. IsSome o) (sym did.3.is) refl

pub returns : goal.returns
returns g c =
    let opened = c.args.self.now.fixed in
    let t = c.turn.ensures.turn in
    let did = ran_on_opened _ _ _ _ _ _ _ opened c.requires.of.1 t in
    let at = did.3 in
    let legal = c.recall.ensures.legal opened (t.same.3 ∙ c.requires.of.1) in
    let same = some_same at.ran c.unwrap-ran.result (sym at.is ∙ c.unwrap-ran.ensures) in
    record {
      turn = (
        t.before,
        subst (λ r. Passed opened t.before (turn_at (terms_in opened) t.before (Call.Budget c.args.campaign c.args.change c.args.budget) r.ended ∷ []) (raised_by r.ended) c.args.pass.now c.turn.new.pass) same
            (passed_call _ _ _ _ _ _ _ opened (Call.Budget c.args.campaign c.args.change c.args.budget) c.turn.new.job.ran t (λ i. turn_where_ran (Call.Budget (did.0 i) (did.1 i) (did.2 i)) c.turn.new.job.ran) refl at legal),
      );
    }
