-- By the turn at the turnstile.
use Rattle.std.proofs.Common.{◌∙◌, [], ◌∷◌, ap, refl, sym, subst}
use Rattle.std.specs.Prelude.{IsSome}
use Rattle.std.specs.Prelude.{Result}
use Rattle.day_rules.specs.declared.answer.Answer.{Answer}
use Rattle.day_rules.specs.declared.ask.Ask.{Ask}
use Rattle.adx_desk.specs.declared.fault.DeskFault.{DeskFault}
use Rattle.adx_desk.specs.declared.turn.Call.{Call}
use Rattle.adx_desk.specs.Shared.{terms_in}
use Rattle.shared_desk.specs.Callers.{Passed, raised_by, turn_at}
use Rattle.shared_desk.specs.Jobs.{turn_where_ran}
use Rattle.shared_desk.proofs.Passing.{asked_there, passed_call, ran_on_opened, some_same}
use Rattle.shared_desk.proofs.shared_desk.SharedDesk.ask.Goals as goal

pub unwrap-ran-requires : goal.unwrap-ran-requires
unwrap-ran-requires g c =
    let did = ran_on_opened _ _ _ _ _ _ _ c.args.self.now.fixed c.requires.of.1 c.turn.ensures.turn in
    subst (λ o. IsSome o) (sym did.1.at.is) refl

pub returns-clause-turn : goal.returns-clause-turn
returns-clause-turn g c =
    let opened = c.args.self.now.fixed in
    let t = c.turn.ensures.turn in
    let did = ran_on_opened _ _ _ _ _ _ _ opened c.requires.of.1 t in
    let wanted = c.of-wanted.ensures in
    let at = did.1.at in
    let legal = c.recall.ensures.legal opened (t.same.3 ∙ c.requires.of.1) in
    let same = ap (λ r. r.ended) (some_same at.ran c.unwrap-ran.result (sym at.is ∙ c.unwrap-ran.ensures)) ∙ sym c.done_of.ensures.ended in (
      t.before,
      subst (λ (z : Ask × Result Answer DeskFault). Passed opened t.before (turn_at (terms_in opened) t.before (Call.Ask z.0) z.1 ∷ []) (raised_by z.1) c.args.pass.now c.turn.new.pass) (λ i. (wanted i, same i))
          (passed_call _ _ _ _ _ _ _ opened (Call.Ask c.of-wanted.result.value) c.turn.new.job.ran t (λ i. turn_where_ran (Call.Ask (did.0 i).value) c.turn.new.job.ran) refl at legal),
    )

pub returns-clause-copy : goal.returns-clause-copy
returns-clause-copy g c =
    let opened = c.args.self.now.fixed in
    let t = c.turn.ensures.turn in
    let did = ran_on_opened _ _ _ _ _ _ _ opened c.requires.of.1 t in
    let at = did.1.at in
    let same = ap (λ r. r.ended) (some_same at.ran c.unwrap-ran.result (sym at.is ∙ c.unwrap-ran.ensures)) ∙ sym c.done_of.ensures.ended in
    asked_there _ _ _ _ _ _ _ opened t c.turn.new.job.wanted.value c.turn.new.job.ran (Call.Ask c.of-wanted.result.value) (λ i. turn_where_ran (Call.Ask (did.0 i).value) c.turn.new.job.ran) at c.turn.new.job.copy did.1.copy_is c.done_of.result same c.done_of.ensures.copy
