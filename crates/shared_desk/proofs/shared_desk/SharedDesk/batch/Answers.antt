-- By the turn at the turnstile.
use Rattle.std.proofs.Common.{◌∙◌, ap, refl, sym, subst}
use Rattle.std.specs.Prelude.{IsSome}
use Rattle.shared_desk.proofs.Passing.{passed_batch, ran_on_opened, some_same}
use Rattle.shared_desk.proofs.shared_desk.SharedDesk.batch.Goals as goal

pub unwrap-ran-requires : goal.unwrap-ran-requires
unwrap-ran-requires g c =
    let did = ran_on_opened _ _ _ _ _ _ _ c.args.self.now.fixed c.requires.of.1 c.turn.ensures.turn in
    subst (λ o. IsSome o) (sym did.is) refl

pub returns-clause-ok : goal.returns-clause-ok
returns-clause-ok g c =
    let opened = c.args.self.now.fixed in
    let t = c.turn.ensures.turn in
    let did = ran_on_opened _ _ _ _ _ _ _ opened c.requires.of.1 t in
    let legal = c.recall.ensures.legal opened (t.same.3 ∙ c.requires.of.1) in
    let same = some_same did.ran c.unwrap-ran.result (sym did.is ∙ c.unwrap-ran.ensures) in
    let all = passed_batch _ _ _ _ _ _ _ opened c.turn.new.job.ran t c.args.batch.now c.turn.new.lent refl refl did legal c.unwrap-ran.result.ended (ap (λ r. r.ended) same) in
    all.0

pub returns-clause-fault : goal.returns-clause-fault
returns-clause-fault g c =
    let opened = c.args.self.now.fixed in
    let t = c.turn.ensures.turn in
    let did = ran_on_opened _ _ _ _ _ _ _ opened c.requires.of.1 t in
    let legal = c.recall.ensures.legal opened (t.same.3 ∙ c.requires.of.1) in
    let same = some_same did.ran c.unwrap-ran.result (sym did.is ∙ c.unwrap-ran.ensures) in
    let all = passed_batch _ _ _ _ _ _ _ opened c.turn.new.job.ran t c.args.batch.now c.turn.new.lent refl refl did legal c.unwrap-ran.result.ended (ap (λ r. r.ended) same) in
    all.1

pub returns-clause-waits : goal.returns-clause-waits
returns-clause-waits g c =
    let opened = c.args.self.now.fixed in
    let t = c.turn.ensures.turn in
    let did = ran_on_opened _ _ _ _ _ _ _ opened c.requires.of.1 t in
    let legal = c.recall.ensures.legal opened (t.same.3 ∙ c.requires.of.1) in
    let same = some_same did.ran c.unwrap-ran.result (sym did.is ∙ c.unwrap-ran.ensures) in
    let all = passed_batch _ _ _ _ _ _ _ opened c.turn.new.job.ran t c.args.batch.now c.turn.new.lent refl refl did legal c.unwrap-ran.result.ended (ap (λ r. r.ended) same) in
    all.2

pub returns-clause-cause : goal.returns-clause-cause
returns-clause-cause g c =
    let opened = c.args.self.now.fixed in
    let t = c.turn.ensures.turn in
    let did = ran_on_opened _ _ _ _ _ _ _ opened c.requires.of.1 t in
    let legal = c.recall.ensures.legal opened (t.same.3 ∙ c.requires.of.1) in
    let same = some_same did.ran c.unwrap-ran.result (sym did.is ∙ c.unwrap-ran.ensures) in
    let all = passed_batch _ _ _ _ _ _ _ opened c.turn.new.job.ran t c.args.batch.now c.turn.new.lent refl refl did legal c.unwrap-ran.result.ended (ap (λ r. r.ended) same) in
    all.3
