use Rattle.std.proofs.Common.{ℕ, ◌||◌, sym, ap, ◌∙◌, subst}
use Rattle.exchange_serving.specs.Finishing.{Tells, ending_by}
use Rattle.exchange_serving.specs.Served.{ArePosted}
use Rattle.exchange_serving.specs.declared.ending.Ending.{Ending}
use Rattle.exchange_serving.proofs.Finished.{none_is, posted, tells}
use Rattle.exchange_serving.proofs.finishing_up.finish.Goals as goal

pub returns-clause-posts : goal.returns-clause-posts
returns-clause-posts g c = λ history link front has.
    let whole = c.args.desk.desk.history in let mail = c.bring_up-missed.new.mail in let missed = c.bring_up-missed.result in
    let none = c.is_empty-none_pending.result in
    let empty = none_is mail.outbox.pending c.pending.result.now none c.pending.ensures c.is_empty-none_pending.ensures in
    let ending = c.ending_of-ending.ensures ∙ ap (λ (n : ℕ). ending_by (c.args.short || missed) c.args.intake n none) c.faults-faults.ensures.faults in
    subst (λ (e : Ending). ArePosted g.L.Link whole link mail.link e) (sym ending)
    (posted g.L.Link whole history link c.args.mail mail c.args.short missed c.args.intake c.args.desk.desk.faults none empty.0 empty.1 has (c.bring_up-missed.ensures.posts history link front has))

pub returns-clause-tells : goal.returns-clause-tells
returns-clause-tells g c =
    let missed = c.bring_up-missed.result in let none = c.is_empty-none_pending.result in
    let ending = c.ending_of-ending.ensures ∙ ap (λ (n : ℕ). ending_by (c.args.short || missed) c.args.intake n none) c.faults-faults.ensures.faults in
    subst (λ (e : Ending). Tells c.args.short c.args.intake c.args.desk.desk.faults e) (sym ending) (tells c.args.short missed c.args.intake c.args.desk.desk.faults none)
