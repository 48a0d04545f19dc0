-- The desk was called.
use Rattle.std.proofs.Common.{◌≡◌, option_map, ◌∙◌, Ok, Err, None, refl, sym, ap}
use Rattle.std.proofs.lemmas.Result.{err_from_is_err_and}
use Rattle.day_rules.specs.Replies.{ask}
use Rattle.command_gen.proofs.Awarded.{award_told_so}
use Rattle.command_gen.proofs.DeskTaken.{ask_passed}
use Rattle.adx_desk.proofs.DeskCalls.{call_done}
use Rattle.command_gen.proofs.calls.take_ask.Goals as goal

pub returns-in-Ok-clause-takes : goal.returns-in-Ok-clause-takes
returns-in-Ok-clause-takes g c =
    let old = c.args.desk.now in
    let new = c.take_ask.new.self in
    let answer = c.in-Ok.answer in (
      record { call = ask c.args.ask; fault = None },
      refl,
      call_done g.D.Disk.faults g.D.Disk.may_leave g.D.Disk.moment g.D.Disk.left_since old new (ask c.args.ask) answer (c.requires.well_formed, c.requires.undecided) c.in-Ok.ensures.serves c.in-Ok.ensures.ends.1,
      (λ is. cc is),
      c.award_of.ensures ∙ award_told_so old.desk.terms.day old.desk.history c.args.ask answer (option_map (λ (a : _). a.now) c.ask_for.result) new.desk.history c.in-Ok.ensures.answer c.ask_for.ensures c.in-Ok.ensures.serves.history,
    )

pub returns-in_ok-passed_over-in-Err-clause-takes : goal.returns-in_ok-passed_over-in-Err-clause-takes
returns-in_ok-passed_over-in-Err-clause-takes g c =
    ask_passed g.D.Disk.faults g.D.Disk.may_leave g.D.Disk.moment g.D.Disk.left_since c.args.desk.now c.take_ask.new.self c.args.ask c.in-Err.fault c.passed_over.result (Ok None)
    (c.requires.well_formed, c.requires.undecided) c.in-Err.ensures.serves c.in-Err.ensures.ends c.in-Err.ensures.refused c.in-Err.ensures.size c.passed_over.ensures (λ is. refl)
    (λ e is. absurd (cc (sym is ∙ c.in_ok-passed_over-in-Err.was)))

pub returns-in_err-passed_over-in-Err-clause-takes : goal.returns-in_err-passed_over-in-Err-clause-takes
returns-in_err-passed_over-in-Err-clause-takes g c =
    ask_passed g.D.Disk.faults g.D.Disk.may_leave g.D.Disk.moment g.D.Disk.left_since c.args.desk.now c.take_ask.new.self c.args.ask c.in-Err.fault c.passed_over.result c.from_residual.result
    (c.requires.well_formed, c.requires.undecided) c.in-Err.ensures.serves c.in-Err.ensures.ends c.in-Err.ensures.refused c.in-Err.ensures.size c.passed_over.ensures
    (λ is. absurd (cc (sym is ∙ c.in_err-passed_over-in-Err.was)))
    (λ e is. let p = err_from_is_err_and c.from_residual.result c.from_residual.ensures.1 in let same : c.in_err-passed_over-in-Err.field-0.0 ≡ e = cc (sym c.in_err-passed_over-in-Err.was ∙ is) in p.1 ∙ ap Err (p.2 ∙ same))
