-- The day was opened on the lent disk and the connection served on it, or it wasn't opened, or memory was refused before.
use Rattle.std.proofs.Common.{◌≡◌, ◌∙◌, refl, sym, ap, subst, rules, Option, Result, Err}
use Rattle.std.proofs.lemmas.Result.{err_from_is_err_and}
use Rattle.std.specs.Borrow.{MutBor}
use Rattle.adx_io.specs.Streams.{Tape, WhereTold}
use Rattle.adx_io.specs.TalkState.{state_of}
use Rattle.adx_io.specs.declared.stop.Stop.{Stop}
use Rattle.adx_desk.specs.declared.fault.DeskFault.{DeskFault}
use Rattle.command_runs.specs.Meanings.{Wrote}
use Rattle.command_runs.specs.declared.outcome.Outcome.{Outcome}
use Rattle.adx_desk.proofs.Lent.{course_lent}
use Rattle.history_runs.specs.Unopened.{not_opened}
use Rattle.history_runs.proofs.Unopened.{gives_up, told_unopened}
use Rattle.adx_commands.specs.Exchanges.{was_given_up, was_served, was_unbegun}
use Rattle.adx_commands.proofs.Connected.{connection_lent, desk_wrote}
use Rattle.adx_commands.proofs.ConnEnds.{unbegun_wrote}
use Rattle.adx_commands.proofs.connection.serve_roster.Goals as goal

pub serve_after-ended-requires-clause-lanes : goal.serve_after-ended-requires-clause-lanes
serve_after-ended-requires-clause-lanes g c =
    let are = c.in_ok-lanes.ensures in record { places = are.places_are; limits = are.limits }

pub returns-in-Ok-clause-ran : goal.returns-in-Ok-clause-ran
returns-in-Ok-clause-ran g c =
    let roster = c.args.roster.now in
    let desk = c.in-Ok.desk in
    let opens = c.in-Ok.ensures.opens in
    let lanes = c.in_ok-lanes.lanes.items in
    let ended = c.serve_after-ended in
    let s = ended.ensures.ends in (
      was_served desk.desk.history lanes s.serves.course,
      connection_lent g.D.Disk (λ (e : MutBor _). e.now) roster _ desk ended.new.desk c.args.disk.now _ refl (search rules) opens c.in-Ok.ensures.same_count
          lanes s.serves.course s.end ended.result c.in_ok-lanes.ensures s.serves.on_disk s.serves.steps s.ends,
      desk_wrote _ _ roster _ _ _ _ lanes _ desk ended.new.desk ended.result opens.no_fault s,
    )

pub returns-in-Ok-clause-lasts : goal.returns-in-Ok-clause-lasts
returns-in-Ok-clause-lasts g c =
    let last = c.serve_after-ended.new.desk.disk in
    subst (g.D.Disk.lasts c.args.disk.now) (search rules) (g.met.D.Disk.lasts_on c.args.disk.now c.in-Ok.desk.disk.now last.now c.in-Ok.ensures.lasts.1 c.serve_after-ended.ensures.lasts.1)

pub returns-clause-ran : goal.returns-clause-ran
returns-clause-ran g c =
    let roster = c.args.roster.now in
    let why = c.in-Err.refused.0 in
    let talk = c.args.talk.now in
    let pending = talk.buffer.now.pending in
    let held = g.K.Sink.held talk.sink.now in
    let held_now = g.K.Sink.held c.tell_unopened.new.talk.sink.now in
    let puts = c.tell_unopened.ensures.puts in (
      was_given_up why,
      (
        gives_up why held held_now c.tell_unopened.result puts,
        course_lent (λ (e : MutBor _). e.now) g.D.Disk.faults g.D.Disk.reads g.D.Disk.may_leave g.D.Disk.moment g.D.Disk.left_since roster why _ c.in-Err.refused.1 c.args.disk.now _ refl (search rules) c.in-Err.ensures.gives_up c.in-Err.ensures.cause,
      ),
      subst (λ (t : Option Tape). WhereTold (state_of talk).tape t (λ x y. Wrote (not_opened why) x.left y.left held held_now c.tell_unopened.result)) (sym (ap (λ (x : MutBor _). g.S.Source.tape x.now) c.tell_unopened.ensures.rest.0))
          (told_unopened pending (g.S.Source.tape talk.source.now) held held_now why c.tell_unopened.result c.requires.ahead puts),
    )

pub returns-in_err-lanes-clause-ran : goal.returns-in_err-lanes-clause-ran
returns-in_err-lanes-clause-ran g c =
    let p = err_from_is_err_and c.from_residual.result c.from_residual.ensures.1 in
    let is : c.from_residual.result ≡ Err Stop.OutOfMemory = p.1 ∙ ap Err p.2 in
    let talk = c.args.talk.now in
    let held = g.K.Sink.held talk.sink.now in
    let tape = g.S.Source.tape talk.source.now in (
      was_unbegun,
      (refl, is),
      subst (λ (r : Result Outcome Stop). WhereTold (state_of talk).tape tape (λ x y. Wrote (not_opened DeskFault.OutOfMemory) x.left y.left held held r)) (sym is)
          (unbegun_wrote talk.buffer.now.pending tape held c.requires.ahead),
    )
