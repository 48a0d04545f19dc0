-- The day was opened on the lent disk and its script answered, or it wasn't opened.
use Rattle.std.proofs.Common.{refl, sym, ap, subst, rules, Option}
use Rattle.std.specs.Borrow.{MutBor}
use Rattle.adx_desk.specs.Histories.{DeskTerms}
use Rattle.adx_desk.specs.Rosters.{desk_terms}
use Rattle.adx_io.specs.Streams.{Tape, WhereTold}
use Rattle.adx_io.specs.TalkState.{state_of}
use Rattle.command_runs.specs.Meanings.{Wrote}
use Rattle.day_rules.specs.Legal.{IsLegal}
use Rattle.adx_desk.specs.Courses.{taken_calls}
use Rattle.adx_desk.proofs.DeskRuns.{desk_begins}
use Rattle.adx_desk.proofs.Lent.{course_lent, run_lent}
use Rattle.history_runs.specs.Unopened.{not_opened}
use Rattle.command_day.specs.Steps.{was_given_up, was_served}
use Rattle.history_runs.proofs.Unopened.{gives_up, told_unopened}
use Rattle.command_day.proofs.day.serve_roster.Goals as goal

pub returns-in-Ok-clause-ran : goal.returns-in-Ok-clause-ran
returns-in-Ok-clause-ran g c =
    let roster = c.args.roster.now in
    let desk = c.in-Ok.desk in
    let start = desk.desk.history in
    let ran = c.run_lines-ended.ensures.ran _ start
    (desk_begins _ _ _ _ _ (desk_terms roster) _ desk c.in-Ok.ensures.opens (subst (λ (terms : DeskTerms). IsLegal terms.day start) c.in-Ok.ensures.opens.same_terms c.in-Ok.ensures.legal.legal) c.in-Ok.ensures.same_count) in (
      was_served start ran.told ran.unwritten,
      (
        ran.ends,
        run_lent (λ (e : MutBor _). e.now) g.D.Disk.faults g.D.Disk.reads g.D.Disk.may_leave g.D.Disk.moment g.D.Disk.left_since (desk_terms roster) start (taken_calls ran.told ran.unwritten) _ c.run_lines-ended.new.desk.disk c.args.disk.now _ refl (search rules) ran.on_disk,
      ),
      ran.wrote,
    )

pub returns-in-Ok-clause-lasts : goal.returns-in-Ok-clause-lasts
returns-in-Ok-clause-lasts g c =
    let last = c.run_lines-ended.new.desk.disk in
    subst (g.D.Disk.lasts c.args.disk.now) (search rules) (g.met.D.Disk.lasts_on c.args.disk.now c.in-Ok.desk.disk.now last.now c.in-Ok.ensures.lasts.1 c.run_lines-ended.ensures.lasts.1)

pub returns-in-Err-clause-ran : goal.returns-in-Err-clause-ran
returns-in-Err-clause-ran g c =
    let roster = c.args.roster.now in
    let why = c.in-Err.refused.0 in
    let talk = c.args.talk.now in
    let pending = talk.buffer.now.pending in
    let held = g.K.Sink.held talk.sink.now in
    let held_now = g.K.Sink.held c.tell_unopened.new.talk.sink.now in
    let puts = c.tell_unopened.ensures.puts in (
      was_given_up why,
      (
        gives_up why held held_now c.tell_unopened.result puts,
        course_lent (λ (e : MutBor _). e.now) g.D.Disk.faults g.D.Disk.reads g.D.Disk.may_leave g.D.Disk.moment g.D.Disk.left_since roster why _ c.in-Err.refused.1 c.args.disk.now _ refl (search rules) c.in-Err.ensures.gives_up c.in-Err.ensures.cause,
      ),
      subst (λ (t : Option Tape). WhereTold (state_of talk).tape t (λ x y. Wrote (not_opened why) x.left y.left held held_now c.tell_unopened.result)) (sym (ap (λ (x : MutBor _). g.S.Source.tape x.now) c.tell_unopened.ensures.rest.0))
          (told_unopened pending (g.S.Source.tape talk.source.now) held held_now why c.tell_unopened.result c.requires.ahead puts),
    )
