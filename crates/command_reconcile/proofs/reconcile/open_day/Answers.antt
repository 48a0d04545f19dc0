-- The day was opened on the lent disk and reconciled, or it wasn't opened.
use Rattle.std.proofs.Common.{List, Option, Ok, Err, refl, sym, ap, subst, length, le-add_right, rules}
use Rattle.std.specs.Borrow.{MutBor}
use Rattle.adx_io.specs.Streams.{Tape, WhereTold}
use Rattle.adx_io.specs.TalkState.{state_of}
use Rattle.command_runs.specs.Meanings.{Wrote}
use Rattle.command_runs.specs.Talks.{TalkWrote}
use Rattle.day_rules.specs.declared.entry.Entry.{Entry}
use Rattle.history_runs.proofs.Opened.{stands_lent}
use Rattle.history_runs.proofs.Unopened.{gives_up}
use Rattle.adx_desk.proofs.Lent.{course_lent}
use Rattle.command_reconcile.specs.Reconciling.{EndsDay, at_end, reconciling}
use Rattle.command_reconcile.proofs.Reconciled.{told_unopened}
use Rattle.command_reconcile.proofs.reconcile.open_day.Goals as goal

pub returns-in-Ok-clause-ran : goal.returns-in-Ok-clause-ran
returns-in-Ok-clause-ran g c =
    let roster = c.args.roster.now in
    let desk = c.in-Ok.desk in
    let history = desk.desk.history in
    let ended = c.reconcile_day-ended in (
      Ok history,
      (
        stands_lent g.D.Disk (λ (e : MutBor _). e.now) roster _ desk c.args.disk.now _ refl (search rules) c.in-Ok.ensures.opens c.in-Ok.ensures.legal.legal c.in-Ok.ensures.same_count,
        ended.ensures.ends,
      ),
      subst (λ (entries : List Entry). TalkWrote (reconciling c.args.name.now roster (state_of c.args.talk.now).allowed (Ok entries)) c.args.talk.now ended.new.talk ended.result) c.entries.ensures.history ended.ensures.ran,
    )

pub returns-in-Err-clause-ran : goal.returns-in-Err-clause-ran
returns-in-Err-clause-ran g c =
    let roster = c.args.roster.now in
    let why = c.in-Err.refused.0 in
    let talk = c.args.talk.now in
    let before = state_of talk in
    let last = c.tell_unopened.new.talk in
    let held = g.K.Sink.held last.sink.now in
    let result = c.tell_unopened.result in
    let puts = c.tell_unopened.ensures.puts in
    let left = course_lent (λ (e : MutBor _). e.now) g.D.Disk.faults g.D.Disk.reads g.D.Disk.may_leave g.D.Disk.moment g.D.Disk.left_since roster why _ c.in-Err.refused.1 c.args.disk.now _ refl (search rules) c.in-Err.ensures.gives_up c.in-Err.ensures.cause in (
      Err why,
      (left.0, left.1, gives_up why before.held held result puts),
      subst (λ (t : Option Tape). WhereTold before.tape t (λ x y. Wrote (at_end before.allowed (EndsDay c.args.name.now roster before.allowed (Err why))) x.left y.left before.held held result)) (sym (ap (λ (x : MutBor _). g.S.Source.tape x.now) c.tell_unopened.ensures.rest.0))
          (told_unopened c.args.name.now roster before.allowed why before.held held talk.buffer.now.pending c.requires.ahead (le-add_right (length talk.buffer.now.pending) talk.room) (g.S.Source.tape talk.source.now) result puts),
    )
