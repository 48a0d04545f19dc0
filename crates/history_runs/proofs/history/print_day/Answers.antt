-- The day was opened on the lent disk and its history printed, or it wasn't opened.
use Rattle.std.proofs.Common.{List, refl, sym, subst, rules}
use Rattle.std.specs.Borrow.{MutBor}
use Rattle.day_rules.specs.declared.entry.Entry.{Entry}
use Rattle.day_rules.specs.DayState.{IsDay}
use Rattle.adx_desk.proofs.Lent.{course_lent}
use Rattle.adx_desk.specs.Histories.{DeskTerms}
use Rattle.history_runs.specs.Histories.{Opening, PutsTold}
use Rattle.history_runs.proofs.Opened.{stands_lent}
use Rattle.history_runs.proofs.Printed.{opened_ends, unopened_said}
use Rattle.history_runs.proofs.Unopened.{gives_up}
use Rattle.history_runs.proofs.history.print_day.Goals as goal

pub print_history-ended-requires-clause-day : goal.print_history-ended-requires-clause-day
print_history-ended-requires-clause-day g c =
    subst (λ (terms : DeskTerms). IsDay terms.day c.entries.result.now) c.in-Ok.ensures.opens.same_terms
    (subst (IsDay c.in-Ok.desk.desk.terms.day) (sym c.entries.ensures.history) c.entries.ensures.legal)

pub returns-in-Ok-clause-puts : goal.returns-in-Ok-clause-puts
returns-in-Ok-clause-puts g c =
    let roster = c.args.roster.now in
    let desk = c.in-Ok.desk in
    let history = desk.desk.history in
    let ended = c.print_history-ended in
    let held = g.K.Sink.held c.args.talk.now.sink.now in
    let held_now = g.K.Sink.held ended.new.talk.sink.now in
    let puts = subst (λ (entries : List Entry). PutsTold g.P.Print.prints roster (Opening.opened entries) held held_now ended.result) c.entries.ensures.history ended.ensures.puts in (
      Opening.opened history,
      (
        stands_lent g.D.Disk (λ (e : MutBor _). e.now) roster _ desk c.args.disk.now _ refl (search rules) c.in-Ok.ensures.opens c.in-Ok.ensures.legal.legal c.in-Ok.ensures.same_count,
        opened_ends g.P.Print.prints roster history held held_now ended.result puts,
      ),
      puts,
    )

pub returns-in-Err-clause-puts : goal.returns-in-Err-clause-puts
returns-in-Err-clause-puts g c =
    let roster = c.args.roster.now in
    let why = c.in-Err.refused.0 in
    let held = g.K.Sink.held c.args.talk.now.sink.now in
    let held_now = g.K.Sink.held c.tell_unopened.new.talk.sink.now in
    let puts = c.tell_unopened.ensures.puts in
    let left = course_lent (λ (e : MutBor _). e.now) g.D.Disk.faults g.D.Disk.reads g.D.Disk.may_leave g.D.Disk.moment g.D.Disk.left_since roster why _ c.in-Err.refused.1 c.args.disk.now _ refl (search rules) c.in-Err.ensures.gives_up c.in-Err.ensures.cause in (
      Opening.given_up why,
      (left.0, left.1, gives_up why held held_now c.tell_unopened.result puts),
      unopened_said g.P.Print.prints roster why held held_now c.tell_unopened.result puts,
    )
