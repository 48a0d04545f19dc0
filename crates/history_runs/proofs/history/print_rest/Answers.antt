-- All of the rest was read and the day printed; or it passes its limit; or the run stopped in it.
use Rattle.std.proofs.Common.{◌≡◌, ◌∙◌, List, ℕ, Option, refl, sym, ap, subst, Ok}
use Rattle.std.specs.Borrow.{MutBor}
use Rattle.adx_io.specs.Streams.{Tape, WhereTold}
use Rattle.adx_io.specs.TalkState.{state_of}
use Rattle.adx_io.specs.declared.rest.Rest.{Rest}
use Rattle.command_runs.specs.Documents.{document}
use Rattle.command_runs.specs.Meanings.{PutsEnd, Wrote}
use Rattle.command_runs.specs.declared.outcome.Outcome.{Outcome}
use Rattle.script_lines.specs.Refusals.{roster_refused_line}
use Rattle.script_lines.specs.declared.refusal.RosterRefusal.{RosterRefusal}
use Rattle.history_runs.specs.Histories.{Opening, PutsTold, tells}
use Rattle.history_runs.proofs.Printed.{not_refused, told_long, told_said, told_stopped}
use Rattle.history_runs.proofs.history.print_rest.Goals as goal

pub returns-in-Ok-Whole-clause-ran : goal.returns-in-Ok-Whole-clause-ran
returns-in-Ok-Whole-clause-ran g c =
    let is : c.skip_rest.result ≡ Ok Rest.Whole = c.in-Ok-Whole.is ∙ ap Ok c.in-Ok-Whole.field-0-is in
    let roster = c.args.roster.now in
    let before = state_of c.args.talk.now in
    let mid = c.skip_rest.new.talk in
    let last = c.print_day.new.talk in
    let held = g.K.Sink.held last.sink.now in
    let said = c.print_day.ensures.puts in (
      said.0,
      said.1,
      subst (λ (t : Option Tape). WhereTold before.tape t (λ x y. Wrote (document before.allowed (tells g.P.Print.prints roster said.0)) x.left y.left before.held held c.print_day.result)) (sym (ap (λ (x : MutBor _). g.S.Source.tape x.now) c.print_day.ensures.rest))
          (told_said g.P.Print.prints roster before.allowed before.tape (g.S.Source.tape mid.source.now) before.held held said.0 c.print_day.result (rw is at c.skip_rest.ensures.reads)
          (subst (λ (h : Option (List ℕ)). PutsTold g.P.Print.prints roster said.0 h held c.print_day.result) c.skip_rest.ensures.held said.2)),
    )

pub returns-in-Ok-PastLimit-clause-ran : goal.returns-in-Ok-PastLimit-clause-ran
returns-in-Ok-PastLimit-clause-ran g c =
    let is : c.skip_rest.result ≡ Ok Rest.PastLimit = c.in-Ok-PastLimit.is ∙ ap Ok c.in-Ok-PastLimit.field-0-is in
    let roster = c.args.roster.now in
    let before = state_of c.args.talk.now in
    let mid = c.skip_rest.new.talk in
    let last = c.tell_long.new.talk in
    let held = g.K.Sink.held last.sink.now in
    let result = c.tell_long.result in
    let puts = subst (λ (h : Option (List ℕ)). PutsEnd Outcome.Refused h held (roster_refused_line RosterRefusal.Long) result) c.skip_rest.ensures.held c.tell_long.ensures.puts in (
      Opening.unopened,
      (refl, not_refused before.held held (roster_refused_line RosterRefusal.Long) result Outcome.Done puts (λ e. cc e), not_refused before.held held (roster_refused_line RosterRefusal.Long) result Outcome.DiskFault puts (λ e. cc e), not_refused before.held held (roster_refused_line RosterRefusal.Long) result Outcome.NoHistory puts (λ e. cc e)),
      subst (λ (t : Option Tape). WhereTold before.tape t (λ x y. Wrote (document before.allowed (tells g.P.Print.prints roster Opening.unopened)) x.left y.left before.held held result)) (sym (ap (λ (x : MutBor _). g.S.Source.tape x.now) c.tell_long.ensures.rest))
          (told_long g.P.Print.prints roster before.allowed before.tape (g.S.Source.tape mid.source.now) before.held held result (rw is at c.skip_rest.ensures.reads) puts),
    )

pub returns-in-Err-clause-ran : goal.returns-in-Err-clause-ran
returns-in-Err-clause-ran g c =
    let before = state_of c.args.talk.now in
    let mid = c.skip_rest.new.talk in
    let stop = c.in-Err.stop in (
      Opening.unopened,
      (refl, (λ e. cc e), (λ e. cc e), (λ e. cc e)),
      told_stopped g.P.Print.prints c.args.roster.now before.allowed before.tape (g.S.Source.tape mid.source.now) before.held (g.K.Sink.held mid.sink.now) stop c.in-Err.ensures.reads c.skip_rest.ensures.held,
    )
