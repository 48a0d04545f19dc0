-- The day was opened on the lent disk and its calls taken, or it wasn't opened.
use Rattle.std.proofs.Common.{◌∙◌, None, [], refl, ap, subst, rules}
use Rattle.std.specs.Borrow.{MutBor}
use Rattle.adx_desk.specs.Histories.{DeskTerms}
use Rattle.adx_desk.specs.Rosters.{desk_terms}
use Rattle.day_rules.specs.Legal.{IsLegal}
use Rattle.adx_desk.specs.Courses.{given_up, served, taken_calls}
use Rattle.history_runs.proofs.AnswerLaws.{budgets_counted}
use Rattle.adx_desk.proofs.DeskRuns.{desk_begins, run_ends}
use Rattle.adx_desk.proofs.Lent.{course_lent, run_lent}
use Rattle.command_gen.proofs.Line.{sixteen}
use Rattle.command_gen.proofs.Serving.{table_told}
use Rattle.command_gen.proofs.Table.{generated_all}
use Rattle.command_gen.proofs.Taking.{runs_more}
use Rattle.command_gen.proofs.generated.serve_roster.Goals as goal

pub run_calls-ended-requires-clause-campaigns : goal.run_calls-ended-requires-clause-campaigns
run_calls-ended-requires-clause-campaigns g c =
    budgets_counted c.args.roster.now c.in-Ok.desk.desk.terms.day (ap (λ (t : DeskTerms). t.day) c.in-Ok.ensures.opens.same_terms) ∙ sixteen c.args.roster.now c.requires.line

pub returns-in-Ok-clause-runs : goal.returns-in-Ok-clause-runs
returns-in-Ok-clause-runs g c =
    let roster = c.args.roster.now in
    let desk = c.in-Ok.desk in
    let start = desk.desk.history in
    let new = c.run_calls-ended.new.desk in
    let runs = c.run_calls-ended.ensures.runs in
    let began = desk_begins _ _ _ _ _ (desk_terms roster) _ desk c.in-Ok.ensures.opens (subst (λ (terms : DeskTerms). IsLegal terms.day start) c.in-Ok.ensures.opens.same_terms c.in-Ok.ensures.legal.legal) c.in-Ok.ensures.same_count in
    let after = runs_more _ _ _ _ _ (desk_terms roster) _ start [] desk new runs.told began runs.serves in
    record {
      course = served roster start runs.told None;
      ends = (
        c.requires.line,
        runs.ends,
        table_told roster c.args.generator.seed c.args.generator.asks start runs.told (g.K.Sink.held c.args.sink.now) (g.K.Sink.held c.run_calls-ended.new.sink) c.run_calls-ended.result runs.ends
            (λ none of no. generated_all _ _ _ _ _ roster c.args.generator.seed c.args.generator.asks _ start runs.told new c.requires.line c.requires.few after none of no),
      );
      on_disk = run_lent (λ (e : MutBor _). e.now) g.D.Disk.faults g.D.Disk.reads g.D.Disk.may_leave g.D.Disk.moment g.D.Disk.left_since (desk_terms roster) start (taken_calls runs.told None) _ new.disk c.args.disk.now _ refl (search rules)
          (run_ends _ _ _ _ _ (desk_terms roster) _ start runs.told new after);
    }

pub returns-in-Ok-clause-lasts : goal.returns-in-Ok-clause-lasts
returns-in-Ok-clause-lasts g c =
    let last = c.run_calls-ended.new.desk.disk in
    subst (g.D.Disk.lasts c.args.disk.now) (search rules) (g.met.D.Disk.lasts_on c.args.disk.now c.in-Ok.desk.disk.now last.now c.in-Ok.ensures.lasts.1 c.run_calls-ended.ensures.lasts.1)

pub returns-in-Err-clause-runs : goal.returns-in-Err-clause-runs
returns-in-Err-clause-runs g c =
    let roster = c.args.roster.now in
    let why = c.in-Err.refused.0 in
    record {
      course = given_up roster why;
      ends = (c.requires.line, c.give_up.ensures.ends);
      on_disk = course_lent (λ (e : MutBor _). e.now) g.D.Disk.faults g.D.Disk.reads g.D.Disk.may_leave g.D.Disk.moment g.D.Disk.left_since roster why _ c.in-Err.refused.1 c.args.disk.now _ refl (search rules) c.in-Err.ensures.gives_up c.in-Err.ensures.cause;
    }
