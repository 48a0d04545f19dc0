-- By the meeting, the look and what the board had taken in.
use Rattle.std.proofs.Common.{◌≡◌, ℕ, List, length, take, drop, ◌++◌, sym, ap, ◌∙◌, subst}
use Rattle.std.specs.Prelude.{IfOk, OnErr}
use Rattle.std.proofs.Math.Seq.{take-length}
use Rattle.day_rules.specs.declared.step.MeterStep.{MeterStep}
use Rattle.day_rules.specs.Steps.{meters_of, StayInRange}
use Rattle.day_rules.specs.DayMeters.{steps_of}
use Rattle.meter_board.specs.Words.{published, taken}
use Rattle.meter_board.proofs.Beginnings.{with_rest}
use Rattle.desk_board.proofs.Meeting.{begins_on, if_done, met_faults, seen_on, shown_on}
use Rattle.desk_board.proofs.board.Board.publish.Goals as goal

pub append-requires : goal.append-requires
append-requires g c =
    let own = c.args.self.now.pass in
    let board = c.args.self.now.board in
    let seen = c.steps_since.new.pass.seen in
    let first : List MeterStep = taken board in
    let all : List MeterStep = steps_of seen in
    let on = seen_on c.args.desk.now.fixed own c.args.pass.now c.meet.new.a c.meet.new.b c.steps_since.new.pass c.meet.ensures.a c.meet.ensures.one c.meet.ensures.same c.steps_since.ensures.turn in
    let start : take (length first) all ≡ first = begins_on first own.seen seen c.args.self.now.begins on.0 in
    record {
      range = subst (λ (l : List MeterStep). StayInRange (meters_of l) c.as_slice.result.now) (ap (λ (n : ℕ). take n all) c.len.ensures ∙ start)
          (subst (λ (l : List MeterStep). StayInRange (meters_of (take c.len.result all)) l) (sym c.as_slice.ensures.value) c.in_ok-steps.ensures.range);
    }

pub invariant_of-self-in-Break-branch-2 : goal.invariant_of-self-in-Break-branch-2
invariant_of-self-in-Break-branch-2 g c =
    let own = c.args.self.now.pass in
    let board = c.args.self.now.board in
    let seen = c.steps_since.new.pass.seen in
    let first : List MeterStep = taken board in
    let all : List MeterStep = steps_of seen in
    let on = seen_on c.args.desk.now.fixed own c.args.pass.now c.meet.new.a c.meet.new.b c.steps_since.new.pass c.meet.ensures.a c.meet.ensures.one c.meet.ensures.same c.steps_since.ensures.turn in
    record { begins = begins_on first own.seen seen c.args.self.now.begins on.0; shows = begins_on (published board) own.seen seen c.args.self.now.shows on.0 }

pub invariant_of-self-in-Break-branch-3 : goal.invariant_of-self-in-Break-branch-3
invariant_of-self-in-Break-branch-3 g c =
    let own = c.args.self.now.pass in
    let board = c.args.self.now.board in
    let seen = c.steps_since.new.pass.seen in
    let first : List MeterStep = taken board in
    let all : List MeterStep = steps_of seen in
    let on = seen_on c.args.desk.now.fixed own c.args.pass.now c.meet.new.a c.meet.new.b c.steps_since.new.pass c.meet.ensures.a c.meet.ensures.one c.meet.ensures.same c.steps_since.ensures.turn in
    let start : take (length first) all ≡ first = begins_on first own.seen seen c.args.self.now.begins on.0 in
    let rest : c.as_slice.result.now ≡ drop (length first) all =
    c.as_slice.ensures.value ∙ (c.in_ok-steps.ensures.steps ∙ ap (λ (n : ℕ). drop n all) c.len.ensures) in
    let whole : first ++ c.as_slice.result.now ≡ all = ap (λ (l : List MeterStep). first ++ l) rest ∙ with_rest first all start in
    record {
      begins = shown_on c.append.result first (taken c.append.new.self) all (subst (λ (l : List MeterStep). IfOk c.append.result (λ _. taken c.append.new.self ≡ l)) whole c.append.ensures.taken) c.append.ensures.refused start;
      shows = subst (λ (l : List MeterStep). take (length l) all ≡ l) (sym c.append.ensures.published) (begins_on (published board) own.seen seen c.args.self.now.shows on.0);
    }

pub invariant_of-self-2 : goal.invariant_of-self-2
invariant_of-self-2 g c =
    let own = c.args.self.now.pass in
    let board = c.args.self.now.board in
    let seen = c.steps_since.new.pass.seen in
    let first : List MeterStep = taken board in
    let all : List MeterStep = steps_of seen in
    let on = seen_on c.args.desk.now.fixed own c.args.pass.now c.meet.new.a c.meet.new.b c.steps_since.new.pass c.meet.ensures.a c.meet.ensures.one c.meet.ensures.same c.steps_since.ensures.turn in
    let start : take (length first) all ≡ first = begins_on first own.seen seen c.args.self.now.begins on.0 in
    let rest : c.as_slice.result.now ≡ drop (length first) all =
    c.as_slice.ensures.value ∙ (c.in_ok-steps.ensures.steps ∙ ap (λ (n : ℕ). drop n all) c.len.ensures) in
    let took : taken c.append.new.self ≡ all = c.in_ok-append.ensures.taken ∙ (ap (λ (l : List MeterStep). first ++ l) rest ∙ with_rest first all start) in
    let whole : taken c.publish.new.self ≡ all = c.publish.ensures.taken ∙ took in
    record {
      begins = subst (λ (l : List MeterStep). take (length l) all ≡ l) (sym whole) (take-length all);
      shows = shown_on c.publish.result (published board) (published c.publish.new.self) all (subst (λ (l : List MeterStep). IfOk c.publish.result (λ _. published c.publish.new.self ≡ l)) took c.publish.ensures.published)
          (subst (λ (l : List MeterStep). OnErr c.publish.result (published c.publish.new.self ≡ l)) c.in_ok-append.ensures.published c.publish.ensures.refused) (begins_on (published board) own.seen seen c.args.self.now.shows on.0);
    }

pub returns-clause-met : goal.returns-clause-met
returns-clause-met g c =
    let own = c.args.self.now.pass in
    let board = c.args.self.now.board in
    let seen = c.steps_since.new.pass.seen in
    let first : List MeterStep = taken board in
    let all : List MeterStep = steps_of seen in
    let on = seen_on c.args.desk.now.fixed own c.args.pass.now c.meet.new.a c.meet.new.b c.steps_since.new.pass c.meet.ensures.a c.meet.ensures.one c.meet.ensures.same c.steps_since.ensures.turn in
    if_done _ c.publish.result on.1

pub returns-clause-pass_faults : goal.returns-clause-pass_faults
returns-clause-pass_faults g c = met_faults c.args.pass.now c.args.self.now.pass c.meet.new.b c.meet.ensures.b
