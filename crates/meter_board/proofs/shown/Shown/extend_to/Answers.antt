use Rattle.std.proofs.Common.{◌≤◌, ap, subst, arith, length, List}
use mathlib.Core.List.{IsPrefix}
use Rattle.day_rules.specs.declared.step.MeterStep.{MeterStep}
use Rattle.meter_board.proofs.Beginnings.{prefix_shorter, entries_of}
use Rattle.meter_board.proofs.shown.Shown.extend_to.Goals as goal

pub returns-then-self-other-clause-this : goal.returns-then-self-other-clause-this
returns-then-self-other-clause-this c =
    let mine = c.args.self.now in
    let others = c.args.other.now in
    let both = c.learn.new.self.log in
    let this : IsPrefix mine.seen.log both = subst (λ (l : List MeterStep). IsPrefix l both) (ap (λ s. s.log) c.again-both.ensures) c.learn.ensures.2 in
    let less : length mine.seen.log ≤ length others.seen.log =
    omega (arith, ap (λ m. m.entries) mine.folded, ap (λ m. m.entries) others.folded, entries_of mine.seen.log, entries_of others.seen.log) in
    rw (c.again.ensures) (prefix_shorter mine.seen.log others.seen.log both this c.learn.ensures.3 less)

pub returns-clause-that : goal.returns-clause-that
returns-clause-that c =
    let mine = c.args.self.now in
    let others = c.args.other.now in
    let both = c.learn.new.self.log in
    let this : IsPrefix mine.seen.log both = subst (λ (l : List MeterStep). IsPrefix l both) (ap (λ s. s.log) c.again-both.ensures) c.learn.ensures.2 in
    let less : length others.seen.log ≤ length mine.seen.log =
    omega (arith, c.if-self-other.false, ap (λ m. m.entries) mine.folded, ap (λ m. m.entries) others.folded, entries_of mine.seen.log, entries_of others.seen.log) in
    prefix_shorter others.seen.log mine.seen.log both c.learn.ensures.3 this less
