-- The ask, and what comes after it.
use Rattle.std.proofs.Common.{◌≡◌, ◌∙◌, ◌+◌, ◌*◌, ℕ, Ok, Err, sym, ap, subst, arith}
use Rattle.std.proofs.lemmas.Result.{err_from_is_err_and}
use Rattle.day_rules.specs.Asks.{IsUndecided, IsWellFormed}
use Rattle.day_rules.specs.declared.ask.Ask.{Ask}
use Rattle.command_gen.specs.Generated.{state_before}
use Rattle.command_gen.specs.Taking.{TakesAsk}
use Rattle.command_gen.proofs.Formed.{ask_formed, ask_undecided}
use Rattle.command_gen.proofs.Taking.{ask_early, ask_then, number_unbegun, on_ok}
use Rattle.command_gen.proofs.calls.take_calls.Goals as goal

pub returns-in_err-ask-clause-takes : goal.returns-in_err-ask-clause-takes
returns-in_err-ask-clause-takes g c = λ seed is.
    let p = err_from_is_err_and c.from_residual.result c.from_residual.ensures.1 in
    rw (p.1, p.2) (number_unbegun g.D.Disk.faults g.D.Disk.may_leave g.D.Disk.moment g.D.Disk.left_since seed c.args.number c.args.desk.now)

pub returns-in_err-award-clause-takes : goal.returns-in_err-award-clause-takes
returns-in_err-award-clause-takes g c = λ seed is.
    let p = err_from_is_err_and c.from_residual-in_err-award.result c.from_residual-in_err-award.ensures.1 in
    let e = c.in_err-award.field-0.0 in
    rw (p.1, p.2)
    (ask_early g.D.Disk.faults g.D.Disk.may_leave g.D.Disk.moment g.D.Disk.left_since seed c.args.number c.args.desk.now c.take_ask.new.desk e
    (subst (λ (a : Ask). TakesAsk g.D.Disk.faults g.D.Disk.may_leave g.D.Disk.moment g.D.Disk.left_since c.args.desk.now c.take_ask.new.desk a (Err e)) (c.in_ok-ask.ensures.ask seed is) c.in_err-award.ensures.takes))

pub returns-clause-takes : goal.returns-clause-takes
returns-clause-takes g c = λ seed is.
    let a = c.in_ok-award.award in
    let next = c.next_word-word.ensures seed (9 * c.args.number + 8) (c.in_ok-ask.ensures.state seed is) in
    ask_then g.D.Disk.faults g.D.Disk.may_leave g.D.Disk.moment g.D.Disk.left_since seed c.args.number c.args.desk.now c.take_ask.new.desk c.take_behind.new.desk a c.take_behind.result
    (subst (λ (x : Ask). TakesAsk g.D.Disk.faults g.D.Disk.may_leave g.D.Disk.moment g.D.Disk.left_since c.args.desk.now c.take_ask.new.desk x (Ok a)) (c.in_ok-ask.ensures.ask seed is) c.in_ok-award.ensures.takes)
    (c.take_behind.ensures.takes seed next.0)

pub take_ask-requires-clause-well_formed : goal.take_ask-requires-clause-well_formed
take_ask-requires-clause-well_formed g c =
    let seed = c.requires.state.0 in
    subst (λ (p : ℕ × Ask). IsWellFormed p.0 p.1) (λ i. (sym c.requires.campaigns i, sym (c.in_ok-ask.ensures.ask seed c.requires.state.1) i)) (ask_formed seed c.args.number c.requires.few)

pub take_ask-requires-clause-undecided : goal.take_ask-requires-clause-undecided
take_ask-requires-clause-undecided g c =
    let seed = c.requires.state.0 in
    subst IsUndecided (sym (c.in_ok-ask.ensures.ask seed c.requires.state.1)) (ask_undecided seed c.args.number)

pub returns-clause-state : goal.returns-clause-state
returns-clause-state g c =
    on_ok c.take_behind.result (λ seed is.
    let next = c.next_word-word.ensures seed (9 * c.args.number + 8) (c.in_ok-ask.ensures.state seed is) in
    let count : (9 * c.args.number + 8) + 1 ≡ 9 * (c.args.number + 1) = omega arith in
    next.1 ∙ ap (state_before seed) count)
