-- The notices of an award, and the tick.
use Rattle.std.proofs.Common.{◌+◌, ◌*◌, ◌%◌, ℕ, List, Ok, Err, decimal, subst}
use Rattle.std.proofs.lemmas.Result.{err_from_is_err_and}
use Rattle.command_gen.specs.Generated.{notices_by, ticks_behind, word_at}
use Rattle.command_gen.specs.Taking.{TakesCalls}
use Rattle.command_gen.proofs.Taking.{takes_early, takes_then}
use Rattle.command_gen.proofs.calls.take_behind.Goals as goal

pub returns-in_err-take_notices-in-Some-clause-takes : goal.returns-in_err-take_notices-in-Some-clause-takes
returns-in_err-take_notices-in-Some-clause-takes g c = λ seed is.
    let old = c.args.desk.now in
    let new = c.take_notices.new.desk in
    let notices = λ (p : ℕ × List ℕ). notices_by (p.0 % 4) p.1 c.in-Some.award in
    let p = err_from_is_err_and c.from_residual.result c.from_residual.ensures.1 in
    rw (p.1, p.2)
    (rw c.in-Some.is (takes_early g.D.Disk.faults g.D.Disk.may_leave g.D.Disk.moment g.D.Disk.left_since old new (notices (word_at seed (9 * c.args.number + 8), decimal c.args.number)) (ticks_behind c.args.number) c.in_err-take_notices-in-Some.field-0.0
    (subst (λ (p : ℕ × List ℕ). TakesCalls g.D.Disk.faults g.D.Disk.may_leave g.D.Disk.moment g.D.Disk.left_since old new (notices p) (Err c.in_err-take_notices-in-Some.field-0.0)) (λ i. (is i, c.requires.id i)) c.in_err-take_notices-in-Some.ensures.takes)))

pub returns-in_ok-take_notices-in-Some-clause-takes : goal.returns-in_ok-take_notices-in-Some-clause-takes
returns-in_ok-take_notices-in-Some-clause-takes g c = λ seed is.
    let old = c.args.desk.now in
    let mid = c.take_notices.new.desk in
    let new = c.take_tick.new.desk in
    let notices = λ (p : ℕ × List ℕ). notices_by (p.0 % 4) p.1 c.in-Some.award in
    rw c.in-Some.is (takes_then g.D.Disk.faults g.D.Disk.may_leave g.D.Disk.moment g.D.Disk.left_since old mid new (notices (word_at seed (9 * c.args.number + 8), decimal c.args.number)) (ticks_behind c.args.number) c.take_tick.result
    (subst (λ (p : ℕ × List ℕ). TakesCalls g.D.Disk.faults g.D.Disk.may_leave g.D.Disk.moment g.D.Disk.left_since old mid (notices p) (Ok tt)) (λ i. (is i, c.requires.id i)) c.in_ok-take_notices-in-Some.ensures.takes) c.take_tick.ensures.takes)
