-- The desk was called where a tick comes.
use Rattle.std.proofs.Common.{◌≡◌, ◌+◌, ◌%◌, ◌==◌, ℕ, suc, List, [], ◌∷◌, Ok, if◌then◌else◌, sym, ap, subst, arith}
use Rattle.day_rules.specs.Replies.{Call, tick}
use Rattle.command_gen.specs.Generated.{ticks_behind}
use Rattle.command_gen.specs.Taking.{TakesCalls}
use Rattle.command_gen.proofs.DeskTaken.{takes_done, takes_failed}
use Rattle.command_gen.proofs.calls.take_tick.Goals as goal

-- a tick comes after each hundredth ask
here : (number : ℕ) → (number + 1) % 100 ≡ 0 → ticks_behind number ≡ tick number ∷ []
here number is =
    let same : suc number % 100 ≡ 0 = omega (arith, is) in
    ap (λ n. if n == 0 then tick number ∷ [] else []) same

pub returns-in-Ok-clause-takes : goal.returns-in-Ok-clause-takes
returns-in-Ok-clause-takes g c =
    subst (λ (l : List Call). TakesCalls g.D.Disk.faults g.D.Disk.may_leave g.D.Disk.moment g.D.Disk.left_since c.args.desk.now c.tick.new.self l (Ok tt)) (sym (here c.args.number (omega (arith, c.if-number-ne0.false))))
    (takes_done g.D.Disk.faults g.D.Disk.may_leave g.D.Disk.moment g.D.Disk.left_since c.args.desk.now c.tick.new.self (tick c.args.number) c.in-Ok.field-0 (omega (arith, c.requires)) c.in-Ok.ensures.serves c.in-Ok.ensures.ends)

pub returns-in-Err-clause-takes : goal.returns-in-Err-clause-takes
returns-in-Err-clause-takes g c =
    subst (λ (l : List Call). TakesCalls g.D.Disk.faults g.D.Disk.may_leave g.D.Disk.moment g.D.Disk.left_since c.args.desk.now c.tick.new.self l c.passed_over.result) (sym (here c.args.number (omega (arith, c.if-number-ne0.false))))
    (takes_failed g.D.Disk.faults g.D.Disk.may_leave g.D.Disk.moment g.D.Disk.left_since c.args.desk.now c.tick.new.self (tick c.args.number) c.in-Err.fault c.passed_over.result (omega (arith, c.requires)) c.in-Err.ensures.serves c.in-Err.ensures.ends c.passed_over.ensures)
