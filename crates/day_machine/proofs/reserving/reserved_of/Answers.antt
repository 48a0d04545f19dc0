-- One campaign more.
use Rattle.std.proofs.Common.{◌≡◌, ◌+◌, ◌-◌, ℕ, length, ap, arith}
use Rattle.std.specs.List.{sum_by, range_with_len}
use Rattle.campaign_book.specs.Accounts.{account_at}
use Rattle.day_machine.proofs.Money.{range_more, range_within}
use Rattle.day_machine.proofs.reserving.reserved_of.Goals as goal

pub overflow_add-sum : goal.overflow_add-sum
overflow_add-sum c =
    let f : ℕ → ℕ = λ k. (account_at c.args.book.now k).reserved in
    let rest : ℕ = length c.args.book.now - (c.loop-c.c + 1) in
    let all : c.loop-c.c + 1 + rest ≡ length c.args.book.now = omega (arith, c.loop-c-test.true, c.count-c-end.ensures.value) in
    let whole = ap (λ (n : ℕ). sum_by f (range_with_len 0 n)) all in
    omega (arith, whole, c.requires, c.loop-c.invariant, c.reserved-sum.ensures, range_more f c.loop-c.c, range_within f (c.loop-c.c + 1) rest)

pub loop-c-preserved : goal.loop-c-preserved
loop-c-preserved c =
    let f : ℕ → ℕ = λ k. (account_at c.args.book.now k).reserved in
    omega (arith, c.loop-c.invariant, c.reserved-sum.ensures, range_more f c.loop-c.c)
