use Rattle.day_machine.proofs.LedgerKept.{kept_new, new_budgets}
use Rattle.day_machine.proofs.ledger.Ledger.new.Goals as goal

pub invariant_of-result : goal.invariant_of-result
invariant_of-result c = kept_new c.args.budgets.now c.in_ok-money.money c.new-2.result.awards c.new-3.result.items c.in_ok-money.ensures c.new-2.ensures c.new-3.ensures.items

pub returns-clause-budgets : goal.returns-clause-budgets
returns-clause-budgets c = new_budgets c.args.budgets.now c.in_ok-money.money c.in_ok-money.ensures
