use Rattle.std.proofs.Common.{◌<◌, List, length, ap, ◌∙◌, arith}
use Rattle.adx_units.specs.declared.units.Units.{Units}
use Rattle.notice_book.specs.declared.award.Award.{Award}
use Rattle.day_machine.specs.LedgerState.{LedgerState}
use Rattle.day_machine.proofs.LedgerKept.{budgets_long, kept_push, push_budgets, push_fits}
use Rattle.day_machine.proofs.ledger.Ledger.push.Goals as goal

pub reserve-requires-clause-fits : goal.reserve-requires-clause-fits
reserve-requires-clause-fits c =
    let budgets = ap (λ (s : LedgerState). s.budgets) c.self.view_is in
    let awards = ap (λ (s : LedgerState). s.awards) c.self.view_is in
    push_fits c.self.inside.money c.self.inside.sold.awards c.args.self.now.budgets c.args.self.now.awards c.args.award.campaign c.args.award.charge.0
    c.self.invariant.accounts_are budgets awards c.requires.known c.requires.fits

pub invariant_of-self : goal.invariant_of-self
invariant_of-self c =
    let budgets = ap (λ (s : LedgerState). s.budgets) c.self.view_is in
    let awards = ap (λ (s : LedgerState). s.awards) c.self.view_is in
    let known : c.args.award.campaign < length c.self.inside.money =
    omega (arith, c.requires.known, ap (λ (bs : List Units). length bs) budgets, budgets_long c.self.inside.money c.self.inside.sold.awards c.self.invariant.accounts_are) in
    rw (c.reserve.ensures, c.push.ensures.awards, c.push_reserved.ensures.items)
    (kept_push c.self.inside.money c.self.inside.sold.awards c.self.inside.places.items c.self.inside.to_come c.args.award c.self.invariant known c.requires.open c.requires.new
    (omega (arith, c.requires.few, ap (λ (ws : List Award). length ws) awards)))

pub returns-clause-budgets : goal.returns-clause-budgets
returns-clause-budgets c =
    let budgets = ap (λ (s : LedgerState). s.budgets) c.self.view_is in
    rw c.reserve.ensures (push_budgets c.self.inside.money c.self.inside.sold.awards c.args.award c.self.invariant.accounts_are c.requires.open ∙ budgets)
