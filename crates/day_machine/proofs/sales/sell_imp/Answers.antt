use Rattle.std.proofs.Common.{◌≡◌, ◌+◌, ◌≤◌, ◌++◌, ◌∷◌, [], ℕ, None, List, length, take, drop, ap, sym, subst, arith, length-append}
use Rattle.adx_units.specs.declared.units.Units.{Units}
use Rattle.allocator_core.specs.Choice.{budget_at}
use Rattle.notice_book.specs.declared.award.Award.{Award}
use Rattle.day_machine.specs.LedgerState.{committed_in}
use Rattle.day_machine.specs.Selling.{imp_awards}
use Rattle.day_machine.proofs.SalesKept.{fits_in, joined, lengths, sold_here}
use Rattle.day_machine.proofs.sales.sell_imp.Goals as goal

pub push-requires-clause-room : goal.push-requires-clause-room
push-requires-clause-room c =
    let j : ℕ = c.loop-offer.offer-index in
    let all : List Award = imp_awards c.args.place c.args.now c.args.offers.now c.args.imp in
    let front : List Award = imp_awards c.args.place c.args.now (take j c.args.offers.now) c.args.imp in
    let rest : List Award = imp_awards c.args.place c.args.now (drop (j + 1) c.args.offers.now) c.args.imp in
    let is : all ≡ (front ++ c.award_of.result ∷ []) ++ rest =
    sold_here c.args.place c.args.now c.args.offers.now c.args.imp j _ c.is_award.result c.award_of.result c.is_award.ensures c.if-is_award.true c.award_of.ensures c.loop-offer-test.true in
    omega (arith, lengths all front rest c.award_of.result is, c.requires.room, c.loop-offer.invariant.room)

pub push-requires-clause-few : goal.push-requires-clause-few
push-requires-clause-few c =
    let j : ℕ = c.loop-offer.offer-index in
    let start : List Award = c.args.ledger.now.awards in
    let all : List Award = imp_awards c.args.place c.args.now c.args.offers.now c.args.imp in
    let front : List Award = imp_awards c.args.place c.args.now (take j c.args.offers.now) c.args.imp in
    let rest : List Award = imp_awards c.args.place c.args.now (drop (j + 1) c.args.offers.now) c.args.imp in
    let is : all ≡ (front ++ c.award_of.result ∷ []) ++ rest =
    sold_here c.args.place c.args.now c.args.offers.now c.args.imp j _ c.is_award.result c.award_of.result c.is_award.ensures c.if-is_award.true c.award_of.ensures c.loop-offer-test.true in
    omega (arith, lengths all front rest c.award_of.result is, c.requires.few, ap (λ (ws : List Award). length ws) c.loop-offer.invariant.awards, length-append start front)

pub push-requires-clause-fits : goal.push-requires-clause-fits
push-requires-clause-fits c =
    let j : ℕ = c.loop-offer.offer-index in
    let w : Award = c.award_of.result in
    let start : List Award = c.args.ledger.now.awards in
    let all : List Award = imp_awards c.args.place c.args.now c.args.offers.now c.args.imp in
    let front : List Award = imp_awards c.args.place c.args.now (take j c.args.offers.now) c.args.imp in
    let rest : List Award = imp_awards c.args.place c.args.now (drop (j + 1) c.args.offers.now) c.args.imp in
    let is : all ≡ (front ++ w ∷ []) ++ rest =
    sold_here c.args.place c.args.now c.args.offers.now c.args.imp j _ c.is_award.result w c.is_award.ensures c.if-is_award.true c.award_of.ensures c.loop-offer-test.true in
    let none : w.end ≡ None = ap (λ (v : Award). v.end) c.award_of.ensures in
    let less : committed_in (start ++ front) w.campaign + w.charge.0 ≤ committed_in (start ++ all) w.campaign = fits_in (start ++ front) rest (start ++ all) w (joined start all front rest w is) none in
    let within : committed_in (start ++ all) w.campaign ≤ budget_at c.args.ledger.now.budgets w.campaign = c.requires.fits w.campaign in
    let here : committed_in (start ++ front) w.campaign + w.charge.0 ≤ budget_at c.args.ledger.now.budgets w.campaign = omega arith in
    subst (λ (ws : List Award). committed_in ws w.campaign + w.charge.0 ≤ budget_at c.loop-offer.ledger.budgets w.campaign) (sym c.loop-offer.invariant.awards)
    (subst (λ (bs : List Units). committed_in (start ++ front) w.campaign + w.charge.0 ≤ budget_at bs w.campaign) (sym c.loop-offer.invariant.budgets) here)
