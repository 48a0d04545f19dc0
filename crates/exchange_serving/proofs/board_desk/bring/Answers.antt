-- By what the board brought, and by what a pass has seen.
use Rattle.std.proofs.Common.{refl, sym, ◌∙◌, subst}
use Rattle.adx_desk.specs.Histories.{DeskTerms}
use Rattle.day_rules.specs.DayState.{IsDay}
use Rattle.day_rules.specs.Legal.{IsLegal}
use Rattle.meter_board.specs.Words.{list_read, seen}
use Rattle.shared_desk.specs.Passes.{viewed}
use Rattle.exchange_serving.proofs.Shown.{brought, first_of, of_still, saw}
use Rattle.exchange_serving.proofs.board_desk.bring.Goals as goal

pub bring-brought-requires-clause-desk : goal.bring-brought-requires-clause-desk
bring-brought-requires-clause-desk g c = let a = c.args.own.now in first_of g.J.DayNames.first a.pass.now a.shared.now c.requires.beside a.of

pub returns-clause-runs : goal.returns-clause-runs
returns-clause-runs g c =
    let a = c.args.own.now in let b = c.bring-brought.ensures in
    saw a.roster a.roster a.pass.now c.bring-brought.new.pass (viewed (list_read a.view.now) (seen a.view.now)) (viewed (list_read c.bring-brought.new.reader) (seen c.bring-brought.new.reader))
    refl b.pass b.turns b.later b.faults b.read (b.reader ∙ sym c.requires.reader)

pub returns-clause-legal : goal.returns-clause-legal
returns-clause-legal g c = subst (λ (t : DeskTerms). IsLegal t.day c.bring-brought.new.pass.seen) c.args.own.now.opened c.recall.ensures.right.legal.legal

pub returns-clause-meters : goal.returns-clause-meters
returns-clause-meters g c =
    let b = c.bring-brought in
    let day = subst (λ (t : DeskTerms). IsDay t.day b.new.pass.seen) c.args.own.now.opened c.recall.ensures.right.legal in
    brought _ b.new.pass.seen (seen b.new.reader) b.result day b.ensures.meters b.ensures.shown

pub invariant_of-own : goal.invariant_of-own
invariant_of-own g c = record { of = of_still c.args.own.now.pass.now c.bring-brought.new.pass c.args.own.now.shared.now c.bring-brought.ensures.pass c.args.own.now.of; opened = c.args.own.now.opened }
