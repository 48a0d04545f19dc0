-- The history was looked at.
use Rattle.std.proofs.Common.{◌∙◌}
use Rattle.meter_board.specs.Words.{list_read, seen}
use Rattle.shared_desk.specs.Passes.{viewed}
use Rattle.exchange_serving.proofs.Shown.{beside_looked, beside_still}
use Rattle.exchange_serving.proofs.board_desk.BoardDeskDayDesk.push_books.Goals as goal

pub returns-clause-looks : goal.returns-clause-looks
returns-clause-looks g c =
    let a = c.args.self.now.own in let b = c.push_books.new.self in
    let v = viewed (list_read a.view.now) (seen a.view.now) in let w = viewed (list_read b.view.now) (seen b.view.now) in
    beside_looked a.roster b.roster a.pass.now b.pass.now v w c.args.self.now.short c.push_books.ensures.looks

pub invariant_of-self : goal.invariant_of-self
invariant_of-self g c =
    let a = c.args.self.now.own in let b = c.push_books.new.self in
    let ran = c.push_books.ensures.looks.1 in
    record { beside = beside_still g.J.DayNames.first a.pass.now b.pass.now ran.gains.same c.args.self.now.beside; reader = ran.origin ∙ c.args.self.now.reader }
