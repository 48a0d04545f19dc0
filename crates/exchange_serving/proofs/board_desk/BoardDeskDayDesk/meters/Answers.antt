-- They are those of what the pass has seen then, or memory was refused.
use Rattle.meter_board.specs.Words.{list_read, seen}
use Rattle.shared_desk.specs.Passes.{viewed}
use Rattle.exchange_serving.proofs.Shown.{reads_now, reads_older}
use Rattle.exchange_serving.proofs.board_desk.BoardDeskDayDesk.meters.Goals as goal

pub returns-in-Some-clause-reads : goal.returns-in-Some-clause-reads
returns-in-Some-clause-reads g c =
    let a = c.args.self.now.own in let b = c.bring.new.own in
    let v = viewed (list_read a.view.now) (seen a.view.now) in let w = viewed (list_read b.view.now) (seen b.view.now) in
    reads_now a.roster b.roster a.pass.now b.pass.now v w c.args.self.now.short c.in-Some.meters c.bring.ensures.runs c.bring.ensures.legal c.in-Some.ensures.read c.in-Some.ensures.meters

pub returns-in-None-clause-reads : goal.returns-in-None-clause-reads
returns-in-None-clause-reads g c =
    let a = c.args.self.now.own in let m = c.bring.new.own in let b = c.meters.new.self in
    let u = viewed (list_read a.view.now) (seen a.view.now) in let v = viewed (list_read m.view.now) (seen m.view.now) in
    let w = viewed (list_read b.view.now) (seen b.view.now) in
    reads_older a.roster m.roster b.roster a.pass.now m.pass.now b.pass.now u v w c.args.self.now.short c.meters.result c.bring.ensures.runs c.meters.ensures.reads
