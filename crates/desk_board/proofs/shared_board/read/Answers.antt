use Rattle.meter_board.specs.Words.{published, seen}
use Rattle.desk_board.proofs.Boards.{read_whole}
use Rattle.desk_board.proofs.shared_board.read.Goals as goal

pub returns-then-meters-told-clause-whole : goal.returns-then-meters-told-clause-whole
returns-then-meters-told-clause-whole g c =
    let m = c.read-meters.result in let told = c.tell-told.result in
    read_whole (published c.args.board.now.board) (seen c.tell-told.new.reader) (seen c.read-meters.new.self) m told
    c.tell-told.ensures.count c.tell-told.ensures.told c.read-meters.ensures.later c.read-meters.ensures.meters c.if-meters-told.true
