use Rattle.std.proofs.Common.{ap}
use Rattle.shared_desk.specs.Callers.{DeskPass}
use Rattle.exchange_serving.proofs.Begun.{begun, once_split}
use Rattle.exchange_serving.proofs.beginning.share.Goals as goal

pub split-requires-clause-of : goal.split-requires-clause-of
split-requires-clause-of g c = (ap (λ (p : DeskPass). p.turnstile) c.in_ok-sharing.ensures.first, ap (λ (p : DeskPass). p.fixed) c.in_ok-sharing.ensures.first)

pub split-requires-clause-first : goal.split-requires-clause-first
split-requires-clause-first g c = ap (λ (p : DeskPass). p.is_first) c.in_ok-sharing.ensures.first

pub split-requires-2-clause-of : goal.split-requires-2-clause-of
split-requires-2-clause-of g c =
    let s = c.in_ok-sharing in let d = c.args.desk.desk in
    (once_split s.sharing.0 d.history d.faults s.sharing.1 c.split.new.pass c.split.new.pass c.in_ok-board.board c.in_ok-board.board s.ensures.first c.in_ok-board.ensures.out).0

pub split-requires-2-clause-first : goal.split-requires-2-clause-first
split-requires-2-clause-first g c =
    let s = c.in_ok-sharing in let d = c.args.desk.desk in
    (once_split s.sharing.0 d.history d.faults s.sharing.1 c.split.new.pass c.split.new.pass c.in_ok-board.board c.in_ok-board.board s.ensures.first c.in_ok-board.ensures.out).1

pub returns-clause-begun : goal.returns-clause-begun
returns-clause-begun g c =
    let s = c.in_ok-sharing in let d = c.args.desk.desk in
    begun s.sharing.0 d.history d.faults s.sharing.1 c.split.new.pass c.split-2.new.pass c.in_ok-board.board c.in_ok-mail.mail s.ensures.first
    c.in_ok-board.ensures.out c.in_ok-board.ensures.pass c.in_ok-mail.ensures.out c.in_ok-mail.ensures.pass
