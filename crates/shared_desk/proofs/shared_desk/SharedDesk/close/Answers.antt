-- By what the pass has.
use Rattle.shared_desk.proofs.Taken.{right_pass}
use Rattle.shared_desk.proofs.shared_desk.SharedDesk.close.Goals as goal

pub returns-clause-right : goal.returns-clause-right
returns-clause-right g c =
    let opened = c.args.self.fixed in let has = c.recall.ensures in
    right_pass opened c.args.pass (has.legal opened c.requires.of.1) (has.right opened c.requires.of.1) has.stand
