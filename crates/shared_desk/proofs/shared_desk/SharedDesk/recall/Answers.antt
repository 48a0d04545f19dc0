-- By what the pass has.
use Rattle.shared_desk.proofs.Taken.{right_pass}
use Rattle.shared_desk.proofs.shared_desk.SharedDesk.recall.Goals as goal

pub returns : goal.returns
returns g c =
    let opened = c.args.self.now.fixed in let has = c.recall.ensures in
    record { right = right_pass opened c.args.pass.now (has.legal opened c.requires.of.1) (has.right opened c.requires.of.1) has.stand }
