use Rattle.day_journal.specs.Tails.{WithAtMostOne}
use Rattle.day_journal.proofs.Keeping.{keeps_stand, with_first}
use Rattle.day_journal.proofs.Moments.{started}
use Rattle.day_journal.proofs.journal.Journal.append.Goals as goal

pub returns-then-size-gt-GREATEST_SIZE-clause-any_moment : goal.returns-then-size-gt-GREATEST_SIZE-clause-any_moment
returns-then-size-gt-GREATEST_SIZE-clause-any_moment g c ps t k =
    let D = g.D.Disk in
    let p = c.args.frame.now.payload in
    started D.moment D.left_since c.args.disk.now (WithAtMostOne c.args.self.now.format ps t p) (λ f left. with_first c.args.self.now.format ps t p f (keeps_stand _ _ ps t k f (g.met.D.Disk.only_now c.args.disk.now f left)))
