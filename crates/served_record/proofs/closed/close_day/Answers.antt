use Rattle.std.proofs.Common.{arith}
use Rattle.dual_cert.proofs.Duality.{weak_duality}
use Rattle.served_record.proofs.Whole.{earned_same}
use Rattle.served_record.proofs.closed.close_day.Goals as goal

pub returns-clause-hindsight : goal.returns-clause-hindsight
returns-clause-hindsight c = λ picks.
    omega (arith, earned_same c.args.roster.now.day c.args.roster.now.campaigns c.args.entries.now c.in_ok-record.record picks c.in_ok-record.ensures.served, weak_duality c.in_ok-record.record c.in_ok-cert.cert picks c.in_ok-cert.ensures.certificate)
