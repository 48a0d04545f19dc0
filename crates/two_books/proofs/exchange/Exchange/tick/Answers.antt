-- An exchange whose time has come to a moment.
use Rattle.std.proofs.Common.{ap}
use Rattle.day_rules.specs.Replies.{tick}
use Rattle.two_books.specs.Exchanges.{ExchangeState}
use Rattle.two_books.proofs.Fronts.{called_at}
use Rattle.two_books.proofs.exchange.Exchange.tick.Goals as goal

pub returns-clause-called : goal.returns-clause-called
returns-clause-called c =
    called_at (tick c.args.now) _ c.add.result c.self.inside.day c.args.self.now c.add.new.self (ap (λ (s : ExchangeState). s.day) c.self.view_is)
    c.plan_tick-answer.ensures.entry c.add.ensures.added c.add.ensures.legal
