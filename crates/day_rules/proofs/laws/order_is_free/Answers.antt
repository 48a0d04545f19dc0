use Rattle.day_rules.proofs.Orders.{order_is_free}
use Rattle.day_rules.proofs.laws.order_is_free.Goals as goal

pub returns : goal.returns
returns c = order_is_free
