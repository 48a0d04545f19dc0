use Rattle.std.proofs.Common.{rules, map}
use Rattle.std.proofs.lemmas.Fn.{always_returns_same}
use Rattle.deal_floor.specs.Order.{pair_cmp, pair_at}
use Rattle.deal_floor.specs.Pairs.{Pair, pair_of}
use Rattle.deal_floor.proofs.Order.{searched}
use Rattle.deal_floor.proofs.campaigns.search.Goals as goal

pub returns : goal.returns
returns c =
    let facts = c.binary_search_by.ensures in
    let pairs = map pair_of c.args.campaigns.now in
    let pair : Pair = (c.args.seat.now, c.args.cid.now) in
    let by_pair = facts.position (λ place. pair_cmp (pair_at pairs place) pair) (always_returns_same _ _ _ (λ a r f called. search rules)) in
    searched pairs c.args.order.now c.requires.sorted pair c.binary_search_by.result facts.bound by_pair
