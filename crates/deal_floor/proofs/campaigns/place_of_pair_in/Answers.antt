use Rattle.std.proofs.Common.{◌<◌, Some, length, sym, ap, ◌∙◌, subst}
use Rattle.deal_floor.proofs.Sought.{absent_pair, pair_found, place_low}
use Rattle.deal_floor.proofs.campaigns.place_of_pair_in.Goals as goal

pub returns-in-Ok-clause-value : goal.returns-in-Ok-clause-value
returns-in-Ok-clause-value c =
    ap Some c.read.ensures ∙ sym (pair_found c.args.campaigns.now c.args.order.now c.requires.sorted c.args.seat.now c.args.cid.now _ c.in-Ok.ensures.found)

pub returns-in-Ok-clause-below : goal.returns-in-Ok-clause-below
returns-in-Ok-clause-below c =
    subst (λ n. n < length c.args.campaigns.now) (sym c.read.ensures) (place_low c.args.campaigns.now c.args.order.now c.requires.sorted c.args.seat.now c.args.cid.now _ c.in-Ok.ensures.found)

pub returns-in-Err-clause-value : goal.returns-in-Err-clause-value
returns-in-Err-clause-value c =
    sym (absent_pair c.args.campaigns.now c.args.order.now c.requires.sorted c.args.seat.now c.args.cid.now _ c.in-Err.ensures.absent)
