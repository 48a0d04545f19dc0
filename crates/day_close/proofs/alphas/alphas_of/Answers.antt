use Rattle.day_close.proofs.Made.{small_money}
use Rattle.day_close.proofs.alphas.alphas_of.Goals as goal

pub moneys_of-requires-clause-small : goal.moneys_of-requires-clause-small
moneys_of-requires-clause-small c = small_money c.args.day.now c.as_slice-campaigns.result.now c.as_slice.result.now c.requires c.as_slice-campaigns.ensures c.as_slice.ensures
