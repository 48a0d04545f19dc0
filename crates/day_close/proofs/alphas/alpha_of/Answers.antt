use Rattle.std.proofs.Common.{arith}
use Rattle.campaign_book.proofs.Slabs.{bounded}
use Rattle.day_close.proofs.alphas.alpha_of.Goals as goal

pub overflow_sub-result : goal.overflow_sub-result
overflow_sub-result c = omega (arith, c.discount.ensures, bounded c.args.slab)
