use Rattle.std.proofs.Common.{◌∙◌, refl}
use Rattle.formats.proofs.Lists.{adds_next}
use Rattle.day_entries.proofs.writing.gather_offers.Goals as goal

pub loop-offer-preserved : goal.loop-offer-preserved
loop-offer-preserved c = (adds_next c.loop-offer.offer-index _ _ c.loop-offer-test.true refl c.loop-offer.invariant.0 c.in_ok-gather_offer.ensures.ok, c.gather_offer.ensures.marked ∙ c.loop-offer.invariant.1)
