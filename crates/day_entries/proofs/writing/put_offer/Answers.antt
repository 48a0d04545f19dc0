use Rattle.formats.proofs.Laws.{adds_both, adds_made}
use Rattle.day_entries.specs.Entries.{offer, offer_of_parts, parts_of_offer}
use Rattle.day_entries.proofs.writing.put_offer.Goals as goal

pub returns : goal.returns
unfolding offer
returns c =
    adds_made offer_of_parts parts_of_offer c.args.offer.now (adds_both c.put_small.ensures.added (adds_both c.put_long.ensures.added (adds_both c.put_wide.ensures.added (adds_both c.put_long-2.ensures.added c.put_short.ensures))))
