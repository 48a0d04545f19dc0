use Rattle.std.proofs.Common.{◌≡◌, ◌++◌, length, refl, List, Option, Some, None, [], sym, ap, ◌∙◌, subst, append-nil}
use Rattle.std.specs.List.{slice_get}
use Rattle.std.specs.Option.{option_map_or}
use Rattle.std.proofs.lemmas.Option.{slice_get_past, slice_get_read}
use Rattle.std.specs.Result.{OnOk}
use Rattle.adx_units.specs.declared.offer.Offer.{Offer}
use Rattle.outbox.specs.Posts.{offer_post}
use Rattle.outbox.proofs.asking.push_lost_bid.Goals as goal

pub returns-in-None-clause-more : goal.returns-in-None-clause-more
returns-in-None-clause-more c =
    let none : None ≡ slice_get c.args.ask.now.offers c.args.texts.now.bid = subst (λ (os : List Offer). None ≡ slice_get os c.args.texts.now.bid) c.as_slice.ensures (sym (slice_get_past c.as_slice.result.now c.args.texts.now.bid c.in-None.ensures.lookup.3)) in
    sym (append-nil c.args.out.now.items)
    ∙ ap (λ (o : Option Offer). c.args.out.now.items ++ option_map_or (offer_post c.args.place c.args.ask.now c.args.texts.now) o []) none

pub returns-in-Some-clause-more : goal.returns-in-Some-clause-more
returns-in-Some-clause-more c =
    let some : Some c.in-Some.offer.now ≡ slice_get c.args.ask.now.offers c.args.texts.now.bid = subst (λ (os : List Offer). Some c.in-Some.offer.now ≡ slice_get os c.args.texts.now.bid) c.as_slice.ensures (sym (slice_get_read c.as_slice.result.now (length c.as_slice.result.now) c.args.texts.now.bid c.in-Some.offer.now refl c.in-Some.ensures.lookup.3.0 c.in-Some.ensures.lookup.1)) in
    subst (λ (o : Option Offer). OnOk c.push_lost_offer.result (c.push_lost_offer.new.out.items ≡ c.args.out.now.items ++ option_map_or (offer_post c.args.place c.args.ask.now c.args.texts.now) o [])) some c.push_lost_offer.ensures.more
