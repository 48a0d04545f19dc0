use Rattle.std.proofs.Common.{List, sym, ◌∙◌, subst, arith, Decides}
use Rattle.std.proofs.lemmas.Bool.{false≢true}
use Rattle.adx_units.specs.declared.offer.Offer.{Offer}
use Rattle.day_rules.specs.Again.{AreSettledOffers}
use Rattle.day_rules.proofs.AgainSettled.{kept_told}
use Rattle.day_rules.proofs.again.is_settled.Goals as goal

pub returns-then-not-stay_whole : goal.returns-then-not-stay_whole
returns-then-not-stay_whole c =
    let told = kept_told c.args.ask.now.offers c.as_slice.result.now c.args.ask.now.kept c.as_slice-2.result.now c.stay_whole.result c.as_slice.ensures c.as_slice-2.ensures c.stay_whole.ensures in (
      λ no. absurd (false≢true no),
      λ w. absurd (false≢true (sym c.if-not-stay_whole.true ∙ told.1 w.kept)),
    )

pub returns : goal.returns
returns c =
    let told = kept_told c.args.ask.now.offers c.as_slice.result.now c.args.ask.now.kept c.as_slice-2.result.now c.stay_whole.result c.as_slice.ensures c.as_slice-2.ensures c.stay_whole.ensures in
    let offers : Decides c.are_settled.result (AreSettledOffers c.args.book.now c.args.ask.now.offers) =
    subst (λ (os : List Offer). Decides c.are_settled.result (AreSettledOffers c.args.book.now os)) c.as_slice-3.ensures c.are_settled.ensures in (
      λ yes. record {
        moment = omega (arith, c.if-ask-moment.false);
        first = omega (arith, c.if-ask-first.false);
        offers = offers.0 yes;
        kept = told.0 c.if-not-stay_whole.false;
      },
      λ w. offers.1 w.offers,
    )
