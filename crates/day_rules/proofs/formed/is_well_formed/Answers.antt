use Rattle.std.proofs.Common.{◌≢◌, ◌≤◌, ℕ, List, length, sym, ◌∙◌, subst, arith, Decides}
use Rattle.std.specs.List.{AllPairs}
use Rattle.std.proofs.lemmas.Bool.{false≢true}
use Rattle.adx_units.specs.declared.offer.Offer.{Offer}
use Rattle.day_rules.specs.declared.ask.Kept.{Kept}
use Rattle.day_rules.specs.Asks.{AreKeptTexts}
use Rattle.day_rules.proofs.AskTests.{offers_told}
use Rattle.day_rules.proofs.formed.is_well_formed.Goals as goal

pub returns-then-not-are_offers : goal.returns-then-not-are_offers
returns-then-not-are_offers c =
    let told = offers_told c.args.campaigns (length c.args.ask.now.imps) c.len-2.result c.args.ask.now.offers c.as_slice-2.result.now c.are_offers.result c.len-2.ensures c.as_slice-2.ensures c.are_offers.ensures in (
      λ no. absurd (false≢true no),
      λ w. absurd (false≢true (sym c.if-not-are_offers.true ∙ told.1 w.offers)),
    )

abbrev AreImps : List (List ℕ) → Type 0
AreImps ids = (1 ≤ length ids) × (length ids ≤ 16) × AllPairs (λ i j. i ≢ j) ids

pub returns : goal.returns
returns c =
    let told = offers_told c.args.campaigns (length c.args.ask.now.imps) c.len-2.result c.args.ask.now.offers c.as_slice-2.result.now c.are_offers.result c.len-2.ensures c.as_slice-2.ensures c.are_offers.ensures in
    let imps : AreImps c.args.ask.now.imps = subst AreImps c.as_slice.ensures (c.are_imps.ensures.0 c.if-not-are_imps.false) in
    let texts : Decides c.are_kept_texts.result (AreKeptTexts c.args.ask.now.offers c.args.ask.now.kept) =
    subst (λ (ks : List Kept). Decides c.are_kept_texts.result (AreKeptTexts c.args.ask.now.offers ks)) c.as_slice-4.ensures
    (subst (λ (os : List Offer). Decides c.are_kept_texts.result (AreKeptTexts os c.as_slice-4.result.now)) c.as_slice-3.ensures c.are_kept_texts.ensures) in (
      λ yes. record {
        some_imp = imps.0;
        few_imps = imps.1;
        distinct = imps.2;
        few_offers = omega (arith, c.if-len-gt-MAX_OFFERS.false, c.len.ensures);
        now = omega (arith, c.if-ask.false);
        offers = told.0 c.if-not-are_offers.false;
        kept = texts.0 yes;
      },
      λ w. texts.1 w.kept,
    )
