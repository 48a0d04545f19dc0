use Rattle.std.proofs.Common.{◌≡◌, ℕ, List, length, sym, ap, ◌∙◌, subst, inl, arith}
use Rattle.std.specs.List.{All}
use Rattle.std.proofs.lemmas.List.Elements.{All-weaker}
use Rattle.adx_units.specs.declared.offer.Offer.{Offer}
use Rattle.day_rules.specs.Asks.{AreKeptTexts, IsAdmittedOffer, IsOffer}
use Rattle.day_rules.proofs.Texts.{each_text}
use Rattle.shared_desk_tests.proofs.days.ask.Goals as goal

pub returns-clause-formed : goal.returns-clause-formed
returns-clause-formed c =
    let one : length c.from.result ≡ 1 = ap (λ (t : List (List ℕ)). length t) c.from.ensures ∙ c.in_ok-imps.ensures in
    let many : length c.from-2.result ≡ length c.args.bids.now = ap (λ (t : List Offer). length t) c.from-2.ensures ∙ c.in_ok-offers.ensures.long in
    record {
      some_imp = omega arith;
      few_imps = omega arith;
      distinct = λ i j d before below. absurd (omega arith);
      few_offers = omega (arith, c.requires.few);
      now = c.requires.now;
      offers = subst (λ (n : ℕ). All (IsOffer 2 n) c.from-2.result) (sym one) (subst (All (IsOffer 2 1)) (sym c.from-2.ensures) (All-weaker (IsAdmittedOffer 2 1) (IsOffer 2 1) (λ o h. inl h) c.in_ok-offers.field-0.items c.in_ok-offers.ensures.admitted));
      kept = subst (AreKeptTexts c.from-2.result) (sym c.from-3.ensures) (each_text c.from-2.result c.in_ok-texts.field-0.items (length c.args.bids.now) many c.in_ok-texts.ensures.long c.in_ok-texts.ensures.bids c.in_ok-texts.ensures.short);
    }
