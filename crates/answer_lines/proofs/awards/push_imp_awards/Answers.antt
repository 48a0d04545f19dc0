-- One more bid.
use Rattle.std.proofs.Common.{◌≡◌, ◌+◌, List, [], ◌∷◌, ◌++◌, take, get_or, length, string_bytes, sym, ap, ◌∙◌, length-append, arith, subst}
use Rattle.adx_units.specs.declared.offer.Offer.{Offer}
use Rattle.allocator_core.specs.Choice.{no_offer}
use Rattle.day_rules.specs.Books.{awarded_offers}
use Rattle.answer_lines.specs.Steps.{awards_behind}
use Rattle.answer_lines.proofs.Sold.{awards_more, awarded_more}
use Rattle.answer_lines.proofs.awards.push_imp_awards.Goals as goal

pub loop-offer-preserved : goal.loop-offer-preserved
loop-offer-preserved c =
    let ask = c.args.ask.now in
    let i = c.loop-offer.offer-index in
    let front = awarded_offers (take i ask.offers) c.args.imp in
    let xs = c.as_slice-offer-items.result.now in
    let own = awarded_offers (get_or xs i no_offer ∷ []) c.args.imp in
    let old = string_bytes c.args.out.now in
    let more : awarded_offers (take (i + 1) ask.offers) c.args.imp ≡ front ++ own =
    subst (λ (os : List Offer). awarded_offers (take (i + 1) os) c.args.imp ≡ awarded_offers (take i os) c.args.imp ++ own) c.as_slice-offer-items.ensures (awarded_more xs c.args.imp i no_offer (omega arith)) in
    let long : length (awarded_offers (take (i + 1) ask.offers) c.args.imp) ≡ length front + length own = ap (λ (xs : List Offer). length xs) more ∙ length-append front own in
    record {
      written =
          awards_more c.args.campaigns.now ask c.args.others c.loop-offer.count front own old (string_bytes c.loop-offer.out) (string_bytes c.push_if_sold.new.out) c.loop-offer.invariant.written c.loop-offer.invariant.counted c.in_ok-count.ensures.written
          ∙ ap (λ (xs : List Offer). old ++ awards_behind c.args.campaigns.now ask c.args.others xs) (sym more);
      counted = omega (arith, c.in_ok-count.ensures.count, c.loop-offer.invariant.counted, long);
      few = c.in_ok-count.ensures.few;
    }
