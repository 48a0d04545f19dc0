-- One more impression, and all.
use Rattle.std.proofs.Common.{◌≡◌, ℕ, ◌+◌, List, ◌++◌, length, string_bytes, sym, ap, ◌∙◌, length-append, arith}
use Rattle.std.specs.List.{flat_map, range_with_len}
use Rattle.adx_units.specs.declared.offer.Offer.{Offer}
use Rattle.day_rules.specs.Books.{awarded_offers}
use Rattle.answer_lines.specs.Steps.{awards_behind}
use Rattle.answer_lines.proofs.Joined.{over_more}
use Rattle.answer_lines.proofs.Sold.{awards_more, awards_whole}
use Rattle.answer_lines.proofs.awards.push_awards.Goals as goal

pub loop-imp-preserved : goal.loop-imp-preserved
loop-imp-preserved c =
    let ask = c.args.ask.now in
    let imp = c.loop-imp.imp in
    let front = flat_map (awarded_offers ask.offers) (range_with_len 0 imp) in
    let own = awarded_offers ask.offers imp in
    let old = string_bytes c.args.out.now in
    let more : flat_map (awarded_offers ask.offers) (range_with_len 0 (imp + 1)) ≡ front ++ own = over_more (awarded_offers ask.offers) imp in
    let long : length (flat_map (awarded_offers ask.offers) (range_with_len 0 (imp + 1))) ≡ length front + length own = ap (λ (xs : List Offer). length xs) more ∙ length-append front own in
    record {
      written =
          awards_more c.args.campaigns.now ask 0 c.loop-imp.count front own old (string_bytes c.loop-imp.out) (string_bytes c.push_imp_awards.new.out) c.loop-imp.invariant.written (omega (arith, c.loop-imp.invariant.counted)) c.in_ok-count.ensures.written
          ∙ ap (λ (xs : List Offer). old ++ awards_behind c.args.campaigns.now ask 0 xs) (sym more);
      counted = omega (arith, c.in_ok-count.ensures.count, c.loop-imp.invariant.counted, long);
      few = c.in_ok-count.ensures.few;
    }

pub returns : goal.returns
returns c =
    let ask = c.args.ask.now in
    let old = string_bytes c.args.out.now in
    let all : c.loop-imp.imp ≡ length ask.imps = omega arith in
    c.loop-imp.invariant.written
    ∙ ap (λ (n : ℕ). old ++ awards_behind c.args.campaigns.now ask 0 (flat_map (awarded_offers ask.offers) (range_with_len 0 n))) all
    ∙ ap (λ (b : List ℕ). old ++ b) (awards_whole c.args.campaigns.now ask)
