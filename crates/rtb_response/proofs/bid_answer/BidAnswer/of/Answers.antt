-- An answer that passes each test, and what it says.
use Rattle.std.proofs.Common.{◌≡◌, [], codes, is_some, nat_le, None, refl, sym, subst, rules, arith}
use Rattle.std.specs.List.{AllZip}
use Rattle.std.proofs.lemmas.Grind.{common_steps}
use Rattle.adx_json.specs.Rows.{first_among}
use Rattle.adx_json.specs.Values.{given, items_in, text_in, is_text, is_absent_or, is_list_if_given}
use Rattle.adx_json.specs.View.{tree_of, trees_of}
use Rattle.adx_json.proofs.Listing.{Say, passes, passes_over}
use Rattle.rtb_response.specs.Answers.{bid_count, seat_rows}
use Rattle.rtb_response.specs.declared.bid.TheConstants.{MOST_BIDS}
use Rattle.rtb_response.specs.declared.fault.AnswerFault.TheVariants.{NoId, OtherId, OtherCurrency, BadField, TooManyBids}
use Rattle.rtb_response.specs.declared.fault.Field.TheVariants.{Seatbid}
use Rattle.rtb_response.proofs.Counts.{few_bids, few_told}
use Rattle.rtb_response.proofs.bid_answer.BidAnswer.of.Goals as goal

pub invariant_of-result : goal.invariant_of-result
invariant_of-result c =
    let counted = c.in-Some-count_bids.ensures {u = tt} in
    record { few = few_bids c.from-seats.result c.in_ok-seats_of.field-0.items (trees_of c.items_in-seats.result.now) c.in-Some-count_bids.count c.from-seats.ensures (c.in_ok-seats_of.ensures {u = tt}) counted.count c.if-count-gt-MOST_BIDS.false }

pub returns : goal.returns
returns c =
    let t = tree_of c.args.tree.now in
    let trees = trees_of c.items_in-seats.result.now in
    let seats = items_in (given (codes "seatbid") t) in
    let same : trees ≡ seats = first_of (search rules, grind (arith, common_steps)) in
    let counted = c.in-Some-count_bids.ensures {u = tt} in
    let none : first_among (λ others. seat_rows) [] seats ≡ None = subst (λ ts. first_among (λ others. seat_rows) [] ts ≡ None) same counted.each in
    let says : AllZip (Say seat_rows) seats c.from-seats.result =
    subst (AllZip (Say seat_rows) seats) (sym c.from-seats.ensures) (subst (λ ts. AllZip (Say seat_rows) ts c.in_ok-seats_of.field-0.items) same (c.in_ok-seats_of.ensures {u = tt})) in (
      passes (is_some (text_in (given (codes "id") t))) NoId (first_of (search rules, grind (arith, common_steps)))
          (passes (is_text c.args.id.now (given (codes "id") t)) OtherId (first_of (search rules, grind (arith, common_steps)))
          (passes (is_absent_or (codes "USD") (given (codes "cur") t)) OtherCurrency (first_of (search rules, grind (arith, common_steps)))
          (passes (is_list_if_given (given (codes "seatbid") t)) (BadField Seatbid) (first_of (search rules, grind (arith, common_steps)))
          (passes_over (first_among (λ others. seat_rows) [] seats) none
          (passes (nat_le (bid_count seats) MOST_BIDS) TooManyBids (few_told trees seats c.in-Some-count_bids.count same counted.count c.if-count-gt-MOST_BIDS.false) refl))))),
      (tt, (tt, (tt, (tt, (says, (tt, (first_of (search rules, grind (arith, common_steps)), tt))))))),
    )
