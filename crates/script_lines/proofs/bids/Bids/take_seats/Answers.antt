use Rattle.std.proofs.Common.{List, [], ◌∷◌, ◌++◌, append-nil, ap, sym, subst, ◌∙◌, arith}
use mathlib.Core.List.{reverse}
use Rattle.rtb_response.specs.declared.bid_answer.SeatBid.{SeatBid}
use Rattle.script_lines.specs.Parts.{AreOf}
use Rattle.script_lines.proofs.Taking.{count_on, seat_fits, seat_on}
use Rattle.script_lines.proofs.Turned.{none_taken, one_taken}
use Rattle.script_lines.proofs.bids.Bids.take_seats.Goals as goal

pub seats-init : goal.seats-init
seats-init c = (
  [],
  none_taken c.args.answer.seats c.reverse.new.self.items (c.reverse.ensures.items ∙ ap reverse c.into_vec-left.ensures),
  omega arith,
  λ bids h. subst (λ xs. AreOf c.args.sale.request.now c.args.sale.roster.now.campaigns xs c.args.self.now.offers.items c.args.self.now.kept.items) (sym (append-nil bids)) h,
)

pub take_seat-requires : goal.take_seat-requires
take_seat-requires c =
    let before = c.seats.invariant in
    record {
      few = seat_fits c.args.bidder c.args.answer.bidid c.args.answer.seats before.0 c.in-Some.seat (reverse c.pop.new.self.items) _ _ _
          (one_taken before.0 c.seats.left.items c.pop.new.self.items c.args.answer.seats c.in-Some.seat c.in-Some.ensures.items before.1) before.2 c.requires.few;
    }

pub seats-preserved : goal.seats-preserved
seats-preserved c =
    let before = c.seats.invariant in
    let taken : List SeatBid = before.0 in
    let took = c.in_ok-take_seat.ensures {u = tt} in (
      taken ++ c.in-Some.seat ∷ [],
      one_taken taken c.seats.left.items c.pop.new.self.items c.args.answer.seats c.in-Some.seat c.in-Some.ensures.items before.1,
      count_on c.args.bidder c.args.answer.bidid taken c.in-Some.seat _ _ _ before.2 took.counted,
      λ bids h. seat_on c.args.sale.request.now c.args.sale.roster.now.campaigns c.args.bidder c.args.answer.bidid bids taken c.in-Some.seat _ _ (took.taken _ (before.3 bids h)),
    )
