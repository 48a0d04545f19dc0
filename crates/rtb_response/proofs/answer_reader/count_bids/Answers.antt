use Rattle.std.proofs.Common.{[], length, arith, ap, ◌∙◌}
use Rattle.adx_json.specs.View.{tree_of, trees_of}
use Rattle.adx_json.proofs.Items.{left_is}
use Rattle.rtb_response.proofs.Counts.{fails_here, goes_on, length_is, counted_on, counted_all, each_has, seat_fault, seats_fault}
use Rattle.rtb_response.proofs.answer_reader.count_bids.Goals as goal

pub loop-seat-preserved : goal.loop-seat-preserved
loop-seat-preserved c =
    let t = tree_of c.seat-item.result in
    let found = c.in-Some.ensures {u = tt} in
    let before = c.loop-seat.invariant in
    let left = left_is c.args.seats.now c.loop-seat.seat-index c.seat-item.result c.loop-seat-test.true c.seat-item.is in
    let most = c.min-count.ensures in
    record {
      small = omega arith;
      count = counted_on c.loop-seat.count (length c.in-Some.bids.now) c.min.result c.min-count.result _ t _ _ left (length_is c.in-Some.bids.now t found.items) c.min.ensures c.min-count.ensures before.count;
      each = goes_on t _ _ _ left found.some before.each;
    }

pub returns-in_default : goal.returns-in_default
returns-in_default c =
    let left = left_is c.args.seats.now c.loop-seat.seat-index c.seat-item.result c.loop-seat-test.true c.seat-item.is in
    let none = c.in_default.ensures {u = tt} in
    record {
      count = tt;
      each = tt;
      none = seats_fault [] (trees_of c.args.seats.now) ∙ ap seat_fault (fails_here (tree_of c.seat-item.result) _ _ _ left none.none c.loop-seat.invariant.each);
    }

pub returns : goal.returns
returns c =
    let before = c.loop-seat.invariant in
    record {
      count = counted_all c.args.seats.now c.loop-seat.seat-index c.loop-seat.count _ c.loop-seat-test.false before.small before.count;
      each = seats_fault [] (trees_of c.args.seats.now) ∙ ap seat_fault (each_has c.args.seats.now c.loop-seat.seat-index _ c.loop-seat-test.false before.each);
      none = tt;
    }
