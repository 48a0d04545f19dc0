-- The walk from its beginning to its end.
use Rattle.std.proofs.Common.{[], sym, append-nil, string_bytes, eqb}
use Rattle.command_reconcile.proofs.Walked.{falls, grown, our_number, their_number, walk_end, walk_start, walk_step}
use Rattle.command_reconcile.proofs.Written.{lines_step}
use Rattle.command_reconcile.proofs.walk.push_differences.Goals as goal

pub pairs-init : goal.pairs-init
pairs-init c = ([], walk_start c.args.exchange.now c.args.bidder.now c.requires.exchange c.requires.bidder, sym (append-nil (string_bytes c.args.out.now)))

pub pairs-preserved : goal.pairs-preserved
pairs-preserved c =
    let exchange = c.args.exchange.now in
    let bidder = c.args.bidder.now in
    let xs = c.pairs.ours.now in
    let ys = c.pairs.theirs.now in
    let ds = c.pairs.invariant.0 in
    let walked = c.pairs.invariant.1 in
    let bill = c.in-Some.bill.now in
    let least = c.in-Some.ensures.some in
    let n = c.cut-our_number.result.0 in
    let m = c.cut-their_number.result.0 in
    let ours = c.cut-our_number.ensures in
    let theirs = c.cut-their_number.ensures in (
      grown (eqb n m) bill ds,
      walk_step exchange bidder xs ys ds walked bill least c.cut-our_number.result.1.now c.cut-their_number.result.1.now n m ours theirs,
      lines_step exchange bidder ds bill n m (string_bytes c.args.out.now) (string_bytes c.pairs.out) (string_bytes c.push_difference.new.out)
          (our_number exchange bidder xs ys ds walked bill least c.cut-our_number.result.1.now c.cut-their_number.result.1.now n m ours theirs)
          (their_number exchange bidder xs ys ds walked bill least c.cut-our_number.result.1.now c.cut-their_number.result.1.now n m ours theirs)
          c.pairs.invariant.2 c.in_ok-push_difference.ensures,
    )

pub pairs-smaller : goal.pairs-smaller
pairs-smaller c =
    falls c.args.exchange.now c.args.bidder.now c.pairs.ours.now c.pairs.theirs.now c.pairs.invariant.0 c.pairs.invariant.1 c.in-Some.bill.now c.in-Some.ensures.some
    c.cut-our_number.result.1.now c.cut-their_number.result.1.now c.cut-our_number.result.0 c.cut-their_number.result.0 c.cut-our_number.ensures c.cut-their_number.ensures

pub returns : goal.returns
returns c =
    let none = c.in_default.ensures.none in (
      c.pairs.invariant.0,
      walk_end c.args.exchange.now c.args.bidder.now c.pairs.ours.now c.pairs.theirs.now c.pairs.invariant.0 none.0 none.1 c.pairs.invariant.1,
      c.pairs.invariant.2,
    )
