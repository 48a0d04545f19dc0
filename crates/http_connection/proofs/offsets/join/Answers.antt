-- The bytes that are joined come after the kept ones.
use Rattle.std.proofs.Common.{◌+◌, ◌∙◌, arith}
use Rattle.http_connection.proofs.Ranges.{joined_here, joined_moved, part_above, part_drop}
use Rattle.http_connection.proofs.offsets.join.Goals as goal

pub returns-then-offsets-clause-kept : goal.returns-then-offsets-clause-kept
returns-then-offsets-clause-kept c =
    let o = c.requires.ordered in
    joined_here c.args.bytes.now c.args.offsets.start c.args.offsets.joined c.args.offsets.at c.args.offsets.end c.args.count o.start o.at o.end c.requires.there c.if-offsets.true

pub returns-clause-kept : goal.returns-clause-kept
returns-clause-kept c =
    let o = c.requires.ordered in
    joined_moved c.args.bytes.now c.move_down.new.bytes c.args.offsets.start c.args.offsets.joined c.args.offsets.at c.args.offsets.end c.args.count o.start o.joined o.at o.end c.requires.there
    c.move_down.ensures.size (c.move_down.ensures.below c.args.offsets.joined (omega arith)) c.move_down.ensures.moved

pub returns-clause-pending : goal.returns-clause-pending
returns-clause-pending c =
    let o = c.requires.ordered in let a = o.joined in
    part_above c.move_down.new.bytes c.args.bytes.now (c.args.offsets.at + c.args.count) c.args.offsets.end (omega arith) (c.move_down.ensures.above (c.args.offsets.at + c.args.count) (omega arith))
    ∙ part_drop c.args.bytes.now c.args.offsets.at c.args.count c.args.offsets.end
