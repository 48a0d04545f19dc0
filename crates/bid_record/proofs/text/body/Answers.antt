use Rattle.std.proofs.Common.{subst, sym, List, ℕ}
use Rattle.bid_record.proofs.Bodies.{Keeps, body_ends, body_fails, body_goes_on, shorter}
use Rattle.bid_record.proofs.text.body.Goals as goal

pub returns-in-Some : goal.returns-in-Some
returns-in-Some c = body_ends c.args.bytes.now c.body.text.items c.body.left.now c.in-Some.rest.now c.body.invariant c.in-Some.ensures

pub returns-in_default-spelled : goal.returns-in_default-spelled
returns-in_default-spelled c = body_fails c.args.bytes.now c.body.text.items c.body.left.now c.body.invariant c.in_default.ensures c.in_default-spelled.ensures

pub body-preserved : goal.body-preserved
body-preserved c =
    subst (λ (text : List ℕ). Keeps c.args.bytes.now text c.in-Some-spelled.behind.now) (sym c.in_ok-push.ensures.items)
    (body_goes_on c.args.bytes.now c.body.text.items c.body.left.now c.in-Some-spelled.byte c.in-Some-spelled.behind.now c.body.invariant c.in_default.ensures c.in-Some-spelled.ensures)

pub body-smaller : goal.body-smaller
body-smaller c = shorter c.body.left.now c.in-Some-spelled.byte c.in-Some-spelled.behind.now c.in-Some-spelled.ensures
