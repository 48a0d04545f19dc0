-- The first post that is sent as the message, and none.
use Rattle.std.proofs.Common.{sym, subst, arith}
use Rattle.two_books.specs.FoundPosts.{FindsPost, KnowsPost}
use Rattle.two_books.proofs.Decided.{finds_here, finds_none, none_more}
use Rattle.two_books.proofs.acknowledging.place_of.Goals as goal

pub returns-in-Ok-true : goal.returns-in-Ok-true
returns-in-Ok-true c =
    subst (FindsPost c.args.request.now c.args.posts.now) (sym c.loop-post.invariant.0)
    (finds_here c.args.request.now c.args.posts.now c.loop-post.post-index c.post-item.result (omega (arith, c.loop-post-test.true)) c.post-item.is c.loop-post.invariant.1
    (subst (KnowsPost c.args.request.now c.post-item.result) c.in-Ok-true.field-0-test c.in-Ok-true.ensures))

pub loop-post-preserved : goal.loop-post-preserved
loop-post-preserved c = (
  omega (arith, c.loop-post.invariant.0),
  none_more c.args.request.now c.args.posts.now c.loop-post.post-index c.post-item.result (omega (arith, c.loop-post-test.true)) c.post-item.is c.loop-post.invariant.1
      (subst (KnowsPost c.args.request.now c.post-item.result) c.in-Ok-false.field-0-test c.in-Ok-false.ensures),
)

pub returns : goal.returns
returns c =
    subst (FindsPost c.args.request.now c.args.posts.now) (sym c.loop-post.invariant.0)
    (finds_none c.args.request.now c.args.posts.now c.loop-post.post-index (omega arith) (omega (arith, c.loop-post-test.false)) c.loop-post.invariant.1)
