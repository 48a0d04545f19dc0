-- The messages of posts, one after the other.
use Rattle.std.proofs.Common.{arith}
use Rattle.two_books.proofs.Played.{end_stands, next_stands, next_stops}
use Rattle.two_books.proofs.playing.play_all.Goals as goal

pub returns-in-Err : goal.returns-in-Err
returns-in-Err c =
    next_stops c.args.posts.now c.loop-post.post-index c.post-item.result c.args.fates.now c.args.messages.now.items c.loop-post.messages.items c.play.new.messages.items
    c.loop-post.replies.items c.play.new.replies.items c.args.bidder.now c.loop-post.bidder c.play.new.bidder c.in-Err.wanting
    (omega (arith, c.loop-post-test.true)) c.post-item.is c.loop-post.invariant c.in-Err.ensures

pub loop-post-preserved : goal.loop-post-preserved
loop-post-preserved c =
    next_stands c.args.posts.now c.loop-post.post-index c.post-item.result c.args.fates.now c.args.messages.now.items c.loop-post.messages.items c.play.new.messages.items
    c.loop-post.replies.items c.play.new.replies.items c.args.bidder.now c.loop-post.bidder c.play.new.bidder c.in-Ok.field-0
    (omega (arith, c.loop-post-test.true)) c.post-item.is c.loop-post.invariant c.in-Ok.ensures

pub returns : goal.returns
returns c =
    end_stands c.args.posts.now c.loop-post.post-index c.args.fates.now c.args.messages.now.items c.loop-post.messages.items c.loop-post.replies.items c.args.bidder.now c.loop-post.bidder tt
    (omega (arith, c.loop-post-test.false)) c.loop-post.invariant
