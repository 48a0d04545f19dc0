-- The messages of the posts so far were sent.
use Rattle.std.proofs.Common.{take}
use Rattle.two_books.proofs.Played.{Stands}
use Rattle.two_books.proofs.playing.play_all.Given as goal

abbrev pub invariant-loop-post : goal.invariant-loop-post
invariant-loop-post l = Stands (take l.post-index l.posts) l.fates l.fn.messages.items l.messages.items l.replies.items l.fn.bidder l.bidder
