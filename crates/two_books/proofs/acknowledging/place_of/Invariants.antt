-- None of the posts so far is sent as the message.
use Rattle.std.proofs.Common.{◌≡◌}
use Rattle.two_books.proofs.Decided.{NoneBefore}
use Rattle.two_books.proofs.acknowledging.place_of.Given as goal

abbrev pub invariant-loop-post : goal.invariant-loop-post
invariant-loop-post l = (l.place ≡ l.post-index) × NoneBefore l.request l.posts l.post-index
