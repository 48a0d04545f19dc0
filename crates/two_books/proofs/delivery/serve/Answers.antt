-- A message that is served over a source and a sink in memory.
use Rattle.two_books.proofs.Delivered.{served, unserved}
use Rattle.two_books.proofs.delivery.serve.Goals as goal

pub returns-then-is_whole : goal.returns-then-is_whole
returns-then-is_whole c = served _ _ _ _ _ _ _ _ _ _ c.requires.sink c.is_whole.ensures c.if-is_whole.true c.serve_bidder-end.ensures.ends c.taken.ensures c.copy_of.ensures

pub returns-else-is_whole : goal.returns-else-is_whole
returns-else-is_whole c = unserved _ _ _ _ _ _ _ c.requires.sink c.serve_bidder-end.ensures.ends
