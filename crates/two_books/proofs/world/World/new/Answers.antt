-- A new world holds, and settles.
use Rattle.two_books.proofs.Equal.{has_sums, new_both}
use Rattle.two_books.proofs.world.World.new.Goals as goal

pub returns-clause-sums : goal.returns-clause-sums
returns-clause-sums c =
    let both = new_both c.args.roster c.args.bidder c.in_ok-books.books c.in_ok-books.ensures c.requires.none in has_sums c.in_ok-books.books both.0 both.1
