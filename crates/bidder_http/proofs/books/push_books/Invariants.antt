use Rattle.std.proofs.Common.{◌≡◌, ◌++◌, drop, string_bytes}
use Rattle.std.specs.List.{enumerate_from, flat_map}
use Rattle.bidder_http.specs.Books.{book_line}
use Rattle.bidder_http.proofs.books.push_books.Given as goal

-- what was written and the lines that are left give all of them
abbrev pub invariant-loop-place : goal.invariant-loop-place
invariant-loop-place l =
    string_bytes l.out ++ flat_map (book_line l.bidder.rows) (enumerate_from l.place (drop l.place l.prices))
    ≡ string_bytes l.initial.out ++ flat_map (book_line l.bidder.rows) (enumerate_from 0 l.prices)
