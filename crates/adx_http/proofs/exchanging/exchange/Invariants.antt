-- The link is lent as it is.
use Rattle.adx_http.proofs.exchanging.exchange.Given as goal

abbrev pub ghosts-hear_answer : goal.ghosts-hear_answer
ghosts-hear_answer g a = record { talk = g.L.Link.exchanges a.link.now; plan = g.L.Link.course a.link.now }
