use Rattle.std.specs.Prelude.{Some}
use Rattle.meter_board.specs.Words.{list_of}
use Rattle.exchange_serving.specs.Lanes.{lists_of}
use Rattle.exchange_serving.proofs.serving.serve_connections.Given as goal

-- the day as its workers begin it
abbrev pub ghosts-serve_shared_desk : goal.ghosts-serve_shared_desk
ghosts-serve_shared_desk g a = record {
  first = a.first;
  book = list_of a.board.board;
  link = Some a.mail.link;
  faults = g.A.Acceptor.faults a.acceptor;
  roster = Some a.roster.now;
  moment = g.C.Clock.moment a.clock.now;
  workers = lists_of a.lists.items;
}
