-- What the sink took and what is left of the bytes are what they were.
use Rattle.std.proofs.Common.{◌≡◌, ◌-◌, length, drop}
use Rattle.std.specs.Io.KnownBytes.{append_known}
use Rattle.exchange_http.proofs.outgoing.Outgoing.send.Given as goal

abbrev pub invariant-pieces : goal.invariant-pieces
invariant-pieces g l = record {
  held : append_known (g.K.Sink.held l.self.sink) (drop l.self.put l.self.bytes.items) ≡ append_known (g.K.Sink.held l.initial.self.sink) (drop l.initial.self.put l.initial.self.bytes.items);
  faults : g.K.Sink.faults l.self.sink ≡ g.K.Sink.faults l.initial.self.sink;
  place : g.K.Sink.place l.self.sink ≡ g.K.Sink.place l.initial.self.sink;
  waiting : l.self.waiting ≡ l.initial.self.waiting;
  settled : l.self.settled.value ≡ l.initial.self.settled.value;
}

abbrev pub decreases-pieces : goal.decreases-pieces
decreases-pieces g l = length l.self.bytes.items - l.self.put
