-- The sink took one piece more.
use Rattle.std.proofs.Common.{◌≡◌, ◌+◌, List, ℕ, drop, ◌∙◌, subst}
use Rattle.std.specs.Io.KnownBytes.{append_known}
use Rattle.exchange_http.proofs.Gathered.{put_on}
use Rattle.exchange_http.proofs.outgoing.Outgoing.send.Goals as goal

pub pieces-preserved : goal.pieces-preserved
pieces-preserved g c =
    let i = c.pieces.invariant in
    let put = c.pieces.self.put in
    let now = g.K.Sink.held c.put.new.self in
    let was = g.K.Sink.held c.pieces.self.sink in
    let took = c.in-Ok.ensures.taken in
    let value = c.deref.ensures.value in
    let step = put_on was now c.deref.result.now put c.in-Ok.count took in
    let held : append_known now (drop (put + c.in-Ok.count) c.pieces.self.bytes.items) ≡ append_known was (drop put c.pieces.self.bytes.items) =
    subst (λ (items : List ℕ). append_known now (drop (put + c.in-Ok.count) items) ≡ append_known was (drop put items)) value step in record {
      held = held ∙ i.held;
      faults = c.in-Ok.ensures.cause.passed ∙ i.faults;
      place = c.in-Ok.ensures.same ∙ i.place;
      waiting = i.waiting;
      settled = i.settled;
    }
