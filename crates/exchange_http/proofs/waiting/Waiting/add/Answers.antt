-- A notice joined the others, or they are as they were.
use Rattle.day_rules.specs.Laws.{Arrival}
use Rattle.exchange_http.proofs.BatchCalls.{joins}
use Rattle.exchange_http.proofs.waiting.Waiting.add.Goals as goal

pub invariant_of-self : goal.invariant_of-self
invariant_of-self c =
    let x : Arrival = record { kind = c.args.kind; auction = c.args.auction.now; award = c.args.award } in
    let w = c.args.self.now in
    let now = joins c.add.result w.batch c.add.new.self x c.add.ensures w.waits w.few w.apart in
    record { waits = now.0; few = now.1; apart = now.2; room = w.room }
