use Rattle.std.proofs.Common.{◌∙◌, ap, sym, refl, Ok}
use Rattle.adx_links.specs.Told.{pair_by, told_by}
use Rattle.adx_links.proofs.Answered.{accepts_pair, accepts_none, accepts_fault, regains}
use Rattle.command_bidder.proofs.Returned.{gets_back, still_back}
use Rattle.command_bidder.proofs.turn.take_turn.Goals as goal

pub returns-in-Ok-Some : goal.returns-in-Ok-Some
returns-in-Ok-Some g c =
    let tells = told_by g.A.Acceptor g.A.In.Source g.A.Out.Sink in let pair = pair_by g.A.In.Source g.A.Out.Sink in
    let a = c.accept.ensures in let d = c.done.ensures in
    let came = c.in-Ok-Some.came in let left = c.serve_pair-end.new.pair in
    let t = accepts_pair g.A.Acceptor.faults g.A.Acceptor.is_over g.A.Acceptor.pairs pair c.args.acceptor.now c.accept.new.self c.accept.result came
    (c.in-Ok-Some.is ∙ ap Ok c.in-Ok-Some.field-0-is) a.gives a.over a.cause in
    let r = regains g.A.Acceptor.faults g.A.Acceptor.is_over g.A.Acceptor.pairs pair c.accept.new.self c.done.new.self left d.back d.over d.faults in record {
      connection = record { came = pair came; left = pair left; end = c.serve_pair-end.result };
      served = c.serve_pair-end.ensures.served;
      back = gets_back (tells c.args.acceptor.now).pairs (tells c.accept.new.self).pairs (tells c.done.new.self).pairs
          (record { came = pair came; left = pair left; end = c.serve_pair-end.result }) t.gives r.back;
      short_is = sym c.ends_short.ensures;
      faults = r.faults ∙ t.cause.passed;
    }

pub returns-in-Ok-None : goal.returns-in-Ok-None
returns-in-Ok-None g c =
    let tells = told_by g.A.Acceptor g.A.In.Source g.A.Out.Sink in let a = c.accept.ensures in
    let t = accepts_none g.A.Acceptor.faults g.A.Acceptor.is_over g.A.Acceptor.pairs (pair_by g.A.In.Source g.A.Out.Sink) c.args.acceptor.now c.accept.new.self c.accept.result
    (c.in-Ok-None.is ∙ ap Ok c.in-Ok-None.field-0-is) a.gives a.over a.cause in
    (record { unchanged = refl {a = c.args.bidder.now}; back = still_back (tells c.args.acceptor.now).pairs (tells c.accept.new.self).pairs t.gives }, (t.over, t.cause.passed))

pub returns-in-Err : goal.returns-in-Err
returns-in-Err g c =
    let tells = told_by g.A.Acceptor g.A.In.Source g.A.Out.Sink in let a = c.accept.ensures in
    let t = accepts_fault g.A.Acceptor.faults g.A.Acceptor.is_over g.A.Acceptor.pairs (pair_by g.A.In.Source g.A.Out.Sink) c.args.acceptor.now c.accept.new.self c.accept.result c.in-Err.field-0
    c.in-Err.is a.gives a.over a.cause in
    (record { unchanged = refl {a = c.args.bidder.now}; back = still_back (tells c.args.acceptor.now).pairs (tells c.accept.new.self).pairs t.gives }, t.cause.failed)
