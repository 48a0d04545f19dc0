use Rattle.std.proofs.Common.{◌+◌, ap, sym, ◌∙◌, Ok, Err, refl}
use Rattle.std.specs.Prelude.{Some, None}
use Rattle.adx_links.specs.Told.{pair_by, told_by}
use Rattle.adx_links.proofs.Answered.{accepts_pair, accepts_none, accepts_fault}
use Rattle.adx_links.proofs.Keeping.{takes, comes_none, comes_fault}
use Rattle.adx_links.proofs.lobby.Lobby.take.Goals as goal

pub invariant_of-self-in-Ok-Some : goal.invariant_of-self-in-Ok-Some
invariant_of-self-in-Ok-Some g c =
    let tells = told_by g.A.Acceptor g.A.In.Source g.A.Out.Sink in
    let s = c.self.inside in let k = c.self.invariant in let a = c.accept.ensures in
    let t = accepts_pair g.A.Acceptor.faults g.A.Acceptor.is_over g.A.Acceptor.pairs (pair_by g.A.In.Source g.A.Out.Sink) s.acceptor c.accept.new.self c.accept.result c.in-Ok-Some.pair
    (c.in-Ok-Some.is ∙ ap Ok c.in-Ok-Some.field-0-is) a.gives a.over a.cause in (
      (λ i. k.0 i + 1) ∙ sym c.add.ensures.total,
      k.1,
      takes g.B.Hall.served g.B.Hall.first g.B.Hall.others g.B.Hall.faults (tells s.acceptor) (tells c.accept.new.self) s.pass c.split.new.pass s.taken s.given s.intake s.wanting
          (Ok (Some (pair_by g.A.In.Source g.A.Out.Sink c.in-Ok-Some.pair))) (pair_by g.A.In.Source g.A.Out.Sink c.in-Ok-Some.pair) refl c.in_ok-pass.ensures.out t.gives t.over t.cause k.2,
    )

pub invariant_of-self-in-Ok-None : goal.invariant_of-self-in-Ok-None
invariant_of-self-in-Ok-None g c =
    let tells = told_by g.A.Acceptor g.A.In.Source g.A.Out.Sink in
    let s = c.self.inside in let k = c.self.invariant in let a = c.accept.ensures in
    let t = accepts_none g.A.Acceptor.faults g.A.Acceptor.is_over g.A.Acceptor.pairs (pair_by g.A.In.Source g.A.Out.Sink) s.acceptor c.accept.new.self c.accept.result
    (c.in-Ok-None.is ∙ ap Ok c.in-Ok-None.field-0-is) a.gives a.over a.cause in (
      k.0,
      k.1,
      comes_none g.B.Hall.served g.B.Hall.first g.B.Hall.others g.B.Hall.faults (tells s.acceptor) (tells c.accept.new.self) s.pass c.split.new.pass c.join.new.into c.in_ok-pass.pass s.taken s.given s.intake c.over-self-inside.result s.wanting
          (Ok None) refl c.in_ok-pass.ensures.out c.in_ok-pass.ensures.pass c.join.ensures.joined c.over-self-inside.ensures t.gives t.over t.cause k.2,
    )

pub invariant_of-self-in-Err : goal.invariant_of-self-in-Err
invariant_of-self-in-Err g c =
    let tells = told_by g.A.Acceptor g.A.In.Source g.A.Out.Sink in
    let s = c.self.inside in let k = c.self.invariant in let a = c.accept.ensures in
    let t = accepts_fault g.A.Acceptor.faults g.A.Acceptor.is_over g.A.Acceptor.pairs (pair_by g.A.In.Source g.A.Out.Sink) s.acceptor c.accept.new.self c.accept.result c.in-Err.field-0 c.in-Err.is a.gives a.over a.cause in (
      k.0,
      k.1,
      comes_fault g.B.Hall.served g.B.Hall.first g.B.Hall.others g.B.Hall.faults (tells s.acceptor) (tells c.accept.new.self) s.pass c.split.new.pass c.join-in-Err.new.into c.in_ok-pass.pass s.taken s.given s.intake s.wanting
          (Err c.in-Err.field-0) c.in-Err.field-0 refl c.in_ok-pass.ensures.out c.in_ok-pass.ensures.pass c.join-in-Err.ensures.joined t.gives t.cause k.2,
    )
