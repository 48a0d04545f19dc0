use Rattle.std.proofs.Common.{◌+◌, sym, ◌∙◌, refl, true}
use Rattle.adx_links.specs.Told.{pair_by, told_by}
use Rattle.adx_links.proofs.Answered.{regains}
use Rattle.adx_links.proofs.Keeping.{gives_back}
use Rattle.adx_links.proofs.lobby.Lobby.give.Goals as goal

pub invariant_of-self : goal.invariant_of-self
invariant_of-self g c =
    let tells = told_by g.A.Acceptor g.A.In.Source g.A.Out.Sink in
    let s = c.self.inside in let k = c.self.invariant in let d = c.done.ensures in
    let t = regains g.A.Acceptor.faults g.A.Acceptor.is_over g.A.Acceptor.pairs (pair_by g.A.In.Source g.A.Out.Sink) s.acceptor c.done.new.self c.args.served.1 d.back d.over d.faults in (
      k.0,
      (λ i. k.1 i + 1) ∙ sym c.add.ensures.total,
      gives_back g.B.Hall.served g.B.Hall.first g.B.Hall.others g.B.Hall.faults (tells s.acceptor) (tells c.done.new.self) s.pass c.join.new.into c.args.served.0 s.taken s.given s.intake s.wanting true c.args.wanting
          (pair_by g.A.In.Source g.A.Out.Sink c.args.served.1)
          c.if-self.false c.join.ensures.joined c.join.ensures.one (λ e. refl) (λ e. refl) c.requires.served t.back t.over t.faults k.2,
    )

pub invariant_of-self-else-wanting : goal.invariant_of-self-else-wanting
invariant_of-self-else-wanting g c =
    let tells = told_by g.A.Acceptor g.A.In.Source g.A.Out.Sink in
    let s = c.self.inside in let k = c.self.invariant in let d = c.done.ensures in
    let t = regains g.A.Acceptor.faults g.A.Acceptor.is_over g.A.Acceptor.pairs (pair_by g.A.In.Source g.A.Out.Sink) s.acceptor c.done.new.self c.args.served.1 d.back d.over d.faults in (
      k.0,
      (λ i. k.1 i + 1) ∙ sym c.add.ensures.total,
      gives_back g.B.Hall.served g.B.Hall.first g.B.Hall.others g.B.Hall.faults (tells s.acceptor) (tells c.done.new.self) s.pass c.join.new.into c.args.served.0 s.taken s.given s.intake s.wanting s.wanting c.args.wanting
          (pair_by g.A.In.Source g.A.Out.Sink c.args.served.1)
          c.if-self.false c.join.ensures.joined c.join.ensures.one (λ e. e) (λ e. absurd (cc (e, c.if-wanting.false))) c.requires.served t.back t.over t.faults k.2,
    )
