use Rattle.std.proofs.Common.{◌≡◌, ◌⊎◌, ⊎_elim, inl, inr, Bool, true, false, ◌∙◌, arith}
use Rattle.adx_links.specs.Told.{told_by}
use Rattle.adx_links.proofs.Keeping.{leaves}
use Rattle.adx_links.proofs.lobby.Lobby.leave.Goals.{then-wanting, else-wanting}
use Rattle.adx_links.proofs.lobby.Lobby.leave.Goals as goal

more_by : {a b : Bool} → a ≡ true → (b ≡ a) ⊎ (a ≡ false) → b ≡ true
more_by e h = ⊎_elim (λ s. s ∙ e) (λ f. absurd (cc (e, f))) h

pub returns : goal.returns
returns g c =
    let tells = told_by g.A.Acceptor g.A.In.Source g.A.Out.Sink in
    let s = c.self.inside in let k = c.self.invariant in
    let more : s.wanting ≡ true → c.if-wanting.result ≡ true = λ e. more_by e (elim c.if-wanting.branch [ then-wanting w ↦ inl w.result-is | else-wanting w ↦ inr w.if-wanting.false ]) in
    let even : s.taken ≡ s.given = omega (arith, k.0, k.1, c.requires.even, c.audit.ensures.whole c.requires.taken, c.audit-2.ensures.whole c.requires.given) in
    leaves g.B.Hall.served g.B.Hall.first g.B.Hall.others g.B.Hall.faults (tells s.acceptor) s.pass s.taken s.given s.intake s.wanting c.if-wanting.result
    even
    more k.2
