-- One more take.
use Rattle.adx_http.proofs.Heard.{hears_more}
use Rattle.adx_http.proofs.link_end.LinkEndSource.take.Goals as goal

pub invariant_of-self : goal.invariant_of-self
invariant_of-self g c =
    hears_more g.B.Lent.talk (g.L.Link.exchanges c.self.inside.link) (g.L.Link.exchanges c.take.new.self) g.B.Lent.plan (g.L.Link.course c.self.inside.link) (g.L.Link.course c.take.new.self)
    c.take.new.out c.take.result c.self.invariant c.take.ensures.answers c.take.ensures.takes
