-- The outbox of an exchange follows its day.
use Rattle.std.proofs.Common.{refl}
use Rattle.two_books.proofs.Fronts.{followed_day, follows_at, follows_keep}
use Rattle.two_books.proofs.exchange.Exchange.follow.Goals as goal

pub invariant_of-self : goal.invariant_of-self
invariant_of-self c =
    follows_keep _ _ _ _ _ _ c.self.invariant
    (followed_day _ c.self.inside.day _ _ _ _ _ c.split_at.ensures.back c.followed.ensures c.entries.ensures.history c.entries.ensures.legal c.self.invariant.followed c.follow.ensures)

pub returns : goal.returns
returns c =
    follows_at c.follow.result _ _ _ c.self.view_is refl refl
    (followed_day _ c.self.inside.day _ _ _ _ _ c.split_at.ensures.back c.followed.ensures c.entries.ensures.history c.entries.ensures.legal c.self.invariant.followed c.follow.ensures)
