-- An exchange whose day was given an entry.
use Rattle.std.proofs.Common.{Option, subst, sym}
use Rattle.std.specs.Prelude.{IfSome}
use Rattle.day_rules.specs.declared.entry.Entry.{Entry}
use Rattle.day_rules.specs.Legal.{MayFollow}
use Rattle.two_books.specs.Exchanges.{ExchangeState}
use Rattle.two_books.proofs.Fronts.{added_on}
use Rattle.two_books.proofs.exchange.Exchange.add.Goals as goal

pub invariant_of-self-in-Some : goal.invariant_of-self-in-Some
invariant_of-self-in-Some c =
    added_on _ c.self.inside.day c.prepare.new.self c.commit.new.self _ _ c.self.invariant
    (subst (λ (s : ExchangeState). MayFollow s.day.terms s.day.history c.in-Some.entry) (sym c.self.view_is)
    (subst (λ (o : Option Entry). IfSome o (MayFollow c.args.self.now.day.terms c.args.self.now.day.history)) c.in-Some.is c.requires.follows))
    c.prepare.ensures.terms c.prepare.ensures.history c.commit.ensures.terms c.commit.ensures.history

pub returns-in-Ok-clause-legal : goal.returns-in-Ok-clause-legal
returns-in-Ok-clause-legal c =
    (added_on _ c.self.inside.day c.prepare.new.self c.commit.new.self _ _ c.self.invariant
    (subst (λ (s : ExchangeState). MayFollow s.day.terms s.day.history c.in-Some.entry) (sym c.self.view_is)
    (subst (λ (o : Option Entry). IfSome o (MayFollow c.args.self.now.day.terms c.args.self.now.day.history)) c.in-Some.is c.requires.follows))
    c.prepare.ensures.terms c.prepare.ensures.history c.commit.ensures.terms c.commit.ensures.history).day
