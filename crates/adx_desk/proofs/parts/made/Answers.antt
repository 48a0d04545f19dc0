use Rattle.std.proofs.Common.{List, sym, subst}
use Rattle.day_rules.specs.declared.entry.Entry.{Entry}
use Rattle.day_rules.specs.Legal.{IsLegal}
use Rattle.day_rules.specs.Terms.{AreTerms, Terms}
use Rattle.day_rules.proofs.Histories.{legal_none}
use Rattle.adx_desk.proofs.Rosters.{roster_terms}
use Rattle.adx_desk.proofs.parts.made.Goals as goal

pub returns-clause-legal : goal.returns-clause-legal
returns-clause-legal c =
    let day = c.in_ok-day.day in
    record {
      terms_ok = subst (λ (t : Terms). AreTerms t) (sym c.in_ok-day.ensures.terms) (roster_terms c.args.roster.now);
      legal = subst (λ (h : List Entry). IsLegal day.terms h) (sym c.in_ok-day.ensures.history) (legal_none day.terms);
    }
