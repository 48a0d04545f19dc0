-- The terms of a roster.
use Rattle.std.proofs.Common.{◌∙◌, map, ap, subst, sym}
use Rattle.day_rules.specs.Terms.{AreTerms, terms_of}
use Rattle.deal_floor.specs.declared.campaign.Campaign.{Campaign}
use Rattle.two_books.proofs.Rosters.{roster_terms}
use Rattle.two_books.proofs.opening.day_of.Goals as goal

pub new-requires : goal.new-requires
new-requires c =
    subst (λ budgets. AreTerms (terms_of budgets (record { auctions = c.args.roster.now.limits.auctions; bids = c.args.roster.now.limits.bids; text = c.args.roster.now.limits.text })))
    (sym (c.as_slice-2.ensures.value ∙ c.in_ok-budgets.ensures ∙ ap (map (λ (x : Campaign). x.budget)) c.as_slice.ensures)) (roster_terms c.args.roster.now)
