-- When an ask is what settling it again makes of it, over a book. This project's own.
-- Example: two offers with the reasons 0 and 102 are, where with both read as admitted the first is chosen again.
use Rattle.std.specs.Prelude.{◌≡◌, ℕ, ◌≤◌, List, map}
use Rattle.adx_units.specs.declared.offer.Offer.{Offer}
use Rattle.allocator_core.specs.Choice.{settled_offers}
use Rattle.allocator_core.specs.Settling.{budgets_in, standing_in}
use Rattle.campaign_book.specs.Accounts.{Account}
use Rattle.day_rules.specs.declared.ask.Ask.{Ask}
use Rattle.day_rules.specs.Asks.{admitted_again, settled_kept}

-- the offers are what they settle to again, each decided one read as admitted
abbrev pub AreSettledOffers : List Account → List Offer → Type 0
AreSettledOffers book offers = settled_offers (budgets_in book) (standing_in book) (map admitted_again offers) ≡ offers

-- the ask is no earlier than a moment, has that first award's number, and neither its offers nor its texts change
pub record IsSettledBy (book : List Account) (time number : ℕ) (a : Ask) : Type 0 where
  pub moment : time ≤ a.now
  pub first : a.first ≡ number
  pub offers : AreSettledOffers book a.offers
  pub kept : settled_kept a.offers a.kept ≡ a.kept
