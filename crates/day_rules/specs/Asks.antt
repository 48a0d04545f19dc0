-- Asks that are well formed, and asks as a day settles them. This project's own.
use Rattle.std.specs.Prelude.{◌≡◌, ◌≢◌, ◌⊎◌, ℕ, ◌^◌, ◌<◌, ◌≤◌, max, List, [], map, length, Bool, false, not, nat_le, ◌==◌, ◌&&◌, ◌||◌, if◌then◌else◌, Option, Some, None, slice_get, All, AllPairs, Any}
use Rattle.std.specs.List.{filter_map}
use Rattle.std.specs.Option.{option_map_or}
use Rattle.adx_units.specs.declared.offer.Offer.{Offer}
use Rattle.adx_units.specs.declared.offer.TheConstants.{ADMITTED}
use Rattle.allocator_core.specs.Choice.{settled_offers}
use Rattle.allocator_core.specs.declared.reason.TheConstants.{AWARDED, LOST_TO_HIGHER, OVER_BUDGET}
use Rattle.day_rules.specs.declared.ask.Ask.{Ask}
use Rattle.day_rules.specs.declared.ask.Kept.{Kept}
use Rattle.day_rules.specs.declared.entry.Entry.{Entry}
use Rattle.day_rules.specs.declared.limits.TheConstants.{MAX_IMPS, MAX_OFFERS, MAX_LIFE, MAX_KEPT, NO_IMP}
use Rattle.day_rules.specs.Books.{committed, latest, made, text_size}
use Rattle.day_rules.specs.Terms.{Terms, budgets_after}

-- the reason is one that only the day gives
abbrev pub IsDecided : ℕ → Type 0
IsDecided reason = (reason ≡ AWARDED) ⊎ ((reason ≡ LOST_TO_HIGHER) ⊎ (reason ≡ OVER_BUDGET))

-- the reason is one that only the day gives, or the mark of an admitted bid
abbrev pub IsOfAdmitted : ℕ → Type 0
IsOfAdmitted reason = IsDecided reason ⊎ (reason ≡ ADMITTED)

-- the reason is one of admission's: what isn't whole or known (3), blocked seats (104), a deal that
-- doesn't fit (4), below the floor (100) or the deal's floor (101), blocked advertisers (205) or categories (209)
abbrev pub IsRefusal : ℕ → Type 0
IsRefusal reason =
    (reason ≡ 3) ⊎ ((reason ≡ 104) ⊎ ((reason ≡ 4) ⊎ ((reason ≡ 100) ⊎ ((reason ≡ 101) ⊎ ((reason ≡ 205) ⊎ (reason ≡ 209))))))

-- an admitted bid on one of the impressions
pub record IsAdmittedOffer (campaigns imps : ℕ) (o : Offer) : Type 0 where
  pub reason : IsOfAdmitted o.reason
  pub imp : o.imp < imps
  pub campaign : o.campaign < campaigns
  pub positive : 1 ≤ o.charge.0
  pub within : o.charge.0 ≤ 10 ^ 12
  pub lives : 1 ≤ o.life
  pub ends : o.life ≤ MAX_LIFE

-- a refused bid, on one of the impressions or on none
pub record IsRefusedOffer (imps : ℕ) (o : Offer) : Type 0 where
  pub reason : IsRefusal o.reason
  pub imp : (o.imp < imps) ⊎ (o.imp ≡ NO_IMP)
  pub campaign : o.campaign ≡ 0
  pub charge : o.charge.0 ≡ 0
  pub life : o.life ≡ 0

-- a bid as admission or the day left it
abbrev pub IsOffer : ℕ → ℕ → Offer → Type 0
IsOffer campaigns imps o = IsAdmittedOffer campaigns imps o ⊎ IsRefusedOffer imps o

-- a bid whose texts are needed: it was awarded, or still may be
abbrev pub NeedsTexts : Offer → Type 0
NeedsTexts o = (o.reason ≡ AWARDED) ⊎ (o.reason ≡ ADMITTED)

-- the texts of the bid at a place, of at most 32,768 bytes
abbrev pub AreTextsOf : ℕ → Kept → Type 0
AreTextsOf place k = (k.bid ≡ place) × (text_size k ≤ MAX_KEPT)

-- kept texts in the order of bids, no bid twice, and those of each bid that needs them
pub record AreKeptTexts (offers : List Offer) (kept : List Kept) : Type 0 where
  pub ordered : AllPairs (λ k l. k.bid < l.bid) kept
  pub placed : All (λ k. k.bid < length offers) kept
  pub needed : (place : ℕ) (o : Offer) → slice_get offers place ≡ Some o → NeedsTexts o → Any (AreTextsOf place) kept

-- an ask that a day with so many campaigns takes
pub record IsWellFormed (campaigns : ℕ) (a : Ask) : Type 0 where
  pub some_imp : 1 ≤ length a.imps
  pub few_imps : length a.imps ≤ MAX_IMPS
  pub distinct : AllPairs (λ i j. i ≢ j) a.imps
  pub few_offers : length a.offers ≤ MAX_OFFERS
  pub now : a.now < 2 ^ 63
  pub offers : All (IsOffer campaigns (length a.imps)) a.offers
  pub kept : AreKeptTexts a.offers a.kept

-- no offer is decided yet
abbrev pub IsUndecided : Ask → Type 0
IsUndecided a = All (λ o. (o.reason ≢ AWARDED) × (o.reason ≢ LOST_TO_HIGHER) × (o.reason ≢ OVER_BUDGET)) a.offers

-- there is no byte
abbrev pub is_empty : List ℕ → Bool
is_empty bytes = length bytes == 0

-- the texts are those of an awarded bid
abbrev pub is_winners : List Offer → Kept → Bool
is_winners offers k = option_map_or (λ o. o.reason == AWARDED) (slice_get offers k.bid) false

-- the bid wants to be notified of its loss, and its texts fit
abbrev pub may_be_told : Kept → Bool
may_be_told k = not (is_empty k.lurl) && nat_le (text_size k) MAX_KEPT

-- the texts that its notice of loss needs
abbrev pub texts_of_loss : Kept → Kept
texts_of_loss k = record k { nurl = []; burl = []; body = [] }

-- what stays of a bid's texts: all of a winner's, and of another bid those that its notice of loss needs
abbrev pub stays : List Offer → Kept → Option Kept
stays offers k =
    if is_winners offers k then Some k else (if may_be_told k then Some (texts_of_loss k) else None)

-- the kept texts that stay beside these offers, in order
abbrev pub settled_kept : List Offer → List Kept → List Kept
settled_kept offers kept = filter_map (stays offers) kept

-- the ask with these offers, with the texts that stay beside them
abbrev pub with_offers : Ask → List Offer → Ask
with_offers a offers = record a { offers = offers; kept = settled_kept offers a.kept }

-- the ask with the moment and the first award's number that it gets, before its offers are decided
abbrev pub dated : List Entry → Ask → Ask
dated history a = record a { now = max a.now (latest history); first = length (made history) }

-- the ask as the day settles it after a history
abbrev pub settled : Terms → List Entry → Ask → Ask
settled terms history a =
    with_offers (dated history a) (settled_offers (budgets_after terms history) (committed history) a.offers)

-- the reason is one that only the day gives
abbrev pub is_decided : ℕ → Bool
is_decided reason = reason == AWARDED || (reason == LOST_TO_HIGHER || reason == OVER_BUDGET)

-- the offer as it was before it was decided
abbrev pub admitted_again : Offer → Offer
admitted_again o = if is_decided o.reason then record o { reason = ADMITTED } else o

-- the ask with each decided offer read as admitted
abbrev pub undecided : Ask → Ask
undecided a = record a { offers = map admitted_again a.offers }
