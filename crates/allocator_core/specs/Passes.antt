-- Private, cited by the passes of `settle` and `choose` alone: what one impression after another leaves of
-- the offers, and the best offer so far. This project's own.
use Rattle.std.specs.Prelude.{ℕ, ◌+◌, List, map, nat_lt, ◌&&◌, ◌||◌, ◌==◌, if◌then◌else◌, Bool, Option, Some, None, is_none}
use Rattle.std.specs.List.{sum_by, enumerate_from}
use Rattle.adx_units.specs.declared.units.Units.{Units}
use Rattle.adx_units.specs.declared.offer.Offer.{Offer}
use Rattle.adx_units.specs.declared.offer.TheConstants.{ADMITTED}
use Rattle.campaign_book.specs.Accounts.{Account, has_room, weight_in}
use Rattle.allocator_core.specs.declared.best.Best.{Best}
use Rattle.allocator_core.specs.declared.taken.Take.{Take}
use Rattle.allocator_core.specs.Choice.{Standing, chosen_at, competes, decided, fits, is_place, reason_at, weight_of}
use Rattle.allocator_core.specs.Settling.{standing_in}

-- what the offers that were chosen so far take from a campaign
abbrev pub taken_from : List Take → ℕ → ℕ
taken_from takes campaign = sum_by (λ t. if t.campaign == campaign then t.charge.0 else 0) takes

-- what the campaigns have committed beside them
abbrev pub standing_with : List Account → List Take → Standing
standing_with accounts takes = λ campaign. standing_in accounts campaign + taken_from takes campaign

-- the weight of a charge that fits beside so much more; none where it doesn't fit
abbrev pub fitting_weight : Account → ℕ → ℕ → Option ℕ
fitting_weight a more charge = if has_room a more charge then Some (weight_in a more charge) else None

-- the weight of an offer that competes; none of another
abbrev pub competing_weight : List Units → Standing → ℕ → Offer → Option ℕ
competing_weight budgets standing imp o = if competes budgets standing imp o then Some (weight_of budgets standing o) else None

-- the best offer with one more considered: of equal ones the first stays
abbrev pub best_with : Best → ℕ → Option ℕ → Best
best_with best place None = best
best_with best place (Some weight) =
    if is_none best.place || nat_lt best.weight weight then record { place = Some place; weight = weight } else best

-- an offer after the pass of an impression, before one is chosen: it has lost or doesn't fit
abbrev pub passed : List Units → Standing → ℕ → Offer → Offer
passed budgets standing imp o =
    if o.imp == imp && o.reason == ADMITTED then record o { reason = decided Bool.false (fits budgets standing o) } else o

-- the offers once an impression is decided: its chosen one is awarded
unfoldable pub decided_offers : List Units → Standing → ℕ → List Offer → List Offer
decided_offers budgets standing imp offers =
    map
    (λ (p : ℕ × Offer).
    if p.1.imp == imp && p.1.reason == ADMITTED
    then record p.1 { reason = decided (is_place (chosen_at budgets standing offers imp) p.0) (fits budgets standing p.1) }
    else p.1)
    (enumerate_from 0 offers)

-- the offers of the impressions below that one are decided, the others are as they came
unfoldable pub settled_below : List Units → Standing → List Offer → ℕ → List Offer
settled_below budgets before offers imp =
    map
    (λ (p : ℕ × Offer). if nat_lt p.1.imp imp then record p.1 { reason = reason_at budgets before offers p.0 p.1 } else p.1)
    (enumerate_from 0 offers)
