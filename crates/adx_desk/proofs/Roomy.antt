-- The entry of the reply to an ask or to a change of a budget, if it has one, is one that the journal may have no room for.
use Rattle.std.proofs.Common.{ℕ, nat_lt, ◌==◌, List, length, Bool, true, false, if◌then◌else◌, Option, Some, None, IfSome}
use Rattle.adx_units.specs.Money.{units}
use Rattle.day_rules.specs.declared.answer.Answer.{Answer}
use Rattle.day_rules.specs.declared.answer.Seen.{Seen}
use Rattle.day_rules.specs.declared.answer.Which.{Which}
use Rattle.day_rules.specs.declared.ask.Ask.{Ask}
use Rattle.day_rules.specs.declared.entry.Entry.{Entry}
use Rattle.day_rules.specs.declared.limits.DayLimits.{DayLimits}
use Rattle.day_rules.specs.declared.limits.TheConstants.{MAX_CHANGES}
use Rattle.day_rules.specs.Asks.{settled}
use Rattle.day_rules.specs.Books.{committed}
use Rattle.day_rules.specs.Changes.{last_change, same_change}
use Rattle.day_rules.specs.Entries.{BudgetChange, entry_of_change}
use Rattle.day_rules.specs.Replies.{Call, Reply, ask, notice, tick, set_budget, added, answered, ask_reply_by, asks_with, bids_with, change_reply, changes_with, full, reply, sale_reply, seen_in, settled_reply, text_with}
use Rattle.day_rules.specs.Terms.{Terms}
use Rattle.adx_desk.specs.Called.{IsRoomy}
use Rattle.adx_desk.specs.OnDisk.{MayWantRoom}

-- of two replies, one of which is given
either : (b : Bool) (r s : Reply) → IfSome r.entry MayWantRoom → IfSome s.entry MayWantRoom → IfSome (if b then r else s).entry MayWantRoom
either true r s first second = first
either false r s first second = second

settled_wants : (limits : DayLimits) (history : List Entry) (a : Ask) → IfSome (settled_reply limits history a).entry MayWantRoom
settled_wants limits history a =
    let last : Reply = if nat_lt limits.text (text_with history a) then full Which.Text (text_with history a) else sale_reply history a in
    let middle : Reply = if nat_lt limits.bids (bids_with history a) then full Which.Bids (bids_with history a) else last in
    either (nat_lt limits.auctions (asks_with history)) (full Which.Auctions (asks_with history)) middle tt
    (either (nat_lt limits.bids (bids_with history a)) (full Which.Bids (bids_with history a)) last tt
    (either (nat_lt limits.text (text_with history a)) (full Which.Text (text_with history a)) (sale_reply history a) tt tt))

asked_wants : (seen : Seen) (terms : Terms) (history : List Entry) (a : Ask) → IfSome (ask_reply_by seen terms history a).entry MayWantRoom
asked_wants Seen.New terms history a = settled_wants terms.limits history (settled terms history a)
asked_wants (Seen.Same place) terms history a = tt
asked_wants (Seen.Other kept) terms history a = tt

changed_wants : (history : List Entry) (x : BudgetChange) (o : Option (ℕ × BudgetChange)) → IfSome (change_reply history x o).entry MayWantRoom
changed_wants history x None =
    let last = last_change x.campaign history in
    let money = committed history x.campaign in
    let count = changes_with history in
    let third : Reply = if nat_lt MAX_CHANGES count then full Which.Changes count else added Answer.Budgeted (entry_of_change x) in
    let second : Reply = if nat_lt x.budget.0 money then answered (Answer.BelowCommitted (units money)) else third in
    either (nat_lt x.change last) (answered (Answer.Late last)) second tt
    (either (nat_lt x.budget.0 money) (answered (Answer.BelowCommitted (units money))) third tt
    (either (nat_lt MAX_CHANGES count) (full Which.Changes count) (added Answer.Budgeted (entry_of_change x)) tt tt))
changed_wants history x (Some (place, y)) =
    either (y.budget.0 == x.budget.0) (answered (Answer.Repeat place)) (answered (Answer.BudgetReused y.budget)) tt tt

pub roomy_wants : (terms : Terms) (history : List Entry) (call : Call) → IsRoomy call → IfSome (reply terms history call).entry MayWantRoom
roomy_wants terms history (ask a) roomy = asked_wants (seen_in history a.auction a.digest) terms history a
roomy_wants terms history (notice kind auction n) roomy = absurd roomy
roomy_wants terms history (tick now) roomy = absurd roomy
roomy_wants terms history (set_budget x) roomy =
    either (nat_lt x.campaign (length terms.budgets)) (change_reply history x (same_change x history)) (answered Answer.NoCampaign)
    (changed_wants history x (same_change x history)) tt
