-- A campaign's shares on any number of exchanges, each of which has a day by `day_rules`, with all that was ever sent between them and
-- their controllers. What an exchange makes of a change, and what it answers, are the day's reply and nothing else. This project's own.
use Rattle.std.specs.Prelude.{◌≡◌, ◌≢◌, ℕ, zero, suc, ◌≤◌, ◌<◌, Bool, true, false, if◌then◌else◌, nat_le, List, [], ◌∷◌, map, length, Option, Some, None}
use Rattle.adx_units.specs.Money.{units}
use Rattle.allocator_core.specs.Choice.{budget_at}
use Rattle.campaign_book.specs.Accounts.{IsBudget}
use Rattle.day_rules.specs.declared.answer.Answer.{Answer}
use Rattle.day_rules.specs.declared.entry.Entry.{Entry}
use Rattle.day_rules.specs.Entries.{BudgetChange, change_of}
use Rattle.day_rules.specs.Changes.{last_change}
use Rattle.day_rules.specs.Books.{committed}
use Rattle.day_rules.specs.Terms.{Terms, budgets_after}
use Rattle.day_rules.specs.Legal.{IsLegal}
use Rattle.day_rules.specs.Replies.{Call, ask, notice, tick, set_budget, reply, with_entry}
use Rattle.day_rules.specs.Runs.{Outcome, done, faulted, Turn, IsCall, after_turn}
use Rattle.share_rules.specs.declared.budget.Budget.{Budget}
use Rattle.share_rules.specs.declared.share.Share.{Share}
use Rattle.share_rules.specs.Shares.{asked, is_done, settled, taken}
use Rattle.share_rules.specs.Machine.{Message, Place, Reply, committed_of, had_of, may_have_of, nth}

-- what an exchange has of a campaign after a history
abbrev pub budget_in : Terms → List Entry → ℕ → Budget
budget_in terms history campaign = record {
  has = budget_at (budgets_after terms history) campaign;
  last = last_change campaign history;
  committed = committed history campaign;
}

-- what an answer to a change says to a controller: that it is done, that it isn't, or nothing that settles it
abbrev pub done_of : Answer → Option Bool
done_of Answer.Budgeted = Some true
done_of (Answer.Repeat entry) = Some true
done_of (Answer.BelowCommitted money) = Some false
done_of answer = None

-- an answer that says something is a reply to the change of that number
abbrev pub told : ℕ → Option Bool → List Reply → List Reply
told number None replies = replies
told number (Some is) replies = record { number = number; done = is } ∷ replies

-- one exchange: the ledger's row, the exchange's day, which of its campaigns it is, and all messages and replies that were ever sent
pub record DayPlace : Type 0 where
  pub share : Share
  pub terms : Terms
  pub campaign : ℕ
  pub history : List Entry
  pub messages : List Message
  pub replies : List Reply

-- a campaign's whole budget, and the exchanges that share it, each with the history of its day
pub record DayWorld : Type 0 where
  pub whole : ℕ
  pub places : List DayPlace

-- the same in the words of the machine
abbrev pub seen : DayPlace → Place
seen p = record { share = p.share; budget = budget_in p.terms p.history p.campaign; messages = p.messages; replies = p.replies }

-- What may happen next. A turn of a day is any other call: an ask, a notice, a tick, a change of another campaign's budget. Where an
-- outcome is that of a fault the call was given up, and nobody was answered.
pub data DayEvent : Type 0 where
  Joins : Terms → (campaign : ℕ) → DayEvent
  Asks : (place budget : ℕ) → DayEvent
  Sends : (place : ℕ) → DayEvent
  Message_comes : (place which : ℕ) → Outcome → DayEvent
  Reply_comes : (place which : ℕ) → DayEvent
  Turns : (place : ℕ) → Turn → DayEvent
  Wants : (whole : ℕ) → DayEvent

-- the place of that number changes by f
abbrev pub at_day : ℕ → (DayPlace → DayPlace) → List DayPlace → List DayPlace
at_day n f [] = []
at_day zero f (p ∷ ps) = f p ∷ ps
at_day (suc n) f (p ∷ ps) = p ∷ at_day n f ps

-- an exchange that is new has no history; the ledger has written down what its roster gives it
abbrev pub day_joined : Terms → ℕ → DayPlace
day_joined terms campaign = record {
  share = record { confirmed = budget_at terms.budgets campaign; intended = None; number = 0 };
  terms = terms;
  campaign = campaign;
  history = [];
  messages = [];
  replies = [];
}

-- the ledger of an exchange after it was asked for this budget
abbrev pub day_asks : ℕ → DayPlace → DayPlace
day_asks budget p = record p { share = asked p.share budget }

-- an exchange to which this change is sent, once more perhaps; without a change nothing is
abbrev pub day_sent : DayPlace → Option ℕ → DayPlace
day_sent p None = p
day_sent p (Some budget) = record p { messages = record { number = p.share.number; budget = budget } ∷ p.messages }

-- the change that the ledger has under way is sent, if there is one
abbrev pub day_sends : DayPlace → DayPlace
day_sends p = day_sent p p.share.intended

-- the change that a message is, on a place's day
abbrev pub change_by : ℕ → Message → BudgetChange
change_by campaign m = change_of campaign m.number (units m.budget)

-- a message comes: the day answers it, and keeps the answer's entry
abbrev pub answered_by : DayPlace → Message → Outcome → DayPlace
answered_by p m done =
    let r = reply p.terms p.history (set_budget (change_by p.campaign m)) in
    record p { history = with_entry p.history r.entry; replies = told m.number (done_of r.answer) p.replies }
answered_by p m faulted = p

-- a message comes, if there is one, and the call that it makes ends so
abbrev pub day_came : DayPlace → Option Message → Outcome → DayPlace
day_came p None outcome = p
day_came p (Some m) outcome = answered_by p m outcome

-- one of the messages that were sent comes; it may have come before
abbrev pub day_comes : ℕ → Outcome → DayPlace → DayPlace
day_comes which outcome p = day_came p (nth p.messages which) outcome

-- a reply comes back to the ledger; where there is none, nothing happens
abbrev pub day_heard : DayPlace → Option Reply → DayPlace
day_heard p None = p
day_heard p (Some r) = record p { share = settled p.share r.number r.done }

-- one of the replies that were sent comes back; it may have come before
abbrev pub day_hears : ℕ → DayPlace → DayPlace
day_hears which p = day_heard p (nth p.replies which)

-- an exchange's day after a call that isn't from its controllers
abbrev pub day_turns : Turn → DayPlace → DayPlace
day_turns turn p = record p { history = after_turn p.terms p.history turn }

-- the ledger takes what doesn't pass the whole, and is else as it was
abbrev pub day_allowed : DayWorld → DayWorld → DayWorld
day_allowed old new = if nat_le (may_have_of (map seen new.places)) new.whole then new else old

-- the world after one event
abbrev pub day_happens : DayWorld → DayEvent → DayWorld
day_happens w (DayEvent.Joins terms campaign) =
    day_allowed w (record { whole = w.whole; places = day_joined terms campaign ∷ w.places })
day_happens w (DayEvent.Asks place budget) =
    day_allowed w (record { whole = w.whole; places = at_day place (day_asks budget) w.places })
day_happens w (DayEvent.Sends place) = record { whole = w.whole; places = at_day place day_sends w.places }
day_happens w (DayEvent.Message_comes place which outcome) =
    record { whole = w.whole; places = at_day place (day_comes which outcome) w.places }
day_happens w (DayEvent.Reply_comes place which) = record { whole = w.whole; places = at_day place (day_hears which) w.places }
day_happens w (DayEvent.Turns place turn) = record { whole = w.whole; places = at_day place (day_turns turn) w.places }
day_happens w (DayEvent.Wants whole) = day_allowed w (record { whole = whole; places = w.places })

-- what is there, if it is
abbrev pub WhereThere : {A : Type 0} → (A → Type 0) → Option A → Type 0
WhereThere P None = Unit {0}
WhereThere P (Some x) = P x

-- a call that changes no budget of that campaign
abbrev pub IsOther : ℕ → Call → Type 0
IsOther campaign (ask a) = Unit {0}
IsOther campaign (notice kind auction n) = Unit {0}
IsOther campaign (tick now) = Unit {0}
IsOther campaign (set_budget x) = campaign ≢ x.campaign

-- a message whose number and budget an exchange takes as a call; it refuses others without an answer of the day
abbrev pub IsMessage : Message → Type 0
IsMessage m = (1 ≤ m.number) × IsBudget (units m.budget)

-- A campaign that joins is one of its roster; what comes is a call of its day; and nobody but the controllers changes the campaign's
-- budget there.
abbrev pub MayHappen : DayWorld → DayEvent → Type 0
MayHappen w (DayEvent.Joins terms campaign) = campaign < length terms.budgets
MayHappen w (DayEvent.Asks place budget) = Unit {0}
MayHappen w (DayEvent.Sends place) = Unit {0}
MayHappen w (DayEvent.Message_comes place which outcome) =
    WhereThere (λ (p : DayPlace). WhereThere IsMessage (nth p.messages which)) (nth w.places place)
MayHappen w (DayEvent.Reply_comes place which) = Unit {0}
MayHappen w (DayEvent.Turns place turn) =
    WhereThere (λ (p : DayPlace). IsCall (length p.terms.budgets) turn.call × IsOther p.campaign turn.call) (nth w.places place)
MayHappen w (DayEvent.Wants whole) = Unit {0}

-- before anything happened: no exchange and no money
abbrev pub day_start : DayWorld
day_start = record { whole = 0; places = [] }

-- a whole schedule
abbrev pub day_run : List DayEvent → DayWorld → DayWorld
day_run [] w = w
day_run (e ∷ es) w = day_run es (day_happens w e)

-- each event may happen in the world that those before it leave
abbrev pub MayAllHappen : DayWorld → List DayEvent → Type 0
MayAllHappen w [] = Unit {0}
MayAllHappen w (e ∷ es) = MayHappen w e × MayAllHappen (day_happens w e) es

-- the exchanges' budgets come to at most the whole, and so does what they have committed
pub record IsWithin (w : DayWorld) : Type 0 where
  pub budgets : had_of (map seen w.places) ≤ w.whole
  pub committed : committed_of (map seen w.places) ≤ w.whole

-- Whatever happens, in any order, the exchanges' budgets never come to more than the whole, and neither does the money
-- that they have committed.
abbrev pub NeverMoreThanTheWhole : Type 0
NeverMoreThanTheWhole = (events : List DayEvent) → MayAllHappen day_start events → IsWithin (day_run events day_start)

-- The day's answer to a change settles it as the machine's reply does, or says nothing; and the campaign's budget is then as after the
-- machine's step, or as before where it says nothing.
pub record IsTakenAs (b : Budget) (m : Message) (told : Option Bool) (after : Budget) : Type 0 where
  pub some : (is : Bool) → told ≡ Some is → (is ≡ is_done b m.number m.budget) × (after ≡ taken b m.number m.budget)
  pub none : told ≡ None → after ≡ b

-- On a day with a legal history, a change of a campaign's budget is answered as the machine of shares answers it, and
-- leaves the budget that the machine leaves.
abbrev pub AChangeIsTaken : Type 0
AChangeIsTaken =
    (terms : Terms) (history : List Entry) (campaign : ℕ) (m : Message) → IsLegal terms history → campaign < length terms.budgets
    → IsMessage m
    → let r = reply terms history (set_budget (change_by campaign m)) in
    IsTakenAs (budget_in terms history campaign) m (done_of r.answer) (budget_in terms (with_entry history r.entry) campaign)
