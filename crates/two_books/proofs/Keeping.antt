-- What holds of a world holds after each step, whichever way it ends.
use Rattle.std.proofs.Common.{◌≡◌, ℕ, List, [], ◌++◌, length, refl, sym, ap, ◌∙◌, subst, All, Option, Some, None, Result, Ok, Err, arith, inl, inr}
use Rattle.std.specs.Prelude.{IfSome}
use Rattle.std.specs.List.{slice_get}
use Rattle.std.proofs.lemmas.List.Elements.{All-nil, All-push}
use Rattle.adx_units.specs.declared.memory.OutOfMemory.{OutOfMemory}
use Rattle.bidder_core.specs.Seen.{BidderState}
use Rattle.bidder_core.specs.declared.ledger.LedgerRow.{LedgerRow}
use Rattle.bidder_core.specs.declared.price_line.PriceLine.{PriceLine}
use Rattle.deal_floor.specs.declared.roster.Roster.{Roster}
use Rattle.day_rules.specs.DayState.{DayState, IsDay}
use Rattle.day_rules.specs.Entries.{change_of, entry_of_notice}
use Rattle.day_rules.specs.Terms.{Terms}
use Rattle.day_rules.specs.Replies.{budget_reply, notice, notice_reply, tick_reply, with_entry}
use Rattle.day_rules.specs.declared.entry.Entry.{Entry}
use Rattle.day_rules.proofs.Following.{notice_entry, tick_entry}
use Rattle.notice_book.specs.declared.kind.NoticeKind.{NoticeKind}
use Rattle.outbox.specs.Bids.{awarded}
use Rattle.outbox.specs.declared.calling.Call.{Call}
use Rattle.outbox.specs.declared.post.Post.{Post}
use Rattle.two_books.proofs.Budgets.{budget_entry}
use Rattle.two_books.specs.Exchanges.{ExchangeState, HasHistory, IsKept, IsNoticed, auction_of}
use Rattle.two_books.specs.Holding.{AreOfHistory, Holds, IsAsked, IsBilled, IsCharge, IsLedgerOf, IsOwnEntry, IsSent}
use Rattle.two_books.specs.Names.{IsNamed}
use Rattle.two_books.specs.Steps.{AtExchange, IsAcknowledged, IsAgain, StepsTo, Stops, StopsAcknowledging, StopsAgain, StopsPumping, Takes, due_posts}
use Rattle.two_books.specs.Worlds.{IsNew, WorldState}
use Rattle.two_books.specs.declared.late.Late.{Late}
use Rattle.two_books.specs.declared.step.Fate.{Fate}
use Rattle.two_books.specs.declared.step.Step.{Step}
use Rattle.two_books.proofs.Answered.{own_answer}
use Rattle.two_books.proofs.Charges.{all_charged}
use Rattle.two_books.proofs.Kept.{IsBidderOf, all_tried, cut_short, delivered, some_heard}
use Rattle.two_books.proofs.Longer.{all_billed}
use Rattle.two_books.proofs.Sent.{as_list, back_of_all, due_asked, entry_list, front_of_all, some_due, stops_all, takes_all}
use Rattle.two_books.proofs.Telling.{all_at}

-- ---- the parts of a world

abbrev pub line_of : WorldState → PriceLine
line_of w = w.bidder.line

abbrev pub history_of : WorldState → List Entry
history_of w = w.exchange.day.history

abbrev Own : PriceLine → Entry → Type 0
Own line e = IsOwnEntry line.base (length line.prices) e

-- a bidder with that line, and a ledger of the history
bidder_of : (w : WorldState) → Holds w → IsBidderOf (line_of w) (history_of w) w.bidder
bidder_of w h = record { line = refl; ledger = h.ledger }

-- a world with the line of another
holds_by : (line : PriceLine) (w : WorldState) → IsDay w.exchange.day.terms (history_of w) → All (Own line) (history_of w) → AreOfHistory w → IsBidderOf line (history_of w) w.bidder → Holds w
holds_by line w day own posts bidder = record {
  day = day;
  own = subst (λ (l : PriceLine). All (Own l) (history_of w)) (sym bidder.line) own;
  posts = posts;
  ledger = subst (λ (l : PriceLine). IsLedgerOf l.base (history_of w) w.bidder.rows) (sym bidder.line) bidder.ledger;
}

charges_of : (w : WorldState) → Holds w → All IsCharge (awarded (history_of w))
charges_of w h = all_charged w.exchange.day.terms (history_of w) h.day.legal

-- a world before its first step
pub new_holds : (r : Roster) (b : BidderState) (w : WorldState) → IsNew r b w → b.rows ≡ [] → Holds w
new_holds r b w is none = record {
  day = is.exchange.legal;
  own = subst (All (Own (line_of w))) (sym is.exchange.history) (All-nil (Own (line_of w)));
  posts = record {
    pending = subst (All (IsAsked (history_of w))) (sym is.exchange.pending) (All-nil (IsAsked (history_of w)));
    messages = subst (All (IsSent (history_of w))) (sym is.messages) (All-nil (IsSent (history_of w)));
  };
  ledger =
      subst (IsLedgerOf w.bidder.line.base (history_of w)) (sym (ap (λ (s : BidderState). s.rows) is.bidder ∙ none))
      (record { once = λ i j d before within. absurd (omega (arith, within)); billed = All-nil (IsBilled w.bidder.line.base (history_of w)) });
}

-- ---- steps at the exchange

own_with : (line : PriceLine) (history : List Entry) (e : Option Entry) → All (Own line) history → IfSome e (Own line) → All (Own line) (with_entry history e)
own_with line history None own one = own
own_with line history (Some e) own one = All-push (Own line) history e own one

ledger_with : (line : PriceLine) (history : List Entry) (e : Option Entry) (rows : List LedgerRow) → IsLedgerOf line.base history rows → IsLedgerOf line.base (with_entry history e) rows
ledger_with line history e rows ledger =
    subst (λ (t : List Entry). IsLedgerOf line.base t rows) (sym (as_list history e))
    (record { once = ledger.once; billed = all_billed line.base history (entry_list e) rows ledger.billed })

-- the exchange was called, and the entry that was added is of the bidder's own bids
called : (e : Option Entry) (old new : WorldState) → AtExchange (HasHistory (with_entry (history_of old) e)) old new → IsDay new.exchange.day.terms (history_of new) → IfSome e (Own (line_of old)) → AreOfHistory new → Holds old → Holds new
called e old new at legal one posts h =
    let line : PriceLine = line_of old in
    holds_by line new legal
    (subst (All (Own line)) (sym at.exchange.history) (own_with line (history_of old) e h.own one))
    posts
    (record {
      line = ap (λ (b : BidderState). b.line) at.bidder;
      ledger =
          subst (λ (t : List Entry). IsLedgerOf line.base t new.bidder.rows) (sym at.exchange.history)
          (subst (λ (rows : List LedgerRow). IsLedgerOf line.base (with_entry (history_of old) e) rows) (sym (ap (λ (b : BidderState). b.rows) at.bidder))
          (ledger_with line (history_of old) e old.bidder.rows h.ledger));
    })

-- the day is as it was, and the bidder heard of bills of its history alone
same_day : (old new : WorldState) → new.exchange.day ≡ old.exchange.day → AreOfHistory new → IsBidderOf (line_of old) (history_of old) new.bidder → Holds old → Holds new
same_day old new same posts bidder h =
    let line : PriceLine = line_of old in
    holds_by line new
    (subst (λ (d : DayState). IsDay d.terms d.history) (sym same) h.day)
    (subst (λ (d : DayState). All (Own line) d.history) (sym same) h.own)
    posts
    (subst (λ (d : DayState). IsBidderOf line d.history new.bidder) (sym same) bidder)

same_bidder : (old new : WorldState) → new.bidder ≡ old.bidder → Holds old → IsBidderOf (line_of old) (history_of old) new.bidder
same_bidder old new same h = subst (IsBidderOf (line_of old) (history_of old)) (sym same) (bidder_of old h)

noticed : (kind : NoticeKind) (n : ℕ) (auction : Option (List ℕ)) (old new : WorldState) → AtExchange (IsNoticed auction (λ a. notice kind a n)) old new → AreOfHistory new → Holds old → Holds new
noticed kind n None old new at posts h =
    same_day old new (ap (λ (e : ExchangeState). e.day) at.exchange) posts (same_bidder old new at.bidder h) h
noticed kind n (Some auction) old new at posts h =
    called (notice_reply (history_of old) kind auction n).entry old new (record { exchange = at.exchange.has; messages = at.messages; bidder = at.bidder; replies = at.replies }) at.exchange.legal
    (notice_entry (history_of old) kind auction n (Own (line_of old)) (λ counts. by kind)) posts h
  where
    by : (k : NoticeKind) → Own (line_of old) (entry_of_notice k n)
    by NoticeKind.Win = tt
    by NoticeKind.Bill = tt
    by NoticeKind.Loss = tt

ticked : (now : ℕ) (old : WorldState) → IfSome (tick_reply (history_of old) now).entry (Own (line_of old))
ticked now old = tick_entry (history_of old) now (Own (line_of old)) (λ some. tt)

-- ---- steps at the bidder

again : (n : ℕ) (message : Option Call) (old new : WorldState) → slice_get old.messages n ≡ message → IsAgain message old new → AreOfHistory new → Holds old → Holds new
again n None old new is same posts h = subst Holds (sym same) h
again n (Some c) old new is at posts h =
    same_day old new (ap (λ (e : ExchangeState). e.day) at.exchange) posts
    (delivered (line_of old) (history_of old) h.own (charges_of old h) c old.bidder new.bidder (all_at (IsSent (history_of old)) old.messages n c h.posts.messages is) at.bidder (bidder_of old h)) h

stops_again : (n : ℕ) (message : Option Call) (old new : WorldState) → slice_get old.messages n ≡ message → StopsAgain message old new → AreOfHistory new → Holds old → Holds new
stops_again n None old new is same posts h = subst Holds (sym same) h
stops_again n (Some c) old new is at posts h =
    same_day old new (ap (λ (e : ExchangeState). e.day) at.exchange) posts
    (some_heard (line_of old) (history_of old) h.own (charges_of old h) c old.bidder new.bidder (all_at (IsSent (history_of old)) old.messages n c h.posts.messages is) at.bidder (bidder_of old h)) h

-- ---- a late reply

acknowledged : (reply : Option Late) (old new : WorldState) → IsAcknowledged reply old new → AreOfHistory new → Holds old → Holds new
acknowledged None old new same posts h = subst Holds (sym same) h
acknowledged (Some late) old new at posts h = same_day old new at.exchange.day posts (same_bidder old new at.bidder h) h

stops_acknowledging : (reply : Option Late) (old new : WorldState) → StopsAcknowledging reply old new → AreOfHistory new → Holds old → Holds new
stops_acknowledging None old new same posts h = subst Holds (sym same) h
stops_acknowledging (Some late) old new (inl same) posts h = subst Holds (sym same) h
stops_acknowledging (Some late) old new (inr at) posts h = acknowledged (Some late) old new at posts h

-- ---- each step

pub takes_hold : (s : Step) (old new : WorldState) → IsNamed s → Holds old → Takes s old new → Holds new
takes_hold (Step.Ask request now) old new named h (answer, reads, at) =
    called _ old new (record { exchange = at.exchange.has; messages = at.messages; bidder = at.bidder; replies = at.replies }) at.exchange.legal
    (own_answer (line_of old) request old.exchange.campaigns answer now old.exchange.day.terms (history_of old) named reads)
    (takes_all (Step.Ask request now) old new h.posts (answer, reads, at)) h
takes_hold (Step.Notice kind n) old new named h at =
    noticed kind n (auction_of (history_of old) n) old new at (takes_all (Step.Notice kind n) old new h.posts at) h
takes_hold (Step.Tick now) old new named h at =
    called (tick_reply (history_of old) now).entry old new (record { exchange = at.exchange.has; messages = at.messages; bidder = at.bidder; replies = at.replies }) at.exchange.legal
    (ticked now old) (takes_all (Step.Tick now) old new h.posts at) h
takes_hold (Step.Budget campaign change budget) old new named h at =
    let x = change_of campaign change budget in
    called (budget_reply old.exchange.day.terms (history_of old) x).entry old new (record { exchange = at.exchange.has; messages = at.messages; bidder = at.bidder; replies = at.replies }) at.exchange.legal
    (budget_entry (Own (line_of old)) (history_of old) x tt old.exchange.day.terms) (takes_all (Step.Budget campaign change budget) old new h.posts at) h
takes_hold (Step.Pump fates) old new named h p =
    same_day old new p.day (takes_all (Step.Pump fates) old new h.posts p)
    (all_tried (line_of old) (history_of old) h.own (charges_of old h) (due_posts old.exchange) fates old.bidder p.outcomes new.bidder
    (due_asked old.exchange h.posts.pending) p.valid p.tried (bidder_of old h)) h
takes_hold (Step.Again n) old new named h at =
    again n (slice_get old.messages n) old new refl at (takes_all (Step.Again n) old new h.posts at) h
takes_hold (Step.Acknowledge n) old new named h at = acknowledged (slice_get old.replies n) old new at (takes_all (Step.Acknowledge n) old new h.posts at) h
takes_hold Step.RestartExchange old new named h at =
    same_day old new at.exchange.day (takes_all Step.RestartExchange old new h.posts at) (same_bidder old new at.bidder h) h
takes_hold Step.RestartBidder old new named h same = subst Holds (sym same) h

kept : (old new : WorldState) → AtExchange IsKept old new → AreOfHistory new → Holds old → Holds new
kept old new at posts h =
    called None old new (record { exchange = at.exchange; messages = at.messages; bidder = at.bidder; replies = at.replies })
    (subst (λ (terms : Terms). IsDay terms (history_of new)) (sym at.exchange.terms) (subst (λ (t : List Entry). IsDay old.exchange.day.terms t) (sym at.exchange.history) h.day))
    tt posts h

stopped : (fates : List Fate) (old new : WorldState) → Holds old → StopsPumping fates old new → AreOfHistory new → Holds new
stopped fates old new h p posts =
    let history : List Entry = history_of old in
    let both : All (IsAsked history) (p.front ++ p.back) = subst (λ (t : List Post). All (IsAsked history) t) (sym p.due) (some_due p.entries old.exchange h.posts.pending) in
    let between : IsBidderOf (line_of old) history p.between =
    all_tried (line_of old) history h.own (charges_of old h) p.front p.fates old.bidder p.outcomes p.between (front_of_all (IsAsked history) p.front p.back both) p.valid p.tried (bidder_of old h) in
    same_day old new p.day posts
    (cut_short (line_of old) history h.own (charges_of old h) _ p.back p.between p.more new.bidder (back_of_all (IsAsked history) p.front p.back both) p.cut between) h

pub stops_hold : (s : Step) (old new : WorldState) → Holds old → Stops s old new → Holds new
stops_hold (Step.Ask request now) old new h at = kept old new at (stops_all (Step.Ask request now) old new h.posts at) h
stops_hold (Step.Notice kind n) old new h at = kept old new at (stops_all (Step.Notice kind n) old new h.posts at) h
stops_hold (Step.Tick now) old new h at = kept old new at (stops_all (Step.Tick now) old new h.posts at) h
stops_hold (Step.Budget campaign change budget) old new h at = kept old new at (stops_all (Step.Budget campaign change budget) old new h.posts at) h
stops_hold (Step.Pump fates) old new h p = stopped fates old new h p (stops_all (Step.Pump fates) old new h.posts p)
stops_hold (Step.Again n) old new h at = stops_again n (slice_get old.messages n) old new refl at (stops_all (Step.Again n) old new h.posts at) h
stops_hold (Step.Acknowledge n) old new h at = stops_acknowledging (slice_get old.replies n) old new at (stops_all (Step.Acknowledge n) old new h.posts at) h
stops_hold Step.RestartExchange old new h same = subst Holds (sym same) h
stops_hold Step.RestartBidder old new h same = subst Holds (sym same) h

pub steps_hold : (s : Step) (result : Result (Unit {0}) OutOfMemory) (old new : WorldState) → IsNamed s → Holds old → StepsTo s result old new → Holds new
steps_hold s (Ok done) old new named h did = takes_hold s old new named h did
steps_hold s (Err wanting) old new named h did = stops_hold s old new h did
