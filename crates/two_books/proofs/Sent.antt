-- What is pending and what was sent are posts of the history, after each step.
use Rattle.std.proofs.Common.{◌≡◌, ℕ, List, [], ◌∷◌, ◌++◌, length, take, drop, Bool, true, false, cond, refl, sym, ap, ◌∙◌, subst, append_assoc, append-nil, Option, Some, None, inl, inr, All}
use Rattle.std.specs.List.{before_first, cons_option, filter_map, slice_get}
use Rattle.std.proofs.lemmas.List.{take-append-drop}
use Rattle.std.proofs.lemmas.List.Elements.{All-append, All-cons, All-head, All-nil, All-tail, All-weaker}
use Rattle.bidder_core.specs.Seen.{BidderState}
use Rattle.day_rules.specs.Replies.{Call as DayCall, reply, with_entry}
use Rattle.day_rules.specs.declared.entry.Entry.{Entry}
use Rattle.day_rules.specs.DayState.{DayState}
use Rattle.std.specs.Prelude.{IfSome}
use Rattle.outbox.specs.Calls.{IsValidAs}
use Rattle.outbox.specs.Following.{OutboxState}
use Rattle.outbox.specs.Posts.{posts_behind, posts_of}
use Rattle.outbox.specs.Pumping.{left_of, stays}
use Rattle.outbox.specs.declared.calling.Call.{Call}
use Rattle.outbox.specs.declared.post.Post.{Post}
use Rattle.outbox.specs.declared.report.Outcome.{Outcome}
use Rattle.outbox.proofs.Followed.{posts_on}
use Rattle.two_books.specs.Exchanges.{ExchangeState, HasHistory, IsKept, IsNoticed, auction_of, next_posts, not_followed}
use Rattle.two_books.specs.Holding.{AreOfHistory, IsAsked, IsSent}
use Rattle.two_books.specs.LateReplies.{Acknowledges, IsDecided, is_sent_as}
use Rattle.two_books.specs.Steps.{AtExchange, IsAcknowledged, IsAgain, IsCutShort, Stops, StopsAcknowledging, StopsAgain, StopsPumping, Takes, due_posts}
use Rattle.two_books.specs.Worlds.{IsSendable, WorldState, message_of}
use Rattle.two_books.specs.declared.late.Late.{Late}
use Rattle.two_books.specs.declared.step.Fate.{Fate}
use Rattle.two_books.specs.declared.step.Step.{Step}

-- ---- more entries

asked_still : (history more : List Entry) (p : Post) → IsAsked history p → IsAsked (history ++ more) p
asked_still history more p (front, back, is) = (
  front,
  back ++ posts_behind history more,
  posts_on [] history more ∙ (ap (λ (t : List Post). t ++ posts_behind history more) is ∙ append_assoc front (p ∷ back) (posts_behind history more)),
)

sent_still : (history more : List Entry) (c : Call) → IsSent history c → IsSent (history ++ more) c
sent_still history more c (p, asked, is, valid) = (p, asked_still history more p asked, is, valid)

-- a world whose history grew, and nothing else
grown : (more : List Entry) (old new : WorldState) → new.exchange.day.history ≡ old.exchange.day.history ++ more → new.exchange.outbox.pending ≡ old.exchange.outbox.pending → new.messages ≡ old.messages → AreOfHistory old → AreOfHistory new
grown more old new history pending messages are =
    let h = old.exchange.day.history in
    record {
      pending =
          subst (λ (t : List Entry). All (IsAsked t) new.exchange.outbox.pending) (sym history)
          (subst (λ (ps : List Post). All (IsAsked (h ++ more)) ps) (sym pending)
          (All-weaker (IsAsked h) (IsAsked (h ++ more)) (asked_still h more) old.exchange.outbox.pending are.pending));
      messages =
          subst (λ (t : List Entry). All (IsSent t) new.messages) (sym history)
          (subst (λ (cs : List Call). All (IsSent (h ++ more)) cs) (sym messages)
          (All-weaker (IsSent h) (IsSent (h ++ more)) (sent_still h more) old.messages are.messages));
    }

abbrev pub entry_list : Option Entry → List Entry
entry_list None = []
entry_list (Some e) = e ∷ []

pub as_list : (history : List Entry) (e : Option Entry) → with_entry history e ≡ history ++ entry_list e
as_list history None = sym (append-nil history)
as_list history (Some e) = refl

-- the exchange was called
called : (e : Option Entry) (old new : WorldState) → AtExchange (HasHistory (with_entry old.exchange.day.history e)) old new → AreOfHistory old → AreOfHistory new
called e old new at are =
    grown (entry_list e) old new (at.exchange.history ∙ as_list old.exchange.day.history e) (ap (λ (o : OutboxState). o.pending) at.exchange.outbox) at.messages are

same_world : (old new : WorldState) → new ≡ old → AreOfHistory old → AreOfHistory new
same_world old new same are = subst AreOfHistory (sym same) are

-- ---- posts of entries that were followed

all_asked : (history : List Entry) (before ps behind : List Post) → posts_of history ≡ before ++ (ps ++ behind) → All (IsAsked history) ps
all_asked history before [] behind is = All-nil (IsAsked history)
all_asked history before (p ∷ ps) behind is =
    All-cons (IsAsked history) p ps (before, ps ++ behind, is)
    (all_asked history (before ++ p ∷ []) ps behind (is ∙ sym (append_assoc before (p ∷ []) (ps ++ behind))))

next_asked : (n : ℕ) (e : ExchangeState) → All (IsAsked e.day.history) (next_posts n e)
next_asked n e =
    let h = e.day.history in
    let before = take e.outbox.followed h in
    let later = not_followed e in
    let whole : posts_of h ≡ posts_of before ++ posts_behind before later =
    ap (λ (t : List Entry). posts_of t) (sym (take-append-drop e.outbox.followed h)) ∙ posts_on [] before later in
    let cut : posts_behind before later ≡ posts_behind before (take n later) ++ posts_behind (before ++ take n later) (drop n later) =
    ap (λ (t : List Entry). posts_behind before t) (sym (take-append-drop n later)) ∙ posts_on before (take n later) (drop n later) in
    all_asked h (posts_of before) (next_posts n e) (posts_behind (before ++ take n later) (drop n later)) (whole ∙ ap (λ (t : List Post). posts_of before ++ t) cut)

pub due_asked : (e : ExchangeState) → All (IsAsked e.day.history) e.outbox.pending → All (IsAsked e.day.history) (due_posts e)
due_asked e pending = All-append (IsAsked e.day.history) e.outbox.pending (next_posts (length (not_followed e)) e) pending (next_asked (length (not_followed e)) e)

-- ---- what a pump leaves and sends

left_all : (P : Post → Type 0) (ps : List Post) (os : List Outcome) → All P ps → All P (left_of ps os)
left_all P [] os all = All-nil P
left_all P (p ∷ ps) [] all = all
left_all P (p ∷ ps) (o ∷ os) all = by (left_all P ps os (All-tail P p ps all)) (stays o)
  where
    by : All P (left_of ps os) → (b : Bool) → All P (cond b (p ∷ left_of ps os) (left_of ps os))
    by rest true = All-cons P p (left_of ps os) (All-head P p ps all) rest
    by rest false = rest

sent_all : (history : List Entry) (ps : List Post) → All (IsAsked history) ps → All IsSendable ps → All (IsSent history) (filter_map message_of ps)
sent_all history [] all valid = All-nil (IsSent history)
sent_all history (p ∷ ps) all valid =
    by (sent_all history ps (All-tail (IsAsked history) p ps all) (All-tail IsSendable p ps valid)) (message_of p) refl (All-head IsSendable p ps valid)
  where
    by : All (IsSent history) (filter_map message_of ps) → (o : Option Call) → message_of p ≡ o → IfSome o (λ c. IsValidAs p.url) → All (IsSent history) (cons_option o (filter_map message_of ps))
    by rest None is one = rest
    by rest (Some c) is one = All-cons (IsSent history) c (filter_map message_of ps) (p, All-head (IsAsked history) p ps all, is, one) rest

pumped_all : (old new : WorldState) (outcomes : List Outcome) → AreOfHistory old → new.exchange.day ≡ old.exchange.day
    → new.exchange.outbox.pending ≡ left_of (due_posts old.exchange) outcomes → new.messages ≡ old.messages ++ filter_map message_of (due_posts old.exchange) → All IsSendable (due_posts old.exchange) → AreOfHistory new
pumped_all old new outcomes are day pending messages valid =
    let h = old.exchange.day.history in
    let due : All (IsAsked h) (due_posts old.exchange) = due_asked old.exchange are.pending in
    let history : old.exchange.day.history ≡ new.exchange.day.history = ap (λ (d : DayState). d.history) (sym day) in
    record {
      pending =
          subst (λ (t : List Entry). All (IsAsked t) new.exchange.outbox.pending) history
          (subst (λ (ps : List Post). All (IsAsked h) ps) (sym pending) (left_all (IsAsked h) (due_posts old.exchange) outcomes due));
      messages =
          subst (λ (t : List Entry). All (IsSent t) new.messages) history
          (subst (λ (cs : List Call). All (IsSent h) cs) (sym messages)
          (All-append (IsSent h) old.messages (filter_map message_of (due_posts old.exchange)) are.messages (sent_all h (due_posts old.exchange) due valid)));
    }

noticed : (auction : Option (List ℕ)) (c : List ℕ → DayCall) (old new : WorldState) → AtExchange (IsNoticed auction c) old new → AreOfHistory old → AreOfHistory new
noticed None c old new at are = grown [] old new (ap (λ (e : ExchangeState). e.day.history) at.exchange ∙ sym (append-nil old.exchange.day.history)) (ap (λ (e : ExchangeState). e.outbox.pending) at.exchange) at.messages are
noticed (Some auction) c old new at are = called (reply old.exchange.day.terms old.exchange.day.history (c auction)).entry old new (record { exchange = at.exchange.has; messages = at.messages; bidder = at.bidder; replies = at.replies }) are

pub front_of_all : (P : Post → Type 0) (xs ys : List Post) → All P (xs ++ ys) → All P xs
front_of_all P [] ys all = All-nil P
front_of_all P (x ∷ xs) ys all = All-cons P x xs (All-head P x (xs ++ ys) all) (front_of_all P xs ys (All-tail P x (xs ++ ys) all))

pub back_of_all : (P : Post → Type 0) (xs ys : List Post) → All P (xs ++ ys) → All P ys
back_of_all P [] ys all = all
back_of_all P (x ∷ xs) ys all = back_of_all P xs ys (All-tail P x (xs ++ ys) all)

-- a late reply decided of a post, or of none
decided : (late : Late) (old new : WorldState) → AtExchange (Acknowledges late) old new → AreOfHistory old → AreOfHistory new
decided late old new at are = by at.exchange.outbox
  where
    h : List Entry
    h = old.exchange.day.history

    with_pending : All (IsAsked h) new.exchange.outbox.pending → AreOfHistory new
    with_pending pending =
        let history : h ≡ new.exchange.day.history = ap (λ (d : DayState). d.history) (sym at.exchange.day) in
        record {
          pending = subst (λ (t : List Entry). All (IsAsked t) new.exchange.outbox.pending) history pending;
          messages =
              subst (λ (t : List Entry). All (IsSent t) new.messages) history (subst (λ (cs : List Call). All (IsSent h) cs) (sym at.messages) are.messages);
        }

    by : IsDecided late old.exchange.outbox new.exchange.outbox → AreOfHistory new
    by (inl (none, same)) = with_pending (subst (λ (o : OutboxState). All (IsAsked h) o.pending) (sym same) are.pending)
    by (inr d) =
        let front : List Post = before_first (is_sent_as late.request) old.exchange.outbox.pending in
        let whole : All (IsAsked h) (front ++ d.post ∷ d.back) = subst (λ (ps : List Post). All (IsAsked h) ps) d.split are.pending in
        with_pending
        (subst (λ (ps : List Post). All (IsAsked h) ps) (sym d.pending)
        (All-append (IsAsked h) front (left_of (d.post ∷ d.back) (d.outcome ∷ [])) (front_of_all (IsAsked h) front (d.post ∷ d.back) whole)
        (left_all (IsAsked h) (d.post ∷ d.back) (d.outcome ∷ []) (back_of_all (IsAsked h) front (d.post ∷ d.back) whole))))

-- after each step that was taken
pub takes_all : (s : Step) (old new : WorldState) → AreOfHistory old → Takes s old new → AreOfHistory new
takes_all (Step.Ask request now) old new are (answer, reads, at) = called _ old new (record { exchange = at.exchange.has; messages = at.messages; bidder = at.bidder; replies = at.replies }) are
takes_all (Step.Notice kind n) old new are at = noticed (auction_of old.exchange.day.history n) _ old new at are
takes_all (Step.Tick now) old new are at = called _ old new (record { exchange = at.exchange.has; messages = at.messages; bidder = at.bidder; replies = at.replies }) are
takes_all (Step.Budget campaign change budget) old new are at = called _ old new (record { exchange = at.exchange.has; messages = at.messages; bidder = at.bidder; replies = at.replies }) are
takes_all (Step.Pump fates) old new are p = pumped_all old new p.outcomes are p.day p.pending p.messages p.valid
takes_all (Step.Again n) old new are again = brought (slice_get old.messages n) again
  where
    brought : (o : Option Call) → IsAgain o old new → AreOfHistory new
    brought None same = same_world old new same are
    brought (Some c) at = grown [] old new (ap (λ (e : ExchangeState). e.day.history) at.exchange ∙ sym (append-nil old.exchange.day.history)) (ap (λ (e : ExchangeState). e.outbox.pending) at.exchange) at.messages are
takes_all (Step.Acknowledge n) old new are at = acknowledged (slice_get old.replies n) at
  where
    acknowledged : (o : Option Late) → IsAcknowledged o old new → AreOfHistory new
    acknowledged None same = same_world old new same are
    acknowledged (Some late) did = decided late old new did are
takes_all Step.RestartExchange old new are at =
    let history : old.exchange.day.history ≡ new.exchange.day.history = ap (λ (d : DayState). d.history) (sym at.exchange.day) in
    record {
      pending = subst (λ (ps : List Post). All (IsAsked new.exchange.day.history) ps) (sym at.exchange.pending) (All-nil (IsAsked new.exchange.day.history));
      messages =
          subst (λ (t : List Entry). All (IsSent t) new.messages) history
          (subst (λ (cs : List Call). All (IsSent old.exchange.day.history) cs) (sym at.messages) are.messages);
    }
takes_all Step.RestartBidder old new are same = same_world old new same are

-- ---- after each step that stopped for lack of memory

pub some_due : (n : ℕ) (e : ExchangeState) → All (IsAsked e.day.history) e.outbox.pending → All (IsAsked e.day.history) (e.outbox.pending ++ next_posts n e)
some_due n e pending = All-append (IsAsked e.day.history) e.outbox.pending (next_posts n e) pending (next_asked n e)

more_sent : (history : List Entry) (fate : Fate) (back : List Post) (b : BidderState) (more : List Call) (now : BidderState) → All (IsAsked history) back → IsCutShort fate back b more now → All (IsSent history) more
more_sent history fate back b more now all (inl (none, same)) = subst (λ (cs : List Call). All (IsSent history) cs) (sym none) (All-nil (IsSent history))
more_sent history fate back b more now all (inr (p, ps, c, is, message, one, valid, heard, stops)) =
    let first : IsAsked history p = All-head (IsAsked history) p ps (subst (λ (t : List Post). All (IsAsked history) t) is all) in
    subst (λ (cs : List Call). All (IsSent history) cs) (sym one) (All-cons (IsSent history) c [] (p, first, message, valid) (All-nil (IsSent history)))

stopped_all : (fates : List Fate) (old new : WorldState) → AreOfHistory old → StopsPumping fates old new → AreOfHistory new
stopped_all fates old new are p =
    let h = old.exchange.day.history in
    let both : All (IsAsked h) (p.front ++ p.back) = subst (λ (t : List Post). All (IsAsked h) t) (sym p.due) (some_due p.entries old.exchange are.pending) in
    let sent : All (IsSent h) (filter_map message_of p.front ++ p.more) =
    All-append (IsSent h) (filter_map message_of p.front) p.more (sent_all h p.front (front_of_all (IsAsked h) p.front p.back both) p.valid)
    (more_sent h _ p.back p.between p.more new.bidder (back_of_all (IsAsked h) p.front p.back both) p.cut) in
    let history : h ≡ new.exchange.day.history = ap (λ (d : DayState). d.history) (sym p.day) in
    record {
      pending =
          subst (λ (t : List Entry). All (IsAsked t) new.exchange.outbox.pending) history
          (subst (λ (ps : List Post). All (IsAsked h) ps) (sym p.pending) (left_all (IsAsked h) (p.front ++ p.back) (take p.settled p.outcomes) both));
      messages =
          subst (λ (t : List Entry). All (IsSent t) new.messages) history
          (subst (λ (cs : List Call). All (IsSent h) cs) (sym p.messages)
          (All-append (IsSent h) old.messages (filter_map message_of p.front ++ p.more) are.messages sent));
    }

kept : (old new : WorldState) → AtExchange IsKept old new → AreOfHistory old → AreOfHistory new
kept old new at are = called None old new (record { exchange = at.exchange; messages = at.messages; bidder = at.bidder; replies = at.replies }) are

pub stops_all : (s : Step) (old new : WorldState) → AreOfHistory old → Stops s old new → AreOfHistory new
stops_all (Step.Ask request now) old new are at = kept old new at are
stops_all (Step.Notice kind n) old new are at = kept old new at are
stops_all (Step.Tick now) old new are at = kept old new at are
stops_all (Step.Budget campaign change budget) old new are at = kept old new at are
stops_all (Step.Pump fates) old new are p = stopped_all fates old new are p
stops_all (Step.Again n) old new are again = brought (slice_get old.messages n) again
  where
    brought : (o : Option Call) → StopsAgain o old new → AreOfHistory new
    brought None same = same_world old new same are
    brought (Some c) at = grown [] old new (ap (λ (e : ExchangeState). e.day.history) at.exchange ∙ sym (append-nil old.exchange.day.history)) (ap (λ (e : ExchangeState). e.outbox.pending) at.exchange) at.messages are
stops_all (Step.Acknowledge n) old new are at = acknowledged (slice_get old.replies n) at
  where
    acknowledged : (o : Option Late) → StopsAcknowledging o old new → AreOfHistory new
    acknowledged None same = same_world old new same are
    acknowledged (Some late) (inl same) = same_world old new same are
    acknowledged (Some late) (inr did) = decided late old new did are
stops_all Step.RestartExchange old new are same = same_world old new same are
stops_all Step.RestartBidder old new are same = same_world old new same are
