-- What each step of a world does. This project's own.
use Rattle.std.specs.Prelude.{◌≡◌, ◌≢◌, ◌⊎◌, ℕ, ◌+◌, ◌^◌, ◌<◌, ◌≤◌, List, [], ◌∷◌, ◌++◌, drop, take, length, get_or, slice_get, ⊤, All, Option, Some, None, Result, Ok, Err}
use Rattle.std.specs.List.{filter_map}
use Rattle.adx_json.specs.Tree.{Tree}
use Rattle.adx_units.specs.declared.memory.OutOfMemory.{OutOfMemory}
use Rattle.script_lines.specs.Making.{ask_of}
use Rattle.bidder_core.specs.Answers.{answer_to}
use Rattle.bidder_core.specs.Seen.{BidderState}
use Rattle.campaign_book.specs.Accounts.{IsBudget}
use Rattle.day_rules.specs.Entries.{change_of}
use Rattle.day_rules.specs.Replies.{ask, notice, set_budget, tick}
use Rattle.outbox.specs.Calls.{IsValidAs}
use Rattle.outbox.specs.Following.{HasFollowed}
use Rattle.outbox.specs.Pumping.{ComesTo, given_up_with, left_of}
use Rattle.outbox.specs.declared.calling.Call.{Call}
use Rattle.outbox.specs.declared.outbox.TheConstants.{ANSWER_LIMIT}
use Rattle.outbox.specs.declared.post.Post.{Post}
use Rattle.outbox.specs.declared.report.Outcome.{Outcome}
use Rattle.rtb_response.specs.Answers.{IsAnswer, answer_fault}
use Rattle.rtb_response.specs.declared.bid_answer.BidAnswer.{BidAnswer}
use Rattle.rtb_response.specs.declared.fault.AnswerFault.{AnswerFault}
use Rattle.two_books.specs.Delivering.{IsDelivered, IsReplied, StopsDelivering}
use Rattle.two_books.specs.Exchanges.{ExchangeState, IsCalled, IsKept, IsNoticed, IsRestarted, auction_of, next_posts, not_followed}
use Rattle.two_books.specs.LateReplies.{Acknowledges}
use Rattle.two_books.specs.Worlds.{IsSendable, WorldState, message_of}
use Rattle.two_books.specs.declared.late.Late.{Late}
use Rattle.two_books.specs.declared.step.Fate.{Fate}
use Rattle.two_books.specs.declared.step.Step.{Step}

-- the exchange reads the bidder's own answer; one that it refuses gives no bids
abbrev pub ReadsAnswer : List ℕ → Option Tree → Option BidAnswer → Type 0
ReadsAnswer auction None None = ⊤
ReadsAnswer auction None (Some a) = ⊥
ReadsAnswer auction (Some t) None = (fault : AnswerFault) × (answer_fault auction t ≡ Some fault)
ReadsAnswer auction (Some t) (Some a) = IsAnswer auction t a

-- this happened at the exchange, and the messages, the bidder and the replies on their way are as they were
pub record AtExchange (R : ExchangeState → ExchangeState → Type 0) (old new : WorldState) : Type 0 where
  pub exchange : R old.exchange new.exchange
  pub messages : new.messages ≡ old.messages
  pub bidder : new.bidder ≡ old.bidder
  pub replies : new.replies ≡ old.replies

-- this happened at the bidder, and the exchange, its messages and the replies on their way are as they were
pub record AtBidder (R : BidderState → BidderState → Type 0) (old new : WorldState) : Type 0 where
  pub exchange : new.exchange ≡ old.exchange
  pub messages : new.messages ≡ old.messages
  pub bidder : R old.bidder new.bidder
  pub replies : new.replies ≡ old.replies

-- What becomes of a message that is sent, of the post that it was sent for, and of the bidder. A reply that comes back
-- decides of the post.
abbrev pub Befalls : Fate → List ℕ → BidderState → Outcome → BidderState → Type 0
Befalls Fate.Held bytes b o now = (o ≡ Outcome.Failed) × (now ≡ b)
Befalls Fate.Mute bytes b o now = (o ≡ Outcome.Failed) × IsDelivered bytes b now
Befalls Fate.Through bytes b o now =
    (reply : List ℕ) × IsDelivered bytes b now × IsReplied bytes b reply now
    × (o ≢ Outcome.Failed) × ComesTo ANSWER_LIMIT reply o

-- the first of the fates; a message after the last of them goes through
abbrev pub first_fate : List Fate → Fate
first_fate fates = get_or fates 0 Fate.Through

-- a post is tried: without a message nothing is sent
abbrev pub TriesPost : Option Call → Fate → BidderState → Outcome → BidderState → Type 0
TriesPost None fate b o now = (o ≡ Outcome.Undeliverable) × (now ≡ b)
TriesPost (Some c) fate b o now = Befalls fate c.request b o now

-- the fates of the messages after it; a post that can't be sent takes none
abbrev pub fates_behind : Option Call → List Fate → List Fate
fates_behind None fates = fates
fates_behind (Some c) fates = drop 1 fates

-- posts are tried one after the other, and the bidder is then this
abbrev pub AreTried : List Post → List Fate → BidderState → List Outcome → BidderState → Type 0
AreTried [] fates b outcomes now = (outcomes ≡ []) × (now ≡ b)
AreTried (p ∷ ps) fates b [] now = ⊥
AreTried (p ∷ ps) fates b (o ∷ os) now =
    (mid : BidderState) × TriesPost (message_of p) (first_fate fates) b o mid
    × AreTried ps (fates_behind (message_of p) fates) mid os now

-- the posts to try: those that are pending, and those of the entries that weren't followed yet
abbrev pub due_posts : ExchangeState → List Post
due_posts e = e.outbox.pending ++ next_posts (length (not_followed e)) e

-- The outbox has followed the day and tried each post once. The messages are those of all posts that could be sent; what
-- stays pending are just the posts that met a fault of the link or another answer than a success.
pub record IsPumped (fates : List Fate) (old new : WorldState) : Type 0 where
  pub outcomes : List Outcome
  pub tried : AreTried (due_posts old.exchange) fates old.bidder outcomes new.bidder
  pub valid : All IsSendable (due_posts old.exchange)
  pub followed : HasFollowed old.exchange.day.history new.exchange.outbox
  pub pending : new.exchange.outbox.pending ≡ left_of (due_posts old.exchange) outcomes
  pub undeliverable : new.exchange.outbox.undeliverable ≡ given_up_with old.exchange.outbox.undeliverable outcomes
  pub messages : new.messages ≡ old.messages ++ filter_map message_of (due_posts old.exchange)
  pub replies : new.replies ≡ old.replies
  pub day : new.exchange.day ≡ old.exchange.day
  pub campaigns : new.exchange.campaigns ≡ old.exchange.campaigns

-- what a pump that stopped had sent after these posts: nothing, or the message of the next of them, of which the bidder
-- may have heard some first requests unless it was to be held
abbrev pub IsCutShort : Fate → List Post → BidderState → List Call → BidderState → Type 0
IsCutShort fate back b more now =
    ((more ≡ []) × (now ≡ b))
    ⊎ ((p : Post) × (ps : List Post) × (c : Call) × (back ≡ p ∷ ps) × (message_of p ≡ Some c) × (more ≡ c ∷ [])
    × IsValidAs p.url × (fate ≢ Fate.Held) × StopsDelivering c.request b now)

-- the fate that a message met where one was given: that one, or its reply was lost, since memory was wanting before it was read
abbrev pub IsAsGiven : Fate → Fate → Type 0
IsAsGiven given fate = (fate ≡ given) ⊎ ((given ≡ Fate.Through) × (fate ≡ Fate.Mute))

-- A pump that stopped for lack of memory: so many entries were followed, and a front of the posts was tried, with the fates
-- that were given, but for replies that are lost. What became of the first so many of them is; all others stay pending.
-- So a message that is to be held is never heard.
pub record StopsPumping (given : List Fate) (old new : WorldState) : Type 0 where
  pub entries : ℕ
  pub front : List Post
  pub back : List Post
  pub fates : List Fate
  pub as_given : (n : ℕ) → IsAsGiven (get_or given n Fate.Through) (get_or fates n Fate.Through)
  pub outcomes : List Outcome
  pub settled : ℕ
  pub between : BidderState
  pub more : List Call
  pub due : front ++ back ≡ old.exchange.outbox.pending ++ next_posts entries old.exchange
  pub tried : AreTried front fates old.bidder outcomes between
  pub valid : All IsSendable front
  pub cut : IsCutShort (get_or given (length (filter_map message_of front)) Fate.Through) back between more new.bidder
  pub followed : HasFollowed (take (old.exchange.outbox.followed + entries) old.exchange.day.history) new.exchange.outbox
  pub pending : new.exchange.outbox.pending ≡ left_of (front ++ back) (take settled outcomes)
  pub undeliverable : new.exchange.outbox.undeliverable ≡ given_up_with old.exchange.outbox.undeliverable (take settled outcomes)
  pub messages : new.messages ≡ old.messages ++ (filter_map message_of front ++ more)
  pub replies : new.replies ≡ old.replies
  pub day : new.exchange.day ≡ old.exchange.day
  pub campaigns : new.exchange.campaigns ≡ old.exchange.campaigns

-- a message was delivered once more, and the bidder's reply is on its way
pub record IsBrought (c : Call) (old new : WorldState) : Type 0 where
  pub reply : List ℕ
  pub exchange : new.exchange ≡ old.exchange
  pub messages : new.messages ≡ old.messages
  pub bidder : IsDelivered c.request old.bidder new.bidder
  pub replied : IsReplied c.request old.bidder reply new.bidder
  pub replies : new.replies ≡ old.replies ++ record { request = c.request; bytes = reply } ∷ []

-- a message was delivered once more; there is none where no message has that number
abbrev pub IsAgain : Option Call → WorldState → WorldState → Type 0
IsAgain None old new = new ≡ old
IsAgain (Some c) old new = IsBrought c old new

-- the same where memory was wanting
abbrev pub StopsAgain : Option Call → WorldState → WorldState → Type 0
StopsAgain None old new = new ≡ old
StopsAgain (Some c) old new = AtBidder (StopsDelivering c.request) old new

-- a reply that was on its way came to the exchange; there is none where none has that number
abbrev pub IsAcknowledged : Option Late → WorldState → WorldState → Type 0
IsAcknowledged None old new = new ≡ old
IsAcknowledged (Some late) old new = AtExchange (Acknowledges late) old new

-- the same where memory was wanting
abbrev pub StopsAcknowledging : Option Late → WorldState → WorldState → Type 0
StopsAcknowledging None old new = new ≡ old
StopsAcknowledging (Some late) old new = (new ≡ old) ⊎ AtExchange (Acknowledges late) old new

-- what a step does
abbrev pub Takes : Step → WorldState → WorldState → Type 0
Takes (Step.Ask request now) old new =
    (answer : Option BidAnswer) × ReadsAnswer request.id (answer_to old.bidder.line request) answer
    × AtExchange (IsCalled (ask (ask_of request old.exchange.campaigns (answer ∷ []) now))) old new
Takes (Step.Notice kind n) old new =
    AtExchange (IsNoticed (auction_of old.exchange.day.history n) (λ auction. notice kind auction n)) old new
Takes (Step.Tick now) old new = AtExchange (IsCalled (tick now)) old new
Takes (Step.Budget campaign change budget) old new = AtExchange (IsCalled (set_budget (change_of campaign change budget))) old new
Takes (Step.Pump fates) old new = IsPumped fates old new
Takes (Step.Again n) old new = IsAgain (slice_get old.messages n) old new
Takes (Step.Acknowledge n) old new = IsAcknowledged (slice_get old.replies n) old new
Takes Step.RestartExchange old new = AtExchange IsRestarted old new
Takes Step.RestartBidder old new = new ≡ old

-- a moment, or a change of a budget, that a day takes
abbrev pub IsTimely : Step → Type 0
IsTimely (Step.Ask request now) = now < 2 ^ 63
IsTimely (Step.Notice kind n) = ⊤
IsTimely (Step.Tick now) = now < 2 ^ 63
IsTimely (Step.Budget campaign change budget) = (1 ≤ change) × IsBudget budget
IsTimely (Step.Pump fates) = ⊤
IsTimely (Step.Again n) = ⊤
IsTimely (Step.Acknowledge n) = ⊤
IsTimely Step.RestartExchange = ⊤
IsTimely Step.RestartBidder = ⊤

-- what a step leaves that stops for lack of memory
abbrev pub Stops : Step → WorldState → WorldState → Type 0
Stops (Step.Ask request now) old new = AtExchange IsKept old new
Stops (Step.Notice kind n) old new = AtExchange IsKept old new
Stops (Step.Tick now) old new = AtExchange IsKept old new
Stops (Step.Budget campaign change budget) old new = AtExchange IsKept old new
Stops (Step.Pump fates) old new = StopsPumping fates old new
Stops (Step.Again n) old new = StopsAgain (slice_get old.messages n) old new
Stops (Step.Acknowledge n) old new = StopsAcknowledging (slice_get old.replies n) old new
Stops Step.RestartExchange old new = new ≡ old
Stops Step.RestartBidder old new = new ≡ old

-- what a step does, by its answer
abbrev pub StepsTo : Step → Result Unit OutOfMemory → WorldState → WorldState → Type 0
StepsTo s (Ok done) old new = Takes s old new
StepsTo s (Err wanting) old new = Stops s old new
