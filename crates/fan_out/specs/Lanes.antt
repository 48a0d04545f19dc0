-- What asking one bidder does to its lane. This project's own.
use Rattle.std.specs.Prelude.{◌≡◌, ◌≢◌, ◌⊎◌, ℕ, ◌≤◌, List, take, IsTrue, Option, IfSome, Result, Ok, Err, ⊤}
use Rattle.std.specs.Borrow.{GName}
use Rattle.adx_units.specs.declared.memory.OutOfMemory.{OutOfMemory}
use Rattle.adx_io.specs.Streams.{WhereTold, Rises}
use Rattle.adx_links.specs.declared.link.Link.{Ghosts as LinkGhosts}
use Rattle.adx_links.specs.Links.{Course, Exchanges, FailsStart, after_start, exchanges_in, next_start}
use Rattle.adx_http.specs.Exchanging.{OneMore, AnswersFront}
use Rattle.deal_floor.specs.declared.place.Place.{Place}
use Rattle.fan_out.specs.declared.answer.BidderAnswer.{BidderAnswer}
use Rattle.fan_out.specs.declared.lane.Lane.{Lane}
use Rattle.fan_out.specs.Requests.{request_bytes}
use Rattle.fan_out.specs.Answers.{Said, said_by, bids, no_bid, refused, link_fault, Says, IsOfAnswer}

-- what a lane's work came to
abbrev pub Outcome : Type 0
Outcome = Result Said OutOfMemory

-- what a lane's work came to: what the bidder said, or that memory ran out
abbrev pub outcome_of : Result BidderAnswer OutOfMemory → Outcome
outcome_of (Ok a) = Ok (said_by a)
outcome_of (Err e) = Err e

-- there is one more exchange: the bidder was called where it is, and asked this
abbrev pub AsksBidder : Place → List ℕ → Exchanges → Exchanges → Type 0
AsksBidder p asked old new = (answered : List ℕ) × OneMore p.host p.port asked answered old new

-- the bidder was asked some front of the request
abbrev pub AsksFront : Place → List ℕ → Exchanges → Exchanges → Type 0
AsksFront p request old new = (n : ℕ) × (answered : List ℕ) × OneMore p.host p.port (take n request) answered old new

-- there is no exchange more
abbrev pub AsksNothing : Exchanges → Exchanges → Type 0
AsksNothing old new = exchanges_in new ≡ exchanges_in old

-- What a bidder was asked. Where its link failed it may have been asked a front of the request, and where the start
-- failed the call may not have begun at all; where memory was refused it was asked all of it, or was not called.
abbrev pub Asks : Place → List ℕ → Outcome → Exchanges → Exchanges → Type 0
Asks p request (Ok link_fault) old new = AsksFront p request old new ⊎ AsksNothing old new
Asks p request (Ok no_bid) old new = AsksBidder p request old new
Asks p request (Ok (bids a)) old new = AsksBidder p request old new
Asks p request (Ok (refused r)) old new = AsksBidder p request old new
Asks p request (Err e) old new = AsksBidder p request old new ⊎ AsksNothing old new

-- One start of the link's plan is over, and what is said of the bidder is what the bytes say that this start answers.
-- Where memory was refused the link may not have been started.
abbrev pub Follows : ℕ → List ℕ → Outcome → Course → Course → Type 0
Follows limit id (Ok link_fault) old new = new.plan ≡ after_start old.plan
Follows limit id (Ok no_bid) old new = (new.plan ≡ after_start old.plan) × Says limit id (next_start old.plan).bytes no_bid
Follows limit id (Ok (bids a)) old new = (new.plan ≡ after_start old.plan) × Says limit id (next_start old.plan).bytes (bids a)
Follows limit id (Ok (refused r)) old new = (new.plan ≡ after_start old.plan) × Says limit id (next_start old.plan).bytes (refused r)
Follows limit id (Err e) old new = (new.plan ≡ after_start old.plan) ⊎ (new.plan ≡ old.plan)

-- the link failed, or memory was refused
abbrev pub IsLost : Outcome → Type 0
IsLost (Ok link_fault) = ⊤
IsLost (Ok no_bid) = ⊥
IsLost (Ok (bids a)) = ⊥
IsLost (Ok (refused r)) = ⊥
IsLost (Err e) = ⊤

-- where the plan lets the start fail, or the first put, nothing is said of the bidder
abbrev pub IsPlanned : Outcome → Course → Type 0
IsPlanned outcome c = (FailsStart c → IsLost outcome) × (IsTrue (next_start c.plan).put_fails → IsLost outcome)

-- a fault of the link is reported only where its count rose, and none is passed over
pub record IsCaused (before now : ℕ) (outcome : Outcome) : Type 0 where
  pub later : before ≤ now
  pub failed : outcome ≡ Ok link_fault → Rises before now
  pub passed : outcome ≢ Ok link_fault → now ≡ before

-- what is said is of the answer
abbrev pub IsOwn : Outcome → Type 0
IsOwn (Ok said) = IsOfAnswer said
IsOwn (Err e) = ⊤

module _ {L : Type 0} (exchanges : L → Option Exchanges) (course : L → Option Course) (faults : L → ℕ) (stands_on : L → List GName) (body id : List ℕ) where
  -- A lane's work: its bidder was sent the body, at most once, and what it answered is the outcome. Nothing of another
  -- lane is in it.
  pub record IsWorked (old new : Lane L) (outcome : Outcome) : Type 0 where
    pub place : new.place ≡ old.place
    pub limit : new.conn.limit ≡ old.conn.limit
    pub asks : WhereTold (exchanges old.link) (exchanges new.link) (Asks old.place (request_bytes old.place body) outcome)
    pub follows : WhereTold (course old.link) (course new.link) (Follows old.conn.limit id outcome)
    pub front : IfSome (course old.link) (λ c. WhereTold (exchanges old.link) (exchanges new.link) (AnswersFront c))
    pub planned : IfSome (course old.link) (IsPlanned outcome)
    pub cause : IsCaused (faults old.link) (faults new.link) outcome
    pub same : stands_on new.link ≡ stands_on old.link
    pub own : IsOwn outcome

-- how the lanes over such links are worked
abbrev pub works : {L : Type 0} → LinkGhosts L → List ℕ → List ℕ → Lane L → Lane L → Outcome → Type 0
works l = IsWorked l.exchanges l.course l.faults l.place
