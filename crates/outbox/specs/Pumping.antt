-- What a pump does: it tries each pending post once, in order. This project's own.
use Rattle.std.specs.Prelude.{◌≡◌, ◌≢◌, ◌⊎◌, ℕ, ◌+◌, ◌-◌, ◌^◌, ◌<◌, ◌≤◌, min, List, [], ◌∷◌, ◌++◌, length, take, drop, Bool, true, false, ◌&&◌, nat_le, IsTrue, if◌then◌else◌, Option, Some, None, IfSome, IfOk, OnOk, Result, Ok, Err, ⊤}
use Rattle.std.specs.List.{count_by, slice_get}
use Rattle.std.specs.Option.{option_map_or}
use Rattle.std.specs.Borrow.{GName}
use Rattle.adx_units.specs.declared.memory.OutOfMemory.{OutOfMemory}
use Rattle.adx_io.specs.Streams.{Rises, WhereTold}
use Rattle.adx_links.specs.Links.{Course, Exchanges, FailsStart, after_start, exchanges_in, next_start}
use Rattle.http_grammar.specs.declared.fault.HttpFault.{HttpFault}
use Rattle.httparse.specs.Grammar.{status_code}
use Rattle.http_connection.specs.Messages.{IsResponseThen, RefusesResponse, ResponseRead}
use Rattle.adx_http.specs.Exchanging.{AnswersFront, OneMore}
use Rattle.outbox.specs.declared.calling.Call.{Call}
use Rattle.outbox.specs.declared.report.Outcome.{Outcome}
use Rattle.outbox.specs.declared.report.Outcome.TheVariants.{Delivered, Failed, Answered, Undeliverable}
use Rattle.outbox.specs.declared.report.Report.{Report}
use Rattle.outbox.specs.declared.post.Post.{Post}
use Rattle.outbox.specs.Calls.{call_of}
use Rattle.outbox.specs.Following.{OutboxState}

-- the status says that the notice came through (RFC 9110, section 15.3)
abbrev pub is_success : ℕ → Bool
is_success status = nat_le 200 status && nat_le status 299

-- the bytes begin with a response, which is a success or isn't
abbrev pub Responds : ℕ → List ℕ → Bool → Type 0
Responds limit bytes success =
    (r : ResponseRead) × (rest : List ℕ) × IsResponseThen limit bytes r rest × (success ≡ is_success (status_code r.head))

-- What all the bytes of an answer come to: a success delivers the post; any other response, or none, only answers it.
abbrev pub ComesTo : ℕ → List ℕ → Outcome → Type 0
ComesTo limit bytes Delivered = Responds limit bytes true
ComesTo limit bytes Answered =
    Responds limit bytes false ⊎ ((fault : HttpFault) × RefusesResponse limit bytes fault)
ComesTo limit bytes Failed = ⊤
ComesTo limit bytes Undeliverable = ⊥

-- there is one more exchange: the host was called, and asked this
abbrev pub AsksHost : Call → List ℕ → Exchanges → Exchanges → Type 0
AsksHost c asked old new = (answered : List ℕ) × OneMore c.host c.port asked answered old new

-- What the host was asked: the whole request. Where the link failed it may have been a front of it, and where the start
-- failed the call may not stand at all.
abbrev pub Asks : Call → Outcome → Exchanges → Exchanges → Type 0
Asks c Delivered old new = AsksHost c c.request old new
Asks c Answered old new = AsksHost c c.request old new
Asks c Failed old new = ((n : ℕ) × AsksHost c (take n c.request) old new) ⊎ (exchanges_in new ≡ exchanges_in old)
Asks c Undeliverable old new = ⊥

-- one start of the link's plan is over, and the outcome is what the bytes come to that this start answers
pub record Follows (limit : ℕ) (o : Outcome) (old new : Course) : Type 0 where
  pub plan : new.plan ≡ after_start old.plan
  pub comes : ComesTo limit (next_start old.plan).bytes o

-- where the plan lets the start fail, or the first put of something, the link failed
pub record IsPlanned (call : Call) (o : Outcome) (c : Course) : Type 0 where
  pub start : FailsStart c → o ≡ Failed
  pub put : 0 < length call.request → IsTrue (next_start c.plan).put_fails → o ≡ Failed

-- a fault of the link is told only where its count rose, and none is passed over
pub record IsCaused (before now : ℕ) (o : Outcome) : Type 0 where
  pub later : before ≤ now
  pub failed : o ≡ Failed → Rises before now
  pub passed : o ≢ Failed → now ≡ before

-- the post stays pending
abbrev pub stays : Outcome → Bool
stays Delivered = false
stays Failed = true
stays Answered = true
stays Undeliverable = false

-- what stays of the posts behind these tries, in their order; those that weren't tried stay
abbrev pub left_of : List Post → List Outcome → List Post
left_of [] outcomes = []
left_of (p ∷ ps) [] = p ∷ ps
left_of (p ∷ ps) (o ∷ os) = if stays o then p ∷ left_of ps os else left_of ps os

-- what comes of an exchange in which a success was heard, or something else
abbrev pub outcome_by : Result Bool HttpFault → Outcome
outcome_by (Ok true) = Delivered
outcome_by (Ok false) = Answered
outcome_by (Err HttpFault.ReadFault) = Failed
outcome_by (Err HttpFault.BadHead) = Answered
outcome_by (Err HttpFault.HeadTooLong) = Answered
outcome_by (Err HttpFault.LengthRequired) = Answered
outcome_by (Err HttpFault.BodyTooLong) = Answered
outcome_by (Err HttpFault.BadChunk) = Answered
outcome_by (Err HttpFault.Cut) = Answered
outcome_by (Err HttpFault.Coding) = Answered

-- whether the post at a place stays; one that wasn't tried does
abbrev pub stays_at : List Outcome → ℕ → Bool
stays_at outcomes n = option_map_or stays (slice_get outcomes n) true

-- it answered with a status from 200 to 299
abbrev pub is_delivered : Outcome → Bool
is_delivered Delivered = true
is_delivered Failed = false
is_delivered Answered = false
is_delivered Undeliverable = false

-- the host wasn't reached, or gave no answer
abbrev pub is_failed : Outcome → Bool
is_failed Delivered = false
is_failed Failed = true
is_failed Answered = false
is_failed Undeliverable = false

-- it answered with a status outside 200 to 299
abbrev pub is_answered : Outcome → Bool
is_answered Delivered = false
is_answered Failed = false
is_answered Answered = true
is_answered Undeliverable = false

-- the notice can't be sent at all
abbrev pub is_undeliverable : Outcome → Bool
is_undeliverable Delivered = false
is_undeliverable Failed = false
is_undeliverable Answered = false
is_undeliverable Undeliverable = true

-- how many outcomes are such; the count stands still at its last value
abbrev pub counted : (Outcome → Bool) → List Outcome → ℕ
counted test outcomes = min (count_by test outcomes) (2 ^ 32 - 1)

-- how many posts were given up, those of these outcomes too; the count stands still at its last value
-- Example: 3 with delivered, undeliverable and failed is 4.
abbrev pub given_up_with : ℕ → List Outcome → ℕ
given_up_with before outcomes = before + min (count_by is_undeliverable outcomes) ((2 ^ 32 - 1) - before)

-- how many outcomes of each kind, up to the greatest count
abbrev pub report_of : List Outcome → Report
report_of outcomes = record {
  delivered = counted is_delivered outcomes;
  failed = counted is_failed outcomes;
  answered = counted is_answered outcomes;
  undeliverable = counted is_undeliverable outcomes;
}

-- the posts that are tried where so many are, from a place on
abbrev pub part_of : ℕ → ℕ → List Post → List Post
part_of first most pending = take most (drop first pending)

module _ {L : Type 0} (exchanges : L → Option Exchanges) (course : L → Option Course) (faults : L → ℕ) (stands_on : L → List GName) (limit : ℕ) where
  -- a call was tried over the link, and this came of it
  pub record IsTried (c : Call) (old new : L) (o : Outcome) : Type 0 where
    pub asks : WhereTold (exchanges old) (exchanges new) (Asks c o)
    pub follows : WhereTold (course old) (course new) (Follows limit o)
    pub front : IfSome (course old) (λ c. WhereTold (exchanges old) (exchanges new) (AnswersFront c))
    pub planned : IfSome (course old) (IsPlanned c o)
    pub cause : IsCaused (faults old) (faults new) o
    pub same : stands_on new ≡ stands_on old
    pub sent : o ≢ Undeliverable

  -- a URL was tried: without a call the link isn't touched
  abbrev pub TriesCall : Option Call → L → L → Outcome → Type 0
  TriesCall None old new o = (o ≡ Undeliverable) × (new ≡ old)
  TriesCall (Some c) old new o = IsTried c old new o

  -- the posts were tried one after the other, and these are their outcomes
  abbrev pub AreTried : List Post → List Outcome → L → L → Type 0
  AreTried [] [] old new = new ≡ old
  AreTried [] (o ∷ os) old new = ⊥
  AreTried (p ∷ ps) [] old new = ⊥
  AreTried (p ∷ ps) (o ∷ os) old new = (mid : L) × TriesCall (call_of p.url) old mid o × AreTried ps os mid new

  -- Each of the first pending posts was tried once, in order, all of them unless memory was wanting. Those that were
  -- delivered or can't be delivered are pending no more, and the report counts them all by what came of them. Those that
  -- can't be delivered are counted also where memory is wanting, when no report tells of them.
  pub record Pumps (link_old link_new : L) (result : Result Report OutOfMemory) (old new : OutboxState) : Type 0 where
    pub outcomes : List Outcome
    pub few : length outcomes ≤ length old.pending
    pub all : OnOk result (length outcomes ≡ length old.pending)
    pub tried : AreTried (take (length outcomes) old.pending) outcomes link_old link_new
    pub pending : new.pending ≡ left_of old.pending outcomes
    pub followed : new.followed ≡ old.followed
    pub kept : new.kept ≡ old.kept
    pub given_up : new.undeliverable ≡ given_up_with old.undeliverable outcomes
    pub report : IfOk result (λ r. r ≡ report_of outcomes)

  -- As a pump, but of so many of the pending posts alone, from a place on: those before it and behind it stay where they are.
  -- Example: of p, q, r, s the two from place 1 on are tried; of a 204 and a 500 p, r and s stay.
  pub record PumpsPart (first most : ℕ) (link_old link_new : L) (result : Result Report OutOfMemory) (old new : OutboxState) : Type 0 where
    pub outcomes : List Outcome
    pub few : length outcomes ≤ length (part_of first most old.pending)
    pub all : OnOk result (length outcomes ≡ length (part_of first most old.pending))
    pub tried : AreTried (take (length outcomes) (drop first old.pending)) outcomes link_old link_new
    pub pending : new.pending ≡ take first old.pending ++ left_of (drop first old.pending) outcomes
    pub followed : new.followed ≡ old.followed
    pub kept : new.kept ≡ old.kept
    pub given_up : new.undeliverable ≡ given_up_with old.undeliverable outcomes
    pub report : IfOk result (λ r. r ≡ report_of outcomes)
