-- What a step does, from what was done at the exchange or at the bidder.
use Rattle.std.proofs.Common.{◌≡◌, ℕ, List, [], ◌∷◌, refl, subst, Option, Some, None, Result, Ok, Err}
use Rattle.std.specs.Prelude.{OnErr, OnOk}
use Rattle.std.specs.List.{slice_get}
use Rattle.adx_units.specs.declared.memory.OutOfMemory.{OutOfMemory}
use Rattle.script_lines.specs.Making.{ask_of}
use Rattle.bidder_core.specs.Answers.{answer_to}
use Rattle.bidder_core.specs.Seen.{BidderState}
use Rattle.day_rules.specs.Replies.{ask}
use Rattle.outbox.specs.declared.calling.Call.{Call}
use Rattle.rtb_request.specs.declared.bid_request.BidRequest.{BidRequest}
use Rattle.rtb_response.specs.declared.bid_answer.BidAnswer.{BidAnswer}
use Rattle.two_books.specs.Exchanges.{ExchangeState, IsCalled, IsKept}
use Rattle.two_books.specs.Playing.{BringsLate}
use Rattle.two_books.specs.Pumps.{world_of}
use Rattle.two_books.specs.Steps.{IsAcknowledged, IsAgain, ReadsAnswer, StepsTo, StopsAgain}
use Rattle.two_books.specs.Worlds.{WorldState}
use Rattle.two_books.specs.declared.late.Late.{Late}
use Rattle.two_books.specs.declared.step.Step.{Step}

pub ask_step : (request : BidRequest) (answer : Option BidAnswer) (now : ℕ) (r : Result (Unit {0}) OutOfMemory) (e e_now : ExchangeState) (ms : List Call) (b : BidderState) (rs : List Late)
    → ReadsAnswer request.id (answer_to b.line request) answer → OnOk r (IsCalled (ask (ask_of request e.campaigns (answer ∷ []) now)) e e_now) → OnErr r (IsKept e e_now)
    → StepsTo (Step.Ask request now) r (world_of e ms b rs) (world_of e_now ms b rs)
ask_step request answer now (Ok done) e e_now ms b rs reads did kept = (answer, reads, record { exchange = did; messages = refl; bidder = refl; replies = refl })
ask_step request answer now (Err wanting) e e_now ms b rs reads did kept = record { exchange = kept; messages = refl; bidder = refl; replies = refl }

pub again_step : (n : ℕ) (c : Call) (r : Result (Unit {0}) OutOfMemory) (e : ExchangeState) (ms : List Call) (b b_now : BidderState) (rs rs_now : List Late) → Some c ≡ slice_get ms n
    → BringsLate c.request r b b_now rs rs_now → StepsTo (Step.Again n) r (world_of e ms b rs) (world_of e ms b_now rs_now)
again_step n c (Ok done) e ms b b_now rs rs_now is (reply, delivered, replied, more) =
    subst (λ (o : Option Call). IsAgain o (world_of e ms b rs) (world_of e ms b_now rs_now)) is
    (record { reply = reply; exchange = refl; messages = refl; bidder = delivered; replied = replied; replies = more })
again_step n c (Err wanting) e ms b b_now rs rs_now is (stops, same) =
    subst (λ (o : Option Call). StopsAgain o (world_of e ms b rs) (world_of e ms b_now rs_now)) is (record { exchange = refl; messages = refl; bidder = stops; replies = same })

pub no_reply : (n : ℕ) (done : Unit {0}) (w : WorldState) → None ≡ slice_get w.replies n → StepsTo (Step.Acknowledge n) (Ok done) w w
no_reply n done w is = subst (λ (o : Option Late). IsAcknowledged o w w) is refl
