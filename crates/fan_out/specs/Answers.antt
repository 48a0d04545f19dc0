-- What the bytes that a bidder answers say: an HTTP response, its JSON, and the bids of that. The order of the tests, and
-- that 200 and 204 are the two statuses that say anything of bids, are this project's own.
use Rattle.std.specs.Prelude.{◌≡◌, ◌≢◌, ◌⊎◌, ℕ, List, Bool, true, false, not, ◌==◌, length, Some, ⊤}
use Rattle.std.specs.List.{list_any}
use Rattle.adx_json.specs.Tree.{Tree}
use Rattle.adx_json.specs.Grammar.{IsJson}
use Rattle.adx_json.specs.Faults.{IsFault}
use Rattle.adx_json.specs.declared.fault.JsonFault.{JsonFault}
use Rattle.rtb_response.specs.Answers.{IsAnswer, answer_fault}
use Rattle.rtb_response.specs.declared.bid_answer.BidAnswer.{BidAnswer}
use Rattle.rtb_response.specs.declared.bid_answer.SeatBid.{SeatBid}
use Rattle.rtb_response.specs.declared.fault.AnswerFault.{AnswerFault}
use Rattle.http_grammar.specs.declared.fault.HttpFault.{HttpFault}
use Rattle.httparse.specs.Grammar.{status_code}
use Rattle.http_connection.specs.Messages.{ResponseRead, IsResponseThen, RefusesResponse}
use Rattle.fan_out.specs.declared.answer.BidderAnswer.{BidderAnswer}
use Rattle.fan_out.specs.declared.answer.Refusal.{Refusal}

-- what a bidder said
pub data Said : Type 0 where
  bids : BidAnswer → Said
  no_bid : Said
  refused : Refusal → Said
  link_fault : Said

-- what a bidder's answer says, wherever it lies in memory
abbrev pub said_by : BidderAnswer → Said
said_by (BidderAnswer.Bids a) = bids a
said_by BidderAnswer.NoBid = no_bid
said_by (BidderAnswer.Refused r) = refused r
said_by BidderAnswer.LinkFault = link_fault

-- some seat has a bid
abbrev pub has_bid : BidAnswer → Bool
has_bid a = list_any (λ (s : SeatBid). not (length s.bids == 0)) a.seats

-- What a body says to the auction with that id: the bids of its answer (RFC 8259; OpenRTB 2.6, section 4.2.1), that there
-- are none, or why it isn't one.
abbrev pub SaysBody : List ℕ → List ℕ → Said → Type 0
SaysBody id body (bids a) = (t : Tree) × IsJson body t × IsAnswer id t a × (has_bid a ≡ true)
SaysBody id body no_bid = (t : Tree) × (a : BidAnswer) × IsJson body t × IsAnswer id t a × (has_bid a ≡ false)
SaysBody id body (refused (Refusal.Http f)) = ⊥
SaysBody id body (refused (Refusal.Status n)) = ⊥
SaysBody id body (refused (Refusal.Json f)) = IsFault body f × (f ≢ JsonFault.OutOfMemory)
SaysBody id body (refused (Refusal.Answer f)) = (t : Tree) × IsJson body t × (answer_fault id t ≡ Some f) × (f ≢ AnswerFault.OutOfMemory)
SaysBody id body link_fault = ⊥

-- what a response with that status and body says (RFC 9110, sections 15.3.1 and 15.3.5)
abbrev pub SaysResponse : List ℕ → ℕ → List ℕ → Said → Type 0
SaysResponse id status body said =
    ((status ≡ 200) × SaysBody id body said)
    ⊎ (((status ≡ 204) × (said ≡ no_bid))
    ⊎ ((status ≢ 200) × (status ≢ 204) × (said ≡ refused (Refusal.Status status))))

-- some response at the front of the bytes, whose body is within the limit, says this
abbrev pub SaysSome : ℕ → List ℕ → List ℕ → Said → Type 0
SaysSome limit id bytes said = (r : ResponseRead) × (rest : List ℕ) × IsResponseThen limit bytes r rest × SaysResponse id (status_code r.head) r.body said

-- what all the bytes of an answer say
abbrev pub Says : ℕ → List ℕ → List ℕ → Said → Type 0
Says limit id bytes (refused (Refusal.Http f)) = RefusesResponse limit bytes f × (f ≢ HttpFault.ReadFault)
Says limit id bytes (refused (Refusal.Status n)) = SaysSome limit id bytes (refused (Refusal.Status n))
Says limit id bytes (refused (Refusal.Json f)) = SaysSome limit id bytes (refused (Refusal.Json f))
Says limit id bytes (refused (Refusal.Answer f)) = SaysSome limit id bytes (refused (Refusal.Answer f))
Says limit id bytes (bids a) = SaysSome limit id bytes (bids a)
Says limit id bytes no_bid = SaysSome limit id bytes no_bid
Says limit id bytes link_fault = ⊥

-- a refusal is for a fault of the answer, and not because the link failed or memory was refused
abbrev pub IsOfAnswer : Said → Type 0
IsOfAnswer (refused (Refusal.Http f)) = f ≢ HttpFault.ReadFault
IsOfAnswer (refused (Refusal.Status n)) = (n ≢ 200) × (n ≢ 204)
IsOfAnswer (refused (Refusal.Json f)) = f ≢ JsonFault.OutOfMemory
IsOfAnswer (refused (Refusal.Answer f)) = f ≢ AnswerFault.OutOfMemory
IsOfAnswer (bids a) = has_bid a ≡ true
IsOfAnswer no_bid = ⊤
IsOfAnswer link_fault = ⊤
