-- What a bidder answers to a request for bids over HTTP: the bids, no content where no price reaches a floor, or why
-- the body is no request, in the words of a script's lines. This project's own.
use Rattle.std.specs.Prelude.{◌≡◌, ◌≢◌, ◌⊎◌, ℕ, List, [], true, Option, Some, None}
use Rattle.adx_json.specs.Tree.{Tree}
use Rattle.adx_json.specs.Faults.{IsFault}
use Rattle.adx_json.specs.Grammar.{IsJson}
use Rattle.adx_json.specs.Spelling.{spelling}
use Rattle.adx_json.specs.declared.fault.JsonFault.{JsonFault}
use Rattle.rtb_request.specs.Requests.{IsRequest, request_fault}
use Rattle.rtb_request.specs.declared.bid_request.BidRequest.{BidRequest}
use Rattle.rtb_request.specs.declared.fault.RequestFault.{RequestFault}
use Rattle.script_lines.specs.Whys.{json_why, request_why}
use Rattle.bidder_core.specs.Answers.{answer_to}
use Rattle.bidder_core.specs.declared.price_line.PriceLine.{PriceLine}
use Rattle.http_service.specs.declared.answer.Answer.{Answer}
use Rattle.http_service.specs.declared.answer.Methods.{Methods}
use Rattle.http_service.specs.Bodies.{plain, refused_body}

-- an answer with bids says its version of OpenRTB
abbrev pub offered : Answer
offered = record { status = 200; openrtb = true; allow = Methods.Unsaid }

-- the answer with these bids, in their compact spelling; no content where there are none
abbrev pub OffersBy : Option Tree → Answer → List ℕ → Type 0
OffersBy None a body = (a ≡ plain 204) × (body ≡ [])
OffersBy (Some bids) a body = (a ≡ offered) × (body ≡ spelling bids)

-- the bidder's answer to a request: its bids by its prices, or status 204
abbrev pub OffersTo : PriceLine → BidRequest → Answer → List ℕ → Type 0
OffersTo line request a body = OffersBy (answer_to line request) a body

-- the value is a request, which is answered, or is refused by its first fault
abbrev pub AnswersTree : PriceLine → Tree → Answer → List ℕ → Type 0
AnswersTree line value a body =
    ((request : BidRequest) × IsRequest value request × OffersTo line request a body)
    ⊎ ((fault : RequestFault) × (request_fault value ≡ Some fault) × (a ≡ plain 400) × (body ≡ refused_body (request_why fault)))

-- the bytes are a value, which is answered, or are refused by their fault
abbrev pub AnswersOffer : PriceLine → List ℕ → Answer → List ℕ → Type 0
AnswersOffer line bytes a body =
    ((value : Tree) × IsJson bytes value × AnswersTree line value a body)
    ⊎ ((fault : JsonFault) × (fault ≢ JsonFault.OutOfMemory) × IsFault bytes fault × (a ≡ plain 400) × (body ≡ refused_body (json_why fault)))
