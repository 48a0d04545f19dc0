-- What was read of a request is that of a whole request.
use Rattle.std.proofs.Common.{◌≡◌, ℕ, List, Some, None, codes, refl}
use Rattle.adx_json.specs.Rows.{Says}
use Rattle.adx_json.specs.Tree.{Tree}
use Rattle.adx_json.specs.Values.{given, texts_in}
use Rattle.rtb_request.specs.Requests.{IsRequest, offered_rows, request_fault}
use Rattle.rtb_request.specs.declared.bid_request.BidRequest.{BidRequest}
use Rattle.rtb_request.specs.declared.offered_imps.OfferedImps.{OfferedImps}
use Rattle.bidder_core.specs.Answers.{answer_for}
use Rattle.bidder_core.specs.declared.price_line.PriceLine.{PriceLine}
use Rattle.http_service.specs.declared.answer.Answer.{Answer}
use Rattle.bidder_http.specs.Offers.{OffersBy, OffersTo}

-- a request with these impressions, and that digest
abbrev whole : List ℕ → Tree → OfferedImps → BidRequest
whole digest t o = record {
  id = o.id;
  imps = o.imps;
  wseat = texts_in (given (codes "wseat") t);
  bseat = texts_in (given (codes "bseat") t);
  bcat = texts_in (given (codes "bcat") t);
  badv = texts_in (given (codes "badv") t);
  digest = digest;
  some_imp = o.some_imp;
  few_imps = o.few_imps;
  distinct = o.distinct;
}

pub request_offers : (line : PriceLine) (t : Tree) (o : OfferedImps) (a : Answer) (body : List ℕ)
    → (request_fault t ≡ None) × Says offered_rows (Some t) o → OffersBy (answer_for line o.id o.imps) a body
    → (w : BidRequest) × IsRequest t w × OffersTo line w a body
request_offers line t o a body read h =
    (whole _ t o, (read.0, (read.1.0, (tt, (tt, (tt, (refl, (refl, (refl, (refl, (read.1.1.0, (refl, tt))))))))))), h)
