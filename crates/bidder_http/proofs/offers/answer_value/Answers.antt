-- The value is a request, which offers what was read.
use Rattle.std.proofs.Common.{inl, string_bytes}
use Rattle.adx_json.specs.View.{tree_of}
use Rattle.bidder_core.specs.Answers.{answer_for}
use Rattle.bidder_http.specs.Offers.{AnswersTree, OffersBy}
use Rattle.bidder_http.proofs.Offered.{request_offers}
use Rattle.bidder_http.proofs.Results.{map_ok}
use Rattle.bidder_http.proofs.offers.answer_value.Goals as goal

pub returns-in-Ok : goal.returns-in-Ok
returns-in-Ok c =
    let line = c.args.bidder.now.line in
    let o = c.in-Ok.offered in
    let tree = tree_of c.args.value.now in
    let body = string_bytes c.answer_bids.new.body in
    map_ok c.answer_bids.result
    (λ a. OffersBy (answer_for line o.id o.imps) a body)
    (λ a. AnswersTree line tree a body)
    (λ a h. inl (request_offers line tree o a body c.in-Ok.ensures h)) c.answer_bids.ensures
