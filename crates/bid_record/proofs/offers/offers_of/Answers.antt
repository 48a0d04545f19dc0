use Rattle.std.proofs.Common.{◌≡◌, ◌≤◌, [], length, rules}
use Rattle.std.proofs.lemmas.List.{nil_from_length}
use Rattle.bid_record.specs.Reading.{charge_of}
use Rattle.bid_record.proofs.OfferLists.{offers_fail, offer_shorter, offers_go_on, offers_end}
use Rattle.bid_record.proofs.offers.offers_of.Goals as goal

pub returns-in_default : goal.returns-in_default
returns-in_default c =
    let some : 1 ≤ length c.offers.left.now = search rules in
    offers_fail c.args.campaigns c.args.bytes.now c.offers.left.now c.offers.offers c.offers.invariant some c.in_default.ensures

pub offers-smaller : goal.offers-smaller
offers-smaller c = offer_shorter c.offers.left.now (charge_of c.in-Some.found.campaign c.in-Some.found.charge) c.in-Some.found.rest.now c.in-Some.ensures

pub offers-preserved : goal.offers-preserved
offers-preserved c =
    let some : 1 ≤ length c.offers.left.now = search rules in
    offers_go_on c.args.campaigns c.args.bytes.now c.offers.left.now c.offers.offers c.in-Some.found.campaign c.in-Some.found.charge c.in-Some.found.rest.now c.put.new.offers c.offers.invariant some c.in-Some.ensures c.in-Ok.ensures

pub returns : goal.returns
returns c =
    let zero : length c.offers.left.now ≡ 0 = search rules in
    let none : c.offers.left.now ≡ [] = nil_from_length c.offers.left.now zero in
    offers_end c.args.campaigns c.args.bytes.now c.offers.left.now c.offers.offers c.offers.invariant none
