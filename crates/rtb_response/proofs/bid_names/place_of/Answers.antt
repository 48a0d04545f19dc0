use Rattle.std.proofs.Common.{◌≡◌, codes, rules, arith, ap, sym}
use Rattle.std.proofs.lemmas.Slice.Eq.{text_from_reads}
use Rattle.rtb_response.specs.BidNames.{bid_names, place_in}
use Rattle.rtb_response.proofs.bid_names.place_of.Goals as goal

pub returns-in-dealid : goal.returns-in-dealid
returns-in-dealid c =
    let is : c.args.name.now ≡ codes "dealid" = first_of (search (rules, text_from_reads), grind (arith, text_from_reads)) in
    ap (place_in bid_names) (sym is)

pub returns-in-adomain : goal.returns-in-adomain
returns-in-adomain c =
    let is : c.args.name.now ≡ codes "adomain" = first_of (search (rules, text_from_reads), grind (arith, text_from_reads)) in
    ap (place_in bid_names) (sym is)
