-- A price that passes each test, and what it says.
use Rattle.std.proofs.Common.{length, codes, is_ok, not, Some, refl, rules, arith}
use Rattle.std.proofs.lemmas.Grind.{common_steps}
use Rattle.adx_json.specs.Named.{member_in}
use Rattle.adx_json.specs.View.{tree_of}
use Rattle.adx_json.proofs.Listing.{passes}
use Rattle.adx_units.specs.Among.{is_among}
use Rattle.rtb_request.specs.Amounts.{is_id}
use Rattle.deal_floor.specs.declared.fault.Field.TheVariants as fields
use Rattle.deal_floor.specs.declared.fault.RosterFault.TheVariants.{BadField, Repeated}
use Rattle.bidder_core.specs.PriceLines.{cid_in, price_told}
use Rattle.bidder_core.proofs.PriceSteps.{cids}
use Rattle.bidder_core.proofs.line_reader.price_of_tree.Goals as goal

pub returns-clause-gives : goal.returns-clause-gives
returns-clause-gives c =
    let t = tree_of c.args.tree.now in
    let ns = cids c.args.others.now.items in (
      passes (is_id (member_in (codes "cid") t)) (BadField fields.PriceCid) (first_of (search rules, grind (arith, common_steps)))
          (passes (is_ok (price_told (member_in (codes "price") t))) (BadField fields.PricePrice) (first_of (search rules, grind (arith, common_steps)))
          (passes (not (is_among ns (cid_in (Some t)))) (Repeated (length ns)) (first_of (search rules, grind (arith, common_steps))) refl)),
      (first_of (search rules, grind (arith, common_steps)), (first_of (search rules, grind (arith, common_steps)), (tt, tt))),
    )

-- A price for a campaign that one before it has.
pub returns-then-is_among-clause-gives : goal.returns-then-is_among-clause-gives
returns-then-is_among-clause-gives c =
    let t = tree_of c.args.tree.now in
    λ _.
    passes (is_id (member_in (codes "cid") t)) (BadField fields.PriceCid) (first_of (search rules, grind (arith, common_steps)))
    (passes (is_ok (price_told (member_in (codes "price") t))) (BadField fields.PricePrice) (first_of (search rules, grind (arith, common_steps)))
    (first_of (search rules, grind (arith, common_steps))))
