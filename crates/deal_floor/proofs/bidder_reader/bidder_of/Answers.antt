use Rattle.std.proofs.Common.{length, codes, not, Some, refl, rules, arith}
use Rattle.std.proofs.lemmas.Grind.{common_steps}
use Rattle.adx_json.specs.Named.{member_in}
use Rattle.adx_json.specs.Values.{is_text_if_given}
use Rattle.adx_json.specs.View.{tree_of}
use Rattle.adx_json.proofs.Listing.{passes}
use Rattle.adx_units.specs.Among.{is_among}
use Rattle.rtb_request.specs.Amounts.{is_id}
use Rattle.deal_floor.specs.Forms.{is_path_if_given, is_whole_if_given}
use Rattle.deal_floor.specs.Rosters.{name_in}
use Rattle.deal_floor.specs.declared.fault.Field.TheVariants as fields
use Rattle.deal_floor.specs.declared.fault.RosterFault.TheVariants.{BadField, Repeated}
use Rattle.deal_floor.specs.declared.place.TheConstants.{MOST_PORT}
use Rattle.deal_floor.proofs.BidderSteps.{names}
use Rattle.deal_floor.proofs.bidder_reader.bidder_of.Goals as goal

pub returns-clause-gives : goal.returns-clause-gives
returns-clause-gives c =
    let t = tree_of c.args.tree.now in
    let ns = names c.args.others.now.items in (
      passes (is_id (member_in (codes "name") t)) (BadField fields.BidderName) (first_of (search rules, grind (arith, common_steps)))
          (passes (is_text_if_given (member_in (codes "host") t)) (BadField fields.BidderHost) (first_of (search rules, grind (arith, common_steps)))
          (passes (is_whole_if_given MOST_PORT (member_in (codes "port") t)) (BadField fields.BidderPort) (first_of (search rules, grind (arith, common_steps)))
          (passes (is_path_if_given (member_in (codes "path") t)) (BadField fields.BidderPath) (first_of (search rules, grind (arith, common_steps)))
          (passes (not (is_among ns (name_in (Some t)))) (Repeated (length ns)) (first_of (search rules, grind (arith, common_steps))) refl)))),
      (
        first_of (search rules, grind (arith, common_steps)),
        (
          first_of (search rules, grind (arith, common_steps)),
          (first_of (search rules, grind (arith, common_steps)), (first_of (search rules, grind (arith, common_steps)), (tt, tt))),
        ),
      ),
    )
