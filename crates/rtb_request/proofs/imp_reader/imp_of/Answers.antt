use Rattle.std.proofs.Common.{◌≡◌, [], map, codes, is_ok, not, Option, None, rules, arith, ap}
use Rattle.std.proofs.lemmas.Grind.{common_steps}
use Rattle.adx_json.specs.View.{tree_of}
use Rattle.adx_units.specs.Among.{is_among}
use Rattle.adx_json.specs.Rows.{first_among, or_else}
use Rattle.adx_json.specs.Values.{given, given_within, items_in, text_or_empty, is_text_if_given, is_object_if_given, is_list_if_given}
use Rattle.rtb_request.specs.Amounts.{is_id, floor_in}
use Rattle.rtb_request.specs.Deals.{deal_rows}
use Rattle.rtb_request.specs.Imps.{is_zero_or_one_if_given}
use Rattle.rtb_request.specs.declared.imp.Imp.{Imp}
use Rattle.rtb_request.specs.declared.fault.RequestFault.{RequestFault}
use Rattle.rtb_request.specs.declared.fault.RequestFault.TheVariants.{RepeatedImp, BadField}
use Rattle.rtb_request.specs.declared.fault.Field.TheVariants.{ImpId, ImpBidfloor, ImpBidfloorcur, ImpPmp, PmpPrivateAuction, PmpDeals}
use Rattle.adx_json.proofs.Listing.{passes}
use Rattle.rtb_request.proofs.imp_reader.imp_of.Goals as goal

pub returns-clause-gives : goal.returns-clause-gives
returns-clause-gives c =
    let t = tree_of c.args.tree.now in
    let ids = map (λ (i : Imp). i.id) c.args.others.now.items in
    let deals : first_among (λ others. deal_rows) [] (items_in (given_within (codes "deals") (given (codes "pmp") t))) ≡ None = first_of (search rules, grind (arith, common_steps)) in (
      passes (is_id (given (codes "id") t)) (BadField ImpId) (first_of (search rules, grind (arith, common_steps)))
          (passes (not (is_among ids (text_or_empty (given (codes "id") t)))) (RepeatedImp (text_or_empty (given (codes "id") t))) (first_of (search rules, grind (arith, common_steps)))
          (passes (is_ok (floor_in (given (codes "bidfloor") t))) (BadField ImpBidfloor) (first_of (search rules, grind (arith, common_steps)))
          (passes (is_text_if_given (given (codes "bidfloorcur") t)) (BadField ImpBidfloorcur) (first_of (search rules, grind (arith, common_steps)))
          (passes (is_object_if_given (given (codes "pmp") t)) (BadField ImpPmp) (first_of (search rules, grind (arith, common_steps)))
          (passes (is_zero_or_one_if_given (given_within (codes "private_auction") (given (codes "pmp") t))) (BadField PmpPrivateAuction) (first_of (search rules, grind (arith, common_steps)))
          (passes (is_list_if_given (given_within (codes "deals") (given (codes "pmp") t))) (BadField PmpDeals) (first_of (search rules, grind (arith, common_steps)))
          (ap (λ (x : Option RequestFault). or_else x None) deals))))))),
      (
        first_of (search rules, grind (arith, common_steps)),
        (
          tt,
          (
            first_of (search rules, grind (arith, common_steps)),
            (
              tt,
              (
                tt,
                (
                  first_of (search rules, grind (arith, common_steps)),
                  (
                    tt,
                    (
                      first_of (search rules, grind (arith, common_steps)),
                      (
                        first_of (search rules, grind (arith, common_steps)),
                        (
                          first_of (search rules, grind (arith, common_steps)),
                          tt,
                        ),
                      ),
                    ),
                  ),
                ),
              ),
            ),
          ),
        ),
      ),
    )
