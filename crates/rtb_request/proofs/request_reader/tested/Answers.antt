use Rattle.std.proofs.Common.{[], map, codes, length, nat_le, Option, Some, None, rules, arith, ap, sym, ◌∙◌}
use Rattle.std.proofs.lemmas.Grind.{common_steps}
use Rattle.adx_json.specs.View.{tree_of, trees_of}
use Rattle.adx_json.specs.Rows.{first_among, or_else}
use Rattle.adx_json.specs.Values.{given, items_in, are_texts_if_given}
use Rattle.rtb_request.specs.Amounts.{is_id}
use Rattle.rtb_request.specs.Imps.{imp_rows, imp_id}
use Rattle.rtb_request.specs.Requests.{takes_dollars}
use Rattle.rtb_request.specs.declared.bid_request.TheConstants.{MOST_IMPS}
use Rattle.rtb_request.specs.declared.fault.RequestFault.{RequestFault}
use Rattle.rtb_request.specs.declared.fault.RequestFault.TheVariants.{NoId, NoImp, TooManyImps, BadField}
use Rattle.rtb_request.specs.declared.fault.Field.TheVariants.{Cur, Wseat, Bseat, Bcat, Badv}
use Rattle.adx_json.proofs.Listing.{passes, fails}
use Rattle.rtb_request.proofs.RowSteps.{fault_as, says_as}
use Rattle.rtb_request.proofs.request_reader.tested.Goals as goal

pub returns-then-not-are_texts_if_given-5-clause-offered : goal.returns-then-not-are_texts_if_given-5-clause-offered
returns-then-not-are_texts_if_given-5-clause-offered c m =
    let t = tree_of c.args.tree.now in
    let rest = or_else (first_among (λ before. imp_rows (takes_dollars (Some t)) (map imp_id before)) [] (items_in (given (codes "imp") t))) None in
    (passes (is_id (given (codes "id") t)) (NoId) (first_of (search rules, grind (arith, common_steps)))
    (passes (nat_le 1 (length (items_in (given (codes "imp") t)))) (NoImp) (first_of (search rules, grind (arith, common_steps)))
    (passes (nat_le (length (items_in (given (codes "imp") t))) MOST_IMPS) (TooManyImps) (first_of (search rules, grind (arith, common_steps)))
    (passes (are_texts_if_given (given (codes "cur") t)) (BadField Cur) (first_of (search rules, grind (arith, common_steps)))
    (passes (are_texts_if_given (given (codes "wseat") t)) (BadField Wseat) (first_of (search rules, grind (arith, common_steps)))
    (passes (are_texts_if_given (given (codes "bseat") t)) (BadField Bseat) (first_of (search rules, grind (arith, common_steps)))
    (passes (are_texts_if_given (given (codes "bcat") t)) (BadField Bcat) (first_of (search rules, grind (arith, common_steps)))
    (fails (are_texts_if_given (given (codes "badv") t)) (BadField Badv) rest (first_of (search rules, grind (arith, common_steps))))))))))) ∙ ap Some (sym c.bad_field-then-not-are_texts_if_given-5.ensures)

pub returns-in-Err-clause-offered : goal.returns-in-Err-clause-offered
returns-in-Err-clause-offered c m =
    let t = tree_of c.args.tree.now in
    let fault = fault_as {d = c.leaves_dollars.result} {ts = trees_of c.items_in-trees.result.now} (takes_dollars (Some t)) (items_in (given (codes "imp") t)) (c.in-Err.ensures.gives m) (first_of (search rules, grind (arith, common_steps))) (first_of (search rules, grind (arith, common_steps))) in
    passes (is_id (given (codes "id") t)) (NoId) (first_of (search rules, grind (arith, common_steps)))
    (passes (nat_le 1 (length (items_in (given (codes "imp") t)))) (NoImp) (first_of (search rules, grind (arith, common_steps)))
    (passes (nat_le (length (items_in (given (codes "imp") t))) MOST_IMPS) (TooManyImps) (first_of (search rules, grind (arith, common_steps)))
    (passes (are_texts_if_given (given (codes "cur") t)) (BadField Cur) (first_of (search rules, grind (arith, common_steps)))
    (passes (are_texts_if_given (given (codes "wseat") t)) (BadField Wseat) (first_of (search rules, grind (arith, common_steps)))
    (passes (are_texts_if_given (given (codes "bseat") t)) (BadField Bseat) (first_of (search rules, grind (arith, common_steps)))
    (passes (are_texts_if_given (given (codes "bcat") t)) (BadField Bcat) (first_of (search rules, grind (arith, common_steps)))
    (passes (are_texts_if_given (given (codes "badv") t)) (BadField Badv) (first_of (search rules, grind (arith, common_steps)))
    (ap (λ (x : Option RequestFault). or_else x None) fault))))))))

pub returns-clause-offered : goal.returns-clause-offered
returns-clause-offered c =
    let t = tree_of c.args.tree.now in
    let none = fault_as {d = c.leaves_dollars.result} {ts = trees_of c.items_in-trees.result.now} (takes_dollars (Some t)) (items_in (given (codes "imp") t)) c.in-Ok.ensures.gives.0 (first_of (search rules, grind (arith, common_steps))) (first_of (search rules, grind (arith, common_steps))) in (
      passes (is_id (given (codes "id") t)) (NoId) (first_of (search rules, grind (arith, common_steps)))
          (passes (nat_le 1 (length (items_in (given (codes "imp") t)))) (NoImp) (first_of (search rules, grind (arith, common_steps)))
          (passes (nat_le (length (items_in (given (codes "imp") t))) MOST_IMPS) (TooManyImps) (first_of (search rules, grind (arith, common_steps)))
          (passes (are_texts_if_given (given (codes "cur") t)) (BadField Cur) (first_of (search rules, grind (arith, common_steps)))
          (passes (are_texts_if_given (given (codes "wseat") t)) (BadField Wseat) (first_of (search rules, grind (arith, common_steps)))
          (passes (are_texts_if_given (given (codes "bseat") t)) (BadField Bseat) (first_of (search rules, grind (arith, common_steps)))
          (passes (are_texts_if_given (given (codes "bcat") t)) (BadField Bcat) (first_of (search rules, grind (arith, common_steps)))
          (passes (are_texts_if_given (given (codes "badv") t)) (BadField Badv) (first_of (search rules, grind (arith, common_steps)))
          (ap (λ (x : Option RequestFault). or_else x None) none)))))))),
      (first_of (search rules, grind (arith, common_steps)), (says_as {d = c.leaves_dollars.result} {ts = trees_of c.items_in-trees.result.now} (takes_dollars (Some t)) (items_in (given (codes "imp") t)) _ c.in-Ok.ensures.gives.1 (first_of (search rules, grind (arith, common_steps))) (first_of (search rules, grind (arith, common_steps))) (first_of (search rules, grind (arith, common_steps))), tt)),
    )
