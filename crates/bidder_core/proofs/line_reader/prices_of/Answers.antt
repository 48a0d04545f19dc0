use Rattle.std.proofs.Common.{◌≡◌, ◌+◌, List, [], ◌∷◌, ◌++◌, Some, sym, ap, ◌∙◌, subst, rules, true, drop}
use Rattle.std.proofs.lemmas.List.{drop_all}
use Rattle.adx_json.specs.Tree.{Tree}
use Rattle.adx_json.specs.View.{tree_of, trees_of}
use Rattle.adx_json.specs.Rows.{first_fault}
use Rattle.adx_json.proofs.Items.{left_is}
use Rattle.adx_json.proofs.Listing.{Walked, walk_begins, walk_on, walk_off, walk_faultless, walk_ends}
use Rattle.rtb_request.specs.Distinct.{all_distinct}
use Rattle.bidder_core.specs.PriceLines.{price_rows}
use Rattle.bidder_core.proofs.PriceSteps.{cids, cids_in, cids_are, pushed_distinct}
use Rattle.bidder_core.proofs.line_reader.prices_of.Goals as goal

pub loop-tree-init : goal.loop-tree-init
loop-tree-init c =
    let rows = λ (us : List Tree). price_rows (cids_in us) in
    let all = trees_of c.args.trees.now in
    record {
      walked = ([], subst (λ xs. Walked rows all [] xs all) (sym c.new-prices.ensures.items) (walk_begins rows all));
      distinct = search rules;
      count = search rules;
    }

pub loop-tree-preserved : goal.loop-tree-preserved
loop-tree-preserved c =
    let rows = λ (us : List Tree). price_rows (cids_in us) in
    let all = trees_of c.args.trees.now in
    let before = c.loop-tree.invariant.walked.0 in
    let w = c.loop-tree.invariant.walked.1 in
    let t = tree_of c.tree-item.result in
    let x = c.in-Ok.price in
    let good = c.in-Ok.ensures.gives in
    let left = left_is c.args.trees.now c.loop-tree.tree-index c.tree-item.result c.loop-tree-test.true c.tree-item.is in
    let same = cids_are before c.loop-tree.prices.items w.says in
    let rest = trees_of (drop (c.loop-tree.tree-index + 1) c.args.trees.now) in
    record {
      walked = (
        before ++ t ∷ [],
        subst (λ xs. Walked rows all (before ++ t ∷ []) xs rest) (sym c.in_ok-push.ensures.items)
            (walk_on rows all before c.loop-tree.prices.items _ rest t x left (ap (λ ns. first_fault (price_rows ns) (Some t)) same ∙ good.0) good.1 w),
      );
      distinct = subst (λ xs. all_distinct (cids xs) ≡ true) (sym c.in_ok-push.ensures.items) (pushed_distinct c.loop-tree.prices.items x c.loop-tree.invariant.distinct c.in-Ok.ensures.new);
      count = search rules;
    }

pub returns-in-Err-clause-gives : goal.returns-in-Err-clause-gives
returns-in-Err-clause-gives c m =
    let rows = λ (us : List Tree). price_rows (cids_in us) in
    let w = c.loop-tree.invariant.walked.1 in
    let t = tree_of c.tree-item.result in
    let left = left_is c.args.trees.now c.loop-tree.tree-index c.tree-item.result c.loop-tree-test.true c.tree-item.is in
    let same = cids_are c.loop-tree.invariant.walked.0 c.loop-tree.prices.items w.says in
    walk_off rows (trees_of c.args.trees.now) c.loop-tree.invariant.walked.0 c.loop-tree.prices.items _ _ t c.in-Err.fault left
    (ap (λ ns. first_fault (price_rows ns) (Some t)) same ∙ c.in-Err.ensures.gives m) w

pub returns-clause-gives : goal.returns-clause-gives
returns-clause-gives c =
    let rows = λ (us : List Tree). price_rows (cids_in us) in
    let all = trees_of c.args.trees.now in
    let w = c.loop-tree.invariant.walked.1 in
    let end = ap trees_of (drop_all c.loop-tree.tree-index c.args.trees.now c.loop-tree-test.false) in
    (walk_faultless rows all _ _ _ end w, walk_ends rows all _ _ _ end w)
