use Rattle.std.proofs.Common.{ap, ◌∙◌, Bor, arith, codes, lit<}
use Rattle.adx_json.specs.View.{tree_of}
use Rattle.adx_json.specs.declared.tree.Json.{Json}
use Rattle.adx_json.specs.Values.{not_null}
use Rattle.adx_json.proofs.Meeting.{met_step}
use Rattle.rtb_response.proofs.BidNames.{all_kept}
use Rattle.rtb_response.proofs.bid_reader.bid_members.Goals as goal

pub loop-member-preserved : goal.loop-member-preserved
loop-member-preserved c =
    let before = c.loop-member.invariant in
    let items = c.members_in-member-items.result.now in
    record {
      twelve = omega (arith, c.keep.auto.found, before.twelve);
      each = λ k low. met_step _ _ _ _ items c.loop-member.member-index _ c.loop-member-test.true c.member-item.is (c.keep.ensures k low) (before.each k low);
    }

pub returns-clause-id : goal.returns-clause-id
returns-clause-id c =
    c.given.ensures ∙ ap not_null (all_kept (λ (t : Bor Json). tree_of t.now) c.loop-member.found 0 c.index-found-0.result (codes "id") (tree_of c.args.tree.now) c.members_in-member-items.result.now c.loop-member.member-index c.loop-member.invariant.twelve (lit< tt) c.loop-member-test.false c.members_in-member-items.ensures (c.loop-member.invariant.each 0 (lit< tt)))

pub returns-clause-impid : goal.returns-clause-impid
returns-clause-impid c =
    c.given-2.ensures ∙ ap not_null (all_kept (λ (t : Bor Json). tree_of t.now) c.loop-member.found 1 c.index-found-1.result (codes "impid") (tree_of c.args.tree.now) c.members_in-member-items.result.now c.loop-member.member-index c.loop-member.invariant.twelve (lit< tt) c.loop-member-test.false c.members_in-member-items.ensures (c.loop-member.invariant.each 1 (lit< tt)))

pub returns-clause-price : goal.returns-clause-price
returns-clause-price c =
    c.given-3.ensures ∙ ap not_null (all_kept (λ (t : Bor Json). tree_of t.now) c.loop-member.found 2 c.index-found-2.result (codes "price") (tree_of c.args.tree.now) c.members_in-member-items.result.now c.loop-member.member-index c.loop-member.invariant.twelve (lit< tt) c.loop-member-test.false c.members_in-member-items.ensures (c.loop-member.invariant.each 2 (lit< tt)))

pub returns-clause-nurl : goal.returns-clause-nurl
returns-clause-nurl c =
    c.given-4.ensures ∙ ap not_null (all_kept (λ (t : Bor Json). tree_of t.now) c.loop-member.found 3 c.index-found-3.result (codes "nurl") (tree_of c.args.tree.now) c.members_in-member-items.result.now c.loop-member.member-index c.loop-member.invariant.twelve (lit< tt) c.loop-member-test.false c.members_in-member-items.ensures (c.loop-member.invariant.each 3 (lit< tt)))

pub returns-clause-burl : goal.returns-clause-burl
returns-clause-burl c =
    c.given-5.ensures ∙ ap not_null (all_kept (λ (t : Bor Json). tree_of t.now) c.loop-member.found 4 c.index-found-4.result (codes "burl") (tree_of c.args.tree.now) c.members_in-member-items.result.now c.loop-member.member-index c.loop-member.invariant.twelve (lit< tt) c.loop-member-test.false c.members_in-member-items.ensures (c.loop-member.invariant.each 4 (lit< tt)))

pub returns-clause-lurl : goal.returns-clause-lurl
returns-clause-lurl c =
    c.given-6.ensures ∙ ap not_null (all_kept (λ (t : Bor Json). tree_of t.now) c.loop-member.found 5 c.index-found-5.result (codes "lurl") (tree_of c.args.tree.now) c.members_in-member-items.result.now c.loop-member.member-index c.loop-member.invariant.twelve (lit< tt) c.loop-member-test.false c.members_in-member-items.ensures (c.loop-member.invariant.each 5 (lit< tt)))

pub returns-clause-adid : goal.returns-clause-adid
returns-clause-adid c =
    c.given-7.ensures ∙ ap not_null (all_kept (λ (t : Bor Json). tree_of t.now) c.loop-member.found 6 c.index-found-6.result (codes "adid") (tree_of c.args.tree.now) c.members_in-member-items.result.now c.loop-member.member-index c.loop-member.invariant.twelve (lit< tt) c.loop-member-test.false c.members_in-member-items.ensures (c.loop-member.invariant.each 6 (lit< tt)))

pub returns-clause-adomain : goal.returns-clause-adomain
returns-clause-adomain c =
    c.given-8.ensures ∙ ap not_null (all_kept (λ (t : Bor Json). tree_of t.now) c.loop-member.found 7 c.index-found-7.result (codes "adomain") (tree_of c.args.tree.now) c.members_in-member-items.result.now c.loop-member.member-index c.loop-member.invariant.twelve (lit< tt) c.loop-member-test.false c.members_in-member-items.ensures (c.loop-member.invariant.each 7 (lit< tt)))

pub returns-clause-cid : goal.returns-clause-cid
returns-clause-cid c =
    c.given-9.ensures ∙ ap not_null (all_kept (λ (t : Bor Json). tree_of t.now) c.loop-member.found 8 c.index-found-8.result (codes "cid") (tree_of c.args.tree.now) c.members_in-member-items.result.now c.loop-member.member-index c.loop-member.invariant.twelve (lit< tt) c.loop-member-test.false c.members_in-member-items.ensures (c.loop-member.invariant.each 8 (lit< tt)))

pub returns-clause-cat : goal.returns-clause-cat
returns-clause-cat c =
    c.given-10.ensures ∙ ap not_null (all_kept (λ (t : Bor Json). tree_of t.now) c.loop-member.found 9 c.index-found-9.result (codes "cat") (tree_of c.args.tree.now) c.members_in-member-items.result.now c.loop-member.member-index c.loop-member.invariant.twelve (lit< tt) c.loop-member-test.false c.members_in-member-items.ensures (c.loop-member.invariant.each 9 (lit< tt)))

pub returns-clause-dealid : goal.returns-clause-dealid
returns-clause-dealid c =
    c.given-11.ensures ∙ ap not_null (all_kept (λ (t : Bor Json). tree_of t.now) c.loop-member.found 10 c.index-found-10.result (codes "dealid") (tree_of c.args.tree.now) c.members_in-member-items.result.now c.loop-member.member-index c.loop-member.invariant.twelve (lit< tt) c.loop-member-test.false c.members_in-member-items.ensures (c.loop-member.invariant.each 10 (lit< tt)))

pub returns-clause-exp : goal.returns-clause-exp
returns-clause-exp c =
    c.given-12.ensures ∙ ap not_null (all_kept (λ (t : Bor Json). tree_of t.now) c.loop-member.found 11 c.index-found-11.result (codes "exp") (tree_of c.args.tree.now) c.members_in-member-items.result.now c.loop-member.member-index c.loop-member.invariant.twelve (lit< tt) c.loop-member-test.false c.members_in-member-items.ensures (c.loop-member.invariant.each 11 (lit< tt)))
