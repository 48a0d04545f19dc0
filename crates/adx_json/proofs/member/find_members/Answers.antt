use Rattle.std.proofs.Common.{ap, refl, ◌∙◌, option_map}
use Rattle.adx_json.specs.Tree.{members_of}
use Rattle.adx_json.specs.View.{tree_of, members_view}
use Rattle.adx_json.specs.FoundMembers.{member_within}
use Rattle.adx_json.specs.Walks.{found_or}
use Rattle.adx_json.proofs.Finding.{rows_found, end_met, seen}
use Rattle.adx_json.proofs.Meeting.{met_step}
use Rattle.adx_json.proofs.member.find_members.Goals as goal

pub loop-member-init : goal.loop-member-init
loop-member-init c k n low is = ap (λ o. found_or n.now (seen o) (members_of (members_view c.members_within-member-items.result.now))) (c.clear.ensures k)

pub loop-member-preserved : goal.loop-member-preserved
loop-member-preserved c k n low is =
    met_step n.now _ _ _ c.members_within-member-items.result.now c.loop-member.member-index _ c.loop-member-test.true c.member-item.is (c.keep.ensures k n low is) (c.loop-member.invariant k n low is)

pub returns : goal.returns
returns c =
    rows_found (λ name. member_within name (option_map (λ t. tree_of t.now) c.args.object)) c.loop-member.found c.args.names.now 0 c.args.names.now refl
    (λ k n low is. end_met n.now c.members_within-member-items.result.now c.loop-member.member-index _ _ c.loop-member-test.false (c.loop-member.invariant k n low is) ∙ c.members_within-member-items.ensures n.now)
