use Rattle.std.proofs.Common.{◌≡◌, ◌++◌, drop, string_bytes}
use Rattle.adx_json.specs.Tree.{members_of}
use Rattle.adx_json.specs.View.{members_view}
use Rattle.rtb_response.specs.Bodies.{passed_on}
use Rattle.rtb_response.specs.Parts.{left_members}
use Rattle.rtb_response.proofs.body.push_passed_on.Given as goal

-- what was put and what is left make up the whole
abbrev pub invariant-loop-member : goal.invariant-loop-member
invariant-loop-member l =
    string_bytes l.out ++ left_members l.is_first (passed_on (members_of (members_view (drop l.member-index l.members)))) ≡ string_bytes l.fn.out ++ left_members l.first (passed_on (members_of (members_view l.members)))
