use Rattle.std.proofs.Common.{◌≡◌, ◌++◌, drop, string_bytes}
use Rattle.adx_json.specs.Tree.{items_of, members_of}
use Rattle.adx_json.specs.Spelling.{items_spelling, members_spelling}
use Rattle.adx_json.specs.View.{trees_of, members_view}
use Rattle.adx_json.proofs.Rows.{left_items, left_members}
use Rattle.rtb_request.specs.Asked.{items_asked, members_asked}
use Rattle.rtb_request.proofs.asked.+push.Given as goal

-- what was put and what is left make up the whole
abbrev pub invariant-push_items-loop-item : goal.invariant-push_items-loop-item
invariant-push_items-loop-item l =
    string_bytes l.out ++ left_items l.first (items_asked l.part (items_of (trees_of (drop l.item-index l.item-items)))) ≡ string_bytes l.initial.out ++ items_spelling (items_asked l.part (items_of (trees_of l.item-items)))

abbrev pub invariant-push_members-loop-member : goal.invariant-push_members-loop-member
invariant-push_members-loop-member l =
    string_bytes l.out ++ left_members l.first (members_asked l.part l.at l.cur (members_of (members_view (drop l.member-index l.member-items))))
    ≡ string_bytes l.initial.out ++ members_spelling (members_asked l.part l.initial.at l.initial.cur (members_of (members_view l.member-items)))
