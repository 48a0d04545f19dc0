use Rattle.std.proofs.Common.{◌≡◌, ◌++◌, OnOk, string_bytes, subst}
use Rattle.adx_json.specs.Spelling.{spelling}
use Rattle.adx_json.specs.View.{tree_of}
use Rattle.rtb_request.proofs.AskedParts.{list_put, object_put, other_put}
use Rattle.rtb_request.proofs.asked.+push.Goals as goal

pub push_part-returns-in-Other : goal.push_part-returns-in-Other
push_part-returns-in-Other n c =
    subst (λ t. OnOk c.push_value.result (string_bytes c.push_value.new.out ≡ string_bytes c.args.out.now ++ spelling t)) (other_put c.args.part (tree_of c.args.tree.now) c.in-Other.is) c.push_value.ensures.spelled

pub push_part-returns-in_ok-push_str-in-List-2 : goal.push_part-returns-in_ok-push_str-in-List-2
push_part-returns-in_ok-push_str-in-List-2 n c =
    list_put _ _ _ _ _ _ _ _ c.in-List.is c.item.ensures c.in_ok-push_str-in-List.ensures.bytes c.in_ok-push_items-in-List.ensures c.in_ok-push_str-in-List-2.ensures.bytes

pub push_part-returns-in_ok-push_str-in-Object-2 : goal.push_part-returns-in_ok-push_str-in-Object-2
push_part-returns-in_ok-push_str-in-Object-2 n c =
    object_put _ _ _ _ _ _ _ _ _ c.in-Object.is c.gets_at.ensures c.gets_cur.ensures c.in_ok-push_str-in-Object.ensures.bytes c.in_ok-push_members-in-Object.ensures c.in_ok-push_str-in-Object-2.ensures.bytes
