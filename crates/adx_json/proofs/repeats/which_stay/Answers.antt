use Rattle.std.proofs.Common.{◌≡◌, ap, ◌∙◌, not}
use Rattle.adx_json.specs.View.{member_of}
use Rattle.adx_json.specs.Repeats.{mark_from}
use Rattle.adx_json.proofs.Names.{name_is}
use Rattle.adx_json.proofs.Stays.{has_met, met_was, met_more, told_more}
use Rattle.adx_json.proofs.repeats.which_stay.Goals as goal

pub members-preserved : goal.members-preserved
members-preserved c =
    let m = c.in-Some.member.now in
    let name = c.as_str-name.result in
    let named : name.now ≡ (member_of m).0 = c.as_str-name.ensures.value ∙ name_is m in
    let marked : c.mark_of.result ≡ mark_from 0 name.now = c.mark_of.ensures ∙ ap (mark_from 0) c.as_bytes.ensures.value in
    rw c.in_ok-push.ensures.items
    (told_more c.args.members.now c.members.left.now c.in-Some.before.now m c.members.told.items c.in_ok-is_new.is_new name.now (has_met c.members.seen) (has_met c.insert.new.self) c.members.invariant c.in-Some.ensures.cases.0 named
    (c.in_ok-is_new.ensures.added ∙ ap not (met_was c.members.seen c.mark_of.result name marked))
    (met_more c.members.seen c.insert.new.self c.mark_of.result name marked c.in_ok-is_new.ensures.updates))
