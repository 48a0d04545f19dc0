use Rattle.std.proofs.Common.{◌≡◌, [], rules}
use Rattle.adx_json.proofs.Stays.{flag_kept, flags_end}
use Rattle.adx_json.proofs.repeats.kept_of.Goals as goal

pub members-preserved-in-Continue-1 : goal.members-preserved-in-Continue-1
members-preserved-in-Continue-1 c =
    rw c.in_ok-push.ensures.items (flag_kept c.args.members.items c.members.left.items c.pop.new.self.items c.members.kept.items c.in-Some.member c.members.flags.now c.first_flag-stays.result.1.now c.first_flag-stays.result.0 c.members.invariant c.in-Some.ensures.items c.first_flag-stays.ensures c.if-stays.true)

pub returns : goal.returns
returns c =
    let none : c.members.left.items ≡ [] = search rules in
    flags_end c.args.members.items c.members.left.items c.members.kept.items c.members.flags.now c.members.invariant none
