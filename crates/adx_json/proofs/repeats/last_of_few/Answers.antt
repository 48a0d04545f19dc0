use Rattle.std.proofs.Common.{subst, arith}
use Rattle.adx_json.specs.Repeats.{ComesAgain}
use Rattle.adx_json.proofs.KeptMembers.{kept_more, kept_end}
use Rattle.adx_json.proofs.repeats.last_of_few.Goals as goal

pub members-preserved : goal.members-preserved
members-preserved c =
    let again = subst (λ ms. ComesAgain ms c.members.at c.comes_again.result) c.deref.ensures.value c.comes_again.ensures in
    kept_more c.args.members.items c.members.kept.items c.members.at c.comes_again.result c.members.invariant again (omega (arith, c.members-test.true)) c.if-comes_again.false

pub returns : goal.returns
returns c = kept_end c.args.members.items c.members.kept.items c.members.at c.members.invariant (omega (arith, c.members-test.false))
