use Rattle.std.proofs.Common.{List, ℕ, ◌/◌, ◌∙◌, sym, arith, subst}
use Rattle.formats.proofs.SevenBits.{IsSpeltBehind, behind_start, behind_more, behind_end}
use Rattle.formats.proofs.grouping.push_groups.Goals as goal

pub loop-rest-init : goal.loop-rest-init
loop-rest-init N c = behind_start c.args.out.now.items c.args.n (omega arith)

pub loop-rest-preserved : goal.loop-rest-preserved
loop-rest-preserved N c = subst (λ (l : List ℕ). IsSpeltBehind c.args.out.now.items c.args.n l (c.loop-rest.rest / 128)) (sym c.push.ensures.items) (behind_more c.args.out.now.items c.args.n c.loop-rest.rest c.loop-rest.out.items (omega arith) c.loop-rest.invariant)

pub returns : goal.returns
returns N c = c.push-2.ensures.items ∙ behind_end c.args.out.now.items c.args.n c.loop-rest.rest c.loop-rest.out.items (omega arith) c.loop-rest.invariant
