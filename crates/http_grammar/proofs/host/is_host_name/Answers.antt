-- One place more.
use Rattle.std.proofs.Common.{below_more, arith, refl}
use Rattle.http_grammar.specs.Fields.{IsHostByte}
use Rattle.http_grammar.proofs.host.is_host_name.Goals as goal

pub loop-k-preserved : goal.loop-k-preserved
loop-k-preserved c = below_more (IsHostByte c.args.host.now) c.loop-k.k c.loop-k.invariant (c.is_host_byte.ensures.0 c.if-not-is_host_byte.false)

pub returns : goal.returns
returns c = ((λ yes i inside. c.loop-k.invariant i (omega arith)), (λ name. refl))
