use Rattle.std.proofs.Common.{ap, sym, ◌∙◌, arith}
use mathlib.Core.Option.{none}
use Rattle.atomic_table.specs.Table.{step}
use Rattle.turnstile.specs.declared.words.TheConstants.{SLEEPERS}
use Rattle.turnstile.proofs.Looking.{stirs}
use Rattle.turnstile.proofs.turnstile.Turnstile.mark.Goals as goal

pub store-requires : goal.store-requires
store-requires g c = let z = c.self.invariant.0 in (c.requires.seat ∙ sym (ap (λ t. t.id) c.self.view_is), omega arith, stirs g.T.Counted.items g.T.Counted.fault_count g.T.Counted.fixed c.self.inside.table.shared.table_id.slots c.args.seat.now.id c.args.seat.now.me SLEEPERS (λ _. c.args.asleep) (step c.self.inside.table.shared.table_id.slots SLEEPERS c.args.asleep 0 none) (omega arith))
