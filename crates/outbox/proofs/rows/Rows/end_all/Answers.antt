use Rattle.std.proofs.Common.{ℕ, List, take, get_or, sym, subst, arith}
use Rattle.std.proofs.lemmas.List.{take_all, take_more}
use Rattle.outbox.specs.Keeping.{EndsAll}
use Rattle.outbox.proofs.Changes.{ends_more, ends_none}
use Rattle.outbox.proofs.rows.Rows.end_all.Goals as goal

pub loop-n-init : goal.loop-n-init
loop-n-init c = ends_none c.args.self.now

pub loop-n-preserved : goal.loop-n-preserved
loop-n-preserved c =
    subst (λ (ns : List ℕ). EndsAll ns c.args.self.now c.end.new.self) (sym (take_more c.args.numbers.now c.loop-n.n-index 0 (omega arith)))
    (ends_more (take c.loop-n.n-index c.args.numbers.now) (get_or c.args.numbers.now c.loop-n.n-index 0) c.args.self.now c.loop-n.self c.end.new.self c.loop-n.invariant c.end.ensures)

pub returns : goal.returns
returns c = subst (λ (ns : List ℕ). EndsAll ns c.args.self.now c.loop-n.self) (take_all c.loop-n.n-index c.args.numbers.now (omega arith)) c.loop-n.invariant
