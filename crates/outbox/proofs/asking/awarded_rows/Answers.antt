use Rattle.std.proofs.Common.{◌≡◌, ◌++◌, ℕ, List, length, sym, ap, ◌∙◌, arith}
use Rattle.std.specs.List.{flat_map, range_with_len}
use Rattle.outbox.specs.declared.row.Row.{Row}
use Rattle.outbox.specs.Rows.{rows_for}
use Rattle.outbox.proofs.Walks.{imps_more}
use Rattle.outbox.proofs.asking.awarded_rows.Goals as goal

pub loop-imp-preserved : goal.loop-imp-preserved
loop-imp-preserved c =
    c.in_ok-push_rows.ensures
    ∙ (ap (λ (t : List Row). t ++ rows_for c.args.ask.now c.loop-imp.imp) c.loop-imp.invariant ∙ sym (imps_more c.args.ask.now c.loop-imp.imp))

pub returns : goal.returns
returns c =
    let all : c.loop-imp.imp ≡ length c.args.ask.now.imps = omega arith in
    c.loop-imp.invariant ∙ ap (λ (n : ℕ). flat_map (rows_for c.args.ask.now) (range_with_len 0 n)) all
