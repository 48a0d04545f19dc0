use Rattle.std.proofs.Common.{◌≡◌, ◌<◌, ◌+◌, ◌-◌, ◌++◌, ℕ, List, cond, is_some, length, ap, ap₂, ◌∙◌, arith}
use Rattle.std.specs.List.{range_with_len}
use Rattle.bid_record.specs.declared.rows.ImpRow.{ImpRow}
use Rattle.served_record.specs.Steps.{imps_of, rows_for, sold_for}
use Rattle.served_record.proofs.RowLists.{named_more, rows_kept, sold_step}
use Rattle.served_record.proofs.rows.add_ask.Goals as goal

pub overflow_add-rows : goal.overflow_add-rows
overflow_add-rows c =
    let told : c.awards_told-told.result ≡ sold_for c.args.ask.now c.loop-imp.imp =
    c.awards_told-told.ensures ∙ ap (λ (r : ImpRow). cond (is_some r.chosen) 1 0) c.in_ok-row.ensures.row in
    let below : c.loop-imp.imp < length c.args.ask.now.imps = omega (arith, c.loop-imp-test.true, c.len-imp-end.ensures) in
    omega (arith, told, sold_step c.args.ask.now c.loop-imp.imp (length c.args.ask.now.imps) below, c.loop-imp.invariant.next, c.requires.enough, c.requires.few)

pub loop-imp-preserved : goal.loop-imp-preserved
loop-imp-preserved c =
    let told : c.awards_told-told.result ≡ sold_for c.args.ask.now c.loop-imp.imp =
    c.awards_told-told.ensures ∙ ap (λ (r : ImpRow). cond (is_some r.chosen) 1 0) c.in_ok-row.ensures.row in
    let below : c.loop-imp.imp < length c.args.ask.now.imps = omega (arith, c.loop-imp-test.true, c.len-imp-end.ensures) in
    let len : ℕ = length c.args.ask.now.imps in
    record {
      rows =
          ap₂ (λ (rows : List ImpRow) (k : ℕ). rows ++ rows_for c.args.awards.now.awards (c.loop-imp.rows.next + k) c.args.ask.now (range_with_len (c.loop-imp.imp + 1) (len - (c.loop-imp.imp + 1)))) c.in_ok-push.ensures.items told
          ∙ rows_kept c.args.awards.now.awards c.loop-imp.rows.rows.items c.in_ok-row.row c.loop-imp.rows.next c.args.ask.now c.loop-imp.imp len (c.args.rows.now.rows.items ++ rows_for c.args.awards.now.awards c.args.rows.now.next c.args.ask.now (imps_of c.args.ask.now)) below c.in_ok-row.ensures.row c.loop-imp.invariant.rows;
      next = omega (arith, told, sold_step c.args.ask.now c.loop-imp.imp len below, c.loop-imp.invariant.next);
      named = named_more c.loop-imp.rows.rows.items c.push.new.self.items c.in_ok-row.row c.in_ok-push.ensures.items c.loop-imp.invariant.named c.in_ok-row.ensures.named;
    }
