use Rattle.std.proofs.Common.{◌≡◌, ◌≤◌, refl, length, rules, arith}
use Rattle.bid_record.proofs.Taken.{end_unread, end_order, end_taken}
use Rattle.bid_record.proofs.take.take_end.Goals as goal

pub returns-in_default : goal.returns-in_default
returns-in_default c = (refl, end_unread c.args.format c.args.rows.now.campaigns.items c.args.rows.now.imps.items c.args.line.now c.requires.no_campaign c.requires.no_imp c.in_default.ensures)

pub returns-then-imps-len : goal.returns-then-imps-len
returns-then-imps-len c =
    let some : 1 ≤ length c.args.rows.now.campaigns.items = search rules in
    let len : c.len.result ≡ length c.args.rows.now.imps.items = search rules in
    (end_taken c.args.format c.args.rows.now.campaigns.items c.args.rows.now.imps.items c.args.line.now c.in-Some.imps c.in-Some.ensures some c.requires.room.imps_few (omega (arith, len, c.if-imps-len.true)), refl, refl)

pub returns-else-imps-len : goal.returns-else-imps-len
returns-else-imps-len c =
    let some : 1 ≤ length c.args.rows.now.campaigns.items = search rules in
    let len : c.len.result ≡ length c.args.rows.now.imps.items = search rules in
    (refl, end_order c.args.format c.args.rows.now.campaigns.items c.args.rows.now.imps.items c.args.line.now c.in-Some.imps c.in-Some.ensures some c.requires.room.imps_few (λ e. absurd (omega (arith, len, e, c.if-imps-len.false))))
