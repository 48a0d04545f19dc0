use Rattle.std.proofs.Common.{◌≡◌, ◌≢◌, ◌≤◌, ◌<◌, ◌+◌, ◌^◌, refl, length, rules}
use Rattle.bid_record.proofs.ImpReads.{kept_none, kept_some}
use Rattle.bid_record.proofs.Taken.{imp_unread, imp_order, imp_misplaced, imp_taken}
use Rattle.bid_record.proofs.take.take_imp.Goals as goal

pub returns-in-Err-Form : goal.returns-in-Err-Form
returns-in-Err-Form c = (refl, imp_unread c.args.format c.args.rows.now.campaigns.items c.args.rows.now.imps.items c.args.line.now c.requires.begun (rw c.in-Err-Form.field-0-is at c.in-Err-Form.ensures))

pub returns-then-found-len : goal.returns-then-found-len
returns-then-found-len c =
    let some : 1 ≤ length c.args.rows.now.campaigns.items = search rules in
    let room : length c.args.rows.now.imps.items + 1 < 2 ^ 32 = search rules in
    let apart : c.in-Ok.found.index ≢ length c.args.rows.now.imps.items = search rules in
    (refl, imp_order c.args.format c.args.rows.now.campaigns.items c.args.rows.now.imps.items c.args.line.now c.in-Ok.found.index c.in-Ok.ensures.0 c.in-Ok.ensures.1 some room apart)

pub returns-in_default : goal.returns-in_default
returns-in_default c =
    let some : 1 ≤ length c.args.rows.now.campaigns.items = search rules in
    let room : length c.args.rows.now.imps.items + 1 < 2 ^ 32 = search rules in
    let same : c.in-Ok.found.index ≡ length c.args.rows.now.imps.items = search rules in
    let campaigns : c.len-campaigns.result ≡ length c.args.rows.now.campaigns.items = search rules in
    let none = kept_none c.len-campaigns.result (length c.args.rows.now.campaigns.items) c.in-Ok.ensures.0 c.in-Ok.found.row c.in-Ok.ensures.2 c.in_default.is campaigns in
    (refl, imp_misplaced c.args.format c.args.rows.now.campaigns.items c.args.rows.now.imps.items c.args.line.now c.in-Ok.found.index c.in-Ok.ensures.0 c.in-Ok.ensures.1 some room same none)

pub returns : goal.returns
returns c =
    let some : 1 ≤ length c.args.rows.now.campaigns.items = search rules in
    let room : length c.args.rows.now.imps.items + 1 < 2 ^ 32 = search rules in
    let same : c.in-Ok.found.index ≡ length c.args.rows.now.imps.items = search rules in
    let campaigns : c.len-campaigns.result ≡ length c.args.rows.now.campaigns.items = search rules in
    let kept = kept_some c.len-campaigns.result (length c.args.rows.now.campaigns.items) c.in-Ok.ensures.0 c.in-Some.row c.in-Ok.found.row c.in-Ok.ensures.2 c.in-Some.is campaigns in
    imp_taken c.args.format c.args.rows.now.campaigns.items c.args.rows.now.imps.items c.args.line.now c.in-Ok.found.index c.in-Ok.ensures.0 c.in-Some.row c.in-Ok.ensures.1 some room same kept c.push.new.self.items (rw c.in-Some.is at c.in_ok-push.ensures.items)
