use Rattle.std.proofs.Common.{◌≡◌, ◌≢◌, refl, sym, ◌∙◌, length, rules, arith}
use Rattle.bid_record.proofs.Taken.{campaign_unread, campaign_no_room, campaign_order, campaign_taken}
use Rattle.bid_record.proofs.take.take_campaign.Goals as goal

pub returns-in-Err-Form : goal.returns-in-Err-Form
returns-in-Err-Form c = (refl, campaign_unread c.args.format c.args.rows.now.campaigns.items c.args.rows.now.imps.items c.args.line.now c.requires.begun (rw c.in-Err-Form.field-0-is at c.in-Err-Form.ensures))

pub returns-then-not-may_come : goal.returns-then-not-may_come
returns-then-not-may_come c = (refl, campaign_no_room c.args.format c.args.rows.now.campaigns.items c.args.rows.now.imps.items c.args.line.now c.in-Ok.found.0 c.in-Ok.found.1 c.requires.begun c.in-Ok.ensures (sym c.may_come.ensures ∙ c.if-not-may_come.true))

pub returns-then-index-len : goal.returns-then-index-len
returns-then-index-len c =
    let len : c.len.result ≡ length c.args.rows.now.campaigns.items = search rules in
    let apart : c.in-Ok.found.0 ≢ length c.args.rows.now.campaigns.items = λ e. absurd (omega (arith, len, e, c.if-index-len.true)) in
    (refl, campaign_order c.args.format c.args.rows.now.campaigns.items c.args.rows.now.imps.items c.args.line.now c.in-Ok.found.0 c.in-Ok.found.1 c.in-Ok.ensures (sym c.may_come.ensures ∙ c.if-not-may_come.false) apart)

pub returns : goal.returns
returns c =
    let len : c.len.result ≡ length c.args.rows.now.campaigns.items = search rules in
    let same : c.in-Ok.found.0 ≡ length c.args.rows.now.campaigns.items = omega (arith, len, c.if-index-len.false) in
    campaign_taken c.args.format c.args.rows.now.campaigns.items c.args.rows.now.imps.items c.args.line.now c.in-Ok.found.0 c.in-Ok.found.1 c.in-Ok.ensures (sym c.may_come.ensures ∙ c.if-not-may_come.false) same c.push.new.self.items c.in_ok-push.ensures.items
