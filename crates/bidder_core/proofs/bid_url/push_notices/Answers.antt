use Rattle.adx_json.specs.View.{members_view}
use Rattle.notice_book.specs.declared.kind.NoticeKind.{NoticeKind}
use Rattle.bidder_core.specs.Answers.{notice_member}
use Rattle.bidder_core.proofs.Capped.{three}
use Rattle.bidder_core.proofs.bid_url.push_notices.Goals as goal

pub returns : goal.returns
returns c =
    let url = λ (k : NoticeKind). notice_member c.args.base.now c.args.id.now k in
    three (members_view c.args.members.now.items) _ _ _ (url NoticeKind.Win) (url NoticeKind.Bill) (url NoticeKind.Loss)
    c.in_ok-push_notice.ensures c.in_ok-push_notice-2.ensures c.in_ok-push_notice-3.ensures
