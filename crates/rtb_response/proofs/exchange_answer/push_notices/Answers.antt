use Rattle.std.proofs.Common.{◌++◌, string_bytes}
use Rattle.adx_units.specs.JsonTexts.{text_spelling}
use Rattle.rtb_response.specs.Notices.{url_of}
use Rattle.rtb_response.specs.Parts.{front_of}
use Rattle.rtb_response.specs.declared.notice.Notice.TheVariants.{Win, Bill, Loss}
use Rattle.rtb_response.proofs.Chains.{three}
use Rattle.rtb_response.proofs.exchange_answer.push_notices.Goals as goal

pub returns : goal.returns
returns c =
    let url = λ (n : _). text_spelling (url_of c.args.to.now.base.now c.args.to.now.auction.now c.args.award n) in
    three (string_bytes c.args.out.now) (front_of Win ++ url Win) (front_of Bill ++ url Bill) (front_of Loss ++ url Loss) _ _ _
    c.in_ok-push_notice.ensures c.in_ok-push_notice-2.ensures c.in_ok-push_notice-3.ensures
