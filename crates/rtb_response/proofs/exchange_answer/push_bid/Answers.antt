use Rattle.std.proofs.Common.{◌++◌, ◌∷◌, [], ap, sym, ◌∙◌, string_bytes, decimal, append_assoc}
use Rattle.adx_json.specs.View.{tree_of}
use Rattle.adx_units.specs.JsonTexts.{text_spelling}
use Rattle.adx_json.specs.Spelling.{more_members_spelling}
use Rattle.adx_units.specs.Money.{price_text}
use Rattle.adx_json.specs.Walks.{members_by}
use Rattle.rtb_response.specs.Bodies.{passed_on}
use Rattle.rtb_response.specs.Notices.{url_of}
use Rattle.rtb_response.specs.Parts.{own_members}
use Rattle.rtb_response.specs.ExchangeAnswer.{followed_by, notice_members}
use Rattle.rtb_response.proofs.Chains.{five, more_followed, own_then}
use Rattle.rtb_response.proofs.exchange_answer.push_bid.Goals as goal

pub returns : goal.returns
returns c =
    let o = string_bytes c.args.out.now in
    let s = c.args.award.now in
    let passed = passed_on (members_by (tree_of s.body)) in
    let noticed = notice_members (url_of c.args.to.now.base.now c.args.to.now.auction.now s.award) in
    let behind = more_members_spelling passed ++ more_members_spelling noticed in
    let members = ap (λ ms. more_members_spelling (passed_on ms)) c.members_in.ensures in
    five o (123 ∷ []) (own_members s) (more_members_spelling passed) (more_members_spelling noticed) (125 ∷ []) _ _ _ _ _
    c.in_ok-push_str.ensures.bytes c.in_ok-push_own.ensures (c.in_ok-push_passed_on.ensures ∙ ap (λ l. string_bytes c.push_own.new.out ++ l) members) c.in_ok-push_notices.ensures c.in_ok-push_str-2.ensures.bytes
    ∙ ap (λ l. o ++ (123 ∷ l))
    (ap (λ l. own_members s ++ l) (sym (append_assoc (more_members_spelling passed) (more_members_spelling noticed) (125 ∷ [])))
    ∙ sym (append_assoc (own_members s) behind (125 ∷ []))
    ∙ ap (λ l. l ++ 125 ∷ []) (ap (λ l. own_members s ++ l) (sym (more_followed passed noticed))
    ∙ own_then (text_spelling (decimal s.award)) (text_spelling s.imp) (price_text s.charge.0) (followed_by passed noticed)))
