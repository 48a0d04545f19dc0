-- The pieces of the line.
use Rattle.std.proofs.Common.{◌++◌, ap, ◌∙◌, codes, string_bytes}
use Rattle.adx_units.specs.JsonTexts.{text_spelling}
use Rattle.answer_lines.specs.Answers.{reasons_of, reasons_text}
use Rattle.answer_lines.proofs.Chains.{and_then}
use Rattle.answer_lines.proofs.awards.push_no_sale.Goals as goal

pub returns : goal.returns
returns c =
    let o = string_bytes c.args.out.now in
    let head = codes "{\"answer\":\"nosale\",\"auction\":" in
    let id = text_spelling c.args.ask.now.auction in
    let middle = codes ",\"reasons\":[" in
    let reasons = reasons_text c.args.ask.now in
    and_then o (head ++ id ++ middle ++ reasons) (codes "]}") (string_bytes c.push_reasons.new.out) (string_bytes c.push-3.new.out) c.in_ok-push-3.ensures
    (and_then o (head ++ id ++ middle) reasons (string_bytes c.push-2.new.out) (string_bytes c.push_reasons.new.out) (c.in_ok-push_reasons.ensures ∙ ap (λ offers. string_bytes c.push-2.new.out ++ reasons_of offers) c.as_slice.ensures)
    (and_then o (head ++ id) middle (string_bytes c.push_text.new.out) (string_bytes c.push-2.new.out) c.in_ok-push-2.ensures
    (and_then o head id (string_bytes c.push.new.out) (string_bytes c.push_text.new.out) (c.in_ok-push_text.ensures ∙ ap (λ t. string_bytes c.push.new.out ++ text_spelling t) c.as_str.ensures.value) c.in_ok-push.ensures)))
