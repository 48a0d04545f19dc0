-- The pieces of the line.
use Rattle.std.proofs.Common.{◌++◌, ap, ◌∙◌, codes, string_bytes}
use Rattle.adx_units.specs.JsonTexts.{text_spelling}
use Rattle.answer_lines.specs.Answers.{awards_text, reasons_of, reasons_text}
use Rattle.answer_lines.proofs.Chains.{and_then}
use Rattle.answer_lines.proofs.awards.push_awarded.Goals as goal

pub returns : goal.returns
returns c =
    let o = string_bytes c.args.out.now in
    let head = codes "{\"answer\":\"awarded\",\"auction\":" in
    let id = text_spelling c.args.ask.now.auction in
    let first = codes ",\"awards\":[" in
    let awards = awards_text c.args.campaigns.now c.args.ask.now in
    let second = codes "],\"reasons\":[" in
    let reasons = reasons_text c.args.ask.now in
    and_then o (head ++ id ++ first ++ awards ++ second ++ reasons) (codes "]}") (string_bytes c.push_reasons.new.out) (string_bytes c.push-4.new.out) c.in_ok-push-4.ensures
    (and_then o (head ++ id ++ first ++ awards ++ second) reasons (string_bytes c.push-3.new.out) (string_bytes c.push_reasons.new.out) (c.in_ok-push_reasons.ensures ∙ ap (λ offers. string_bytes c.push-3.new.out ++ reasons_of offers) c.as_slice.ensures)
    (and_then o (head ++ id ++ first ++ awards) second (string_bytes c.push_awards.new.out) (string_bytes c.push-3.new.out) c.in_ok-push-3.ensures
    (and_then o (head ++ id ++ first) awards (string_bytes c.push-2.new.out) (string_bytes c.push_awards.new.out) c.in_ok-push_awards.ensures
    (and_then o (head ++ id) first (string_bytes c.push_text.new.out) (string_bytes c.push-2.new.out) c.in_ok-push-2.ensures
    (and_then o head id (string_bytes c.push.new.out) (string_bytes c.push_text.new.out) (c.in_ok-push_text.ensures ∙ ap (λ t. string_bytes c.push.new.out ++ text_spelling t) c.as_str.ensures.value) c.in_ok-push.ensures)))))
