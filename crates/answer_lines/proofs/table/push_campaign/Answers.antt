-- The pieces of the row.
use Rattle.std.proofs.Common.{◌≡◌, ◌++◌, ◌∙◌, ap, ap₂, codes, decimal, string_bytes}
use Rattle.adx_units.specs.JsonTexts.{text_spelling}
use Rattle.campaign_book.specs.Discount.{slab_of}
use Rattle.campaign_book.specs.Accounts.{account_at, committed}
use Rattle.answer_lines.proofs.Chains.{and_then}
use Rattle.answer_lines.proofs.table.push_campaign.Goals as goal

pub returns : goal.returns
returns c =
    let o = string_bytes c.args.out.now in
    let a = account_at c.args.book.now c.args.place in
    let p1 = codes "{\"seat\":" in
    let p2 = text_spelling c.args.campaign.now.seat in
    let p3 = codes ",\"cid\":" in
    let p4 = text_spelling c.args.campaign.now.cid in
    let p5 = codes ",\"budget\":" in
    let p6 = decimal a.budget in
    let p7 = codes ",\"reserved\":" in
    let p8 = decimal a.reserved in
    let p9 = codes ",\"billed\":" in
    let p10 = decimal a.billed in
    let p11 = codes ",\"slab\":" in
    let p12 = decimal (slab_of (committed a) a.budget) in
    let p13 = codes "}\n" in
    let s1 : string_bytes c.push.new.out ≡ o ++ p1 = c.in_ok-push.ensures in
    let s2 : string_bytes c.push_text.new.out ≡ o ++ (p1 ++ p2) = and_then o (p1) p2 (string_bytes c.push.new.out) (string_bytes c.push_text.new.out) (c.in_ok-push_text.ensures ∙ ap (λ t. string_bytes c.push.new.out ++ text_spelling t) (c.as_str.ensures.value)) s1 in
    let s3 : string_bytes c.push-2.new.out ≡ o ++ (p1 ++ p2 ++ p3) = and_then o (p1 ++ p2) p3 (string_bytes c.push_text.new.out) (string_bytes c.push-2.new.out) c.in_ok-push-2.ensures s2 in
    let s4 : string_bytes c.push_text-2.new.out ≡ o ++ (p1 ++ p2 ++ p3 ++ p4) = and_then o (p1 ++ p2 ++ p3) p4 (string_bytes c.push-2.new.out) (string_bytes c.push_text-2.new.out) (c.in_ok-push_text-2.ensures ∙ ap (λ t. string_bytes c.push-2.new.out ++ text_spelling t) (c.as_str-2.ensures.value)) s3 in
    let s5 : string_bytes c.push-3.new.out ≡ o ++ (p1 ++ p2 ++ p3 ++ p4 ++ p5) = and_then o (p1 ++ p2 ++ p3 ++ p4) p5 (string_bytes c.push_text-2.new.out) (string_bytes c.push-3.new.out) c.in_ok-push-3.ensures s4 in
    let s6 : string_bytes c.push_number.new.out ≡ o ++ (p1 ++ p2 ++ p3 ++ p4 ++ p5 ++ p6) = and_then o (p1 ++ p2 ++ p3 ++ p4 ++ p5) p6 (string_bytes c.push-3.new.out) (string_bytes c.push_number.new.out) (c.in_ok-push_number.ensures ∙ ap (λ n. string_bytes c.push-3.new.out ++ decimal n) c.budget-budget.ensures) s5 in
    let s7 : string_bytes c.push-4.new.out ≡ o ++ (p1 ++ p2 ++ p3 ++ p4 ++ p5 ++ p6 ++ p7) = and_then o (p1 ++ p2 ++ p3 ++ p4 ++ p5 ++ p6) p7 (string_bytes c.push_number.new.out) (string_bytes c.push-4.new.out) c.in_ok-push-4.ensures s6 in
    let s8 : string_bytes c.push_number-2.new.out ≡ o ++ (p1 ++ p2 ++ p3 ++ p4 ++ p5 ++ p6 ++ p7 ++ p8) = and_then o (p1 ++ p2 ++ p3 ++ p4 ++ p5 ++ p6 ++ p7) p8 (string_bytes c.push-4.new.out) (string_bytes c.push_number-2.new.out) (c.in_ok-push_number-2.ensures ∙ ap (λ n. string_bytes c.push-4.new.out ++ decimal n) (c.reserved.ensures)) s7 in
    let s9 : string_bytes c.push-5.new.out ≡ o ++ (p1 ++ p2 ++ p3 ++ p4 ++ p5 ++ p6 ++ p7 ++ p8 ++ p9) = and_then o (p1 ++ p2 ++ p3 ++ p4 ++ p5 ++ p6 ++ p7 ++ p8) p9 (string_bytes c.push_number-2.new.out) (string_bytes c.push-5.new.out) c.in_ok-push-5.ensures s8 in
    let s10 : string_bytes c.push_number-3.new.out ≡ o ++ (p1 ++ p2 ++ p3 ++ p4 ++ p5 ++ p6 ++ p7 ++ p8 ++ p9 ++ p10) = and_then o (p1 ++ p2 ++ p3 ++ p4 ++ p5 ++ p6 ++ p7 ++ p8 ++ p9) p10 (string_bytes c.push-5.new.out) (string_bytes c.push_number-3.new.out) (c.in_ok-push_number-3.ensures ∙ ap (λ n. string_bytes c.push-5.new.out ++ decimal n) (c.billed.ensures)) s9 in
    let s11 : string_bytes c.push-6.new.out ≡ o ++ (p1 ++ p2 ++ p3 ++ p4 ++ p5 ++ p6 ++ p7 ++ p8 ++ p9 ++ p10 ++ p11) = and_then o (p1 ++ p2 ++ p3 ++ p4 ++ p5 ++ p6 ++ p7 ++ p8 ++ p9 ++ p10) p11 (string_bytes c.push_number-3.new.out) (string_bytes c.push-6.new.out) c.in_ok-push-6.ensures s10 in
    let s12 : string_bytes c.push_number-4.new.out ≡ o ++ (p1 ++ p2 ++ p3 ++ p4 ++ p5 ++ p6 ++ p7 ++ p8 ++ p9 ++ p10 ++ p11 ++ p12) = and_then o (p1 ++ p2 ++ p3 ++ p4 ++ p5 ++ p6 ++ p7 ++ p8 ++ p9 ++ p10 ++ p11) p12 (string_bytes c.push-6.new.out) (string_bytes c.push_number-4.new.out) (c.in_ok-push_number-4.ensures ∙ ap (λ n. string_bytes c.push-6.new.out ++ decimal n) (c.from.ensures ∙ c.slab_of.ensures.value ∙ ap₂ slab_of c.committed.ensures.value c.budget-budget.ensures)) s11 in
    and_then o (p1 ++ p2 ++ p3 ++ p4 ++ p5 ++ p6 ++ p7 ++ p8 ++ p9 ++ p10 ++ p11 ++ p12) p13 (string_bytes c.push_number-4.new.out) (string_bytes c.push-7.new.out) c.in_ok-push-7.ensures s12
