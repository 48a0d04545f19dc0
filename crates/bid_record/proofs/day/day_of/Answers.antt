use Rattle.std.proofs.Common.{sym, ap, ◌∙◌, true, List, ℕ, codes, ◌++◌}
use Rattle.std.proofs.lemmas.Bool.{false≢true}
use Rattle.formats.proofs.PartLaws.{word_takes}
use Rattle.formats.specs.Days.{is_day}
use Rattle.bid_record.proofs.ReadLines.{no_day_behind, day_read, day_utf8}
use Rattle.bid_record.proofs.day.day_of.Goals as goal

pub returns-in_default : goal.returns-in_default
returns-in_default c = λ day dated is. no_day_behind c.args.line.now c.in_default.ensures day is

pub returns-then-not-is_day : goal.returns-then-not-is_day
returns-then-not-is_day c = λ day dated is.
    let same = day_read c.args.line.now c.in-Some.day.now day c.in-Some.ensures is in
    false≢true (sym (sym c.is_day.ensures.value ∙ c.if-not-is_day.true) ∙ ap is_day same ∙ dated)

pub returns-in_default-from_utf8 : goal.returns-in_default-from_utf8
returns-in_default-from_utf8 c = λ day dated is. absurd (c.in_default-from_utf8.ensures.cases.0 (day_utf8 c.in-Some.day.now (sym c.is_day.ensures.value ∙ c.if-not-is_day.false)))

pub returns-in-Ok-of : goal.returns-in-Ok-of
returns-in-Ok-of c =
    let text = c.in-Ok-of.ensures ∙ c.in-Ok.ensures.cases.0 in
    (ap is_day text ∙ (sym c.is_day.ensures.value ∙ c.if-not-is_day.false), word_takes (codes "day ") c.args.line.now c.in-Some.day.now c.in-Some.ensures ∙ ap (λ (t : List ℕ). codes "day " ++ t) (sym text))
