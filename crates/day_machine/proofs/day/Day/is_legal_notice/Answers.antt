use Rattle.std.proofs.Common.{◌<◌, List, length, refl, ap, ◌∙◌, arith, slice_get}
use Rattle.notice_book.specs.declared.award.Award.{Award}
use Rattle.notice_book.proofs.Counted.{counts_at}
use Rattle.day_rules.specs.Books.{awards_of}
use Rattle.day_machine.proofs.day.Day.is_legal_notice.Goals as goal

pub returns-in-Counted : goal.returns-in-Counted
returns-in-Counted c =
    let awards : List Award = awards_of c.args.self.now.history in
    let within : c.args.n < length awards = omega (arith, c.if-len-n.false, c.len.ensures, ap (λ (ws : List Award). length ws) c.awards.ensures) in (
      λ _. counts_at c.args.kind c.args.n awards within (λ w at. c.in-Counted.ensures w (ap (λ (ws : List Award). slice_get ws c.args.n) c.awards-2.ensures ∙ at)),
      λ _. refl,
    )
