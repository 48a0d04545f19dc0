use Rattle.std.proofs.Common.{◌≡◌, ◌++◌, ◌∷◌, [], Bool, true, false, cond, sym, ap, ◌∙◌, append-nil}
use Rattle.outbox.specs.declared.row.Row.{Row}
use Rattle.outbox.specs.Bids.{is_award}
use Rattle.outbox.specs.Rows.{row_made}
use Rattle.outbox.proofs.asking.push_row.Goals as goal

pub returns-in_ok-push : goal.returns-in_ok-push
returns-in_ok-push c =
    let made : Row = row_made c.args.ask.now (c.args.place, c.args.offer.now) in
    let won : is_award c.args.imp (c.args.place, c.args.offer.now) ≡ true = sym (c.is_award.ensures c.args.place) ∙ c.if-is_award.true in
    c.in_ok-push.ensures.items
    ∙ (ap (λ (r : Row). c.args.out.now.items ++ r ∷ []) c.in_ok-row_of.ensures
    ∙ ap (λ (b : Bool). c.args.out.now.items ++ cond b (made ∷ []) []) (sym won))

pub returns-else-is_award : goal.returns-else-is_award
returns-else-is_award c =
    let made : Row = row_made c.args.ask.now (c.args.place, c.args.offer.now) in
    let lost : is_award c.args.imp (c.args.place, c.args.offer.now) ≡ false = sym (c.is_award.ensures c.args.place) ∙ c.if-is_award.false in
    sym (append-nil c.args.out.now.items) ∙ ap (λ (b : Bool). c.args.out.now.items ++ cond b (made ∷ []) []) (sym lost)
