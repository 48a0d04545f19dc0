-- What is held grows by what the notices and the moment of each award of an ask may take, and not by a budget.
use Rattle.std.proofs.Common.{◌≡◌, ◌+◌, ◌*◌, length, sym, ◌∙◌, ap, subst, arith}
use Rattle.day_rules.specs.declared.entry.Entry.{Entry}
use Rattle.day_rules.specs.Books.{sales_of}
use Rattle.adx_desk.specs.Journaled.{JournaledState, beside}
use Rattle.day_machine.specs.Held.{expiry_record, notice_record}
use Rattle.day_machine.proofs.Holding.{held_ask, held_budget}
use Rattle.adx_desk.proofs.Inside.{held_inside, known}
use Rattle.adx_desk.proofs.Sizes.{few_beside}
use Rattle.adx_desk.proofs.journaled_day.JournaledDay.held_beside.Goals as goal

pub overflow_add-result-in-Ask : goal.overflow_add-result-in-Ask
overflow_add-result-in-Ask c =
    let s : JournaledState = c.args.self.now in
    let k = known c.self.inside.day c.self.inside.digest c.self.inside.journal c.self.inside.faults c.self.inside.without_end s c.self.invariant c.self.view_is in
    let here = c.held_by.ensures ∙ held_inside c.day.result.now.history c.format-format.result c.self.inside.day c.self.inside.digest c.self.inside.journal c.self.inside.faults s c.self.view_is c.day.ensures.history c.format-format.ensures in
    let few = few_beside (c.expiry_record.result + c.notice_record.result) c.sale_count.result (omega (arith, c.expiry_record.ensures.few, c.notice_record.ensures.few)) c.sale_count.ensures.few in
    omega (arith, k.room, here, few)

pub returns-in-Ask : goal.returns-in-Ask
returns-in-Ask c =
    let s : JournaledState = c.args.self.now in
    let k = known c.self.inside.day c.self.inside.digest c.self.inside.journal c.self.inside.faults c.self.inside.without_end s c.self.invariant c.self.view_is in
    let format = s.desk.journal.format in
    let here = c.held_by.ensures ∙ held_inside c.day.result.now.history c.format-format.result c.self.inside.day c.self.inside.digest c.self.inside.journal c.self.inside.faults s c.self.view_is c.day.ensures.history c.format-format.ensures in
    let same : c.format-format.result ≡ format = c.format-format.ensures ∙ ap (λ (t : JournaledState). t.desk.journal.format) c.self.view_is in
    let expiry : c.expiry_record.result ≡ expiry_record format = c.expiry_record.ensures.value ∙ ap expiry_record same in
    let notice : c.notice_record.result ≡ notice_record format = c.notice_record.ensures.value ∙ ap notice_record same in
    let more : (c.expiry_record.result + c.notice_record.result) * c.sale_count.result ≡ (expiry_record format + notice_record format) * length (sales_of c.in-Ask.ask) =
    λ i. (expiry i + notice i) * c.sale_count.ensures.value i in
    subst (λ (e : Entry). c.held_by.result + (c.expiry_record.result + c.notice_record.result) * c.sale_count.result ≡ beside format s.desk.history e) (sym c.in-Ask.is)
    (omega (arith, here, more, held_ask format s.desk.terms.day s.desk.history c.in-Ask.ask k.is_day.legal))

pub returns-in-Budget : goal.returns-in-Budget
returns-in-Budget c =
    let s : JournaledState = c.args.self.now in
    let format = s.desk.journal.format in
    let here = c.held_by-in-Budget.ensures ∙ held_inside c.day-in-Budget.result.now.history c.format-format.result c.self.inside.day c.self.inside.digest c.self.inside.journal c.self.inside.faults s c.self.view_is c.day-in-Budget.ensures.history c.format-format.ensures in
    subst (λ (e : Entry). c.held_by-in-Budget.result ≡ beside format s.desk.history e) (sym c.in-Budget.is) (here ∙ sym (held_budget format s.desk.history _ _ _))
