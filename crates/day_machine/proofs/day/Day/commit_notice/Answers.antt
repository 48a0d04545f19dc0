use Rattle.std.proofs.Common.{vec_capacity, vec_len, ◌≡◌, ◌-◌, ℕ, List, length, get_or, sym, ap, ◌∙◌, subst, arith}
use Rattle.notice_book.specs.AwardList.{Counts}
use Rattle.day_rules.specs.declared.entry.Entry.{Entry}
use Rattle.day_rules.specs.DayState.{DayState}
use Rattle.day_rules.specs.Books.{awards_of}
use Rattle.day_rules.proofs.Counting.{day_entries}
use Rattle.day_rules.proofs.Room.{notice_to_come}
use Rattle.day_rules.specs.Terms.{terms_of}
use Rattle.day_machine.specs.DayFields.{id_entries}
use Rattle.day_machine.specs.LedgerState.{no_places, placed}
use Rattle.day_machine.proofs.DayKept.{fields_notice}
use Rattle.day_machine.proofs.day.Day.commit_notice.Goals as goal

pub overflow_cast-place : goal.overflow_cast-place
overflow_cast-place c = omega (arith, day_entries _ c.self.inside.history.items c.self.invariant.day)

-- the room for the entry is there, since the award may get it
pub push_reserved-requires : goal.push_reserved-requires
push_reserved-requires c =
    let h : List Entry = c.self.inside.history.items in
    let counted : Counts c.args.kind c.args.n (awards_of h) = subst (λ (h : List Entry). Counts c.args.kind c.args.n (awards_of h)) (sym (ap (λ (s : DayState). s.history) c.self.view_is)) c.requires in
    omega (arith, notice_to_come c.args.kind c.args.n (awards_of h) counted, c.self.invariant.to_come)

pub invariant_of-self : goal.invariant_of-self
invariant_of-self c =
    let h : List Entry = c.self.inside.history.items in
    let counted : Counts c.args.kind c.args.n (awards_of h) = subst (λ (h : List Entry). Counts c.args.kind c.args.n (awards_of h)) (sym (ap (λ (s : DayState). s.history) c.self.view_is)) c.requires in
    let place : c.len-place.result ≡ length h = omega (arith, c.len-place.ensures) in
    let rest : ℕ = vec_capacity c.push_reserved.new.self - vec_len c.push_reserved.new.self in
    rw (c.push_reserved.ensures.items, c.entry_of.ensures)
    (fields_notice (terms_of c.self.inside.opened.value.budgets c.self.inside.limits) h (vec_capacity c.self.inside.history - vec_len c.self.inside.history) rest c.self.inside.ledger c.apply.new.self (id_entries c.self.inside.ids) c.self.inside.changes.items c.self.inside.totals c.args.kind c.args.n c.self.invariant counted
    (omega (arith, c.push_reserved.ensures.len, c.push_reserved.ensures.capacity))
    c.apply.ensures.budgets c.apply.ensures.awards
    (c.apply.ensures.placed ∙ ap (λ (k : ℕ). placed c.args.kind k (get_or c.self.inside.ledger.places c.args.n no_places)) place)
    c.apply.ensures.others)
