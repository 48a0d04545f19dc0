use Rattle.std.proofs.Common.{vec_capacity, vec_len, ◌-◌, ℕ, List, sym, ap, subst, arith}
use Rattle.day_rules.specs.declared.entry.Entry.{Entry}
use Rattle.day_rules.specs.DayState.{DayState}
use Rattle.day_rules.specs.Books.{awards_of}
use Rattle.day_rules.specs.Legal.{ExpireMayFollow}
use Rattle.day_rules.proofs.Room.{moment_to_come}
use Rattle.day_rules.specs.Terms.{terms_of}
use Rattle.day_machine.specs.DayFields.{id_entries}
use Rattle.day_machine.proofs.DayKept.{fields_moment}
use Rattle.day_machine.proofs.day.Day.commit_moment.Goals as goal

-- the room for the entry is there, since it ends an award
pub push_reserved-requires : goal.push_reserved-requires
push_reserved-requires c =
    let h : List Entry = c.self.inside.history.items in
    let follows : ExpireMayFollow h c.args.now = subst (λ (h : List Entry). ExpireMayFollow h c.args.now) (sym (ap (λ (s : DayState). s.history) c.self.view_is)) c.requires in
    omega (arith, moment_to_come c.args.now (awards_of h) follows.ends, c.self.invariant.to_come)

pub invariant_of-self : goal.invariant_of-self
invariant_of-self c =
    let h : List Entry = c.self.inside.history.items in
    let follows : ExpireMayFollow h c.args.now = subst (λ (h : List Entry). ExpireMayFollow h c.args.now) (sym (ap (λ (s : DayState). s.history) c.self.view_is)) c.requires in
    let rest : ℕ = vec_capacity c.push_reserved.new.self - vec_len c.push_reserved.new.self in
    rw c.push_reserved.ensures.items
    (fields_moment (terms_of c.self.inside.opened.value.budgets c.self.inside.limits) h (vec_capacity c.self.inside.history - vec_len c.self.inside.history) rest c.self.inside.ledger c.expire.new.self (id_entries c.self.inside.ids) c.self.inside.changes.items c.self.inside.totals c.with_moment-self-inside.result c.args.now c.self.invariant follows
    (omega (arith, c.push_reserved.ensures.len, c.push_reserved.ensures.capacity))
    c.expire.ensures.budgets c.expire.ensures.awards c.expire.ensures.places c.with_moment-self-inside.ensures)
