use Rattle.std.proofs.Common.{ℕ, refl, sym, ap, subst}
use Rattle.std.proofs.lemmas.Option.{same_Some}
use Rattle.day_rules.specs.declared.entry.Entry.{Entry}
use Rattle.adx_desk.specs.Loading.{RefusesEntry}
use Rattle.adx_desk.proofs.Fronts.{refuses_entry}
use Rattle.adx_desk.proofs.record_reading.take_entry.Goals as goal

pub returns-in-Err-add-clause-refused : goal.returns-in-Err-add-clause-refused
returns-in-Err-add-clause-refused c =
    let only = rw c.in-Ok-Some.field-0-is at c.in-Ok-Some.ensures.only in
    refuses_entry c.args.format c.args.day.now.terms c.args.day.now.history c.args.bytes.now c.in-Ok-Some.entry c.in-Err-add.fault
    (λ x n begins. ap (λ (p : Entry × ℕ). p.0) (same_Some _ _ (only x n begins))) c.in-Err-add.ensures.refused

pub returns-in-Ok-None-clause-refused : goal.returns-in-Ok-None-clause-refused
returns-in-Ok-None-clause-refused c =
    let none = rw c.in-Ok-None.field-0-is at c.in-Ok-None.ensures.none in
    subst (RefusesEntry c.args.format c.args.day.now.terms c.args.day.now.history c.args.bytes.now) (sym c.bad_entry.ensures) (refl, λ e n begins follows. none e n begins)
