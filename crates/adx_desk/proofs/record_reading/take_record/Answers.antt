use Rattle.std.proofs.Common.{List, ℕ, inl, inr, length, refl, sym, ◌∙◌, subst, arith}
use Rattle.std.proofs.lemmas.Bool.{eqb-false, eqb-true}
use Rattle.day_rules.specs.Terms.{Terms}
use Rattle.adx_desk.specs.Loading.{RefusesEntry, TakesEntry, TakesFront}
use Rattle.adx_desk.proofs.Fronts.{none_left, shorter, stops_behind, taken_behind}
use Rattle.adx_desk.proofs.record_reading.take_record.Goals as goal

pub entries-init : goal.entries-init
entries-init c = record { terms = refl; behind = inl (refl, refl) }

pub entries-preserved : goal.entries-preserved
entries-preserved c =
    let day = c.args.day.now in
    let mid = c.entries.day in
    let taken = subst (λ (t : Terms). TakesEntry c.args.format t mid.history c.take_entry.new.day.history c.entries.rest.now c.in-Ok.behind.now) c.entries.invariant.terms c.in-Ok.ensures.taken in
    let some = eqb-false (length c.in-Ok.behind.now) 0 (sym c.is_empty.ensures ∙ c.if-is_empty.false) in
    record {
      terms = c.take_entry.ensures.terms ∙ c.entries.invariant.terms;
      behind = inr (taken_behind c.args.format day.terms day.history mid.history c.take_entry.new.day.history c.args.payload.now c.entries.rest.now c.in-Ok.behind.now c.requires c.entries.invariant.behind taken, omega (arith, some));
    }

pub entries-smaller : goal.entries-smaller
entries-smaller c = shorter c.args.format c.entries.day.terms c.entries.day.history c.take_entry.new.day.history c.entries.rest.now c.in-Ok.behind.now c.in-Ok.ensures.taken

pub returns-then-is_empty-clause-taken : goal.returns-then-is_empty-clause-taken
returns-then-is_empty-clause-taken c =
    let day = c.args.day.now in
    let mid = c.entries.day in
    let taken = subst (λ (t : Terms). TakesEntry c.args.format t mid.history c.take_entry.new.day.history c.entries.rest.now c.in-Ok.behind.now) c.entries.invariant.terms c.in-Ok.ensures.taken in
    let none = none_left c.args.format c.in-Ok.behind.now (eqb-true (length c.in-Ok.behind.now) 0 (sym c.is_empty.ensures ∙ c.if-is_empty.true)) in
    subst (λ (l : List ℕ). TakesFront c.args.format day.terms day.history c.take_entry.new.day.history c.args.payload.now l) none
    (taken_behind c.args.format day.terms day.history mid.history c.take_entry.new.day.history c.args.payload.now c.entries.rest.now c.in-Ok.behind.now c.requires c.entries.invariant.behind taken)

pub returns-in-Err-clause-refused : goal.returns-in-Err-clause-refused
returns-in-Err-clause-refused c =
    let day = c.args.day.now in
    let mid = c.entries.day in
    stops_behind c.args.format day.terms day.history mid.history c.args.payload.now c.entries.rest.now c.in-Err.fault c.requires c.entries.invariant.behind
    (subst (λ (t : Terms). RefusesEntry c.args.format t mid.history c.entries.rest.now c.in-Err.fault) c.entries.invariant.terms c.in-Err.ensures.refused)
