-- The first payload after the head.
use Rattle.std.proofs.Common.{◌⊎◌, ℕ, [], ◌∷◌, sym, ◌∙◌, ap, subst, arith}
use Rattle.day_journal.specs.Places.{StandsFor}
use Rattle.day_journal.specs.Tails.{JournalState, WithAtMostOne, size_after}
use Rattle.day_journal.proofs.Moments.{weaker}
use Rattle.adx_desk.specs.Openings.{HasDiskCause, IsRefusal}
use Rattle.adx_desk.proofs.Beginnings.{begun_file}
use Rattle.adx_desk.proofs.OpenedDays.{append_cause, append_fits, opened_one}
use Rattle.adx_desk.proofs.opening.begin.Goals as goal

pub returns-in-Ok-clause-kept : goal.returns-in-Ok-clause-kept
returns-in-Ok-clause-kept g c file told behind durable tail =
    c.in-Ok.ensures.acknowledged [] [] tail (c.done-journal.ensures.kept file [] [] told behind durable)

pub returns-in-Ok-clause-any_moment : goal.returns-in-Ok-clause-any_moment
returns-in-Ok-clause-any_moment g c file told behind durable =
    let D = g.D.Disk in
    let p = c.args.first.now.payload in
    let format = c.args.opening.format in
    let begun = c.done-journal.result.format in
    weaker D.moment D.left_since c.args.disk.now c.append.new.disk (WithAtMostOne begun [] [] p) (λ f. StandsFor format f [] ⊎ StandsFor format f (p ∷ []))
    (c.append.ensures.any_moment [] [] (c.done-journal.ensures.kept file [] [] told behind durable))
    (λ f at. subst (λ (k : ℕ). StandsFor k f [] ⊎ StandsFor k f (p ∷ [])) (ap (λ (j : JournalState). j.format) c.done-journal.ensures.gate) (begun_file begun f p at))

pub returns-in-Err-clause-any_moment : goal.returns-in-Err-clause-any_moment
returns-in-Err-clause-any_moment g c file told behind durable =
    let D = g.D.Disk in
    let p = c.args.first.now.payload in
    let format = c.args.opening.format in
    let begun = c.done-journal.result.format in
    weaker D.moment D.left_since c.args.disk.now c.append.new.disk (WithAtMostOne begun [] [] p) (λ f. StandsFor format f [] ⊎ StandsFor format f (p ∷ []))
    (c.append.ensures.any_moment [] [] (c.done-journal.ensures.kept file [] [] told behind durable))
    (λ f at. subst (λ (k : ℕ). StandsFor k f [] ⊎ StandsFor k f (p ∷ [])) (ap (λ (j : JournalState). j.format) c.done-journal.ensures.gate) (begun_file begun f p at))

pub returns-in-Err-clause-refused : goal.returns-in-Err-clause-refused
returns-in-Err-clause-refused g c file told behind few is =
    let D = g.D.Disk in
    let gate = ap (λ (j : JournalState). j.gate) c.done-journal.ensures.gate in
    append_fits (D.faults c.args.disk.now) (D.faults c.append.new.disk) (size_after c.done-journal.result c.args.first.now.payload 0) c.in-Err.fault c.in-Err.ensures.ends
    (omega (arith, gate, behind.place, few)) (subst IsRefusal c.from.ensures is)

pub returns-in-Err-clause-ends : goal.returns-in-Err-clause-ends
returns-in-Err-clause-ends g c =
    let D = g.D.Disk in
    subst (HasDiskCause (D.faults c.args.disk.now) (D.faults c.append.new.disk)) (sym c.from.ensures)
    (append_cause (D.faults c.args.disk.now) (D.faults c.append.new.disk) (size_after c.done-journal.result c.args.first.now.payload 0) c.in-Err.fault c.in-Err.ensures.ends)

pub returns-in-Ok-clause-size : goal.returns-in-Ok-clause-size
returns-in-Ok-clause-size g c = omega (arith, ap (λ (j : JournalState). j.gate) c.done-journal.ensures.gate, c.requires.start, c.in-Ok.ensures.grown, opened_one c.args.opening.format c.args.first.now.payload)

pub returns-in-Ok-clause-format : goal.returns-in-Ok-clause-format
returns-in-Ok-clause-format g c = c.append.ensures.format ∙ ap (λ (j : JournalState). j.format) c.done-journal.ensures.gate
