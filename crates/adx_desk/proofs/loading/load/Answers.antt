use Rattle.std.proofs.Common.{arith, List, ℕ, ◌∷◌, [], length, Err, sym, ◌∙◌, ap, subst}
use Rattle.std.specs.List.{sum_by}
use Rattle.day_journal.specs.declared.start.TheConstants.{NEW_FORMAT}
use Rattle.day_journal.specs.Openings.{StandsBehind}
use Rattle.day_machine.specs.Held.{longest_record}
use Rattle.adx_desk.specs.Histories.{DeskTerms}
use Rattle.adx_desk.specs.Openings.{RefusesDesk}
use Rattle.adx_desk.proofs.OpenedDays.{opened_one}
use Rattle.adx_desk.proofs.ReadRecords.{digest_read, first_refused, other_first}
use Rattle.adx_desk.proofs.loading.load.Goals as goal

pub returns-in-Ok-read_records-clause-read : goal.returns-in-Ok-read_records-clause-read
returns-in-Ok-read_records-clause-read g c file told behind =
    let found = rw c.in-Ok-true.field-0-test at c.in-Ok-true.ensures.found in
    let digest = c.args.digest.now in
    c.in-Ok-read_records.ensures.read digest file (c.next_into.ensures.only_reads.same ∙ told)
    (digest_read digest c.next_into.new.payload.items file c.next_into.new.self c.args.day.now.history (sym c.as_slice.ensures.value ∙ c.in-Ok.ensures.same) c.requires.empty (found file [] told behind))

pub returns-in-Ok-read_records-clause-size : goal.returns-in-Ok-read_records-clause-size
returns-in-Ok-read_records-clause-size g c =
    let moved = rw c.in-Ok-true.field-0-test at c.in-Ok-true.ensures.moved in
    let same = sym c.as_slice.ensures.value ∙ c.in-Ok.ensures.same in
    omega (
      arith,
      c.requires.start,
      ap length same,
      moved,
      opened_one NEW_FORMAT c.args.digest.now,
      c.in-Ok-read_records.ensures.moved,
      ap (sum_by longest_record) c.requires.empty,
    )

pub returns-in-Ok-clause-refused : goal.returns-in-Ok-clause-refused
returns-in-Ok-clause-refused g c file told behind =
    let found = rw c.in-Ok-true.field-0-test at c.in-Ok-true.ensures.found in
    let digest = c.args.digest.now in
    c.in-Err-read_records.ensures.refused digest file (c.next_into.ensures.only_reads.same ∙ told)
    (digest_read digest c.next_into.new.payload.items file c.next_into.new.self c.args.day.now.history (sym c.as_slice.ensures.value ∙ c.in-Ok.ensures.same) c.requires.empty (found file [] told behind))

pub returns-in-Ok-true-clause-refused : goal.returns-in-Ok-true-clause-refused
returns-in-Ok-true-clause-refused g c file told behind =
    let terms : DeskTerms = record { day = c.args.day.now.terms; digest = c.args.digest.now } in
    let found = rw c.in-Ok-true.field-0-test at c.in-Ok-true.ensures.found in
    other_first terms file c.as_slice.result.now c.next_into.new.self c.in-Err-compare.fault c.in-Err-compare.ensures.other.0 c.in-Err-compare.ensures.other.1
    (subst (λ (l : List ℕ). StandsBehind file c.next_into.new.self (l ∷ [])) (sym c.as_slice.ensures.value) (found file [] told behind))

pub returns-in-Ok-false-clause-read : goal.returns-in-Ok-false-clause-read
returns-in-Ok-false-clause-read g c file told behind =
    let found = rw c.in-Ok-false.field-0-test at c.in-Ok-false.ensures.found in
    found file [] told behind

pub returns-clause-refused : goal.returns-clause-refused
returns-clause-refused g c file told behind =
    let terms : DeskTerms = record { day = c.args.day.now.terms; digest = c.args.digest.now } in
    subst (RefusesDesk terms file) (sym c.from.ensures)
    (first_refused terms file c.args.opening.now c.in-Err.fault behind (λ at is. c.in-Err.ensures.place at (ap Err is)) (c.in-Err.ensures.refused file [] told behind))
