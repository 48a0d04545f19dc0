use Rattle.std.proofs.Common.{List, ℕ, ◌∷◌, [], Ok, Err, refl, sym, ◌∙◌, ap, subst, arith}
use Rattle.day_rules.specs.DayState.{IsDay}
use Rattle.day_rules.specs.Legal.{IsLegal}
use Rattle.day_rules.specs.Terms.{Terms}
use Rattle.adx_desk.specs.Loading.{RefusesRecord, TakesFront}
use Rattle.adx_desk.specs.Histories.{AreRecords, DeskTerms}
use Rattle.adx_desk.specs.Openings.{RefusesDesk}
use Rattle.adx_desk.proofs.ReadRecords.{later_refused, no_reads, read_all, reads_on, record_read, record_refused, still_shorter}
use Rattle.adx_desk.proofs.Sizes.{moved_on}
use Rattle.adx_desk.proofs.loading.read_records.Goals as goal

pub records-init : goal.records-init
records-init g c =
    let D = g.D.Disk in
    record {
      terms = refl;
      legal = c.requires;
      read = λ digest file told read. read;
      only = no_reads D.reads D.may_leave D.moment D.left_since c.args.disk.now (g.met.D.Disk.only_now c.args.disk.now);
      count = refl;
      format = refl;
      lasts = g.met.D.Disk.lasts_same c.args.disk.now;
      moved = omega arith;
    }

pub records-preserved : goal.records-preserved
records-preserved g c =
    let D = g.D.Disk in
    let day = c.args.day.now in
    let mid = c.records.day in
    let new = c.take_record.new.day in
    let bytes = c.next_into.new.payload.items in
    let inv = c.records.invariant in
    let format = c.next_into.new.self.format in
    let here = subst (λ (f : ℕ). TakesFront f mid.terms mid.history new.history c.as_slice.result.now []) c.format.ensures c.in-Ok.ensures.taken in
    let taken = subst (λ (t : Terms). TakesFront format t mid.history new.history bytes []) inv.terms (subst (λ (l : List ℕ). TakesFront format mid.terms mid.history new.history l []) c.as_slice.ensures.value here) in
    let found = rw c.in-Ok-true.field-0-test at c.in-Ok-true.ensures.found in
    let moved = rw c.in-Ok-true.field-0-test at c.in-Ok-true.ensures.moved in
    record {
      terms = c.take_record.ensures.terms ∙ inv.terms;
      legal = record { terms_ok = c.requires.terms_ok; legal = taken.legal };
      read = λ digest file told read.
          let had = inv.read digest file told read in
          record_read digest file day.terms c.next_into.new.self had.rest mid.history new.history bytes (subst (λ (f : ℕ). AreRecords f had.rest mid.history) (sym c.next_into.ensures.format) had.records) (found file (digest ∷ had.rest) (inv.only.same ∙ told) had.behind) taken;
      only = reads_on D.reads D.may_leave D.moment D.left_since c.args.disk.now c.records.disk c.next_into.new.disk inv.only c.next_into.ensures.only_reads;
      count = c.in-Ok-true.ensures.ends ∙ inv.count;
      format = c.next_into.ensures.format ∙ inv.format;
      lasts = g.met.D.Disk.lasts_on c.args.disk.now c.records.disk c.next_into.new.disk inv.lasts c.next_into.ensures.lasts;
      moved = moved_on format day.terms mid.history new.history bytes day.history c.args.opening.now.window.at c.records.opening.window.at c.next_into.new.self.window.at taken moved inv.moved;
    }

pub records-smaller : goal.records-smaller
records-smaller g c =
    let taken = c.in-Ok.ensures.taken in
    let legal : IsLegal c.args.day.now.terms c.take_record.new.day.history = subst (λ (t : Terms). IsLegal t c.take_record.new.day.history) c.records.invariant.terms taken.legal in
    still_shorter c.args.day.now.terms c.records.day.history c.take_record.new.day.history taken.front (record { terms_ok = c.requires.terms_ok; legal = legal }) taken.some taken.added

pub returns-in-Ok-false-clause-legal : goal.returns-in-Ok-false-clause-legal
returns-in-Ok-false-clause-legal g c = subst (λ (t : Terms). IsDay t c.records.day.history) (sym c.records.invariant.terms) c.records.invariant.legal

pub returns-in-Ok-false-clause-read : goal.returns-in-Ok-false-clause-read
returns-in-Ok-false-clause-read g c digest file told read =
    let inv = c.records.invariant in
    let had = inv.read digest file told read in
    let found = rw c.in-Ok-false.field-0-test at c.in-Ok-false.ensures.found in
    read_all digest file c.records.opening c.next_into.new.self c.records.day.history had c.next_into.ensures.format (found file (digest ∷ had.rest) (inv.only.same ∙ told) had.behind)

pub returns-in-Ok-false-clause-closed : goal.returns-in-Ok-false-clause-closed
returns-in-Ok-false-clause-closed g c = c.in-Ok-false.ensures.closed (ap Ok c.in-Ok-false.field-0-test)

pub returns-in-Ok-false-clause-moved : goal.returns-in-Ok-false-clause-moved
returns-in-Ok-false-clause-moved g c =
    let still = rw c.in-Ok-false.field-0-test at c.in-Ok-false.ensures.moved in omega (arith, c.records.invariant.moved, still)

pub returns-in-Err-take_record-clause-refused : goal.returns-in-Err-take_record-clause-refused
returns-in-Err-take_record-clause-refused g c digest file told read =
    let terms : DeskTerms = record { day = c.args.day.now.terms; digest = digest } in
    let inv = c.records.invariant in
    let mid = c.records.day in
    let bytes = c.next_into.new.payload.items in
    let had = inv.read digest file told read in
    let found = rw c.in-Ok-true.field-0-test at c.in-Ok-true.ensures.found in
    let format = c.next_into.new.self.format in
    let here = subst (λ (f : ℕ). RefusesRecord f mid.terms mid.history c.as_slice.result.now c.in-Err-take_record.fault) c.format.ensures c.in-Err-take_record.ensures.refused in
    let refused = subst (λ (l : List ℕ). RefusesRecord format mid.terms mid.history l c.in-Err-take_record.fault) c.as_slice.ensures.value here in
    record_refused terms file c.next_into.new.self had.rest mid.history bytes c.in-Err-take_record.fault (subst (λ (f : ℕ). AreRecords f had.rest mid.history) (sym c.next_into.ensures.format) had.records) (found file (digest ∷ had.rest) (inv.only.same ∙ told) had.behind)
    (subst (λ (t : Terms). RefusesRecord format t mid.history bytes c.in-Err-take_record.fault) inv.terms refused)

pub returns-in-Err-clause-refused : goal.returns-in-Err-clause-refused
returns-in-Err-clause-refused g c digest file told read =
    let terms : DeskTerms = record { day = c.args.day.now.terms; digest = digest } in
    let inv = c.records.invariant in
    let had = inv.read digest file told read in
    subst (RefusesDesk terms file) (sym c.from.ensures)
    (later_refused terms file c.records.opening c.records.day.history c.in-Err.fault inv.legal.legal had (λ at is. c.in-Err.ensures.place at (ap Err is))
    (c.in-Err.ensures.refused file (digest ∷ had.rest) (inv.only.same ∙ told) had.behind))
