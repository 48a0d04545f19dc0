-- By what was read, or by the first payload that was written.
use Rattle.std.proofs.Common.{◌⊎◌, List, ℕ, ◌∷◌, [], length, sym, ◌∙◌, ap, subst, arith}
use Rattle.std.specs.List.{sum_by}
use Rattle.day_journal.specs.Disks.{LeavesOnly}
use Rattle.day_journal.specs.declared.start.TheConstants.{NEW_FORMAT}
use Rattle.day_journal.specs.Places.{IsClosed, IsFormat, StandsFor, opened}
use Rattle.day_journal.specs.Tails.{JournalState, Keeps}
use Rattle.day_machine.specs.Held.{longest_record}
use Rattle.adx_desk.specs.Histories.{DeskTerms}
use Rattle.adx_desk.proofs.Beginnings.{begin_moments, has_begun, has_opened, still_durable}
use Rattle.adx_desk.proofs.OpenedDays.{opened_one}
use Rattle.adx_desk.proofs.opening.journal_of.Goals as goal

pub returns-in-Ok-true-clause-opened : goal.returns-in-Ok-true-clause-opened
returns-in-Ok-true-clause-opened g c file told behind durable =
    let D = g.D.Disk in
    let read = rw c.in-Ok-true.field-0-test at c.in-Ok-true.ensures.read in
    let all = read file told behind in
    let mid = c.load.new.disk in
    let only = c.load.ensures.only_reads in
    let still = still_durable D.reads D.may_leave D.moment D.left_since c.args.disk.now mid only durable in
    has_opened c.args.digest.now file (D.reads mid) (D.may_leave mid) c.load.new.opening c.done.result c.load.new.day.history all (only.same ∙ told) (ap (λ (j : JournalState). j.format) c.done.ensures.gate)
    (λ tail. c.done.ensures.kept file (c.args.digest.now ∷ all.read.rest) tail (only.same ∙ told) all.read.behind still)

pub returns-in-Ok-clause-opened : goal.returns-in-Ok-clause-opened
returns-in-Ok-clause-opened g c file told behind durable =
    let D = g.D.Disk in
    let read = rw c.in-Ok-false.field-0-test at c.in-Ok-false.ensures.read in
    let both = read file told behind in
    let size = rw c.in-Ok-false.field-0-test at c.in-Ok-false.ensures.size in
    let new = c.begin.new.disk in
    let only = c.load.ensures.only_reads in
    let still = still_durable D.reads D.may_leave D.moment D.left_since c.args.disk.now c.load.new.disk only durable in
    let known = subst IsFormat (sym c.in-Ok.ensures.format) both.0.known in
    let closed = subst (λ (f : ℕ). IsClosed (opened f []) file) (sym (c.in-Ok.ensures.format ∙ c.load.ensures.format)) both.1 in
    has_begun c.args.digest.now file (D.reads new) (D.may_leave new) c.in-Ok.journal c.load.new.day.history known closed size.1
    (λ tail. subst (λ (p : List ℕ). Keeps (D.may_leave new) c.in-Ok.journal (p ∷ []) tail) c.requires.first (c.in-Ok.ensures.kept file (only.same ∙ told) both.0 still tail))

pub returns-in-Ok-clause-any_moment : goal.returns-in-Ok-clause-any_moment
returns-in-Ok-clause-any_moment g c file told behind durable =
    let D = g.D.Disk in
    let terms : DeskTerms = record { day = c.args.day.now.terms; digest = c.args.digest.now } in
    let read = rw c.in-Ok-false.field-0-test at c.in-Ok-false.ensures.read in
    let both = read file told behind in
    let mid = c.load.new.disk in
    let new = c.begin.new.disk in
    let only = c.load.ensures.only_reads in
    let still = still_durable D.reads D.may_leave D.moment D.left_since c.args.disk.now mid only durable in
    let format = c.load.new.opening.format in
    let closed = subst (λ (f : ℕ). IsClosed (opened f []) file) (sym c.load.ensures.format) both.1 in
    begin_moments D.reads D.may_leave D.moment D.left_since terms format c.args.disk.now mid new file both.0.known only durable told closed
    (subst (λ (p : List ℕ). LeavesOnly D.moment D.left_since mid new (λ f. StandsFor format f [] ⊎ StandsFor format f (p ∷ []))) c.requires.first (c.begin.ensures.any_moment file (only.same ∙ told) both.0 still))

pub returns-in-Err-begin-clause-any_moment : goal.returns-in-Err-begin-clause-any_moment
returns-in-Err-begin-clause-any_moment g c file told behind durable =
    let D = g.D.Disk in
    let terms : DeskTerms = record { day = c.args.day.now.terms; digest = c.args.digest.now } in
    let read = rw c.in-Ok-false.field-0-test at c.in-Ok-false.ensures.read in
    let both = read file told behind in
    let mid = c.load.new.disk in
    let new = c.begin.new.disk in
    let only = c.load.ensures.only_reads in
    let still = still_durable D.reads D.may_leave D.moment D.left_since c.args.disk.now mid only durable in
    let format = c.load.new.opening.format in
    let closed = subst (λ (f : ℕ). IsClosed (opened f []) file) (sym c.load.ensures.format) both.1 in
    begin_moments D.reads D.may_leave D.moment D.left_since terms format c.args.disk.now mid new file both.0.known only durable told closed
    (subst (λ (p : List ℕ). LeavesOnly D.moment D.left_since mid new (λ f. StandsFor format f [] ⊎ StandsFor format f (p ∷ []))) c.requires.first (c.begin.ensures.any_moment file (only.same ∙ told) both.0 still))

pub returns-in-Ok-true-clause-size : goal.returns-in-Ok-true-clause-size
returns-in-Ok-true-clause-size g c =
    let read = rw c.in-Ok-true.field-0-test at c.in-Ok-true.ensures.size in omega (arith, read, ap (λ (j : JournalState). j.gate) c.done.ensures.gate)

pub begin-requires-clause-start : goal.begin-requires-clause-start
begin-requires-clause-start g c = let read = rw c.in-Ok-false.field-0-test at c.in-Ok-false.ensures.size in read.0

pub returns-in-Ok-clause-size : goal.returns-in-Ok-clause-size
returns-in-Ok-clause-size g c =
    let read = rw c.in-Ok-false.field-0-test at c.in-Ok-false.ensures.size in
    let format = c.load.new.opening.format in
    omega (arith, c.in-Ok.ensures.size, ap (λ (p : List ℕ). length (opened format (p ∷ []))) c.requires.first, opened_one format c.args.digest.now, opened_one NEW_FORMAT c.args.digest.now, ap (sum_by longest_record) read.1)
