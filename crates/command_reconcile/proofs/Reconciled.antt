-- What a run wrote, by what was read and what was put.
use Rattle.std.proofs.Common.{◌≡◌, ◌⊎◌, ◌∙◌, inl, inr, ℕ, ◌≤◌, List, [], ◌++◌, length, Option, Some, None, Result, Ok, Err, refl, sym, subst}
use Rattle.adx_io.proofs.Moved.{took_none}
use Rattle.adx_io.specs.Lines.{tape_behind}
use Rattle.adx_io.specs.Streams.{Tape, WhereTold}
use Rattle.adx_io.specs.declared.line_buffer.TheConstants.{CHUNK}
use Rattle.adx_io.specs.declared.stop.Stop.{Stop}
use Rattle.adx_desk.specs.declared.fault.DeskFault.{DeskFault}
use Rattle.command_reconcile.specs.Agreements.{Reconciles}
use Rattle.command_reconcile.specs.declared.bill.Bill.{Bill}
use Rattle.command_reconcile.specs.Reading.{PutsReconciliation, ReadsLedger}
use Rattle.command_reconcile.specs.Reconciling.{EndsLedger, Ending, EndsDay, EndsOpened, at_end, no_bidder_line, no_row_line}
use Rattle.command_reconcile.specs.DayBills.{day_bills}
use Rattle.command_runs.proofs.Told.{told_ahead, told_map}
use Rattle.command_runs.specs.Meanings.{PutsEnd, Wrote}
use Rattle.command_runs.specs.declared.outcome.Outcome.{Outcome}
use Rattle.day_rules.specs.declared.entry.Entry.{Entry}
use Rattle.deal_floor.specs.declared.roster.Roster.{Roster}
use Rattle.history_runs.specs.Unopened.{PutsUnopened, unopened_end}
use Rattle.history_runs.proofs.Unopened.{unopened_by}
use Rattle.history_runs.specs.Output.{unopened_line}

module _ (allowed : ℕ) (ends : Ending) (held held_now : Option (List ℕ)) where
  -- what is written at the end was put, or a prefix of it
  pub put_wrote : (input taken left out : List ℕ) (outcome : Outcome) (result : Result Outcome Stop) → input ≡ taken ++ left → ends outcome taken left out → PutsEnd outcome held held_now out result → Wrote (at_end allowed ends) input left held held_now result
  put_wrote input taken left out outcome (Ok ended) is so (wanted, took) = (taken, out, is, subst (λ o. ends o taken left out) (sym wanted) so, took)
  put_wrote input taken left out outcome (Err Stop.ReadFault) is so puts = absurd puts
  put_wrote input taken left out outcome (Err Stop.WriteFault) is so (front, back, split, took) = (taken, [], out, front, back, is, (refl, inl (outcome, so)), split, took)
  put_wrote input taken left out outcome (Err Stop.OutOfMemory) is so (front, back, split, took) = (taken, [], out, front, back, is, (refl, inl (outcome, so)), split, took)

  -- nothing was put before the run was cut short
  pub cut_wrote : (input taken left : List ℕ) → input ≡ taken ++ left → length taken ≤ allowed → held_now ≡ held → Wrote (at_end allowed ends) input left held held_now (Err Stop.OutOfMemory)
  cut_wrote input taken left is few same = (taken, [], [], [], [], is, (refl, inr (refl, few)), refl, same ∙ took_none held)

  stopped : (bills : List Bill) (stop : Stop) (x y : Tape) → ReadsLedger allowed bills (Err stop) x y → held_now ≡ held → Wrote (at_end allowed ends) x.left y.left held held_now (Err stop)
  stopped bills Stop.ReadFault x y (taken, is, few) same = (taken, [], is, (few, refl), same ∙ took_none held)
  stopped bills Stop.WriteFault x y (taken, is, few) same = (taken, [], [], [], [], is, (refl, inr (refl, few)), refl, same ∙ took_none held)
  stopped bills Stop.OutOfMemory x y (taken, is, few) same = cut_wrote x.left taken y.left is few same

  pub told_stopped : (bills : List Bill) (stop : Stop) (tape now : Option Tape) → WhereTold tape now (ReadsLedger allowed bills (Err stop)) → held_now ≡ held → WhereTold tape now (λ x y. Wrote (at_end allowed ends) x.left y.left held held_now (Err stop))
  told_stopped bills stop tape now reads same = told_map tape now (ReadsLedger allowed bills (Err stop)) _ reads (λ x y r. stopped bills stop x y r same)

  -- nothing was read
  pub told_unread : (pending out : List ℕ) (outcome : Outcome) (told : Option Tape) (result : Result Outcome Stop) → ((left : List ℕ) → ends outcome pending left out) → PutsEnd outcome held held_now out result
      → WhereTold (tape_behind pending told) told (λ x y. Wrote (at_end allowed ends) x.left y.left held held_now result)
  told_unread pending out outcome told result so puts = told_ahead pending told _ (λ z. put_wrote (pending ++ z.left) pending z.left out outcome result refl (so z.left) puts)

  pub told_refused : (pending : List ℕ) (told : Option Tape) → length pending ≤ allowed → held_now ≡ held → WhereTold (tape_behind pending told) told (λ x y. Wrote (at_end allowed ends) x.left y.left held held_now (Err Stop.OutOfMemory))
  told_refused pending told few same = told_ahead pending told _ (λ z. cut_wrote (pending ++ z.left) pending z.left refl few same)

module _ (owed : List Bill) (allowed : ℕ) (tape now : Option Tape) (held held_now : Option (List ℕ)) where
  -- the reconciliation of a ledger
  pub told_all : (bills : List Bill) (result : Result Outcome Stop) → WhereTold tape now (ReadsLedger allowed bills (Ok None)) → PutsReconciliation owed bills held held_now result
      → WhereTold tape now (λ x y. Wrote (at_end allowed (EndsLedger owed allowed)) x.left y.left held held_now result)
  told_all bills result reads (inl (out, is, puts)) = told_map tape now (ReadsLedger allowed bills (Ok None)) _ reads (λ x y r.
      put_wrote allowed (EndsLedger owed allowed) held held_now x.left r.0 y.left out Outcome.Done result r.1 (inl (r.2, r.3, refl, subst (λ (told : List Bill). Reconciles owed told out) r.4 is)) puts)
  told_all bills result reads (inr (same, refused)) = subst (λ e. WhereTold tape now (λ x y. Wrote (at_end allowed (EndsLedger owed allowed)) x.left y.left held held_now e)) (sym refused)
      (told_map tape now (ReadsLedger allowed bills (Ok None)) _ reads (λ x y r. cut_wrote allowed (EndsLedger owed allowed) held held_now x.left r.0 y.left r.1 r.3.few same))

  -- the line that tells no row
  pub told_failing : (bills : List Bill) (n : ℕ) (result : Result Outcome Stop) → WhereTold tape now (ReadsLedger allowed bills (Ok (Some n))) → PutsEnd Outcome.Refused held held_now (no_row_line n) result
      → WhereTold tape now (λ x y. Wrote (at_end allowed (EndsLedger owed allowed)) x.left y.left held held_now result)
  told_failing bills n result reads puts = told_map tape now (ReadsLedger allowed bills (Ok (Some n))) _ reads (λ x y r.
      put_wrote allowed (EndsLedger owed allowed) held held_now x.left r.0 y.left (no_row_line n) Outcome.Refused result r.1 (inr (n, r.2, refl, refl)) puts)

-- the bidder's place decides how the day ends
module _ (name : List ℕ) (r : Roster) (history : List Entry) (allowed : ℕ) (tape now : Option Tape) (held held_now : Option (List ℕ)) (result : Result Outcome Stop) where
  pub with_place : (place : Option ℕ) (bidder : ℕ) (owed : List Bill) → place ≡ Some bidder → owed ≡ day_bills r.campaigns bidder history
      → WhereTold tape now (λ x y. Wrote (at_end allowed (EndsLedger owed allowed)) x.left y.left held held_now result)
      → WhereTold tape now (λ x y. Wrote (at_end allowed (EndsOpened r history allowed place)) x.left y.left held held_now result)
  with_place place bidder owed is bills wrote =
      subst (λ (p : Option ℕ). WhereTold tape now (λ x y. Wrote (at_end allowed (EndsOpened r history allowed p)) x.left y.left held held_now result)) (sym is)
      (subst (λ (b : List Bill). WhereTold tape now (λ x y. Wrote (at_end allowed (EndsLedger b allowed)) x.left y.left held held_now result)) bills wrote)

-- the roster has no such bidder
pub no_place : (r : Roster) (history : List Entry) (allowed : ℕ) (place : Option ℕ) (pending left : List ℕ) → place ≡ None → length pending ≤ CHUNK → EndsOpened r history allowed place Outcome.Refused pending left no_bidder_line
no_place r history allowed place pending left none few = subst (λ (p : Option ℕ). EndsOpened r history allowed p Outcome.Refused pending left no_bidder_line) (sym none) (few, refl, refl)

-- why the day wasn't opened
module _ (name : List ℕ) (r : Roster) (allowed : ℕ) (why : DeskFault) (held held_now : Option (List ℕ)) (pending : List ℕ) (few : length pending ≤ CHUNK) (within : length pending ≤ allowed) (told : Option Tape) where
  abbrev Writes : Result Outcome Stop → Type 0
  Writes result = WhereTold (tape_behind pending told) told (λ x y. Wrote (at_end allowed (EndsDay name r allowed (Err why))) x.left y.left held held_now result)

  told_line : (result : Result Outcome Stop) → (((outcome : Outcome) × (unopened_end why ≡ Ok outcome) × PutsEnd outcome held held_now (unopened_line why) result) ⊎ ((held_now ≡ held) × (result ≡ Err Stop.OutOfMemory))) → Writes result
  told_line result (inl (outcome, is, puts)) =
      told_unread allowed (EndsDay name r allowed (Err why)) held held_now pending (unopened_line why) outcome told result (λ left. (few, is, refl)) puts
  told_line result (inr (same, refused)) = subst Writes (sym refused) (told_refused allowed (EndsDay name r allowed (Err why)) held held_now pending told within same)

  pub told_unopened : (result : Result Outcome Stop) → PutsUnopened why held held_now result → Writes result
  told_unopened result puts = told_line result (unopened_by held held_now why result puts)
