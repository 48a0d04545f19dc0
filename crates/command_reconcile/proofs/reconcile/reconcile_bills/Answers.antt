-- All of the ledger was read, or up to a line that tells no row, or the reading stopped.
use Rattle.std.proofs.Common.{◌≡◌, ◌∙◌, List, ℕ, Option, None, Some, Ok, sym, ap, subst}
use Rattle.std.specs.Borrow.{MutBor}
use Rattle.adx_io.specs.Streams.{Tape, WhereTold}
use Rattle.adx_io.specs.TalkState.{state_of}
use Rattle.command_runs.specs.Meanings.{PutsEnd, Wrote}
use Rattle.command_runs.specs.declared.outcome.Outcome.{Outcome}
use Rattle.command_reconcile.specs.Reading.{PutsReconciliation}
use Rattle.command_reconcile.specs.Reconciling.{EndsLedger, at_end, no_row_line}
use Rattle.command_reconcile.proofs.Reconciled.{told_all, told_failing, told_stopped}
use Rattle.command_reconcile.proofs.reconcile.reconcile_bills.Goals as goal

pub returns-in-Ok-None-clause-ran : goal.returns-in-Ok-None-clause-ran
returns-in-Ok-None-clause-ran g c =
    let is : c.read_ledger.result ≡ Ok None = c.in-Ok-None.is ∙ ap Ok c.in-Ok-None.field-0-is in
    let owed = c.args.owed.items in
    let before = state_of c.args.talk.now in
    let mid = c.read_ledger.new.talk in
    let last = c.put_reconciliation.new.talk in
    let held = g.K.Sink.held last.sink.now in
    let told = c.read_ledger.new.bills.items in
    let result = c.put_reconciliation.result in
    subst (λ (t : Option Tape). WhereTold before.tape t (λ x y. Wrote (at_end before.allowed (EndsLedger owed before.allowed)) x.left y.left before.held held result)) (sym (ap (λ (x : MutBor _). g.S.Source.tape x.now) c.put_reconciliation.ensures.rest.0))
    (told_all owed before.allowed before.tape (g.S.Source.tape mid.source.now) before.held held told result (rw is at c.read_ledger.ensures.reads)
    (subst (λ (h : Option (List ℕ)). PutsReconciliation owed told h held result) c.read_ledger.ensures.held c.put_reconciliation.ensures.puts))

pub returns-in-Ok-Some-clause-ran : goal.returns-in-Ok-Some-clause-ran
returns-in-Ok-Some-clause-ran g c =
    let n = c.in-Ok-Some.number in
    let is : c.read_ledger.result ≡ Ok (Some n) = c.in-Ok-Some.is ∙ ap Ok c.in-Ok-Some.field-0-is in
    let owed = c.args.owed.items in
    let before = state_of c.args.talk.now in
    let mid = c.read_ledger.new.talk in
    let last = c.refuse_line.new.talk in
    let held = g.K.Sink.held last.sink.now in
    let told = c.read_ledger.new.bills.items in
    let result = c.refuse_line.result in
    subst (λ (t : Option Tape). WhereTold before.tape t (λ x y. Wrote (at_end before.allowed (EndsLedger owed before.allowed)) x.left y.left before.held held result)) (sym (ap (λ (x : MutBor _). g.S.Source.tape x.now) c.refuse_line.ensures.rest.0))
    (told_failing owed before.allowed before.tape (g.S.Source.tape mid.source.now) before.held held told n result (rw is at c.read_ledger.ensures.reads)
    (subst (λ (h : Option (List ℕ)). PutsEnd Outcome.Refused h held (no_row_line n) result) c.read_ledger.ensures.held c.refuse_line.ensures.puts))

pub returns-in-Err-clause-ran : goal.returns-in-Err-clause-ran
returns-in-Err-clause-ran g c =
    let before = state_of c.args.talk.now in
    let mid = c.read_ledger.new.talk in
    told_stopped before.allowed (EndsLedger c.args.owed.items before.allowed) before.held (g.K.Sink.held mid.sink.now) c.read_ledger.new.bills.items c.in-Err.stop before.tape (g.S.Source.tape mid.source.now) c.in-Err.ensures.reads c.read_ledger.ensures.held
