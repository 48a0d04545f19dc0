-- One call of a desk: done, given up by the disk's fault, or for lack of room in the journal.
use Rattle.std.proofs.Common.{◌≡◌, ◌⊎◌, inl, inr, ℕ, ◌+◌, ◌<◌, ◌≤◌, min, List, [], ◌∷◌, ◌++◌, length, Option, Some, None, Ok, Err, refl, sym, subst, arith, IfSome}
use Rattle.adx_io.specs.Streams.{last_count}
use Rattle.adx_desk.specs.Desks.{DeskKeeps, DeskState, OnDisk}
use Rattle.day_machine.specs.Batches.{added_by}
use Rattle.adx_desk.specs.Endings.{EndsAsk, EndsNotice, FailsDisk, NoFault, PassesJournal, size_with}
use Rattle.day_machine.specs.Held.{longest_held, longest_record}
use Rattle.day_machine.proofs.Sizes.{held_longest, record_longest}
use Rattle.adx_desk.specs.Serving.{Serves}
use Rattle.adx_desk.specs.declared.fault.DeskFault.{DeskFault}
use Rattle.answer_lines.specs.declared.faults.Fault.{Fault}
use Rattle.day_journal.specs.Faults.{greatest_size}
use Rattle.day_journal.specs.Tails.{size_of}
use Rattle.day_rules.specs.declared.entry.Entry.{Entry}
use Rattle.day_rules.specs.Replies.{Call, reply}
use Rattle.day_rules.specs.Runs.{IsCall}
use Rattle.adx_desk.specs.Lines.{told_as}
use Rattle.adx_desk.specs.Answering.{LeavesCall, MayBeLeft, ServesCall}
use Rattle.adx_desk.specs.Histories.{longest_size}
use Rattle.adx_desk.specs.Called.{IsRoomy}
use Rattle.adx_desk.specs.OnDisk.{FullOnly, MayWantRoom}
use Rattle.adx_desk.proofs.Roomy.{roomy_wants}

-- what may be in doubt after a call that was done: nothing where it added an entry, else what was
left_done : (entry : Option Entry) (P : List Entry → Type 0) (tail : List Entry) → P tail → IfSome entry (λ e. (any : List Entry) → P any) → (next : List Entry) × MayBeLeft None (added_by entry) tail next × P next
left_done None P tail kept fresh = (tail, refl, kept)
left_done (Some e) P tail kept fresh = ([], refl, fresh [])

-- the same of one entry's clause, which takes the tail first
fresh_of : (entry : Option Entry) (Q P : List Entry → Type 0) (tail : List Entry) → Q tail → IfSome entry (λ e. (t any : List Entry) → Q t → P any) → IfSome entry (λ e. (any : List Entry) → P any)
fresh_of None Q P tail kept given = tt
fresh_of (Some e) Q P tail kept given = λ any. given tail any kept

-- a call that was done
pub call_done : {D T : Type 0} (faults : D → ℕ) (may_leave : D → List ℕ → Type 0) (moment : D → ℕ) (left_since : D → ℕ → List ℕ → Type 0) (old new : OnDisk D) (call : Call) (answer : T)
    → IsCall (length old.desk.terms.day.budgets) call → Serves {T = T} may_leave moment left_since old new (reply old.desk.terms.day old.desk.history call).entry (Ok answer)
    → NoFault (faults old.disk) (faults new.disk) old.desk new.desk
    → ServesCall faults may_leave moment left_since old new (record { call = call; fault = None })
call_done faults may_leave moment left_since old new call answer taken s none =
    let entry = (reply old.desk.terms.day old.desk.history call).entry in record {
      taken = taken;
      terms = s.terms;
      history = s.history;
      counted = none.disk;
      known = none.desk;
      full = tt;
      any_moment = s.any_moment;
      keeps = λ tail kept.
          left_done entry (DeskKeeps (may_leave new.disk) new.desk) tail (s.done tail kept)
          (fresh_of entry (DeskKeeps (may_leave old.disk) old.desk) (DeskKeeps (may_leave new.disk) new.desk) tail kept s.acknowledged);
    }

-- what may be in doubt after a call that the disk's fault gave up
left_doubted : (record_bytes tail : List Entry) (P : List Entry → Type 0) → P tail ⊎ P record_bytes → (next : List Entry) × MayBeLeft (Some Fault.Disk) record_bytes tail next × P next
left_doubted record_bytes tail P (inl kept) = (tail, inl refl, kept)
left_doubted record_bytes tail P (inr kept) = (record_bytes, inr refl, kept)

-- a call that the disk's fault gave up
pub call_failed : {D T : Type 0} (faults : D → ℕ) (may_leave : D → List ℕ → Type 0) (moment : D → ℕ) (left_since : D → ℕ → List ℕ → Type 0) (old new : OnDisk D) (call : Call)
    → IsCall (length old.desk.terms.day.budgets) call → Serves {T = T} may_leave moment left_since old new (reply old.desk.terms.day old.desk.history call).entry (Err DeskFault.DiskFault)
    → FailsDisk (faults old.disk) (faults new.disk) old.desk new.desk
    → ServesCall faults may_leave moment left_since old new (record { call = call; fault = Some Fault.Disk })
call_failed faults may_leave moment left_since old new call taken s fails =
    let entry = (reply old.desk.terms.day old.desk.history call).entry in record {
      taken = taken;
      terms = s.terms;
      history = s.same;
      counted = (fails.later, fails.risen);
      known = fails.counted;
      full = tt;
      any_moment = s.any_moment;
      keeps = λ tail kept. left_doubted (added_by entry) tail (DeskKeeps (may_leave new.disk) new.desk) (s.doubted tail kept);
    }

-- the size that is answered, between what a journal may have and the longest that it may be
told_between : (most size told longest last : ℕ) → most < size → told ≡ min size last → most < last → size ≤ longest → (most < told) × (told ≤ longest)
told_between most size told longest last passes is small fits = (omega (arith, passes, is, small), omega (arith, is, fits))

full_only : (desk : DeskState) (size : ℕ) (entry : Option Entry) → greatest_size < last_count → size_of desk.journal ≤ longest_size desk.terms desk.history → PassesJournal desk size entry → IfSome entry MayWantRoom
    → FullOnly desk.terms desk.history entry (Some (Fault.JournalFull size))
full_only desk size None small short passes wants = passes
full_only desk size (Some e) small short passes wants =
    let longest = longest_size desk.terms desk.history + longest_record e + longest_held (desk.history ++ e ∷ []) in
    let fits : size_with desk e ≤ longest = omega (arith, short, record_longest desk.journal.format e, held_longest desk.journal.format (desk.history ++ e ∷ [])) in
    let between = told_between greatest_size (size_with desk e) size longest last_count passes.0 passes.1 small fits in
    (between.0, between.1, wants)

-- a call for which the journal has no room; the desk's journal is no longer than the longest of its history
pub call_full : {D T : Type 0} (faults : D → ℕ) (may_leave : D → List ℕ → Type 0) (moment : D → ℕ) (left_since : D → ℕ → List ℕ → Type 0) (old new : OnDisk D) (call : Call) (size : ℕ)
    → IsCall (length old.desk.terms.day.budgets) call → IsRoomy call → Serves {T = T} may_leave moment left_since old new (reply old.desk.terms.day old.desk.history call).entry (Err (DeskFault.JournalFull size))
    → PassesJournal old.desk size (reply old.desk.terms.day old.desk.history call).entry → NoFault (faults old.disk) (faults new.disk) old.desk new.desk → new ≡ old
    → greatest_size < last_count → size_of old.desk.journal ≤ longest_size old.desk.terms old.desk.history
    → ServesCall faults may_leave moment left_since old new (record { call = call; fault = Some (Fault.JournalFull size) })
call_full faults may_leave moment left_since old new call size taken roomy s passes none same small short = record {
  taken = taken;
  terms = s.terms;
  history = s.same;
  counted = none.disk;
  known = none.desk;
  full = full_only old.desk size (reply old.desk.terms.day old.desk.history call).entry small short passes (roomy_wants old.desk.terms.day old.desk.history call roomy);
  any_moment = s.any_moment;
  keeps = λ tail kept. (tail, refl, subst (λ (now : OnDisk _). DeskKeeps (may_leave now.disk) now.desk tail) (sym same) kept);
}

-- the greatest size of a journal is a count of 64 bits
pub sizes_counted : greatest_size < last_count
sizes_counted = omega arith

-- a call that was given up by one fault, by the name of another that is the same
same_fault : {D : Type 0} (faults : D → ℕ) (may_leave : D → List ℕ → Type 0) (moment : D → ℕ) (left_since : D → ℕ → List ℕ → Type 0) (old new : OnDisk D) (call : Call) (f told : Fault) → Some f ≡ Some told
    → ServesCall faults may_leave moment left_since old new (record { call = call; fault = Some f }) → ServesCall faults may_leave moment left_since old new (record { call = call; fault = Some told })
same_fault faults may_leave moment left_since old new call f told is serves = subst (λ (o : Option Fault). ServesCall faults may_leave moment left_since old new (record { call = call; fault = o })) is serves

module _ {D T : Type 0} (faults : D → ℕ) (may_leave : D → List ℕ → Type 0) (moment : D → ℕ) (left_since : D → ℕ → List ℕ → Type 0) (old new : OnDisk D) (call : Call) where
  -- a call of an ask that was given up, by the fault that its line says
  pub ask_given_up : (fault : DeskFault) (told : Fault) → told_as fault ≡ Some told
      → IsCall (length old.desk.terms.day.budgets) call → IsRoomy call → Serves {T = T} may_leave moment left_since old new (reply old.desk.terms.day old.desk.history call).entry (Err fault)
      → EndsAsk {T = T} (faults old.disk) (faults new.disk) old.desk new.desk (reply old.desk.terms.day old.desk.history call).entry (Err fault)
      → ((fault ≡ DeskFault.DiskFault → ⊥) → new ≡ old) → size_of old.desk.journal ≤ longest_size old.desk.terms old.desk.history
      → ServesCall faults may_leave moment left_since old new (record { call = call; fault = Some told })
  ask_given_up DeskFault.DiskFault told is taken roomy s ends same short = same_fault faults may_leave moment left_since old new call Fault.Disk told is (call_failed faults may_leave moment left_since old new call taken s ends.1)
  ask_given_up (DeskFault.JournalFull size) told is taken roomy s ends same short =
      same_fault faults may_leave moment left_since old new call (Fault.JournalFull size) told is (call_full faults may_leave moment left_since old new call size taken roomy s ends.0 ends.1 (same (λ disk. cc disk)) sizes_counted short)
  ask_given_up (DeskFault.BadEntry at) told is taken roomy s ends same short = absurd ends
  ask_given_up (DeskFault.OtherRoster kept) told is taken roomy s ends same short = absurd ends
  ask_given_up (DeskFault.NotAJournal at) told is taken roomy s ends same short = absurd ends
  ask_given_up (DeskFault.BadLength at) told is taken roomy s ends same short = absurd ends
  ask_given_up DeskFault.OutOfMemory told is taken roomy s ends same short = absurd (cc is)

  -- a notice or a tick that was given up
  pub notice_given_up : (fault : DeskFault) (told : Fault) → told_as fault ≡ Some told
      → IsCall (length old.desk.terms.day.budgets) call → Serves {T = T} may_leave moment left_since old new (reply old.desk.terms.day old.desk.history call).entry (Err fault)
      → EndsNotice {T = T} (faults old.disk) (faults new.disk) old.desk new.desk (Err fault)
      → ServesCall faults may_leave moment left_since old new (record { call = call; fault = Some told })
  notice_given_up DeskFault.DiskFault told is taken s ends = same_fault faults may_leave moment left_since old new call Fault.Disk told is (call_failed faults may_leave moment left_since old new call taken s ends)
  notice_given_up (DeskFault.JournalFull size) told is taken s ends = absurd ends
  notice_given_up (DeskFault.BadEntry at) told is taken s ends = absurd ends
  notice_given_up (DeskFault.OtherRoster kept) told is taken s ends = absurd ends
  notice_given_up (DeskFault.NotAJournal at) told is taken s ends = absurd ends
  notice_given_up (DeskFault.BadLength at) told is taken s ends = absurd ends
  notice_given_up DeskFault.OutOfMemory told is taken s ends = absurd ends

  -- a call that was done, and its line not written
  pub done_unwritten : (answer : T) → IsCall (length old.desk.terms.day.budgets) call → Serves {T = T} may_leave moment left_since old new (reply old.desk.terms.day old.desk.history call).entry (Ok answer)
      → NoFault (faults old.disk) (faults new.disk) old.desk new.desk → LeavesCall faults may_leave moment left_since old new call
  done_unwritten answer taken s none = inr (record { call = call; fault = None }, refl, call_done faults may_leave moment left_since old new call answer taken s none)

  -- one that was given up by the disk's fault
  failed_unwritten : IsCall (length old.desk.terms.day.budgets) call → Serves {T = T} may_leave moment left_since old new (reply old.desk.terms.day old.desk.history call).entry (Err DeskFault.DiskFault)
      → FailsDisk (faults old.disk) (faults new.disk) old.desk new.desk → LeavesCall faults may_leave moment left_since old new call
  failed_unwritten taken s fails = inr (record { call = call; fault = Some Fault.Disk }, refl, call_failed faults may_leave moment left_since old new call taken s fails)

  -- an ask that was given up, and its line not written
  pub ask_unwritten : (fault : DeskFault)
      → IsCall (length old.desk.terms.day.budgets) call → Serves {T = T} may_leave moment left_since old new (reply old.desk.terms.day old.desk.history call).entry (Err fault)
      → EndsAsk {T = T} (faults old.disk) (faults new.disk) old.desk new.desk (reply old.desk.terms.day old.desk.history call).entry (Err fault)
      → ((fault ≡ DeskFault.DiskFault → ⊥) → new ≡ old) → LeavesCall faults may_leave moment left_since old new call
  ask_unwritten DeskFault.DiskFault taken s ends same = failed_unwritten taken s ends.1
  ask_unwritten (DeskFault.JournalFull size) taken s ends same = inl (same (λ disk. cc disk))
  ask_unwritten (DeskFault.BadEntry at) taken s ends same = absurd ends
  ask_unwritten (DeskFault.OtherRoster kept) taken s ends same = absurd ends
  ask_unwritten (DeskFault.NotAJournal at) taken s ends same = absurd ends
  ask_unwritten (DeskFault.BadLength at) taken s ends same = absurd ends
  ask_unwritten DeskFault.OutOfMemory taken s ends same = inl (same (λ disk. cc disk))

  -- a notice or a tick
  pub notice_unwritten : (fault : DeskFault)
      → IsCall (length old.desk.terms.day.budgets) call → Serves {T = T} may_leave moment left_since old new (reply old.desk.terms.day old.desk.history call).entry (Err fault)
      → EndsNotice {T = T} (faults old.disk) (faults new.disk) old.desk new.desk (Err fault) → LeavesCall faults may_leave moment left_since old new call
  notice_unwritten DeskFault.DiskFault taken s ends = failed_unwritten taken s ends
  notice_unwritten (DeskFault.JournalFull size) taken s ends = absurd ends
  notice_unwritten (DeskFault.BadEntry at) taken s ends = absurd ends
  notice_unwritten (DeskFault.OtherRoster kept) taken s ends = absurd ends
  notice_unwritten (DeskFault.NotAJournal at) taken s ends = absurd ends
  notice_unwritten (DeskFault.BadLength at) taken s ends = absurd ends
  notice_unwritten DeskFault.OutOfMemory taken s ends = absurd ends
