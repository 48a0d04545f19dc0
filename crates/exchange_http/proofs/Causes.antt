-- What a sink has after all that was put, and the counts of source and sink from step to step.
use Rattle.std.proofs.Common.{◌≡◌, ◌≢◌, inl, inr, ℕ, ◌≤◌, List, [], ◌∷◌, ◌++◌, length, Option, Some, None, Result, Ok, Err, IfOk, IsNone, refl, sym, ap, ◌∙◌, subst, arith, append-nil, length-append}
use Rattle.std.specs.Io.KnownBytes.{append_known}
use Rattle.adx_http.specs.Written.{WritesBy}
use Rattle.adx_http.specs.declared.reply.WriteFault.{WriteFault}
use Rattle.adx_io.specs.Streams.{HasCause, Rises}
use Rattle.adx_io.specs.declared.failed.Failed.{Failed}
use Rattle.http_connection.specs.Steps.{ReadsBy}
use Rattle.http_connection.specs.declared.conn.ConnEnd.{ConnEnd}
use Rattle.http_connection.specs.declared.conn.Message.{Message}
use Rattle.http_grammar.specs.declared.fault.HttpFault.{HttpFault}
use Rattle.http_service.specs.Connections.{HasCauses}
use Rattle.exchange_http.specs.Gathered.{Moves, count_of}
use Rattle.exchange_http.specs.Running.{EndsAt, EndsOver, IsEndOf, IsSettled, OverCauses, OverReads, StepCauses, StepStops, StopCauses, StopsBy, end_of, fault_over}
use Rattle.exchange_http.specs.declared.over.Over.{Over}
use Rattle.exchange_http.specs.declared.stop.Stop.{Stop}
use Rattle.exchange_http.proofs.Ended.{same_end, write_failed}

-- a sink that has as many bytes as were held has them all
pub all_sunk : (held sunk : Option (List ℕ)) (left : List ℕ) → held ≡ append_known sunk left → count_of held ≤ count_of sunk → sunk ≡ held
all_sunk None None left at enough = refl
all_sunk None (Some s) left at enough = absurd (let e : None ≡ Some (s ++ left) = at in cc e)
all_sunk (Some h) None left at enough = absurd (let e : Some h ≡ None = at in cc e)
all_sunk (Some h) (Some s) [] at enough =
    let e : Some h ≡ Some (s ++ []) = at in
    let same : h ≡ s ++ [] = cc e in
    ap Some (sym (same ∙ append-nil s))
all_sunk (Some h) (Some s) (x ∷ left) at enough =
    let e : Some h ≡ Some (s ++ x ∷ left) = at in
    let same : h ≡ s ++ x ∷ left = cc e in
    absurd (omega (arith, ap length same, length-append s (x ∷ left), enough))

-- counts that stay
pub moves_same : (count : ℕ) (held : Option (List ℕ)) (least waiting least_mid waiting_mid least_now waiting_now : ℕ) → Moves count held least waiting least_mid waiting_mid → waiting_now ≡ waiting_mid → least_now ≡ least_mid
    → Moves count held least waiting least_now waiting_now
moves_same count held least waiting least_mid waiting_mid least_now waiting_now (inl (waits, same)) w l = inl (w ∙ waits, l ∙ same)
moves_same count held least waiting least_mid waiting_mid least_now waiting_now (inr (waits, all)) w l = inr (w ∙ waits, l ∙ all)

-- after all that was put a reply that is expected leaves the sink with it
pub settled_least : (count : ℕ) (held : Option (List ℕ)) (left : List ℕ) (least waiting least_now waiting_now : ℕ) → IsSettled held left least → Moves count held least waiting least_now waiting_now → least_now ≡ count_of held
settled_least count held left least waiting least_now waiting_now s (inl (waits, same)) = same ∙ s.all
settled_least count held left least waiting least_now waiting_now s (inr (waits, all)) = all

-- all that was gathered was put, and is with the sink
pub settled_sunk : (held sunk : Option (List ℕ)) (left : List ℕ) (least : ℕ) → IsSettled held left least → held ≡ append_known sunk left → least ≤ count_of sunk → sunk ≡ held
settled_sunk held sunk left least s at grown = all_sunk held sunk left at (omega (arith, s.all, grown))

-- a call after one that met no fault
pub cause_after : {T : Type 0} (a b c : ℕ) (result : Result T Failed) → b ≡ a → HasCause b c result → HasCause a c result
cause_after {T = T} a b c result same cause = subst (λ (n : ℕ). HasCause {T = T} n c result) same cause

-- a call after one that met no fault, whatever either gives
pub cause_ok : {T U : Type 0} (a b c : ℕ) (x : T) (y : U) → b ≡ a → HasCause {T = T} b c (Ok x) → HasCause {T = U} a c (Ok y)
cause_ok a b c x y same cause = record { later = omega (arith, same, cause.later); failed = tt; passed = cause.passed ∙ same }

-- a write that failed as any call on the sink
pub cause_of_write : {T : Type 0} (a b : ℕ) (fault : WriteFault) (failed : Failed) → WritesBy a b (Err fault) → HasCause {T = T} a b (Err failed)
cause_of_write a b fault failed w = record { later = w.later; failed = w.failed; passed = tt }

-- the result of a fault, whatever was wanted
pub cause_of_fault : {T U : Type 0} (a b : ℕ) (failed other : Failed) → HasCause {T = T} a b (Err failed) → HasCause {T = U} a b (Err other)
cause_of_fault a b failed other cause = record { later = cause.later; failed = cause.failed; passed = tt }

-- and after a call that met no fault
pub cause_err : {T U : Type 0} (a b c : ℕ) (failed other : Failed) → b ≡ a → HasCause {T = T} b c (Err failed) → HasCause {T = U} a c (Err other)
cause_err {T = T} {U = U} a b c failed other same cause = cause_of_fault {T = T} {U = U} a c failed other (cause_after {T = T} a b c (Err failed) same cause)

-- a write that failed stops the connection
pub stops_writing : (a b c : ℕ) (fault : WriteFault) → b ≡ a → WritesBy b c (Err fault) → StopsBy a c Stop.WriteFault
stops_writing a b c fault same w = subst (λ (n : ℕ). (n ≤ c) × Rises n c) same (w.later, w.failed)

pub stops_failing : {T : Type 0} (a b c : ℕ) (failed : Failed) → b ≡ a → HasCause {T = T} b c (Err failed) → StopsBy a c Stop.WriteFault
stops_failing a b c failed same cause = subst (λ (n : ℕ). (n ≤ c) × Rises n c) same (cause.later, cause.failed)

-- an end that says so is that of its messages
ends_at : (held sunk : Option (List ℕ)) (fault : HttpFault) (end : ConnEnd) → EndsAt held sunk fault (Ok end) → IsEndOf (Over.Fault fault) end
ends_at held sunk fault ConnEnd.Cut e = inr (inl (refl, e.0))
ends_at held sunk fault (ConnEnd.Refused f) e = inr (inr (ap ConnEnd.Refused e.0))
ends_at held sunk fault ConnEnd.ReadFault e = inl (refl, e.0)
ends_at held sunk fault end e = absurd e

pub ends_so : (held sunk : Option (List ℕ)) (over : Over) (end : ConnEnd) → EndsOver held sunk over (Ok end) → IsEndOf over end
ends_so held sunk Over.Closed end e = same_end end ConnEnd.Closed e.0
ends_so held sunk Over.Spent end e = same_end end ConnEnd.Spent e.0
ends_so held sunk (Over.Fault fault) end e = ends_at held sunk fault end e

-- neither a fault of the source nor one of the sink
pub ends_without : (read read_now write write_now : ℕ) (end : ConnEnd) → read_now ≡ read → write_now ≡ write → end ≢ ConnEnd.ReadFault → end ≢ ConnEnd.WriteFault → HasCauses read read_now write write_now end
ends_without read read_now write write_now end reads writes not_read not_write = record {
  read_later = omega (arith, reads);
  write_later = omega (arith, writes);
  read_fault = λ is. absurd (not_read is);
  write_fault = λ is. absurd (not_write is);
  read_same = λ other. reads;
  write_same = λ other. writes;
}

-- the source failed
ends_reading : (read read_now write write_now : ℕ) → read ≤ read_now → Rises read read_now → write_now ≡ write → HasCauses read read_now write write_now ConnEnd.ReadFault
ends_reading read read_now write write_now later rose writes = record {
  read_later = later;
  write_later = omega (arith, writes);
  read_fault = λ is. rose;
  write_fault = λ is. absurd (cc is);
  read_same = λ other. absurd (other refl);
  write_same = λ other. writes;
}

-- messages that are over ended by no fault of the source
over_reads : (read read_now : ℕ) (over : Over) → OverReads read read_now over → (read_now ≡ read) × (over ≢ Over.Fault HttpFault.ReadFault)
over_reads read read_now (Over.Fault HttpFault.ReadFault) r = absurd r
over_reads read read_now over r = (r, λ is. absurd (cc is))

-- nor is their end one of the sink
no_read : (over : Over) (end : ConnEnd) → IsEndOf over end → over ≢ Over.Fault HttpFault.ReadFault → end ≢ ConnEnd.ReadFault
no_read Over.Closed end is other read = absurd (let e : ConnEnd.Closed ≡ ConnEnd.ReadFault = sym is ∙ read in cc e)
no_read Over.Spent end is other read = absurd (let e : ConnEnd.Spent ≡ ConnEnd.ReadFault = sym is ∙ read in cc e)
no_read (Over.Fault fault) end (inl is) other read = other (ap Over.Fault is.1)
no_read (Over.Fault fault) end (inr (inl is)) other read = absurd (let e : ConnEnd.Cut ≡ ConnEnd.ReadFault = sym is.0 ∙ read in cc e)
no_read (Over.Fault fault) end (inr (inr is)) other read = absurd (let e : ConnEnd.Refused fault ≡ ConnEnd.ReadFault = sym is ∙ read in cc e)

no_write : (over : Over) (end : ConnEnd) → IsEndOf over end → end ≢ ConnEnd.WriteFault
no_write Over.Closed end is write = absurd (let e : ConnEnd.Closed ≡ ConnEnd.WriteFault = sym is ∙ write in cc e)
no_write Over.Spent end is write = absurd (let e : ConnEnd.Spent ≡ ConnEnd.WriteFault = sym is ∙ write in cc e)
no_write (Over.Fault fault) end (inl is) write = absurd (let e : ConnEnd.ReadFault ≡ ConnEnd.WriteFault = sym is.0 ∙ write in cc e)
no_write (Over.Fault fault) end (inr (inl is)) write = absurd (let e : ConnEnd.Cut ≡ ConnEnd.WriteFault = sym is.0 ∙ write in cc e)
no_write (Over.Fault fault) end (inr (inr is)) write = absurd (let e : ConnEnd.Refused fault ≡ ConnEnd.WriteFault = sym is ∙ write in cc e)

-- the causes of an end after all messages
pub over_causes : (read read_now write write_mid write_now : ℕ) (over : Over) (end : ConnEnd) → OverCauses read read_now write write_mid (Ok over) → write_now ≡ write_mid → IsEndOf over end → HasCauses read read_now write write_now end
over_causes read read_now write write_mid write_now over end causes then is =
    let reads = over_reads read read_now over causes.0 in
    ends_without read read_now write write_now end reads.0 (then ∙ causes.1) (no_read over end is reads.1) (no_write over end is)

-- the sink failed after them
pub over_failed : (read read_now write write_mid write_now : ℕ) (over : Over) (failed : Failed) → OverCauses read read_now write write_mid (Ok over) → HasCause {T = ConnEnd} write_mid write_now (Err failed) → HasCauses read read_now write write_now ConnEnd.WriteFault
over_failed read read_now write write_mid write_now over failed causes cause =
    let reads = over_reads read read_now over causes.0 in
    let by : (write ≤ write_now) × Rises write write_now = subst (λ (n : ℕ). (n ≤ write_now) × Rises n write_now) causes.1 (cause.later, cause.failed) in
    write_failed read read_now write write_now reads.0 by.0 by.1

-- the causes of an end that a step met
pub stop_causes : (read read_now write write_now : ℕ) (stop : Stop) → StepStops read read_now write write_now stop → HasCauses read read_now write write_now (end_of stop)
stop_causes read read_now write write_now Stop.WriteFault by = write_failed read read_now write write_now by.0 by.1 by.2
stop_causes read read_now write write_now Stop.OutOfMemory by = ends_without read read_now write write_now ConnEnd.OutOfMemory by.0 by.1 (λ is. absurd (cc is)) (λ is. absurd (cc is))
stop_causes read read_now write write_now Stop.ReadFault by = ends_reading read read_now write write_now by.0 by.1 by.2

-- a step that reads nothing, among those that may
pub reads_nothing : (faults write write_now : ℕ) (stop : Stop) → StopsBy write write_now stop → StepStops faults faults write write_now stop
reads_nothing faults write write_now Stop.WriteFault by = (refl, by.0, by.1)
reads_nothing faults write write_now Stop.OutOfMemory by = (refl, by)
reads_nothing faults write write_now Stop.ReadFault by = absurd by

-- the counts of a message that was read
pub step_causes : (read read_now write write_now : ℕ) (result : Result (Option Over) Stop) → read_now ≡ read → ((faults : ℕ) → StepCauses faults faults write write_now result) → StepCauses read read_now write write_now result
step_causes read read_now write write_now result same causes = subst (λ (n : ℕ). StepCauses read n write write_now result) (sym same) (causes read)

-- and of a fault of the next one
pub fault_causes : (read read_now write : ℕ) (fault : HttpFault) → ReadsBy {T = Option Message} read read_now (Err fault) → StepCauses read read_now write write (fault_over fault)
fault_causes read read_now write HttpFault.ReadFault r = (r.0, r.1, refl)
fault_causes read read_now write fault r = (r, refl)

-- steps after one that changed no count
pub causes_after : (read read_now write write_mid write_now : ℕ) (result : Result (Option Over) Stop) → write_mid ≡ write → StepCauses read read_now write_mid write_now result → StepCauses read read_now write write_now result
causes_after read read_now write write_mid write_now result same causes = subst (λ (n : ℕ). StepCauses read read_now n write_now result) same causes

pub stops_later : (read read_mid read_now write write_mid write_now : ℕ) (stop : Stop) → read_mid ≡ read → write_mid ≡ write → StepStops read_mid read_now write_mid write_now stop → StepStops read read_now write write_now stop
stops_later read read_mid read_now write write_mid write_now stop reads writes by =
    subst (λ (n : ℕ). StepStops read read_now n write_now stop) writes (subst (λ (n : ℕ). StepStops n read_now write_mid write_now stop) reads by)

pub over_later : (read read_mid read_now : ℕ) (over : Over) → read_mid ≡ read → OverReads read_mid read_now over → OverReads read read_now over
over_later read read_mid read_now over same reads = subst (λ (n : ℕ). OverReads n read_now over) same reads

-- what is so is so where more may come
pub sound_any : {P : Type 0} (result : Result (Option Over) Stop) → P → IfOk result (λ over. IsNone over → P)
sound_any (Ok over) p = λ none. p
sound_any (Err stop) p = tt

-- a fault of the next message is none of "more may come"
pub faults_over : (P : Type 0) (fault : HttpFault) → IfOk (fault_over fault) (λ over. IsNone over → P)
faults_over P HttpFault.ReadFault = tt
faults_over P fault = λ none. absurd (cc none)

-- the counts after a call
pub causes_behind : {T : Type 0} (a b c : ℕ) (result : Result T Stop) → b ≡ a → StopCauses b c result → StopCauses a c result
causes_behind {T = T} a b c result same causes = subst (λ (n : ℕ). StopCauses {T = T} n c result) same causes
