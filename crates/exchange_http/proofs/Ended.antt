-- How a connection ends whose messages are over.
use Rattle.std.proofs.Common.{◌≡◌, inr, ℕ, ◌≤◌, List, [], ◌++◌, Option, Some, false, Result, Ok, Err, refl, sym, ap, ◌∙◌, subst, arith, append_assoc}
use Rattle.std.specs.Io.KnownBytes.{append_known}
use Rattle.adx_io.specs.Streams.{Rises, Tape, Took}
use Rattle.adx_io.specs.declared.failed.Failed.{Failed}
use Rattle.adx_desk.specs.declared.day_desk.DayDesk.{Ghosts as DeskGhosts}
use Rattle.deal_floor.specs.declared.roster.Roster.{Roster}
use Rattle.fan_out.specs.declared.lane.Lane.{Lane}
use Rattle.fan_out.specs.Lanes.{Outcome}
use Rattle.http_connection.specs.Messages.{RefusesRequest, Request}
use Rattle.http_connection.specs.declared.conn.ConnEnd.{ConnEnd}
use Rattle.http_grammar.specs.declared.fault.HttpFault.{HttpFault}
use Rattle.http_service.specs.Connections.{Answering, Brings, FailsRefusing, GoOn, HasCauses, Refuses, TookFront}
use Rattle.http_service.specs.Replies.{fault_status, refusal_bytes}
use Rattle.http_service.specs.Steps.{WritesRefusal}
use Rattle.http_service.specs.declared.limits.TheConstants.{REQUEST_LIMIT}
use Rattle.exchange_messages.specs.Courses.{AnswersOn, Course, begun}
use Rattle.exchange_http.specs.Gathered.{Replied, count_of}
use Rattle.exchange_http.specs.Running.{CameToFault, EndsAt, EndsHere, EndsOver, IsUnderWay, ended}
use Rattle.exchange_http.specs.declared.over.Over.{Over}
use Rattle.exchange_http.proofs.Gathered.{known_more, known_none, sunk_front}
use Rattle.exchange_http.proofs.OneMore.{all_served, none_late}

-- the reply of a refusal after all that was put, or a front of it
pub refusal_put : (held sunk held_now : Option (List ℕ)) (left : List ℕ) (fault : HttpFault) (status : ℕ) → fault_status fault ≡ Some status → held_now ≡ append_known held (refusal_bytes status) → held_now ≡ append_known sunk left → left ≡ [] → WritesRefusal Took held sunk fault
refusal_put held sunk held_now left fault status answered is at none = record { status = status; answered = answered; took = sym (known_none sunk) ∙ ap (append_known sunk) (sym none) ∙ sym at ∙ is }

pub refusal_failed : (held sunk held_now : Option (List ℕ)) (front back left : List ℕ) (fault : HttpFault) (status least_now : ℕ) → fault_status fault ≡ Some status → refusal_bytes status ≡ front ++ back → held_now ≡ append_known held front → held_now ≡ append_known sunk left
    → count_of held ≤ least_now → least_now ≤ count_of sunk → WritesRefusal TookFront held sunk fault
refusal_failed held sunk held_now front back left fault status least_now answered split is at sure grown =
    let part = sunk_front held sunk held_now front left is at (omega (arith, sure, grown)) in
    record { status = status; answered = answered; took = (part.0, part.1 ++ back, split ∙ ap (λ (b : List ℕ). b ++ back) part.2 ∙ append_assoc part.0 part.1 back, part.3) }

-- what all bytes are refused for has a reply
refused_for : (tape tape_now : Option Tape) (ms : List Request) (fault : HttpFault) (status : ℕ) → fault_status fault ≡ Some status → CameToFault tape tape_now ms fault → GoOn ms × Brings REQUEST_LIMIT tape tape_now ms (λ rest. RefusesRequest REQUEST_LIMIT rest fault)
refused_for tape tape_now ms HttpFault.ReadFault status answered came = absurd (cc answered)
refused_for tape tape_now ms fault status answered came = came

took_behind : (before held sunk : Option (List ℕ)) (refusal out : List ℕ) → Took held sunk refusal → held ≡ append_known before out → Took before sunk (out ++ refusal)
took_behind before held sunk refusal out took is = took ∙ ap (λ (h : Option (List ℕ)). append_known h refusal) is ∙ known_more before out refusal

refuses : {S : Type 0} (answers : Answering S) (tape tape_now : Option Tape) (before held sunk : Option (List ℕ)) (s now : S) (ms : List Request) (least waiting : ℕ) (fault : HttpFault)
    → Replied answers s now ms before held least waiting → CameToFault tape tape_now ms fault → WritesRefusal Took held sunk fault → Refuses answers REQUEST_LIMIT tape tape_now before sunk s now fault
refuses answers tape tape_now before held sunk s now ms least waiting fault p came w =
    let all = all_served answers s now ms before held held least waiting p refl in
    let for = refused_for tape tape_now ms fault w.status w.answered came in
    record { ms = ms; out = all.out; status = w.status; go_on = for.0; replies = all.replies; answered = w.answered; took = took_behind before held sunk (refusal_bytes w.status) all.out w.took all.took; brings = for.1 }

-- or the sink failed within it
fails_refusing : {S : Type 0} (answers : Answering S) (tape tape_now : Option Tape) (before held sunk : Option (List ℕ)) (s now : S) (ms : List Request) (least waiting : ℕ) (fault : HttpFault)
    → Replied answers s now ms before held least waiting → CameToFault tape tape_now ms fault → WritesRefusal TookFront held sunk fault → FailsRefusing answers REQUEST_LIMIT tape tape_now before sunk s now fault
fails_refusing answers tape tape_now before held sunk s now ms least waiting fault p came w =
    let all = all_served answers s now ms before held held least waiting p refl in
    let for = refused_for tape tape_now ms fault w.status w.answered came in
    let front = w.took in
    record { ms = ms; out = all.out; status = w.status; go_on = for.0; replies = all.replies; answered = w.answered; took = (front.0, front.1, front.2, took_behind before held sunk front.0 all.out front.3 all.took); brings = for.1 }

-- two ends that are one as results
abbrev as_end : ConnEnd → Result ConnEnd Failed
as_end e = Ok e

pub same_end : (x y : ConnEnd) → as_end x ≡ as_end y → x ≡ y
same_end x y is = cc is

module _ {Y L : Type 0} (y : DeskGhosts Y) (Works : List ℕ → List ℕ → Lane L → Lane L → Outcome → Type 0) (IsMoment : ℕ → Type 0) (r : Roster) where
  module _ (start : Y) (lanes : List (Lane L)) (tape tape_now : Option Tape) (before : Option (List ℕ)) (now : Y) (lanes_now : List (Lane L)) (held sunk : Option (List ℕ)) (least waiting : ℕ) where
    abbrev Over_Way : Over → Type 0
    Over_Way over = IsUnderWay y Works IsMoment r start lanes tape tape_now (ended over) before now lanes_now [] false held least waiting

    abbrev Over_Ends : ConnEnd → Type 0
    Over_Ends = EndsHere y Works IsMoment r start lanes tape tape_now before now lanes_now sunk

    -- a connection that ends by a fault of its next message
    fault_ends : (fault : HttpFault) (end : ConnEnd) → Over_Way (Over.Fault fault) → EndsAt held sunk fault (Ok end) → Over_Ends end
    fault_ends fault ConnEnd.Cut w e =
        let answers = AnswersOn Works IsMoment r in
        let c : Course L = record { steps = w.steps; lanes = lanes_now } in
        let came : CameToFault tape tape_now w.requests HttpFault.Cut = subst (CameToFault tape tape_now w.requests) e.0 (none_late y Works IsMoment r start lanes tape tape_now (ended (Over.Fault fault)) before now lanes_now held least waiting w) in
        (w.steps, w.ran, (w.requests, all_served answers (begun lanes) c w.requests before held sunk least waiting w.replied e.1, came.0, came.1))
    fault_ends fault ConnEnd.ReadFault w e =
        let answers = AnswersOn Works IsMoment r in
        let c : Course L = record { steps = w.steps; lanes = lanes_now } in
        let came : CameToFault tape tape_now w.requests HttpFault.ReadFault = subst (CameToFault tape tape_now w.requests) e.0 (none_late y Works IsMoment r start lanes tape tape_now (ended (Over.Fault fault)) before now lanes_now held least waiting w) in
        (w.steps, w.ran, (w.requests, all_served answers (begun lanes) c w.requests before held sunk least waiting w.replied e.1, came.0, came.2))
    fault_ends fault (ConnEnd.Refused f) w e =
        let answers = AnswersOn Works IsMoment r in
        let c : Course L = record { steps = w.steps; lanes = lanes_now } in
        let came = none_late y Works IsMoment r start lanes tape tape_now (ended (Over.Fault fault)) before now lanes_now held least waiting w in (
          w.steps,
          w.ran,
          subst (λ (g : HttpFault). Refuses answers REQUEST_LIMIT tape tape_now before sunk (begun lanes) c g) (sym e.0)
              (refuses answers tape tape_now before held sunk (begun lanes) c w.requests least waiting fault w.replied came e.1),
        )
    fault_ends fault end w e = absurd e

    fault_fails : (fault : HttpFault) → Over_Way (Over.Fault fault) → WritesRefusal TookFront held sunk fault → Over_Ends ConnEnd.WriteFault
    fault_fails fault w e =
        let answers = AnswersOn Works IsMoment r in
        let c : Course L = record { steps = w.steps; lanes = lanes_now } in
        let came = none_late y Works IsMoment r start lanes tape tape_now (ended (Over.Fault fault)) before now lanes_now held least waiting w in
        (w.steps, w.ran, inr (fault, fails_refusing answers tape tape_now before held sunk (begun lanes) c w.requests least waiting fault w.replied came e))

    -- all replies were put, and then it ended
    pub over_ends : (over : Over) (end : ConnEnd) → Over_Way over → EndsOver held sunk over (Ok end) → Over_Ends end
    over_ends Over.Closed end w (is, same) =
        let answers = AnswersOn Works IsMoment r in
        let c : Course L = record { steps = w.steps; lanes = lanes_now } in
        let came = none_late y Works IsMoment r start lanes tape tape_now (ended Over.Closed) before now lanes_now held least waiting w in
        subst Over_Ends (sym (same_end end ConnEnd.Closed is)) (w.steps, w.ran, (w.requests, all_served answers (begun lanes) c w.requests before held sunk least waiting w.replied same, came))
    over_ends Over.Spent end w (is, same) =
        let answers = AnswersOn Works IsMoment r in
        let c : Course L = record { steps = w.steps; lanes = lanes_now } in
        let came = none_late y Works IsMoment r start lanes tape tape_now (ended Over.Spent) before now lanes_now held least waiting w in
        subst Over_Ends (sym (same_end end ConnEnd.Spent is)) (w.steps, w.ran, (w.requests, all_served answers (begun lanes) c w.requests before held sunk least waiting w.replied same, came.0, came.1))
    over_ends (Over.Fault fault) end w e = fault_ends fault end w e

    -- or the sink failed within the reply to a refusal
    pub over_fails : (over : Over) (failed : Failed) → Over_Way over → EndsOver held sunk over (Err failed) → Over_Ends ConnEnd.WriteFault
    over_fails Over.Closed failed w (is, same) = absurd (cc is)
    over_fails Over.Spent failed w (is, same) = absurd (cc is)
    over_fails (Over.Fault fault) failed w e = fault_fails fault w e

-- the causes of an end where the sink failed
pub write_failed : (read read_now write write_now : ℕ) → read_now ≡ read → write ≤ write_now → Rises write write_now → HasCauses read read_now write write_now ConnEnd.WriteFault
write_failed read read_now write write_now reads later rose = record {
  read_later = omega (arith, reads);
  write_later = later;
  read_fault = λ is. absurd (cc is);
  write_fault = λ is. rose;
  read_same = λ other. reads;
  write_same = λ other. absurd (other refl);
}
