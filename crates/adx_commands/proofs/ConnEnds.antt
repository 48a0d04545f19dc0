-- How a run ends by the end of its connection, and what it wrote.
use Rattle.std.proofs.Common.{◌≡◌, ◌≢◌, inl, inr, refl, sym, ◌∙◌, subst, arith, ℕ, zero, suc, ◌+◌, ◌≤◌, List, ◌++◌, [], length, Option, Some, Result, Err}
use Rattle.adx_io.specs.Lines.{tape_behind}
use Rattle.adx_io.specs.Streams.{Rises, Tape, WhereTold}
use Rattle.adx_io.specs.Talk.{HasCauses, TalkState}
use Rattle.adx_io.specs.declared.line_buffer.TheConstants.{CHUNK}
use Rattle.adx_io.specs.declared.stop.Stop.{Stop}
use Rattle.adx_io.proofs.Moved.{took_none}
use Rattle.adx_desk.specs.declared.fault.DeskFault.{DeskFault}
use Rattle.command_runs.specs.Meanings.{Wrote}
use Rattle.command_runs.specs.declared.outcome.Outcome.{Outcome}
use Rattle.command_runs.proofs.Told.{told_ahead, told_source}
use Rattle.http_service.specs.ConnectionRuns.{BreaksTogether, IsOwnEnd, most_beyond}
use Rattle.http_service.proofs.Ended.{come, own_wrote, refused_wrote, refusing_wrote, unread_wrote}
use Rattle.deal_floor.specs.declared.roster.Roster.{Roster}
use Rattle.adx_desk.specs.Meanings.{Told}
use Rattle.adx_desk.specs.Records.{RaisesAmong}
use Rattle.adx_desk.specs.Told.{told_of}
use Rattle.exchange_messages.specs.Floors.{IsMomentOf}
use Rattle.exchange_http.specs.Serving.{EndsWith, FailsWaiting}
use Rattle.exchange_messages.specs.Courses.{AnswersOn, Course, GivesUpOn, begun}
use Rattle.fan_out.specs.Lanes.{Outcome as LaneOutcome}
use Rattle.fan_out.specs.declared.lane.Lane.{Lane}
use Rattle.history_runs.specs.Unopened.{not_opened}
use Rattle.http_connection.specs.State.{room_of}
use Rattle.http_connection.specs.declared.conn.ConnEnd.{ConnEnd}
use Rattle.http_service.specs.Connections.{Answering, GivingUp, HasCauses as ConnCauses, EndsWith as EndsService}
use Rattle.http_service.specs.declared.limits.TheConstants.{REQUEST_LIMIT}
use Rattle.day_machine.specs.declared.batch.TheConstants.{BATCH_LIMIT}
use Rattle.adx_commands.specs.Exchanges.{EndsBy, EndsServed, serving}
use Rattle.adx_commands.specs.ConnSteps.{EndsConn, EndsReadOut}
use Rattle.adx_commands.proofs.ConnDisks.{none_among}

-- ---- the end of a connection, by the disk's count

module _ (told : List Told) (faults before now : ℕ) (known : RaisesAmong 0 told faults) (passed : faults ≡ 0 → now ≡ before) (risen : faults ≢ 0 → Rises before now) where
  read_out : (result : Result Outcome Stop) → EndsReadOut faults result → EndsServed told before now result
  read_out result ends = by_count faults refl
    where
      by_count : (n : ℕ) → faults ≡ n → EndsServed told before now result
      by_count zero none =
          subst (EndsServed told before now) (sym (ends.passed none)) (none_among told 0 (subst (RaisesAmong 0 told) none known), passed none)
      by_count (suc n) some =
          let more : faults ≢ 0 = λ none. omega (arith, some, none) in
          subst (EndsServed told before now) (sym (ends.failed more)) (risen more)

  pub ends_so : (end : ConnEnd) (result : Result Outcome Stop) → EndsConn end faults result → EndsServed told before now result
  ends_so ConnEnd.Closed result ends = read_out result ends
  ends_so ConnEnd.Cut result ends = read_out result ends
  ends_so (ConnEnd.Refused fault) result ends = read_out result ends
  ends_so ConnEnd.ReadFault result is = subst (EndsServed told before now) (sym is) tt
  ends_so ConnEnd.WriteFault result is = subst (EndsServed told before now) (sym is) tt
  ends_so ConnEnd.Spent result ends = read_out result ends
  ends_so ConnEnd.OutOfMemory result is = subst (EndsServed told before now) (sym is) tt

-- ---- the causes of an end

read_out_other : (n : ℕ) (result : Result Outcome Stop) (stop : Stop) → EndsReadOut n result → result ≢ Err stop
read_out_other zero result stop ends at = cc (sym (ends.passed refl) ∙ at)
read_out_other (suc n) result stop ends at = cc (sym (ends.failed (λ none. omega (arith, none))) ∙ at)

-- the run stopped by the source or the sink exactly where the connection did
conn_read : (end : ConnEnd) (n : ℕ) (result : Result Outcome Stop) → EndsConn end n result → result ≡ Err Stop.ReadFault → end ≡ ConnEnd.ReadFault
conn_read ConnEnd.Closed n result ends at = absurd (read_out_other n result Stop.ReadFault ends at)
conn_read ConnEnd.Cut n result ends at = absurd (read_out_other n result Stop.ReadFault ends at)
conn_read (ConnEnd.Refused fault) n result ends at = absurd (read_out_other n result Stop.ReadFault ends at)
conn_read ConnEnd.ReadFault n result ends at = refl
conn_read ConnEnd.WriteFault n result is at = absurd (cc (sym is ∙ at))
conn_read ConnEnd.Spent n result ends at = absurd (read_out_other n result Stop.ReadFault ends at)
conn_read ConnEnd.OutOfMemory n result is at = absurd (cc (sym is ∙ at))

conn_write : (end : ConnEnd) (n : ℕ) (result : Result Outcome Stop) → EndsConn end n result → result ≡ Err Stop.WriteFault → end ≡ ConnEnd.WriteFault
conn_write ConnEnd.Closed n result ends at = absurd (read_out_other n result Stop.WriteFault ends at)
conn_write ConnEnd.Cut n result ends at = absurd (read_out_other n result Stop.WriteFault ends at)
conn_write (ConnEnd.Refused fault) n result ends at = absurd (read_out_other n result Stop.WriteFault ends at)
conn_write ConnEnd.ReadFault n result is at = absurd (cc (sym is ∙ at))
conn_write ConnEnd.WriteFault n result ends at = refl
conn_write ConnEnd.Spent n result ends at = absurd (read_out_other n result Stop.WriteFault ends at)
conn_write ConnEnd.OutOfMemory n result is at = absurd (cc (sym is ∙ at))

conn_unread : (end : ConnEnd) (n : ℕ) (result : Result Outcome Stop) → EndsConn end n result → result ≢ Err Stop.ReadFault → end ≢ ConnEnd.ReadFault
conn_unread end n result ends other at = other (subst (λ (e : ConnEnd). EndsConn e n result) at ends)

conn_unwritten : (end : ConnEnd) (n : ℕ) (result : Result Outcome Stop) → EndsConn end n result → result ≢ Err Stop.WriteFault → end ≢ ConnEnd.WriteFault
conn_unwritten end n result ends other at = other (subst (λ (e : ConnEnd). EndsConn e n result) at ends)

pub conn_causes : (before now : TalkState) (end : ConnEnd) (n : ℕ) (result : Result Outcome Stop) → EndsConn end n result
    → ConnCauses before.read_faults now.read_faults before.write_faults now.write_faults end → HasCauses before now result
conn_causes before now end n result ends causes = record {
  read_later = causes.read_later;
  write_later = causes.write_later;
  read_fault = λ at. causes.read_fault (conn_read end n result ends at);
  write_fault = λ at. causes.write_fault (conn_write end n result ends at);
  read_same = λ other. causes.read_same (conn_unread end n result ends other);
  write_same = λ other. causes.write_same (conn_unwritten end n result ends other);
}

-- ---- what a connection wrote

enough : room_of REQUEST_LIMIT + CHUNK ≤ most_beyond
enough = omega arith

module _ {L : Type 0} (Works : List ℕ → List ℕ → Lane L → Lane L → LaneOutcome → Type 0) (r : Roster) (lanes : List (Lane L)) (course : Course L)
    (tape told : Option Tape) (pending : List ℕ) (few : length pending ≤ CHUNK) (held held_now : Option (List ℕ)) where
  abbrev Answers : Answering (Course L)
  Answers = AnswersOn Works (IsMomentOf (Some r.now)) r

  abbrev Gives : GivingUp (Course L)
  Gives = GivesUpOn Works (IsMomentOf (Some r.now)) r

  abbrev MayEnd : Outcome → Type 0
  MayEnd = EndsBy (told_of course.steps)

  abbrev Breaks : List ℕ → List ℕ → List ℕ → List ℕ → Type 0
  Breaks = BreaksTogether Answers Gives REQUEST_LIMIT most_beyond (begun lanes) course BATCH_LIMIT

  abbrev WroteSo : Result Outcome Stop → Type 0
  WroteSo result = WhereTold tape told (λ x y. Wrote (serving Works r lanes course) x.left y.left held held_now result)

  waiting_wrote : FailsWaiting Answers REQUEST_LIMIT tape (tape_behind pending told) held held_now (begun lanes) course → WroteSo (Err Stop.WriteFault)
  waiting_wrote f = told_source tape pending told _ _ f.brings (λ x z b.
      let t = come REQUEST_LIMIT x.left pending z.left (f.before ++ f.waiting) (λ rest. Unit {0}) b in
      (t.0, f.out, f.due, f.took.0, f.took.1, t.1, inl (f.before, f.waiting, f.between, f.few, f.may_come, f.replied, f.to_reply, t.2), f.took.2, f.took.3))

  out_wrote : (end : ConnEnd) → IsOwnEnd end → (faults : ℕ) (result : Result Outcome Stop) → EndsReadOut faults result → RaisesAmong 0 (told_of course.steps) faults
      → EndsService Answers Gives REQUEST_LIMIT tape (tape_behind pending told) held held_now (begun lanes) course end → WroteSo result
  out_wrote end own zero result ends known e =
      subst WroteSo (sym (ends.passed refl))
      (own_wrote Answers Gives REQUEST_LIMIT most_beyond enough tape told pending few held held_now (begun lanes) course MayEnd Breaks Outcome.Done (none_among (told_of course.steps) 0 known) end own e)
  out_wrote end own (suc n) result ends known e =
      subst WroteSo (sym (ends.failed (λ none. omega (arith, none))))
      (own_wrote Answers Gives REQUEST_LIMIT most_beyond enough tape told pending few held held_now (begun lanes) course MayEnd Breaks Outcome.DiskFault tt end own e)

  pub serving_wrote : (end : ConnEnd) → (end ≡ ConnEnd.ReadFault → pending ≡ []) → (faults : ℕ) (result : Result Outcome Stop) → EndsConn end faults result → RaisesAmong 0 (told_of course.steps) faults
      → EndsWith Answers Gives REQUEST_LIMIT tape (tape_behind pending told) held held_now (begun lanes) course end → WroteSo result
  serving_wrote ConnEnd.Closed read_out faults result ends known e = out_wrote ConnEnd.Closed tt faults result ends known e
  serving_wrote ConnEnd.Cut read_out faults result ends known e = out_wrote ConnEnd.Cut tt faults result ends known e
  serving_wrote (ConnEnd.Refused fault) read_out faults result ends known e = out_wrote (ConnEnd.Refused fault) tt faults result ends known e
  serving_wrote ConnEnd.ReadFault read_out faults result is known e =
      subst WroteSo (sym is) (unread_wrote Answers Gives REQUEST_LIMIT most_beyond enough tape told pending few held held_now (begun lanes) course MayEnd Breaks (read_out refl) e)
  serving_wrote ConnEnd.WriteFault read_out faults result is known (inl f) = subst WroteSo (sym is) (waiting_wrote f)
  serving_wrote ConnEnd.WriteFault read_out faults result is known (inr (fault, refusing)) =
      subst WroteSo (sym is) (refusing_wrote Answers Gives REQUEST_LIMIT most_beyond enough tape told pending few held held_now (begun lanes) course MayEnd Breaks fault refusing)
  serving_wrote ConnEnd.Spent read_out faults result ends known e = out_wrote ConnEnd.Spent tt faults result ends known e
  serving_wrote ConnEnd.OutOfMemory read_out faults result is known e =
      subst WroteSo (sym is) (refused_wrote Answers Gives REQUEST_LIMIT most_beyond enough tape told pending few held held_now (begun lanes) course MayEnd Breaks e)

-- memory was refused before the day was opened: nothing was asked of the source
pub unbegun_wrote : (pending : List ℕ) (tape : Option Tape) (held : Option (List ℕ)) → length pending ≤ CHUNK
    → WhereTold (tape_behind pending tape) tape (λ x y. Wrote (not_opened DeskFault.OutOfMemory) x.left y.left held held (Err Stop.OutOfMemory))
unbegun_wrote pending tape held few =
    told_ahead pending tape (λ x y. Wrote (not_opened DeskFault.OutOfMemory) x.left y.left held held (Err Stop.OutOfMemory)) (λ z. (pending, [], [], [], [], refl, (few, refl, inr refl), refl, took_none held))
