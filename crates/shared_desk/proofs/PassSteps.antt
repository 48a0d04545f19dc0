-- What a call on a shared desk tells, as a step of its pass.
use Rattle.std.proofs.Common.{◌≡◌, inl, inr, ℕ, List, [], ◌∷◌, ◌++◌, length, Option, Some, None, Result, Ok, Err, IfOk, IfErr, OnOk, OnErr, refl, sym, ap, ◌∙◌, subst, arith, append_assoc, append-nil, length-append}
use Rattle.std.specs.Borrow.{Bor}
use Rattle.std.specs.List.{AllZip}
use mathlib.Core.List.{IsPrefix}
use Rattle.adx_desk.specs.Histories.{DeskTerms}
use Rattle.adx_desk.specs.Shared.{EndsAs, IsTurnAt, TakesRoom, call_of, terms_in}
use Rattle.adx_desk.specs.declared.fault.DeskFault.{DeskFault}
use Rattle.adx_desk.specs.declared.shared.OpenedWith.{OpenedWith}
use Rattle.adx_desk.specs.declared.turn.Call.{Call}
use Rattle.day_rules.specs.declared.answer.Answer.{Answer}
use Rattle.day_rules.specs.declared.entry.Entry.{Entry}
use Rattle.day_rules.specs.Legal.{IsLegal}
use Rattle.day_rules.specs.Replies.{Call as DayCall, ask, ask_reply, reply, with_entry}
use Rattle.day_rules.proofs.Histories.{legal_front}
use Rattle.adx_desk.specs.Called.{Ended, IsRoomy, MayEnd, left_by, was_done}
use Rattle.adx_desk.specs.Steps.{AreSteps, Step, calls_of, disk_faults, looked, metered, meters_read, shared, took}
use Rattle.shared_desk.specs.Callers.{AddsTurn, Answered, AnswersBatch, DeskPass, FailsBatch, Looks, Passed, answer_in, caller_of, entry_of, entry_where_done, raised_by, turn_at, turns_in_turn}
use Rattle.turnstile.specs.Turns.{AreRight, HasRisen, added_by, next_place, one_or_none, placed}
use Rattle.adx_desk.specs.Asked.{ask_for}
use Rattle.adx_desk.specs.Rosters.{desk_terms}
use Rattle.adx_desk.specs.declared.done.Done.{Done}
use Rattle.day_rules.specs.declared.ask.Ask.{Ask}
use Rattle.day_rules.specs.Laws.{Arrival, after_arrival, after_arrivals, arrival_reply}
use Rattle.day_machine.specs.Batches.{BatchState, answers_in_turn}
use Rattle.day_rules.specs.Steps.{meters_of}
use Rattle.deal_floor.specs.declared.roster.Roster.{Roster}
use Rattle.adx_desk.specs.DayDesks.{IsDoneAt, ended_by, fault_of_disk}
use Rattle.adx_desk.specs.Together.{took_in_turn}
use Rattle.adx_desk.proofs.Chains.{from_earlier, shared_on}
use Rattle.day_rules.specs.declared.meters.Meters.{Meters}
use Rattle.turnstile.specs.Passes.{IsOf, IsSamePass, TurnstileState}
use Rattle.shared_desk.specs.Passes.{AreRead, Gains, HaveRisen, IsNotedAs, PassRuns, Viewed, ended_of}

-- calls that take room are those that may want it
roomy : (call : Call) → TakesRoom call → IsRoomy (call_of call)
roomy (Call.Ask a) takes = tt
roomy (Call.Notice kind auction award) takes = absurd takes
roomy (Call.Tick now) takes = absurd takes
roomy (Call.Budget campaign change budget) takes = tt

-- a call ends as it may
may_end : (terms : DeskTerms) (history : List Entry) (call : Call) (ended : Result Answer DeskFault) (entry : Option Entry) → EndsAs terms history call (reply terms.day history (call_of call)) ended entry → MayEnd terms history (call_of call) (ended_of ended)
may_end terms history call (Ok answer) entry ends = tt
may_end terms history call (Err DeskFault.DiskFault) entry ends = tt
may_end terms history call (Err (DeskFault.JournalFull size)) entry ends = (roomy call ends.1, ends.2)
may_end terms history call (Err (DeskFault.BadEntry at)) entry ends = absurd ends
may_end terms history call (Err (DeskFault.OtherRoster kept)) entry ends = absurd ends
may_end terms history call (Err (DeskFault.NotAJournal at)) entry ends = absurd ends
may_end terms history call (Err (DeskFault.BadLength at)) entry ends = absurd ends
may_end terms history call (Err DeskFault.OutOfMemory) entry ends = roomy call ends.1

-- one that takes no room fails by the disk alone
pub turn_cause : (opened : OpenedWith) (p q : DeskPass) (call : Call) (result : Result Answer DeskFault) → (TakesRoom call → ⊥) → AddsTurn opened call result p q → IfErr result (λ (fault : DeskFault). fault ≡ DeskFault.DiskFault)
turn_cause opened p q call (Ok answer) none a = tt
turn_cause opened p q call (Err DeskFault.DiskFault) none a = refl
turn_cause opened p q call (Err (DeskFault.JournalFull size)) none a = absurd (none a.1.answered.right.0.ends.1)
turn_cause opened p q call (Err (DeskFault.BadEntry at)) none a = absurd a.1.answered.right.0.ends
turn_cause opened p q call (Err (DeskFault.OtherRoster kept)) none a = absurd a.1.answered.right.0.ends
turn_cause opened p q call (Err (DeskFault.NotAJournal at)) none a = absurd a.1.answered.right.0.ends
turn_cause opened p q call (Err (DeskFault.BadLength at)) none a = absurd a.1.answered.right.0.ends
turn_cause opened p q call (Err DeskFault.OutOfMemory) none a = absurd (none a.1.answered.right.0.ends.1)

-- what a call leaves is what is seen behind it
entry_left : (before : List Entry) (o : Option Entry) → before ++ (one_or_none entry_of o ++ []) ≡ with_entry before o
entry_left before None = append-nil before
entry_left before (Some e) = refl

left : (terms : DeskTerms) (before : List Entry) (call : Call) (ended : Result Answer DeskFault)
    → before ++ added_by entry_of (turn_at terms before call ended ∷ []) ≡ left_by terms.day (record { at = before; call = call_of call; ended = ended_of ended })
left terms before call (Ok answer) = entry_left before (reply terms.day before (call_of call)).entry
left terms before call (Err DeskFault.DiskFault) = append-nil before
left terms before call (Err (DeskFault.JournalFull size)) = append-nil before
left terms before call (Err (DeskFault.BadEntry at)) = append-nil before
left terms before call (Err (DeskFault.OtherRoster kept)) = append-nil before
left terms before call (Err (DeskFault.NotAJournal at)) = append-nil before
left terms before call (Err (DeskFault.BadLength at)) = append-nil before
left terms before call (Err DeskFault.OutOfMemory) = append-nil before

-- the fault of the disk is counted
raised_is : (at : List Entry) (call : DayCall) (ended : Result Answer DeskFault) → raised_by ended ≡ disk_faults (took (record { at = at; call = call; ended = ended_of ended }) ∷ [])
raised_is at call (Ok answer) = refl
raised_is at call (Err DeskFault.DiskFault) = refl
raised_is at call (Err (DeskFault.JournalFull size)) = refl
raised_is at call (Err (DeskFault.BadEntry place)) = refl
raised_is at call (Err (DeskFault.OtherRoster kept)) = refl
raised_is at call (Err (DeskFault.NotAJournal place)) = refl
raised_is at call (Err (DeskFault.BadLength place)) = refl
raised_is at call (Err DeskFault.OutOfMemory) = refl

risen : (n before now : ℕ) → HasRisen n before now → HaveRisen n before now
risen n before now (inl more) = inl more
risen n before now (inr last) = inr (omega (arith, last))

-- a call of a pass is a step of it
pub turn_gains : (opened : OpenedWith) (terms : DeskTerms) (call : Call) (ended : Result Answer DeskFault) (p q : DeskPass) → terms_in opened ≡ terms → (a : AddsTurn opened call ended p q)
    → Gains terms p q (took (record { at = a.0; call = call_of call; ended = ended_of ended }) ∷ [])
turn_gains opened terms call ended p q is a =
    subst (λ (t : DeskTerms). Gains t p q (took (record { at = before; call = call_of call; ended = ended_of ended }) ∷ [])) is (record {
      noted = record { at = length before; turn = turn_at (terms_in opened) before call ended } ∷ [];
      turns = a.1.turns_are;
      are = (record { at = refl; call = refl; ended = refl }, tt);
      along = (
        answered.begins,
        record {
          legal = legal_front (terms_in opened).day before (added_by entry_of (turn_at (terms_in opened) before call ended ∷ [])) (subst (IsLegal (terms_in opened).day) answered.seen answered.legal.legal);
          taken = answered.right.0.takes;
          may_end = may_end (terms_in opened) before call ended (entry_where_done ended (reply (terms_in opened).day before (call_of call)).entry) answered.right.0.ends;
        },
        ([], append-nil (left_by (terms_in opened).day (record { at = before; call = call_of call; ended = ended_of ended })) ∙ sym (answered.seen ∙ left (terms_in opened) before call ended)),
      );
      no_fewer = answered.no_fewer;
      counted = subst (λ (n : ℕ). HaveRisen n p.faults q.faults) (raised_is before (call_of call) ended) (risen (raised_by ended) p.faults q.faults answered.counted);
      same = a.1.same;
    })
  where
    before : List Entry
    before = a.0

    answered : Answered opened a.0 (turn_at (terms_in opened) a.0 call ended ∷ []) (raised_by ended) (caller_of p) (caller_of q)
    answered = a.1.answered

-- a look
pub look_gains : (opened : OpenedWith) (terms : DeskTerms) (p q : DeskPass) → terms_in opened ≡ terms → Looks opened p q → Gains terms p q (looked q.seen ∷ [])
look_gains opened terms p q is a =
    subst (λ (t : DeskTerms). Gains t p q (looked q.seen ∷ [])) is (record {
      noted = [];
      turns = a.1.turns_are;
      are = tt;
      along = (subst (IsPrefix p.seen) (sym (a.1.answered.seen ∙ append-nil a.0)) a.1.answered.begins, a.1.answered.legal.legal, ([], append-nil q.seen));
      no_fewer = a.1.answered.no_fewer;
      counted = risen 0 p.faults q.faults a.1.answered.counted;
      same = a.1.same;
    })

-- the pass is still of its turnstile
pub kept_of : (p q : DeskPass) (t : TurnstileState OpenedWith) → IsSamePass p q → IsOf p t → IsOf q t
kept_of p q t same of = (same.0 ∙ of.0, same.3 ∙ of.1)

module _ {O : Type 0} (opened : OpenedWith) (r : Bor Roster) (is : terms_in opened ≡ desk_terms r.now) (p q : DeskPass) (v : Viewed O) where
  abbrev pub Ran : List Step → Type 0
  Ran steps = PassRuns r r p q v v steps

  ran : (steps : List Step) → meters_read steps ≡ [] → Gains (desk_terms r.now) p q steps → Ran steps
  ran steps none gains = record { roster = refl; gains = gains; read = subst (λ (ms : List Meters). AreRead v.seen ms v.seen) (sym none) ([], append-nil v.seen); origin = refl }

  abbrev pub Took : DayCall → Ended → (List Entry → Type 0) → Type 0
  Took call ended IsAt = (at : List Entry) × Ran (took (record { at = at; call = call; ended = ended }) ∷ []) × IsAt at

  -- a look at the history
  pub looks : (IsAt : List Entry → Type 0) → Looks opened p q → IsAt q.seen → (at : List Entry) × Ran (looked at ∷ []) × IsAt at
  looks IsAt look so = (q.seen, ran (looked q.seen ∷ []) refl (look_gains opened (desk_terms r.now) p q is look), so)

  turn : (call : Call) (ended : Result Answer DeskFault) (IsAt : List Entry → Type 0) → (a : AddsTurn opened call ended p q) → IsAt a.0 → Took (call_of call) (ended_of ended) IsAt
  turn call ended IsAt a so =
      (a.0, ran (took (record { at = a.0; call = call_of call; ended = ended_of ended }) ∷ []) refl (turn_gains opened (desk_terms r.now) call ended p q is a), so)

  answered_at : (call : Call) (answer : Answer) → (a : AddsTurn opened call (Ok answer) p q) → answer ≡ (reply (desk_terms r.now).day a.0 (call_of call)).answer
  answered_at call answer a = subst (λ (t : DeskTerms). answer ≡ (reply t.day a.0 (call_of call)).answer) is (a.1.answered.right.0.ends.0)

  -- a call that takes no room was done, or given up by the disk's fault
  pub turn_done : (call : Call) (result : Result Answer DeskFault) → AddsTurn opened call result p q
      → IfOk result (λ answer. Took (call_of call) was_done (λ at. answer ≡ (reply (desk_terms r.now).day at (call_of call)).answer))
  turn_done call (Ok answer) a = turn call (Ok answer) (λ at. answer ≡ (reply (desk_terms r.now).day at (call_of call)).answer) a (answered_at call answer a)
  turn_done call (Err fault) a = tt

  pub turn_failed : (call : Call) (result : Result Answer DeskFault) → (TakesRoom call → ⊥) → AddsTurn opened call result p q → OnErr result (Took (call_of call) fault_of_disk (λ at. Unit {0}))
  turn_failed call (Ok answer) none a = tt
  turn_failed call (Err DeskFault.DiskFault) none a = turn call (Err DeskFault.DiskFault) (λ at. Unit {0}) a tt
  turn_failed call (Err (DeskFault.JournalFull size)) none a = absurd (none a.1.answered.right.0.ends.1)
  turn_failed call (Err (DeskFault.BadEntry at)) none a = absurd a.1.answered.right.0.ends
  turn_failed call (Err (DeskFault.OtherRoster kept)) none a = absurd a.1.answered.right.0.ends
  turn_failed call (Err (DeskFault.NotAJournal at)) none a = absurd a.1.answered.right.0.ends
  turn_failed call (Err (DeskFault.BadLength at)) none a = absurd a.1.answered.right.0.ends
  turn_failed call (Err DeskFault.OutOfMemory) none a = absurd (none a.1.answered.right.0.ends.1)

  -- one that may want room
  pub turn_given_up : (call : Call) (result : Result Answer DeskFault) → AddsTurn opened call result p q → IfErr result (λ e. Took (call_of call) (ended_by e) (λ at. Unit {0}))
  turn_given_up call (Ok answer) a = tt
  turn_given_up call (Err fault) a = turn call (Err fault) (λ at. Unit {0}) a tt

  -- an ask
  pub ask_done : (a : Ask) (result : Result Done DeskFault) → AddsTurn opened (Call.Ask a) (answer_in result) p q → IfOk result (λ d. d.ask ≡ ask_for q.seen d.answer)
      → IfOk result (λ d. Took (ask a) was_done (IsDoneAt (desk_terms r.now).day a d))
  ask_done a (Ok d) t copy =
      let left_is : q.seen ≡ with_entry t.0 (ask_reply (terms_in opened).day t.0 a).entry = t.1.answered.seen ∙ left (terms_in opened) t.0 (Call.Ask a) (Ok d.answer) in
      let seen_is : q.seen ≡ with_entry t.0 (ask_reply (desk_terms r.now).day t.0 a).entry = subst (λ (x : DeskTerms). q.seen ≡ with_entry t.0 (ask_reply x.day t.0 a).entry) is left_is in
      turn (Call.Ask a) (Ok d.answer) (IsDoneAt (desk_terms r.now).day a d) t
      (record { answer = answered_at (Call.Ask a) d.answer t; copy = copy ∙ ap (λ (h : List Entry). ask_for h d.answer) seen_is })
  ask_done a (Err fault) t copy = tt

  pub ask_given_up : (a : Ask) (result : Result Done DeskFault) → AddsTurn opened (Call.Ask a) (answer_in result) p q → IfErr result (λ e. Took (ask a) (ended_by e) (λ at. Unit {0}))
  ask_given_up a (Ok d) t = tt
  ask_given_up a (Err fault) t = turn (Call.Ask a) (Err fault) (λ at. Unit {0}) t tt

-- notices that are answered together
module _ (opened : OpenedWith) (terms : DeskTerms) (is : terms_in opened ≡ terms) where
  along_turns : (before : List Entry) (notices : List Arrival) → AreRight entry_of (IsTurnAt (terms_in opened)) before (turns_in_turn (terms_in opened) before notices) → IsLegal (terms_in opened).day (after_arrivals before notices)
      → AreSteps shared (terms_in opened) before (took_in_turn before notices) (after_arrivals before notices)
  along_turns before [] right legal = ([], append-nil before)
  along_turns before (x ∷ notices) right legal =
      let rest = along_turns (after_arrival before x) notices (subst (λ (h : List Entry). AreRight entry_of (IsTurnAt (terms_in opened)) h (turns_in_turn (terms_in opened) (after_arrival before x) notices)) (one_left before (arrival_reply before x).entry) right.1) legal in
      (([], append-nil before), record { legal = front before (x ∷ notices) legal; taken = right.0.takes; may_end = tt }, rest)
    where
      one_left : (h : List Entry) (o : Option Entry) → h ++ one_or_none entry_of o ≡ with_entry h o
      one_left h None = append-nil h
      one_left h (Some e) = refl

      front : (h : List Entry) (xs : List Arrival) → IsLegal (terms_in opened).day (after_arrivals h xs) → IsLegal (terms_in opened).day h
      front h [] l = l
      front h (y ∷ ys) l =
          let next = front (after_arrival h y) ys l in
          legal_front (terms_in opened).day h (one_or_none entry_of (arrival_reply h y).entry) (subst (IsLegal (terms_in opened).day) (sym (one_left h (arrival_reply h y).entry)) next)

  noted_turns : (before : List Entry) (notices : List Arrival) → AllZip IsNotedAs (placed entry_of (length before) (turns_in_turn (terms_in opened) before notices)) (calls_of (took_in_turn before notices))
  noted_turns before [] = tt
  noted_turns before (x ∷ notices) = (
    record { at = refl; call = refl; ended = refl },
    subst (λ (n : ℕ). AllZip IsNotedAs (placed entry_of n (turns_in_turn (terms_in opened) (after_arrival before x) notices)) (calls_of (took_in_turn (after_arrival before x) notices)))
        (longer before (arrival_reply before x).entry) (noted_turns (after_arrival before x) notices),
  )
    where
      longer : (h : List Entry) (o : Option Entry) → length (with_entry h o) ≡ next_place entry_of (length h) o
      longer h None = refl
      longer h (Some e) = length-append h (e ∷ [])

  seen_turns : (before : List Entry) (notices : List Arrival) → before ++ added_by entry_of (turns_in_turn (terms_in opened) before notices) ≡ after_arrivals before notices
  seen_turns before [] = append-nil before
  seen_turns before (x ∷ notices) =
      sym (append_assoc before (one_or_none entry_of (arrival_reply before x).entry) (added_by entry_of (turns_in_turn (terms_in opened) (after_arrival before x) notices)))
      ∙ ap (λ (h : List Entry). h ++ added_by entry_of (turns_in_turn (terms_in opened) (after_arrival before x) notices)) (one_left before (arrival_reply before x).entry)
      ∙ seen_turns (after_arrival before x) notices
    where
      one_left : (h : List Entry) (o : Option Entry) → h ++ one_or_none entry_of o ≡ with_entry h o
      one_left h None = append-nil h
      one_left h (Some e) = refl

  no_faults : (before : List Entry) (notices : List Arrival) → disk_faults (took_in_turn before notices) ≡ 0
  no_faults before [] = refl
  no_faults before (x ∷ notices) = no_faults (after_arrival before x) notices

  -- a batch that was answered
  pub batch_gains : (notices : List Arrival) (before : List Entry) (p q : DeskPass) → Passed opened before (turns_in_turn (terms_in opened) before notices) 0 p q → Gains terms p q (took_in_turn before notices)
  batch_gains notices before p q a =
      subst (λ (t : DeskTerms). Gains t p q (took_in_turn before notices)) is (record {
        noted = placed entry_of (length before) (turns_in_turn (terms_in opened) before notices);
        turns = a.turns_are;
        are = noted_turns before notices;
        along = steps_from p.seen before q.seen (took_in_turn before notices) a.answered.begins
            (subst (AreSteps shared (terms_in opened) before (took_in_turn before notices)) (sym seen) (along_turns before notices a.answered.right (subst (IsLegal (terms_in opened).day) seen a.answered.legal.legal)));
        no_fewer = a.answered.no_fewer;
        counted = subst (λ (n : ℕ). HaveRisen n p.faults q.faults) (sym (no_faults before notices)) (risen 0 p.faults q.faults a.answered.counted);
        same = a.same;
      })
    where
      seen : q.seen ≡ after_arrivals before notices
      seen = a.answered.seen ∙ seen_turns before notices

      steps_from : (h k now : List Entry) (steps : List Step) → IsPrefix h k → AreSteps shared (terms_in opened) k steps now → AreSteps shared (terms_in opened) h steps now
      steps_from h k now steps goes are = from_earlier shared shared_on (terms_in opened) h k now steps goes are

  -- one that the disk's fault gave up: its fault was counted, and it is no turn
  pub batch_lost : (p q : DeskPass) → FailsBatch opened p q → Gains terms p q []
  batch_lost p q a =
      subst (λ (t : DeskTerms). Gains t p q []) is (record {
        noted = [];
        turns = a.1.turns_are;
        are = tt;
        along = subst (IsPrefix p.seen) (sym (a.1.answered.seen ∙ append-nil a.0)) a.1.answered.begins;
        no_fewer = a.1.answered.no_fewer;
        counted = inl (omega (arith, a.1.answered.no_fewer));
        same = a.1.same;
      })

-- a batch as steps of a pass, with what was read beside it
module _ {O : Type 0} (opened : OpenedWith) (r : Bor Roster) (is : terms_in opened ≡ desk_terms r.now) (p q : DeskPass) (v : Viewed O) where
  pub batch_done : {T E : Type 0} (result : Result T E) (batch batch_now : BatchState) → OnOk result (AnswersBatch opened batch batch_now p q)
      → OnOk result ((at : List Entry) × PassRuns r r p q v v (took_in_turn at batch.calls) × (batch_now ≡ record batch { answers = Some (answers_in_turn at batch.calls) }))
  batch_done (Ok x) batch batch_now a = (
    a.0,
    record {
      roster = refl;
      gains = batch_gains opened (desk_terms r.now) is batch.calls a.0 p q a.1;
      read = subst (λ (ms : List Meters). AreRead v.seen ms v.seen) (sym (none_read a.0 batch.calls)) ([], append-nil v.seen);
      origin = refl;
    },
    a.2,
  )
    where
      none_read : (before : List Entry) (notices : List Arrival) → meters_read (took_in_turn before notices) ≡ []
      none_read before [] = refl
      none_read before (x ∷ notices) = none_read (after_arrival before x) notices
  batch_done (Err e) batch batch_now a = tt

  pub batch_failed : {T E : Type 0} (result : Result T E) (batch batch_now : BatchState) → OnErr result (FailsBatch opened p q) → OnErr result (batch_now ≡ batch)
      → OnErr result (PassRuns r r p q v v [] × (batch_now ≡ batch))
  batch_failed (Ok x) batch batch_now a same = tt
  batch_failed (Err e) batch batch_now a same = (record { roster = refl; gains = batch_lost opened (desk_terms r.now) is p q a; read = ([], append-nil v.seen); origin = refl }, same)

  -- either way the pass is of its turnstile
  pub batch_same : {T E : Type 0} (result : Result T E) (batch batch_now : BatchState) → OnOk result (AnswersBatch opened batch batch_now p q) → OnErr result (FailsBatch opened p q) → IsSamePass p q
  batch_same (Ok x) batch batch_now a f = a.1.same
  batch_same (Err e) batch batch_now a f = f.1.same

-- meters that were read, with the history that the pass has seen
pub reads_meters : {O : Type 0} (r : Bor Roster) (p : DeskPass) (v w : Viewed O) (m : Meters) → IsLegal (desk_terms r.now).day p.seen → IsPrefix v.seen w.seen → m ≡ meters_of w.seen → w.origin ≡ v.origin
    → (at : List Entry) × PassRuns r r p p v w (metered at m ∷ [])
reads_meters r p v w m legal later is same = (
  p.seen,
  record {
    roster = refl;
    gains = record {
      noted = [];
      turns = sym (append-nil p.turns);
      are = tt;
      along = (([], append-nil p.seen), (legal, tt), ([], append-nil p.seen));
      no_fewer = omega arith;
      counted = inl (omega arith);
      same = (refl, refl, refl, refl, refl);
    };
    read = (w.seen, later, is, ([], append-nil w.seen));
    origin = same;
  },
)

-- a text that is written behind an empty one
pub table_behind : (before now text table : List ℕ) → before ≡ [] → text ≡ table → now ≡ before ++ text → now ≡ table
table_behind before now text table none is written = written ∙ ap (λ (l : List ℕ). l ++ text) none ∙ is
