-- How a connection goes on: by notices that are taken together, by replies that are put, and by one message more.
use Rattle.std.proofs.Common.{◌≡◌, ◌⊎◌, ⊎_elim, inl, inr, ℕ, ◌<◌, ◌≤◌, List, [], ◌∷◌, ◌++◌, length, Bool, true, false, not, All, Option, Some, None, refl, sym, ap, ◌∙◌, subst, arith, append_assoc, append-nil}
use Rattle.std.specs.Io.KnownBytes.{append_known}
use Rattle.std.specs.List.{AllZip}
use Rattle.std.proofs.Math.Nat.{eq-or-lt_of_le}
use Rattle.std.proofs.lemmas.List.Elements.{All-nil, All-cons, All-append}
use Rattle.adx_io.specs.Streams.{Tape, WhereTold}
use Rattle.adx_desk.specs.Steps.{Step}
use Rattle.adx_desk.specs.Together.{TakesNotices}
use Rattle.adx_desk.specs.declared.day_desk.DayDesk.{Ghosts as DeskGhosts}
use Rattle.day_machine.specs.declared.batch.TheConstants.{BATCH_LIMIT}
use Rattle.day_rules.specs.Laws.{Arrival}
use Rattle.exchange_messages.proofs.Requested.{JoinsSteps}
use Rattle.deal_floor.specs.declared.roster.Roster.{Roster}
use Rattle.fan_out.specs.declared.lane.Lane.{Lane}
use Rattle.fan_out.specs.Lanes.{Outcome}
use Rattle.http_connection.specs.Messages.{Request, AreRequests, RefusesRequest}
use Rattle.http_connection.specs.declared.conn.ConnEnd.{ConnEnd}
use Rattle.http_grammar.specs.Requests.{is_kept}
use Rattle.http_grammar.specs.declared.fault.HttpFault.{HttpFault}
use Rattle.http_service.specs.Connections.{AreSpent, Brings, BringsLast, CloseLast, GoOn}
use Rattle.http_service.specs.declared.limits.TheConstants.{MESSAGE_LIMIT, REQUEST_LIMIT}
use Rattle.exchange_messages.proofs.Sold.{zip_more}
use Rattle.exchange_messages.specs.Courses.{AnswersOn, Course, begun}
use Rattle.exchange_http.specs.Gathered.{FailsWithin, Replied, count_of}
use Rattle.exchange_messages.specs.Meanings.{Means, notifies}
use Rattle.exchange_http.specs.Running.{CameSo, CameToFault, Coming, EndsHere, FlushFails, Flushes, IsUnderWay, MayFail, StayTo, Waits, before_one, ended, more, outcomes_bytes}
use Rattle.exchange_http.specs.Serving.{IsAny}
use Rattle.exchange_http.specs.declared.over.Over.{Over}
use Rattle.exchange_http.proofs.Gathered.{fails_within, known_none, replied_more}
use Rattle.exchange_http.proofs.NoticeReplies.{notices_replied}

abbrev AllKept : List Request → Type 0
AllKept ms = All (λ (m : Request). is_kept m.head ≡ true) ms

-- nothing is asked of the rest
any_rest : (tape tape_now : Option Tape) (ms : List Request) (P : List ℕ → Type 0) → Brings REQUEST_LIMIT tape tape_now ms P → Brings REQUEST_LIMIT tape tape_now ms IsAny
any_rest None tape_now ms P b = b
any_rest (Some o) None ms P b = b
any_rest (Some o) (Some n) ms P b = (b.0, b.1, tt)

any_last : (tape tape_now : Option Tape) (ms : List Request) → BringsLast REQUEST_LIMIT tape tape_now ms → Brings REQUEST_LIMIT tape tape_now ms IsAny
any_last None tape_now ms b = b
any_last (Some o) None ms b = b
any_last (Some o) (Some n) ms b = (b.0, b.2, tt)

-- what is held is beyond the messages
held_beyond : (tape tape_now : Option Tape) (ahead : List ℕ) (ms : List Request) → WhereTold tape tape_now (λ o n. AreRequests REQUEST_LIMIT o.left ms (ahead ++ n.left)) → Brings REQUEST_LIMIT tape tape_now ms IsAny
held_beyond None tape_now ahead ms b = b
held_beyond (Some o) None ahead ms b = b
held_beyond (Some o) (Some n) ahead ms b = (ahead, b, tt)

-- so many messages that stay are spent, or more may come
pub stay_on : (ms : List Request) (count : ℕ) → length ms ≡ count → count ≤ MESSAGE_LIMIT → AllKept ms → GoOn ms ⊎ (CloseLast ms ⊎ AreSpent ms)
stay_on ms count many few kept =
    ⊎_elim (λ same. inr (inr (record { kept = kept; many = many ∙ same }))) (λ less. inl (record { kept = kept; few = subst (λ (n : ℕ). n < MESSAGE_LIMIT) (sym many) less })) (eq-or-lt_of_le few)

fault_may_fail : (tape tape_now : Option Tape) (ms : List Request) (fault : HttpFault) → CameToFault tape tape_now ms fault → MayFail tape tape_now ms
fault_may_fail tape tape_now ms HttpFault.ReadFault came = (inl came.0, came.1)
fault_may_fail tape tape_now ms HttpFault.BadHead came = (inl came.0, any_rest tape tape_now ms (λ rest. RefusesRequest REQUEST_LIMIT rest HttpFault.BadHead) came.1)
fault_may_fail tape tape_now ms HttpFault.HeadTooLong came = (inl came.0, any_rest tape tape_now ms (λ rest. RefusesRequest REQUEST_LIMIT rest HttpFault.HeadTooLong) came.1)
fault_may_fail tape tape_now ms HttpFault.LengthRequired came = (inl came.0, any_rest tape tape_now ms (λ rest. RefusesRequest REQUEST_LIMIT rest HttpFault.LengthRequired) came.1)
fault_may_fail tape tape_now ms HttpFault.BodyTooLong came = (inl came.0, any_rest tape tape_now ms (λ rest. RefusesRequest REQUEST_LIMIT rest HttpFault.BodyTooLong) came.1)
fault_may_fail tape tape_now ms HttpFault.BadChunk came = (inl came.0, any_rest tape tape_now ms (λ rest. RefusesRequest REQUEST_LIMIT rest HttpFault.BadChunk) came.1)
fault_may_fail tape tape_now ms HttpFault.Cut came = (inl came.0, any_rest tape tape_now ms (λ rest. RefusesRequest REQUEST_LIMIT rest HttpFault.Cut) came.1)
fault_may_fail tape tape_now ms HttpFault.Coding came = (inl came.0, any_rest tape tape_now ms (λ rest. RefusesRequest REQUEST_LIMIT rest HttpFault.Coding) came.1)

-- messages that came may be replied until the sink fails
pub may_fail : (tape tape_now : Option Tape) (coming : Coming) (ms : List Request) → CameSo tape tape_now coming ms → MayFail tape tape_now ms
may_fail tape tape_now (more ahead count) ms came = (stay_on ms count came.many came.few came.stay, held_beyond tape tape_now ahead ms came.are)
may_fail tape tape_now (ended Over.Closed) ms (inl came) = (inl came.0, any_rest tape tape_now ms (λ rest. rest ≡ []) came.1)
may_fail tape tape_now (ended Over.Closed) ms (inr came) = (inr (inl came.0), any_last tape tape_now ms came.1)
may_fail tape tape_now (ended Over.Spent) ms came = (inr (inr came.0), any_last tape tape_now ms came.1)
may_fail tape tape_now (ended (Over.Fault fault)) ms came = fault_may_fail tape tape_now ms fault came
may_fail tape tape_now (before_one m coming) ms came = (inl came.0, came.1)

zip_long : {A B : Type 0} (R : A → B → Type 0) (xs : List A) (ys : List B) → AllZip R xs ys → length xs ≤ length ys
zip_long R [] ys zip = omega arith
zip_long R (a ∷ xs) [] zip = absurd zip
zip_long R (a ∷ xs) (b ∷ ys) zip = omega (arith, zip_long R xs ys zip.1)

pub zip_none : {A B : Type 0} (R : A → B → Type 0) (xs : List A) → AllZip R xs [] → xs ≡ []
zip_none R [] zip = refl
zip_none R (a ∷ xs) zip = absurd zip

-- messages that stay, and one more
stay_more : (late : List Request) (m : Request) (close : Bool) → AllKept late → is_kept m.head ≡ not close → StayTo close (late ++ m ∷ [])
stay_more late m false kept is = All-append (λ (r : Request). is_kept r.head ≡ true) late (m ∷ []) kept (All-cons (λ (r : Request). is_kept r.head ≡ true) m [] is (All-nil (λ (r : Request). is_kept r.head ≡ true)))
stay_more late m true kept is = (late, m, refl, kept, is)

module _ {Y L : Type 0} (y : DeskGhosts Y) (Works : List ℕ → List ℕ → Lane L → Lane L → Outcome → Type 0) (IsMoment : ℕ → Type 0) (r : Roster) where
  abbrev pub Way : (start : Y) (lanes : List (Lane L)) (tape tape_now : Option Tape) (coming : Coming) (before : Option (List ℕ)) (now : Y) (lanes_now : List (Lane L)) (notices : List Arrival) (close : Bool) (held : Option (List ℕ)) (least waiting : ℕ) → Type 0
  Way = IsUnderWay y Works IsMoment r

  abbrev pub Ends : Y → List (Lane L) → Option Tape → Option Tape → Option (List ℕ) → Y → List (Lane L) → Option (List ℕ) → ConnEnd → Type 0
  Ends = EndsHere y Works IsMoment r

  module _ (join : JoinsSteps y.runs) where
    -- a connection ends where the sink failed within replies
    pub failed_within : (start : Y) (lanes : List (Lane L)) (tape tape_now : Option Tape) (before : Option (List ℕ)) (now : Y) (lanes_now : List (Lane L)) (sunk : Option (List ℕ)) (steps : List Step) (ms : List Request)
        → y.runs start now steps → MayFail tape tape_now ms → FailsWithin (AnswersOn Works IsMoment r) (begun lanes) (record { steps = steps; lanes = lanes_now }) ms before sunk
        → Ends start lanes tape tape_now before now lanes_now sunk ConnEnd.WriteFault
    failed_within start lanes tape tape_now before now lanes_now sunk steps ms ran may f = (
      steps,
      ran,
      inl (record {
        before = f.before;
        waiting = f.last;
        between = f.between;
        out = f.out;
        due = f.due;
        few = f.few;
        may_come = subst (λ (l : List Request). GoOn l ⊎ (CloseLast l ⊎ AreSpent l)) f.split may.0;
        replied = f.replied;
        to_reply = f.to_reply;
        took = f.took;
        brings = subst (λ (l : List Request). Brings REQUEST_LIMIT tape tape_now l IsAny) f.split may.1;
      }),
    )

    -- the notices that wait were taken, and their replies gathered
    pub flushed : (start : Y) (lanes : List (Lane L)) (tape tape_now : Option Tape) (coming : Coming) (before : Option (List ℕ)) (old new : Y) (lanes_now : List (Lane L)) (notices : List Arrival) (close : Bool) (held held_now : Option (List ℕ)) (least waiting least_now waiting_now : ℕ)
        → Way start lanes tape tape_now coming before old lanes_now notices close held least waiting → Flushes y.runs close notices old new held held_now least waiting least_now waiting_now
        → Way start lanes tape tape_now coming before new lanes_now [] false held_now least_now waiting_now
    flushed start lanes tape tape_now coming before old new lanes_now notices close held held_now least waiting least_now waiting_now w f =
        let answers = AnswersOn Works IsMoment r in
        let now : Course L = record { steps = w.steps; lanes = lanes_now } in
        let next : Course L = record { steps = w.steps ++ f.takes.steps; lanes = lanes_now } in
        let replies = notices_replied Works IsMoment r lanes_now close w.steps f.takes.steps w.late notices f.outcomes w.waits w.stay f.takes.are in
        record {
          steps = w.steps ++ f.takes.steps;
          requests = w.requests ++ w.late;
          late = [];
          ran = join start old new w.steps f.takes.steps w.ran f.takes.ran;
          came = subst (CameSo tape tape_now coming) (sym (append-nil (w.requests ++ w.late))) w.came;
          cut = may_fail tape tape_now coming (w.requests ++ w.late) w.came;
          waits = tt;
          stay = All-nil (λ (m : Request). is_kept m.head ≡ true);
          replied = replied_more answers (begun lanes) now next w.requests w.late before held least waiting least_now waiting_now (length notices) held_now (outcomes_bytes close f.outcomes) w.replied f.moves (zip_long Waits w.late notices w.waits) replies f.holds;
        }

    -- the sink failed while nothing was gathered
    pub put_failed : (start : Y) (lanes : List (Lane L)) (tape tape_now : Option Tape) (coming : Coming) (before : Option (List ℕ)) (now : Y) (lanes_now : List (Lane L)) (notices : List Arrival) (close : Bool) (held held_now sunk : Option (List ℕ)) (left : List ℕ) (least waiting least_now waiting_now : ℕ)
        → Way start lanes tape tape_now coming before now lanes_now notices close held least waiting → held_now ≡ held → least_now ≡ least → waiting_now ≡ waiting
        → held_now ≡ append_known sunk left → least_now ≤ count_of sunk → waiting_now ≤ BATCH_LIMIT
        → Ends start lanes tape tape_now before now lanes_now sunk ConnEnd.WriteFault
    put_failed start lanes tape tape_now coming before now lanes_now notices close held held_now sunk left least waiting least_now waiting_now w same same_least same_waiting at grown most =
        let answers = AnswersOn Works IsMoment r in
        let c : Course L = record { steps = w.steps; lanes = lanes_now } in
        let f = fails_within answers (begun lanes) c c w.requests [] before held least waiting least_now waiting_now 0 held_now sunk [] [] [] left w.replied (inl (omega (arith, same_waiting), same_least)) (omega arith) (refl, refl) refl (same ∙ sym (known_none held)) at grown most in
        failed_within start lanes tape tape_now before now lanes_now sunk w.steps w.requests w.ran w.cut
        (subst (λ (l : List Request). FailsWithin answers (begun lanes) c l before sunk) (append-nil w.requests) f)

    -- the sink failed before notices were taken, or while their replies were gathered
    pub flush_failed : (start : Y) (lanes : List (Lane L)) (tape tape_now : Option Tape) (coming : Coming) (before : Option (List ℕ)) (old new : Y) (lanes_now : List (Lane L)) (notices : List Arrival) (close : Bool) (held held_now sunk : Option (List ℕ)) (left : List ℕ) (least waiting least_now waiting_now : ℕ)
        → Way start lanes tape tape_now coming before old lanes_now notices close held least waiting → FlushFails y.runs close notices old new held held_now least waiting least_now waiting_now
        → held_now ≡ append_known sunk left → least_now ≤ count_of sunk → waiting_now ≤ BATCH_LIMIT
        → Ends start lanes tape tape_now before new lanes_now sunk ConnEnd.WriteFault
    flush_failed start lanes tape tape_now coming before old new lanes_now notices close held held_now sunk left least waiting least_now waiting_now w (inl same) at grown most =
        subst (λ (d : Y). Ends start lanes tape tape_now before d lanes_now sunk ConnEnd.WriteFault) (sym same.0)
        (put_failed start lanes tape tape_now coming before old lanes_now notices close held held_now sunk left least waiting least_now waiting_now w same.1 same.2 same.3 at grown most)
    flush_failed start lanes tape tape_now coming before old new lanes_now notices close held held_now sunk left least waiting least_now waiting_now w (inr f) at grown most =
        let answers = AnswersOn Works IsMoment r in
        let outcomes = f.0 in
        let now : Course L = record { steps = w.steps; lanes = lanes_now } in
        let next : Course L = record { steps = w.steps ++ TakesNotices.steps f.1; lanes = lanes_now } in
        let replies = notices_replied Works IsMoment r lanes_now close w.steps (TakesNotices.steps f.1) w.late notices outcomes w.waits w.stay (TakesNotices.are f.1) in
        failed_within start lanes tape tape_now before new lanes_now sunk (w.steps ++ TakesNotices.steps f.1) (w.requests ++ w.late)
        (join start old new w.steps (TakesNotices.steps f.1) w.ran (TakesNotices.ran f.1)) (may_fail tape tape_now coming (w.requests ++ w.late) w.came)
        (fails_within answers (begun lanes) now next w.requests w.late before held least waiting least_now waiting_now (length notices) held_now sunk (outcomes_bytes close outcomes) f.2 f.3 left w.replied f.6 (zip_long Waits w.late notices w.waits) replies f.4 f.5 at grown most)

    -- one message more that waits
    pub notice_joined : (start : Y) (lanes : List (Lane L)) (tape tape_now : Option Tape) (coming : Coming) (before : Option (List ℕ)) (now : Y) (lanes_now : List (Lane L)) (notices : List Arrival) (close : Bool) (held : Option (List ℕ)) (least waiting : ℕ) (m : Request) (x : Arrival)
        → Way start lanes tape tape_now (before_one m coming) before now lanes_now notices false held least waiting → Means m (notifies x.kind x.auction x.award) → is_kept m.head ≡ not close
        → Way start lanes tape tape_now coming before now lanes_now (notices ++ x ∷ []) close held least waiting
    notice_joined start lanes tape tape_now coming before now lanes_now notices close held least waiting m x w means kept = record {
      steps = w.steps;
      requests = w.requests;
      late = w.late ++ m ∷ [];
      ran = w.ran;
      came = subst (CameSo tape tape_now coming) (append_assoc w.requests w.late (m ∷ [])) w.came.3;
      cut = w.cut;
      waits = zip_more Waits w.late notices m x w.waits means;
      stay = stay_more w.late m close w.stay kept;
      replied = w.replied;
    }

    -- all that was gathered was put
    pub all_put : (start : Y) (lanes : List (Lane L)) (tape tape_now : Option Tape) (coming : Coming) (before : Option (List ℕ)) (now : Y) (lanes_now : List (Lane L)) (held held_now sunk : Option (List ℕ)) (left : List ℕ) (least waiting least_now waiting_now : ℕ)
        → Way start lanes tape tape_now coming before now lanes_now [] false held least waiting → held_now ≡ held → held_now ≡ append_known sunk left → left ≡ [] → least_now ≡ count_of sunk → waiting_now ≡ 0
        → Way start lanes tape tape_now coming before now lanes_now [] false held_now least_now waiting_now
    all_put start lanes tape tape_now coming before now lanes_now held held_now sunk left least waiting least_now waiting_now w same at none all zero =
        let answers = AnswersOn Works IsMoment r in
        let c : Course L = record { steps = w.steps; lanes = lanes_now } in
        let is_sunk : held ≡ sunk = sym same ∙ at ∙ ap (append_known sunk) none ∙ known_none sunk in
        let moved = replied_more answers (begun lanes) c c w.requests [] before held least waiting least_now waiting_now 0 held_now [] w.replied (inr (zero, all ∙ ap count_of (sym is_sunk))) (omega arith) (refl, refl) (same ∙ sym (known_none held)) in
        record {
          steps = w.steps;
          requests = w.requests;
          late = w.late;
          ran = w.ran;
          came = w.came;
          cut = w.cut;
          waits = w.waits;
          stay = w.stay;
          replied = subst (λ (l : List Request). Replied answers (begun lanes) c l before held_now least_now waiting_now) (append-nil w.requests) moved;
        }
