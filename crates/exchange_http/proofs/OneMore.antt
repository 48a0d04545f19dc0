-- One message more of a connection: answered, given up for lack of memory, or its reply cut off by the sink.
use Rattle.std.proofs.Common.{◌≡◌, inl, inr, ℕ, ◌≤◌, List, [], ◌∷◌, ◌++◌, Bool, Option, true, false, not, refl, sym, ap, ◌∙◌, subst, arith, append-nil}
use Rattle.std.specs.Io.KnownBytes.{append_known}
use Rattle.std.proofs.lemmas.List.Elements.{All-nil}
use Rattle.adx_io.specs.Streams.{Tape}
use Rattle.http_grammar.specs.Requests.{is_kept}
use Rattle.adx_desk.specs.Steps.{Step}
use Rattle.adx_desk.specs.declared.day_desk.DayDesk.{Ghosts as DeskGhosts}
use Rattle.day_machine.specs.declared.batch.TheConstants.{BATCH_LIMIT}
use Rattle.adx_links.specs.declared.link.Link.{Ghosts as LinkGhosts}
use Rattle.exchange_messages.specs.Floors.{AnswersHere, GivesUpHere, IsMomentOf}
use Rattle.exchange_messages.specs.declared.clock.Clock.{Ghosts as ClockGhosts}
use Rattle.exchange_messages.specs.declared.floor.Floor.{Floor}
use Rattle.exchange_messages.proofs.Requested.{JoinsSteps}
use Rattle.exchange_messages.specs.Replies.{Reply}
use Rattle.deal_floor.specs.declared.roster.Roster.{Roster}
use Rattle.fan_out.specs.declared.lane.Lane.{Lane}
use Rattle.fan_out.specs.Lanes.{Outcome, works}
use Rattle.http_connection.specs.Messages.{Request}
use Rattle.http_connection.specs.declared.conn.ConnEnd.{ConnEnd}
use Rattle.http_service.specs.Connections.{Answering, Replies, Served}
use Rattle.http_service.specs.Replies.{reply_to}
use Rattle.http_service.specs.declared.answer.Answer.{Answer}
use Rattle.exchange_messages.specs.Courses.{AnswersOn, Course, begun, reply_of}
use Rattle.exchange_http.specs.Gathered.{Moves, Replied, count_of}
use Rattle.exchange_http.specs.Running.{CameSo, Coming, Waits, before_one}
use Rattle.exchange_messages.specs.Turns.{IsAnswered, LeavesUnmade}
use Rattle.exchange_http.proofs.Gathered.{fails_within, replied_more, replies_join}
use Rattle.exchange_http.proofs.UnderWay.{Ends, Way, failed_within, may_fail, zip_none}

-- all replies were put
pub all_served : {S : Type 0} (answers : Answering S) (s now : S) (requests : List Request) (old held sunk : Option (List ℕ)) (least waiting : ℕ) → Replied answers s now requests old held least waiting → sunk ≡ held → Served answers requests old sunk s now
all_served answers s now requests old held sunk least waiting p is = record {
  out = p.out ++ p.due;
  replies = subst (λ (l : List Request). Replies answers s l (p.out ++ p.due) now) (sym p.split) (replies_join answers s p.before p.out p.between p.last p.due now p.replied p.to_reply);
  took = is ∙ p.holds;
}

module _ {Y L : Type 0} (y : DeskGhosts Y) (Works : List ℕ → List ℕ → Lane L → Lane L → Outcome → Type 0) (IsMoment : ℕ → Type 0) (r : Roster) where
  -- a message was answered so, and memory was refused before its reply was made
  pub record AnsweredSo (old new : Y) (lanes lanes_now : List (Lane L)) (m : Request) (said : Reply) : Type 0 where
    pub steps : List Step
    pub answered : IsAnswered Works IsMoment r lanes m steps lanes_now said
    pub ran : y.runs old new steps

  pub record GivenUpSo (old new : Y) (lanes lanes_now : List (Lane L)) (m : Request) : Type 0 where
    pub steps : List Step
    pub left_unmade : LeavesUnmade Works IsMoment r lanes m steps lanes_now
    pub ran : y.runs old new steps

  -- the reply to one message, after the steps so far
  one_replies : (old new : Y) (steps : List Step) (lanes_old lanes_new : List (Lane L)) (m : Request) (a : Answer) (body : List ℕ) (h : AnsweredSo old new lanes_old lanes_new m (reply_of a body))
      → Replies (AnswersOn Works IsMoment r) (record { steps = steps; lanes = lanes_old }) (m ∷ []) (reply_to m a body) (record { steps = steps ++ h.steps; lanes = lanes_new })
  one_replies old new steps lanes_old lanes_new m a body h = (
    a,
    body,
    record { steps = steps ++ h.steps; lanes = lanes_new },
    [],
    (h.steps, lanes_new, h.answered, refl),
    (refl, refl),
    sym (append-nil (reply_to m a body)),
  )

  -- no notice waits
  pub none_late : (start : Y) (lanes : List (Lane L)) (tape tape_now : Option Tape) (coming : Coming) (before : Option (List ℕ)) (now : Y) (lanes_now : List (Lane L)) (held : Option (List ℕ)) (least waiting : ℕ)
      → (w : Way y Works IsMoment r start lanes tape tape_now coming before now lanes_now [] false held least waiting) → CameSo tape tape_now coming w.requests
  none_late start lanes tape tape_now coming before now lanes_now held least waiting w =
      subst (CameSo tape tape_now coming) (ap (λ (l : List Request). w.requests ++ l) (zip_none Waits w.late w.waits) ∙ append-nil w.requests) w.came

  -- it was answered, and its reply gathered
  pub one_answered : JoinsSteps y.runs → (start : Y) (lanes : List (Lane L)) (tape tape_now : Option Tape) (coming : Coming) (before : Option (List ℕ)) (old new : Y) (lanes_old lanes_new : List (Lane L)) (held held_now : Option (List ℕ)) (least waiting least_now waiting_now : ℕ) (m : Request) (a : Answer) (body : List ℕ)
      → Way y Works IsMoment r start lanes tape tape_now (before_one m coming) before old lanes_old [] false held least waiting → Moves 1 held least waiting least_now waiting_now
      → AnsweredSo old new lanes_old lanes_new m (reply_of a body) → held_now ≡ append_known held (reply_to m a body)
      → Way y Works IsMoment r start lanes tape tape_now coming before new lanes_new [] false held_now least_now waiting_now
  one_answered join start lanes tape tape_now coming before old new lanes_old lanes_new held held_now least waiting least_now waiting_now m a body w moves h is =
      let answers = AnswersOn Works IsMoment r in
      let now : Course L = record { steps = w.steps; lanes = lanes_old } in
      let next : Course L = record { steps = w.steps ++ h.steps; lanes = lanes_new } in
      let came = none_late start lanes tape tape_now (before_one m coming) before old lanes_old held least waiting w in
      record {
        steps = w.steps ++ h.steps;
        requests = w.requests ++ m ∷ [];
        late = [];
        ran = join start old new w.steps h.steps w.ran h.ran;
        came = subst (CameSo tape tape_now coming) (sym (append-nil (w.requests ++ m ∷ []))) came.3;
        cut = may_fail tape tape_now coming (w.requests ++ m ∷ []) came.3;
        waits = tt;
        stay = All-nil (λ (x : Request). is_kept x.head ≡ true);
        replied = replied_more answers (begun lanes) now next w.requests (m ∷ []) before held least waiting least_now waiting_now 1 held_now (reply_to m a body) w.replied moves (omega arith)
            (one_replies old new w.steps lanes_old lanes_new m a body h) is;
      }

  -- it was answered, and the sink failed while its reply was gathered
  pub one_failed : JoinsSteps y.runs → (start : Y) (lanes : List (Lane L)) (tape tape_now : Option Tape) (coming : Coming) (before : Option (List ℕ)) (old new : Y) (lanes_old lanes_new : List (Lane L)) (held held_now sunk : Option (List ℕ)) (front back left : List ℕ) (least waiting least_now waiting_now : ℕ) (m : Request) (a : Answer) (body : List ℕ)
      → Way y Works IsMoment r start lanes tape tape_now (before_one m coming) before old lanes_old [] false held least waiting → Moves 1 held least waiting least_now waiting_now
      → AnsweredSo old new lanes_old lanes_new m (reply_of a body) → reply_to m a body ≡ front ++ back → held_now ≡ append_known held front
      → held_now ≡ append_known sunk left → least_now ≤ count_of sunk → waiting_now ≤ BATCH_LIMIT
      → Ends y Works IsMoment r start lanes tape tape_now before new lanes_new sunk ConnEnd.WriteFault
  one_failed join start lanes tape tape_now coming before old new lanes_old lanes_new held held_now sunk front back left least waiting least_now waiting_now m a body w moves h split is at grown most =
      let answers = AnswersOn Works IsMoment r in
      let now : Course L = record { steps = w.steps; lanes = lanes_old } in
      let next : Course L = record { steps = w.steps ++ h.steps; lanes = lanes_new } in
      let came = none_late start lanes tape tape_now (before_one m coming) before old lanes_old held least waiting w in
      failed_within y Works IsMoment r join start lanes tape tape_now before new lanes_new sunk (w.steps ++ h.steps) (w.requests ++ m ∷ [])
      (join start old new w.steps h.steps w.ran h.ran) (may_fail tape tape_now coming (w.requests ++ m ∷ []) came.3)
      (fails_within answers (begun lanes) now next w.requests (m ∷ []) before held least waiting least_now waiting_now 1 held_now sunk (reply_to m a body) front back left w.replied moves (omega arith)
      (one_replies old new w.steps lanes_old lanes_new m a body h) split is at grown most)

  -- memory was refused before its reply was made, with all other replies put
  pub one_given_up : JoinsSteps y.runs → (start : Y) (lanes : List (Lane L)) (tape tape_now : Option Tape) (coming : Coming) (before : Option (List ℕ)) (old new : Y) (lanes_old lanes_new : List (Lane L)) (held sunk : Option (List ℕ)) (least waiting : ℕ) (m : Request)
      → Way y Works IsMoment r start lanes tape tape_now (before_one m coming) before old lanes_old [] false held least waiting → sunk ≡ held
      → GivenUpSo old new lanes_old lanes_new m
      → Ends y Works IsMoment r start lanes tape tape_now before new lanes_new sunk ConnEnd.OutOfMemory
  one_given_up join start lanes tape tape_now coming before old new lanes_old lanes_new held sunk least waiting m w is h =
      let answers = AnswersOn Works IsMoment r in
      let now : Course L = record { steps = w.steps; lanes = lanes_old } in
      let came = none_late start lanes tape tape_now (before_one m coming) before old lanes_old held least waiting w in (
        w.steps ++ h.steps,
        join start old new w.steps h.steps w.ran h.ran,
        (
          w.requests,
          now,
          all_served answers (begun lanes) now w.requests before held sunk least waiting w.replied is,
          came.0,
          inr (
            m,
            (h.steps, lanes_new, h.left_unmade, refl),
            came.2,
          ),
        ),
      )

  -- none of its calls was taken
  pub none_made : (now : Y) (lanes_now : List (Lane L)) (m : Request) → y.runs now now [] → GivenUpSo now now lanes_now lanes_now m
  none_made now lanes_now m ran = record { steps = []; left_unmade = inl (refl, refl); ran = ran }

-- what a floor did with a message, over its desk and its lanes
module _ {Y L C G : Type 0} (y : DeskGhosts Y) (l : LinkGhosts L) (c : ClockGhosts C) (old new : Floor Y L C G) (m : Request) where
  pub answered_so : (said : Reply) → AnswersHere y l c old new m said → AnsweredSo y (works l) (IsMomentOf (c.moment old.clock.now)) old.roster.now old.desk new.desk old.lanes.now.items new.lanes.now.items m said
  answered_so said h = record { steps = h.steps; answered = h.answered; ran = h.ran }

  pub given_up_so : GivesUpHere y l c old new m → GivenUpSo y (works l) (IsMomentOf (c.moment old.clock.now)) old.roster.now old.desk new.desk old.lanes.now.items new.lanes.now.items m
  given_up_so h = record { steps = h.steps; left_unmade = h.left_unmade; ran = h.ran }

-- a reply says `close` where its message doesn't keep the connection
pub kept_not : (keep kept : Bool) → keep ≡ kept → kept ≡ not (not keep)
kept_not true kept is = sym is
kept_not false kept is = sym is
