-- Notices that wait were taken, and their replies gathered or not.
use Rattle.std.proofs.Common.{◌≡◌, inl, inr, ℕ, ◌+◌, List, [], ◌∷◌, ◌++◌, length, take, drop, Bool, true, false, MatchBool, Option, Result, Ok, Err, OnOk, OnErr, refl, sym, ap, ◌∙◌, subst, arith}
use Rattle.std.specs.Io.KnownBytes.{append_known}
use Rattle.std.proofs.lemmas.List.{take-append-drop}
use Rattle.adx_http.specs.Written.{Writes, WritesBy}
use Rattle.adx_http.specs.declared.reply.WriteFault.{WriteFault}
use Rattle.adx_io.specs.Streams.{HasCause, Tape, Took}
use Rattle.adx_desk.specs.Steps.{Step}
use Rattle.adx_desk.specs.Together.{TakesNotices}
use Rattle.adx_desk.specs.declared.day_desk.DayDesk.{Ghosts as DeskGhosts}
use Rattle.day_rules.specs.Laws.{Arrival}
use Rattle.day_rules.specs.declared.answer.Answer.{Answer}
use Rattle.deal_floor.specs.declared.roster.Roster.{Roster}
use Rattle.fan_out.specs.declared.lane.Lane.{Lane}
use Rattle.fan_out.specs.Lanes.{Outcome}
use Rattle.day_machine.specs.Batches.{BatchState, MayJoin, joined}
use Rattle.exchange_http.specs.Gathered.{Moves, count_of}
use Rattle.exchange_http.specs.Running.{Coming, FlushFails, Flushes, IsSettled, IsUnderWay, outcomes_bytes}
use Rattle.exchange_http.proofs.Gathered.{known_none}

-- no notice waits
pub no_items : {T : Type 0} (items : List T) → length items ≡ 0 → items ≡ []
no_items [] none = refl
no_items (x ∷ items) none = absurd (omega (arith, none))

-- what follows of an error that is so
pub on_fault : {T E P Q : Type 0} (result : Result T E) → OnErr result P → (P → Q) → OnErr result Q
on_fault (Ok x) p f = tt
on_fault (Err e) p f = f p

-- the replies were gathered, after what was expected
pub wrote_cause : {T : Type 0} (a b c : ℕ) (done : T) → b ≡ a → WritesBy b c (Ok tt) → HasCause {T = T} a c (Ok done)
wrote_cause a b c done same w = record { later = omega (arith, same, w.later); failed = tt; passed = w.passed ∙ same }

pub moves_by : (count other : ℕ) (held : Option (List ℕ)) (least waiting least_mid waiting_mid least_now waiting_now : ℕ) → count ≡ other → Moves count held least waiting least_mid waiting_mid → waiting_now ≡ waiting_mid → least_now ≡ least_mid
    → Moves other held least waiting least_now waiting_now
moves_by count other held least waiting least_mid waiting_mid least_now waiting_now same (inl m) w l = inl (w ∙ m.0 ∙ ap (λ (n : ℕ). waiting + n) same, l ∙ m.1)
moves_by count other held least waiting least_mid waiting_mid least_now waiting_now same (inr m) w l = inr (w ∙ m.0 ∙ same, l ∙ m.1)

-- all that was gathered was put
pub settled_now : (held sunk : Option (List ℕ)) (left : List ℕ) (least : ℕ) → held ≡ append_known sunk left → left ≡ [] → least ≡ count_of sunk → IsSettled held left least
settled_now held sunk left least at none all =
    record { none = none; all = all ∙ ap count_of (sym (at ∙ ap (append_known sunk) none ∙ known_none sunk)) }

-- a batch that a notice joined, or that is as it was
pub added_calls : (b : Bool) (old new : BatchState) (x : Arrival) → b ≡ true → MatchBool b (MayJoin old x × (new ≡ joined old x)) ((MayJoin old x → ⊥) × (new ≡ old)) → new.calls ≡ old.calls ++ x ∷ []
added_calls true old new x is clause = ap (λ (s : BatchState). s.calls) clause.1
added_calls false old new x is clause = absurd (cc is)

pub same_calls : (b : Bool) (old new : BatchState) (x : Arrival) → b ≡ false → MatchBool b (MayJoin old x × (new ≡ joined old x)) ((MayJoin old x → ⊥) × (new ≡ old)) → new.calls ≡ old.calls
same_calls true old new x is clause = absurd (cc is)
same_calls false old new x is clause = ap (λ (s : BatchState). s.calls) clause.1

-- under way with the same notices, and after the same last message
pub way_notices : {Y L : Type 0} {y : DeskGhosts Y} {Works : List ℕ → List ℕ → Lane L → Lane L → Outcome → Type 0} {IsMoment : ℕ → Type 0} {r : Roster}
    {start : Y} {lanes : List (Lane L)} {tape tape_now : Option Tape} {coming : Coming} {before : Option (List ℕ)} {now : Y} {lanes_now : List (Lane L)} {close : Bool} {held : Option (List ℕ)} {least waiting : ℕ}
    (notices other : List Arrival) → notices ≡ other
    → IsUnderWay y Works IsMoment r start lanes tape tape_now coming before now lanes_now notices close held least waiting
    → IsUnderWay y Works IsMoment r start lanes tape tape_now coming before now lanes_now other close held least waiting
way_notices {y = y} {Works = Works} {IsMoment = IsMoment} {r = r} {start = start} {lanes = lanes} {tape = tape} {tape_now = tape_now} {coming = coming} {before = before} {now = now} {lanes_now = lanes_now} {close = close} {held = held} {least = least} {waiting = waiting} notices other same w =
    subst (λ (l : List Arrival). IsUnderWay y Works IsMoment r start lanes tape tape_now coming before now lanes_now l close held least waiting) same w

pub way_close : {Y L : Type 0} {y : DeskGhosts Y} {Works : List ℕ → List ℕ → Lane L → Lane L → Outcome → Type 0} {IsMoment : ℕ → Type 0} {r : Roster}
    {start : Y} {lanes : List (Lane L)} {tape tape_now : Option Tape} {coming : Coming} {before : Option (List ℕ)} {now : Y} {lanes_now : List (Lane L)} {notices : List Arrival} {held : Option (List ℕ)} {least waiting : ℕ}
    (close other : Bool) → close ≡ other
    → IsUnderWay y Works IsMoment r start lanes tape tape_now coming before now lanes_now notices close held least waiting
    → IsUnderWay y Works IsMoment r start lanes tape tape_now coming before now lanes_now notices other held least waiting
way_close {y = y} {Works = Works} {IsMoment = IsMoment} {r = r} {start = start} {lanes = lanes} {tape = tape} {tape_now = tape_now} {coming = coming} {before = before} {now = now} {lanes_now = lanes_now} {notices = notices} {held = held} {least = least} {waiting = waiting} close other same w =
    subst (λ (b : Bool). IsUnderWay y Works IsMoment r start lanes tape tape_now coming before now lanes_now notices b held least waiting) same w

module _ {Y : Type 0} (y : DeskGhosts Y) where
  -- nothing was to be taken
  pub none_flushed : (close : Bool) (notices : List Arrival) (old : Y) (held : Option (List ℕ)) (least waiting : ℕ) → length notices ≡ 0 → y.runs old old [] → Flushes y.runs close notices old old held held least waiting least waiting
  none_flushed close notices old held least waiting none ran =
      subst (λ (l : List Arrival). Flushes y.runs close l old old held held least waiting least waiting) (sym (no_items notices none))
      (record { outcomes = []; takes = record { steps = []; are = refl; ran = ran }; holds = sym (known_none held); moves = inl (omega arith, refl) })

  module _ (close : Bool) (count : ℕ) (notices : List Arrival) (old new : Y) (outcomes : List (Option Answer)) (held held_mid held_now : Option (List ℕ)) (least waiting least_mid waiting_mid least_now waiting_now : ℕ)
      (many : count ≡ length notices) (takes : TakesNotices y.runs old new notices outcomes) (same : held_mid ≡ held) (moves : Moves count held least waiting least_mid waiting_mid)
      (waits : waiting_now ≡ waiting_mid) (leasts : least_now ≡ least_mid) where
    -- the replies were gathered
    pub all_flushed : Took held_mid held_now (outcomes_bytes close outcomes) → Flushes y.runs close notices old new held held_now least waiting least_now waiting_now
    all_flushed took = record {
      outcomes = outcomes;
      takes = takes;
      holds = took ∙ ap (λ (h : Option (List ℕ)). append_known h (outcomes_bytes close outcomes)) same;
      moves = moves_by count (length notices) held least waiting least_mid waiting_mid least_now waiting_now many moves waits leasts;
    }

    -- the sink failed within them
    pub part_flushed : (fault : WriteFault) → Writes held_mid held_now (outcomes_bytes close outcomes) (Err fault) → FlushFails y.runs close notices old new held held_now least waiting least_now waiting_now
    part_flushed fault written =
        let bytes = outcomes_bytes close outcomes in
        inr (
          outcomes,
          takes,
          take written.0 bytes,
          drop written.0 bytes,
          sym (take-append-drop written.0 bytes),
          written.2 ∙ ap (λ (h : Option (List ℕ)). append_known h (take written.0 bytes)) same,
          moves_by count (length notices) held least waiting least_mid waiting_mid least_now waiting_now many moves waits leasts,
        )

-- the steps of notices that were taken, whether their replies were gathered or not
module _ {Y : Type 0} (runs : Y → Y → List Step → Type 0) (none : (d : Y) → runs d d []) where
  pub failed_ran : (close : Bool) (notices : List Arrival) (old new : Y) (held held_now : Option (List ℕ)) (least waiting least_now waiting_now : ℕ) → FlushFails runs close notices old new held held_now least waiting least_now waiting_now
      → (steps : List Step) × runs old new steps
  failed_ran close notices old new held held_now least waiting least_now waiting_now (inl still) = ([], subst (λ (d : Y). runs old d []) (sym still.0) (none old))
  failed_ran close notices old new held held_now least waiting least_now waiting_now (inr f) = (TakesNotices.steps f.1, TakesNotices.ran f.1)

  pub flush_ran : {T E : Type 0} (result : Result T E) (close : Bool) (notices : List Arrival) (old new : Y) (held held_now : Option (List ℕ)) (least waiting least_now waiting_now : ℕ)
      → OnOk result (Flushes runs close notices old new held held_now least waiting least_now waiting_now)
      → OnErr result (FlushFails runs close notices old new held held_now least waiting least_now waiting_now) → (steps : List Step) × runs old new steps
  flush_ran (Ok done) close notices old new held held_now least waiting least_now waiting_now f fails = (f.takes.steps, f.takes.ran)
  flush_ran (Err e) close notices old new held held_now least waiting least_now waiting_now f fails = failed_ran close notices old new held held_now least waiting least_now waiting_now fails
