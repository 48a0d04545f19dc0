-- What the next call on the source brings after the messages that came.
use Rattle.std.proofs.Common.{◌≡◌, inl, inr, ℕ, suc, ◌<◌, List, [], ◌∷◌, ◌++◌, length, Bool, true, false, All, Option, Some, None, Ok, Err, refl, sym, ap, ◌∙◌, subst, arith, append_assoc, length-append}
use Rattle.std.proofs.lemmas.List.Elements.{All-nil}
use Rattle.adx_io.specs.Streams.{Tape, WhereTold}
use Rattle.adx_desk.specs.declared.day_desk.DayDesk.{Ghosts as DeskGhosts}
use Rattle.day_rules.specs.Laws.{Arrival}
use Rattle.deal_floor.specs.declared.roster.Roster.{Roster}
use Rattle.fan_out.specs.declared.lane.Lane.{Lane}
use Rattle.fan_out.specs.Lanes.{Outcome}
use Rattle.http_connection.specs.Steps.{Advances}
use Rattle.http_connection.specs.BufferState.{Passes}
use Rattle.http_connection.specs.Answers.{AnswersMessage, GivesMessage, Shows}
use Rattle.http_connection.specs.Messages.{AreRequests, IsUnfinishedRequest, RefusesRequest, Request}
use Rattle.http_connection.specs.State.{ConnState}
use Rattle.http_connection.specs.declared.conn.ConnEnd.{ConnEnd}
use Rattle.http_connection.specs.declared.conn.Message.{Message}
use Rattle.http_grammar.specs.Requests.{is_kept}
use Rattle.http_grammar.specs.declared.fault.HttpFault.{HttpFault}
use Rattle.http_service.specs.Connections.{Brings, Gave, GoOn}
use Rattle.http_service.specs.Steps.{BringsOne}
use Rattle.http_service.specs.declared.limits.TheConstants.{MESSAGE_LIMIT, REQUEST_LIMIT}
use Rattle.http_service.proofs.Lists.{kept_more}
use Rattle.http_service.proofs.Running.{brings_last, brings_more, brings_to}
use Rattle.http_service.proofs.Steps.{served_step}
use Rattle.http_service.proofs.Fronts.{requests_front}
use Rattle.exchange_http.specs.Running.{CameAndStay, CameSo, CameToFault, Coming, IsUnderWay, MayFail, before_one, ended, more}
use Rattle.exchange_http.specs.Serving.{IsAny}
use Rattle.exchange_http.specs.declared.over.Over.{Over}

-- a message was read: it is the one that the bytes bring, where they are reported
pub brings_one : (c c_now : ConnState) (tape tape_now : Option Tape) (m : Message) → c.failed ≡ false → AnswersMessage c c_now tape tape_now (Ok (Some m))
    → (r : Request) × BringsOne c.limit c.held c_now.held tape tape_now r × Shows m r
brings_one c c_now tape tape_now m sound answers =
    let step = served_step {S = Unit {0}} (λ s r a body next. ⊥) (λ s r next. Shows m r) c c_now tape tape_now None None tt tt m (Some ConnEnd.OutOfMemory) sound answers (λ r shows. (shows, refl)) in
    (step.0, step.1, step.2.0)

-- of the bytes after the messages this is so
came_with : (limit : ℕ) (ahead : List ℕ) (tape tape_old tape_now : Option Tape) (ms : List Request) (P : List ℕ → Type 0) (Q : Tape → List ℕ → Type 0) → WhereTold tape tape_old (λ o n. AreRequests limit o.left ms (ahead ++ n.left)) → Advances tape_old tape_now
    → WhereTold tape_old tape_now (λ o n. Q n (ahead ++ o.left)) → ((n : Tape) (bytes : List ℕ) → Q n bytes → P bytes) → Brings limit tape tape_now ms P
came_with limit ahead None None None ms P Q are advances told weaker = refl
came_with limit ahead None None (Some n) ms P Q are advances told weaker = absurd (cc advances)
came_with limit ahead None (Some o) tape_now ms P Q are advances told weaker = absurd (cc are)
came_with limit ahead (Some t) None tape_now ms P Q are advances told weaker = absurd are
came_with limit ahead (Some t) (Some o) None ms P Q are advances told weaker = absurd advances
came_with limit ahead (Some t) (Some o) (Some n) ms P Q are advances told weaker =
    let is : ahead ++ o.left ≡ (ahead ++ advances.0) ++ n.left = ap (λ (b : List ℕ). ahead ++ b) (Passes.left advances.1) ∙ sym (append_assoc ahead advances.0 n.left) in (
      ahead ++ advances.0,
      subst (AreRequests limit t.left ms) is are,
      subst P is (weaker n (ahead ++ o.left) told),
    )

-- bytes that were taken after messages are beyond them
beyond_more : (limit : ℕ) (tape tape_old tape_now : Option Tape) (ms : List Request) → Brings limit tape tape_old ms IsAny → Advances tape_old tape_now → Brings limit tape tape_now ms IsAny
beyond_more limit None None None ms b advances = refl
beyond_more limit None None (Some n) ms b advances = absurd (cc advances)
beyond_more limit None (Some o) tape_now ms b advances = absurd (cc b)
beyond_more limit (Some t) None tape_now ms b advances = absurd b
beyond_more limit (Some t) (Some o) None ms b advances = absurd advances
beyond_more limit (Some t) (Some o) (Some n) ms b advances =
    let is : b.0 ++ o.left ≡ (b.0 ++ advances.0) ++ n.left = ap (λ (x : List ℕ). b.0 ++ x) (Passes.left advances.1) ∙ sym (append_assoc b.0 advances.0 n.left) in
    (b.0 ++ advances.0, subst (AreRequests limit t.left ms) is b.1, tt)

pub fails_later : (tape tape_old tape_now : Option Tape) (ms : List Request) → MayFail tape tape_old ms → Advances tape_old tape_now → MayFail tape tape_now ms
fails_later tape tape_old tape_now ms may advances = (may.0, beyond_more REQUEST_LIMIT tape tape_old tape_now ms may.1 advances)

told_any : (tape_old tape_now : Option Tape) (ahead : List ℕ) → Advances tape_old tape_now → WhereTold tape_old tape_now (λ o n. IsAny (ahead ++ o.left))
told_any None tape_now ahead advances = advances
told_any (Some o) None ahead advances = absurd advances
told_any (Some o) (Some n) ahead advances = tt

goes_on : (ms : List Request) (count : ℕ) → length ms ≡ count → count < MESSAGE_LIMIT → All (λ (m : Request). is_kept m.head ≡ true) ms → GoOn ms
goes_on ms count many less kept = record { kept = kept; few = subst (λ (n : ℕ). n < MESSAGE_LIMIT) (sym many) less }

module _ (tape tape_old tape_now : Option Tape) (ahead : List ℕ) (count : ℕ) (ms : List Request) where
  -- messages that stay, and bytes after them
  stay_and : CameAndStay tape tape_old ahead count ms → count < MESSAGE_LIMIT → Advances tape_old tape_now → GoOn ms × Brings REQUEST_LIMIT tape tape_now ms IsAny
  stay_and came less advances = (
    goes_on ms count came.many less came.stay,
    came_with REQUEST_LIMIT ahead tape tape_old tape_now ms IsAny (λ n bytes. IsAny bytes) came.are advances (told_any tape_old tape_now ahead advances) (λ n bytes q. tt),
  )

  -- the next one stays
  pub next_stays : (ahead_now : List ℕ) (r : Request) → CameAndStay tape tape_old ahead count ms → count < MESSAGE_LIMIT → BringsOne REQUEST_LIMIT ahead ahead_now tape_old tape_now r → Advances tape_old tape_now → is_kept r.head ≡ true
      → CameSo tape tape_now (before_one r (more ahead_now (suc count))) ms
  next_stays ahead_now r came less one advances kept =
      let on = stay_and came less advances in (
        on.0,
        on.1,
        brings_to REQUEST_LIMIT ms r ahead ahead_now tape tape_old tape_now came.are one,
        record {
          many = omega (arith, length-append ms (r ∷ []), came.many);
          few = omega (arith, less);
          fits = one.fits;
          stay = kept_more ms r came.stay kept;
          are = brings_more REQUEST_LIMIT ms r ahead ahead_now tape tape_old tape_now came.are one;
        },
      )

  -- the next one closes the connection
  pub next_closes : (ahead_now : List ℕ) (r : Request) → CameAndStay tape tape_old ahead count ms → count < MESSAGE_LIMIT → BringsOne REQUEST_LIMIT ahead ahead_now tape_old tape_now r → Advances tape_old tape_now → is_kept r.head ≡ false
      → CameSo tape tape_now (before_one r (ended Over.Closed)) ms
  next_closes ahead_now r came less one advances closes =
      let on = stay_and came less advances in
      let last = brings_to REQUEST_LIMIT ms r ahead ahead_now tape tape_old tape_now came.are one in
      (on.0, on.1, last, inr (record { before = ms; last = r; split = refl; go_on = on.0; closes = closes }, last))

  -- the source ended
  pub none_more : (ahead_now : List ℕ) → CameAndStay tape tape_old ahead count ms → count < MESSAGE_LIMIT → WhereTold tape_old tape_now (λ o n. GivesMessage REQUEST_LIMIT (ahead ++ o.left) (Ok None) (ahead_now ++ n.left)) → Advances tape_old tape_now
      → CameSo tape tape_now (ended Over.Closed) ms
  none_more ahead_now came less told advances =
      inl (
        goes_on ms count came.many less came.stay,
        came_with REQUEST_LIMIT ahead tape tape_old tape_now ms (λ rest. rest ≡ []) (λ n bytes. (bytes ≡ []) × (ahead_now ++ n.left ≡ [])) came.are advances told (λ n bytes q. q.0),
      )

  -- the next one is refused, or the source failed
  refused : (ahead_now : List ℕ) (fault : HttpFault) → CameAndStay tape tape_old ahead count ms → count < MESSAGE_LIMIT → WhereTold tape_old tape_now (λ o n. RefusesRequest REQUEST_LIMIT (ahead ++ o.left) fault) → Advances tape_old tape_now
      → GoOn ms × Brings REQUEST_LIMIT tape tape_now ms (λ rest. RefusesRequest REQUEST_LIMIT rest fault)
  refused ahead_now fault came less told advances = (
    goes_on ms count came.many less came.stay,
    came_with REQUEST_LIMIT ahead tape tape_old tape_now ms (λ rest. RefusesRequest REQUEST_LIMIT rest fault) (λ n bytes. RefusesRequest REQUEST_LIMIT bytes fault) came.are advances told (λ n bytes q. q),
  )

  -- the source failed, and what it gave is unfinished
  unfinished : CameAndStay tape tape_old ahead count ms → count < MESSAGE_LIMIT → Advances tape_old tape_now
      → WhereTold tape_old tape_now (λ o n. (given : List ℕ) × (o.left ≡ given ++ n.left) × IsUnfinishedRequest REQUEST_LIMIT (ahead ++ given))
      → CameToFault tape tape_now ms HttpFault.ReadFault
  unfinished came less advances unread =
      let on = stay_and came less advances in
      (on.0, on.1, gave tape tape_old tape_now came.are unread)
    where
      gave : (t o n : Option Tape) → WhereTold t o (λ b a. AreRequests REQUEST_LIMIT b.left ms (ahead ++ a.left))
          → WhereTold o n (λ b a. (given : List ℕ) × (b.left ≡ given ++ a.left) × IsUnfinishedRequest REQUEST_LIMIT (ahead ++ given))
          → Gave REQUEST_LIMIT t n ms (IsUnfinishedRequest REQUEST_LIMIT)
      gave None None None are unread = refl
      gave None None (Some n) are unread = absurd (cc unread)
      gave None (Some o) n are unread = absurd (cc are)
      gave (Some t) None n are unread = absurd are
      gave (Some t) (Some o) None are unread = absurd unread
      gave (Some t) (Some o) (Some n) are unread =
          let is : ahead ++ o.left ≡ (ahead ++ unread.0) ++ n.left = ap (λ (b : List ℕ). ahead ++ b) unread.1 ∙ sym (append_assoc ahead unread.0 n.left) in
          let front = requests_front REQUEST_LIMIT t.left (ahead ++ unread.0) n.left ms (subst (AreRequests REQUEST_LIMIT t.left ms) is are) in
          (front.0, ahead ++ unread.0, front.1, front.2, unread.2)

  pub fault_next : (ahead_now : List ℕ) (fault : HttpFault) → CameAndStay tape tape_old ahead count ms → count < MESSAGE_LIMIT → WhereTold tape_old tape_now (λ o n. GivesMessage REQUEST_LIMIT (ahead ++ o.left) (Err fault) (ahead_now ++ n.left)) → Advances tape_old tape_now
      → (fault ≡ HttpFault.ReadFault → WhereTold tape_old tape_now (λ o n. (given : List ℕ) × (o.left ≡ given ++ n.left) × IsUnfinishedRequest REQUEST_LIMIT (ahead ++ given)))
      → CameSo tape tape_now (ended (Over.Fault fault)) ms
  fault_next ahead_now HttpFault.ReadFault came less told advances unread = unfinished came less advances (unread refl)
  fault_next ahead_now HttpFault.BadHead came less told advances unread = refused ahead_now HttpFault.BadHead came less told advances
  fault_next ahead_now HttpFault.HeadTooLong came less told advances unread = refused ahead_now HttpFault.HeadTooLong came less told advances
  fault_next ahead_now HttpFault.LengthRequired came less told advances unread = refused ahead_now HttpFault.LengthRequired came less told advances
  fault_next ahead_now HttpFault.BodyTooLong came less told advances unread = refused ahead_now HttpFault.BodyTooLong came less told advances
  fault_next ahead_now HttpFault.BadChunk came less told advances unread = refused ahead_now HttpFault.BadChunk came less told advances
  fault_next ahead_now HttpFault.Cut came less told advances unread = refused ahead_now HttpFault.Cut came less told advances
  fault_next ahead_now HttpFault.Coding came less told advances unread = refused ahead_now HttpFault.Coding came less told advances

-- as many came as may
pub all_came : (tape tape_now : Option Tape) (ahead : List ℕ) (ms : List Request) → CameAndStay tape tape_now ahead MESSAGE_LIMIT ms → CameSo tape tape_now (ended Over.Spent) ms
all_came tape tape_now ahead ms came = (record { kept = came.stay; many = came.many }, brings_last REQUEST_LIMIT ms ahead tape tape_now came.fits came.are)

-- none came yet
pub none_came : (tape : Option Tape) → CameAndStay tape tape [] 0 []
none_came tape = record { many = refl; few = omega arith; fits = omega arith; stay = All-nil (λ (m : Request). is_kept m.head ≡ true); are = same tape }
  where
    same : (t : Option Tape) → WhereTold t t (λ o n. AreRequests REQUEST_LIMIT o.left [] ([] ++ n.left))
    same None = refl
    same (Some t) = refl

-- a connection that is under way over what came otherwise
pub came_otherwise : {Y L : Type 0} (y : DeskGhosts Y) (Works : List ℕ → List ℕ → Lane L → Lane L → Outcome → Type 0) (IsMoment : ℕ → Type 0) (r : Roster)
    (start : Y) (lanes : List (Lane L)) (tape tape_old tape_now : Option Tape) (c c_now : Coming) (before : Option (List ℕ)) (now : Y) (lanes_now : List (Lane L)) (notices : List Arrival) (close : Bool) (held : Option (List ℕ)) (least waiting : ℕ)
    → ((ms : List Request) → CameSo tape tape_old c ms → CameSo tape tape_now c_now ms) → ((ms : List Request) → MayFail tape tape_old ms → MayFail tape tape_now ms)
    → IsUnderWay y Works IsMoment r start lanes tape tape_old c before now lanes_now notices close held least waiting
    → IsUnderWay y Works IsMoment r start lanes tape tape_now c_now before now lanes_now notices close held least waiting
came_otherwise y Works IsMoment r start lanes tape tape_old tape_now c c_now before now lanes_now notices close held least waiting came may w = record {
  steps = w.steps;
  requests = w.requests;
  late = w.late;
  ran = w.ran;
  came = came (w.requests ++ w.late) w.came;
  cut = may w.requests w.cut;
  waits = w.waits;
  stay = w.stay;
  replied = w.replied;
}
