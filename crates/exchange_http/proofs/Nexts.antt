-- What the next message of a connection gives, by what taking it gives.
use Rattle.std.proofs.Common.{◌≡◌, ℕ, suc, ◌<◌, ◌≤◌, List, [], ◌++◌, length, Bool, true, false, Option, Some, None, Ok, Err, refl, sym, ap, arith, subst, append-nil}
use Rattle.std.proofs.lemmas.List.Elements.{All-nil}
use Rattle.adx_io.specs.Streams.{Tape, WhereTold}
use Rattle.adx_desk.specs.declared.day_desk.DayDesk.{Ghosts as DeskGhosts}
use Rattle.day_rules.specs.Laws.{Arrival}
use Rattle.deal_floor.specs.declared.roster.Roster.{Roster}
use Rattle.fan_out.specs.declared.lane.Lane.{Lane}
use Rattle.fan_out.specs.Lanes.{Outcome}
use Rattle.http_connection.specs.Steps.{Advances}
use Rattle.http_connection.specs.Answers.{GivesMessage}
use Rattle.http_connection.specs.Messages.{IsRequestThen, IsUnfinishedRequest, Request}
use Rattle.http_connection.specs.State.{ConnState, room_of}
use Rattle.http_connection.specs.declared.conn.ConnEnd.{ConnEnd}
use Rattle.http_connection.proofs.Fronts.{request_stays}
use Rattle.http_grammar.specs.Requests.{is_kept}
use Rattle.http_grammar.specs.declared.fault.HttpFault.{HttpFault}
use Rattle.http_service.specs.Steps.{BringsOne}
use Rattle.http_service.specs.declared.limits.TheConstants.{MESSAGE_LIMIT, REQUEST_LIMIT}
use Rattle.exchange_messages.specs.Courses.{begun}
use Rattle.exchange_http.specs.Gathered.{count_of}
use Rattle.exchange_http.specs.Running.{CameSo, Coming, IsSettled, StepGives, before_one, ended, fault_over, more}
use Rattle.exchange_http.specs.declared.over.Over.{Over}
use Rattle.exchange_http.proofs.Comings.{all_came, came_otherwise, fails_later, fault_next, next_closes, next_stays, none_came, none_more}
use Rattle.exchange_http.proofs.Ended.{over_ends}
use Rattle.exchange_http.proofs.Gathered.{known_none}
use Rattle.exchange_http.proofs.UnderWay.{Way, may_fail}

-- a message that the held bytes begin with comes first, whatever the source brings after them
pub held_brings : (limit : ℕ) (ahead ahead_now : List ℕ) (r : Request) (tape : Option Tape) → length ahead_now ≤ room_of limit → IsRequestThen limit ahead r ahead_now → BringsOne limit ahead ahead_now tape tape r
held_brings limit ahead ahead_now r None fits is = record { fits = fits; is = refl }
held_brings limit ahead ahead_now r (Some t) fits is = record { fits = fits; is = request_stays limit ahead t.left r ahead_now is }

pub stands_still : (tape : Option Tape) → Advances tape tape
stands_still None = refl
stands_still (Some t) = ([], record { taken = sym (append-nil t.taken); left = refl })

module _ {Y L : Type 0} (y : DeskGhosts Y) (Works : List ℕ → List ℕ → Lane L → Lane L → Outcome → Type 0) (IsMoment : ℕ → Type 0) (r : Roster) where
  module _ (start : Y) (lanes : List (Lane L)) (tape tape_old tape_now : Option Tape) (ahead ahead_now : List ℕ) (count : ℕ) (before : Option (List ℕ)) (old : Y) (lanes_old : List (Lane L)) (notices : List Arrival) (held : Option (List ℕ)) (least waiting : ℕ) where
    -- what is under way over what came so
    abbrev Now : Option Tape → Coming → Type 0
    Now now coming = Way y Works IsMoment r start lanes tape now coming before old lanes_old notices false held least waiting

    -- the next message came, and stays
    stays : (m : Request) → is_kept m.head ≡ true → count < MESSAGE_LIMIT → BringsOne REQUEST_LIMIT ahead ahead_now tape_old tape_now m → Advances tape_old tape_now → Now tape_old (more ahead count) → Now tape_now (before_one m (more ahead_now (suc count)))
    stays m kept less one advances w =
        came_otherwise y Works IsMoment r start lanes tape tape_old tape_now (more ahead count) (before_one m (more ahead_now (suc count))) before old lanes_old notices false held least waiting
        (λ ms came. next_stays tape tape_old tape_now ahead count ms ahead_now m came less one advances kept) (λ ms may. fails_later tape tape_old tape_now ms may advances) w

    -- or closes
    closes : (m : Request) → is_kept m.head ≡ false → count < MESSAGE_LIMIT → BringsOne REQUEST_LIMIT ahead ahead_now tape_old tape_now m → Advances tape_old tape_now → Now tape_old (more ahead count) → Now tape_now (before_one m (ended Over.Closed))
    closes m kept less one advances w =
        came_otherwise y Works IsMoment r start lanes tape tape_old tape_now (more ahead count) (before_one m (ended Over.Closed)) before old lanes_old notices false held least waiting
        (λ ms came. next_closes tape tape_old tape_now ahead count ms ahead_now m came less one advances kept) (λ ms may. fails_later tape tape_old tape_now ms may advances) w

    -- the source ended
    pub ends_there : (c_now : ConnState) → count < MESSAGE_LIMIT → WhereTold tape_old tape_now (λ o n. GivesMessage REQUEST_LIMIT (ahead ++ o.left) (Ok None) (ahead_now ++ n.left)) → Advances tape_old tape_now → Now tape_old (more ahead count) → Now tape_now (ended Over.Closed)
    ends_there c_now less told advances w =
        came_otherwise y Works IsMoment r start lanes tape tape_old tape_now (more ahead count) (ended Over.Closed) before old lanes_old notices false held least waiting
        (λ ms came. none_more tape tape_old tape_now ahead count ms ahead_now came less told advances) (λ ms may. fails_later tape tape_old tape_now ms may advances) w

    -- the next one is refused, or the source failed
    faults_there : (fault : HttpFault) → count < MESSAGE_LIMIT → WhereTold tape_old tape_now (λ o n. GivesMessage REQUEST_LIMIT (ahead ++ o.left) (Err fault) (ahead_now ++ n.left)) → Advances tape_old tape_now
        → (fault ≡ HttpFault.ReadFault → WhereTold tape_old tape_now (λ o n. (given : List ℕ) × (o.left ≡ given ++ n.left) × IsUnfinishedRequest REQUEST_LIMIT (ahead ++ given)))
        → Now tape_old (more ahead count) → Now tape_now (ended (Over.Fault fault))
    faults_there fault less told advances unread w =
        came_otherwise y Works IsMoment r start lanes tape tape_old tape_now (more ahead count) (ended (Over.Fault fault)) before old lanes_old notices false held least waiting
        (λ ms came. fault_next tape tape_old tape_now ahead count ms ahead_now fault came less told advances unread) (λ ms may. fails_later tape tape_old tape_now ms may advances) w

    -- by what the call answered, where no notice waits and all replies were put
    pub fault_gives : (fault : HttpFault) (sunk : Option (List ℕ)) (left : List ℕ) → count < MESSAGE_LIMIT → WhereTold tape_old tape_now (λ o n. GivesMessage REQUEST_LIMIT (ahead ++ o.left) (Err fault) (ahead_now ++ n.left)) → Advances tape_old tape_now
        → (fault ≡ HttpFault.ReadFault → WhereTold tape_old tape_now (λ o n. (given : List ℕ) × (o.left ≡ given ++ n.left) × IsUnfinishedRequest REQUEST_LIMIT (ahead ++ given)))
        → notices ≡ [] → sunk ≡ held → Now tape_old (more ahead count)
        → StepGives y Works IsMoment r start lanes tape tape_now ahead_now (suc count) before old lanes_old notices held sunk least waiting (fault_over fault)
    fault_gives HttpFault.ReadFault sunk left less told advances unread none all w =
        let came : Way y Works IsMoment r start lanes tape tape_now (ended (Over.Fault HttpFault.ReadFault)) before old lanes_old [] false held least waiting =
        subst (λ (l : List Arrival). Way y Works IsMoment r start lanes tape tape_now (ended (Over.Fault HttpFault.ReadFault)) before old lanes_old l false held least waiting) none (faults_there HttpFault.ReadFault less told advances unread w) in
        over_ends y Works IsMoment r start lanes tape tape_now before old lanes_old held sunk least waiting (Over.Fault HttpFault.ReadFault) ConnEnd.ReadFault came (refl, all)
    fault_gives HttpFault.BadHead sunk left less told advances unread none all w = faults_there HttpFault.BadHead less told advances unread w
    fault_gives HttpFault.HeadTooLong sunk left less told advances unread none all w = faults_there HttpFault.HeadTooLong less told advances unread w
    fault_gives HttpFault.LengthRequired sunk left less told advances unread none all w = faults_there HttpFault.LengthRequired less told advances unread w
    fault_gives HttpFault.BodyTooLong sunk left less told advances unread none all w = faults_there HttpFault.BodyTooLong less told advances unread w
    fault_gives HttpFault.BadChunk sunk left less told advances unread none all w = faults_there HttpFault.BadChunk less told advances unread w
    fault_gives HttpFault.Cut sunk left less told advances unread none all w = faults_there HttpFault.Cut less told advances unread w
    fault_gives HttpFault.Coding sunk left less told advances unread none all w = faults_there HttpFault.Coding less told advances unread w

    module _ (new : Y) (lanes_new : List (Lane L)) (notices_now : List Arrival) (held_now : Option (List ℕ)) (least_now waiting_now : ℕ) (m : Request) where
      abbrev After : Coming → Type 0
      After coming = Way y Works IsMoment r start lanes tape tape_now coming before new lanes_new notices_now false held_now least_now waiting_now

      -- it was taken, and more may come
      pub next_on : is_kept m.head ≡ true → count < MESSAGE_LIMIT → BringsOne REQUEST_LIMIT ahead ahead_now tape_old tape_now m → Advances tape_old tape_now → ((coming : Coming) → Now tape_now (before_one m coming) → After coming) → Now tape_old (more ahead count)
          → After (more ahead_now (suc count))
      next_on kept less one advances step w = step (more ahead_now (suc count)) (stays m kept less one advances w)

      -- it was taken, and none may come
      pub next_last : is_kept m.head ≡ false → count < MESSAGE_LIMIT → BringsOne REQUEST_LIMIT ahead ahead_now tape_old tape_now m → Advances tape_old tape_now → ((coming : Coming) → Now tape_now (before_one m coming) → After coming) → Now tape_old (more ahead count)
          → After (ended Over.Closed)
      next_last kept less one advances step w = step (ended Over.Closed) (closes m kept less one advances w)

    -- the connection ended while it was taken
    pub next_stops : {E : Type 0} (m : Request) → count < MESSAGE_LIMIT → BringsOne REQUEST_LIMIT ahead ahead_now tape_old tape_now m → Advances tape_old tape_now → ((coming : Coming) → Now tape_now (before_one m coming) → E) → Now tape_old (more ahead count) → E
    next_stops {E = E} m less one advances step w = by_kept (is_kept m.head) refl
      where
        by_kept : (k : Bool) → is_kept m.head ≡ k → E
        by_kept true kept = step (more ahead_now (suc count)) (stays m kept less one advances w)
        by_kept false kept = step (ended Over.Closed) (closes m kept less one advances w)

  -- as many came as may, and nothing else changed
  pub all_come : (start : Y) (lanes : List (Lane L)) (tape tape_now : Option Tape) (ahead : List ℕ) (count : ℕ) (before : Option (List ℕ)) (now : Y) (lanes_now : List (Lane L)) (notices : List Arrival) (held : Option (List ℕ)) (least waiting : ℕ) → count ≡ MESSAGE_LIMIT
      → Way y Works IsMoment r start lanes tape tape_now (more ahead count) before now lanes_now notices false held least waiting
      → Way y Works IsMoment r start lanes tape tape_now (ended Over.Spent) before now lanes_now notices false held least waiting
  all_come start lanes tape tape_now ahead count before now lanes_now notices held least waiting all w =
      came_otherwise y Works IsMoment r start lanes tape tape_now tape_now (more ahead count) (ended Over.Spent) before now lanes_now notices false held least waiting
      (λ ms came. all_came tape tape_now ahead ms (subst (λ (n : ℕ). CameSo tape tape_now (more ahead n) ms) all came)) (λ ms may. may) w

  -- no message came yet
  pub begins : (desk : Y) (lanes : List (Lane L)) (tape : Option Tape) (held : Option (List ℕ)) (left : List ℕ) (least waiting : ℕ) → y.runs desk desk []
      → IsSettled held left least
      → Way y Works IsMoment r desk lanes tape tape (more [] 0) held desk lanes [] false held least waiting
  begins desk lanes tape held left least waiting ran settled = record {
    steps = [];
    requests = [];
    late = [];
    ran = ran;
    came = none_came tape;
    cut = may_fail tape tape (more [] 0) [] (none_came tape);
    waits = tt;
    stay = All-nil (λ (m : Request). is_kept m.head ≡ true);
    replied = record {
      before = [];
      last = [];
      between = begun lanes;
      out = [];
      due = [];
      split = refl;
      few = omega arith;
      replied = (refl, refl);
      to_reply = (refl, refl);
      holds = sym (known_none held);
      sure = omega (arith, ap count_of (known_none held), settled.all);
    };
  }

  pub begins_on : (desk : Y) (lanes : List (Lane L)) (tape : Option Tape) (held : Option (List ℕ)) (left : List ℕ) (least waiting : ℕ) (ahead : List ℕ) (notices : List Arrival) → y.runs desk desk []
      → IsSettled held left least → ahead ≡ [] → notices ≡ []
      → Way y Works IsMoment r desk lanes tape tape (more ahead 0) held desk lanes notices false held least waiting
  begins_on desk lanes tape held left least waiting ahead notices ran settled empty none =
      subst (λ (l : List Arrival). Way y Works IsMoment r desk lanes tape tape (more ahead 0) held desk lanes l false held least waiting) (sym none)
      (subst (λ (b : List ℕ). Way y Works IsMoment r desk lanes tape tape (more b 0) held desk lanes [] false held least waiting) (sym empty) (begins desk lanes tape held left least waiting ran settled))
