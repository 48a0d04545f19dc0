-- What is said over a roster and a clock, said over the same ones by another name.
use Rattle.std.proofs.Common.{◌≡◌, ℕ, List, false, Option, Result, Ok, Err, IfOk, OnOk, OnErr, IfErr, sym, subst}
use Rattle.adx_io.specs.Streams.{Tape}
use Rattle.adx_desk.specs.declared.day_desk.DayDesk.{Ghosts as DeskGhosts}
use Rattle.day_rules.specs.Laws.{Arrival}
use Rattle.deal_floor.specs.declared.roster.Roster.{Roster}
use Rattle.fan_out.specs.declared.lane.Lane.{Lane}
use Rattle.fan_out.specs.Lanes.{Outcome}
use Rattle.http_connection.specs.declared.conn.ConnEnd.{ConnEnd}
use Rattle.exchange_http.specs.Running.{Coming, EndsHere, IsUnderWay, StepGives, more}
use Rattle.exchange_messages.specs.Floors.{IsMomentOf}
use Rattle.exchange_http.specs.declared.over.Over.{Over}
use Rattle.exchange_http.specs.declared.stop.Stop.{Stop}

pub along : (P : Roster → Option ℕ → Type 0) (r r_now : Roster) (clock clock_now : Option ℕ) → r_now ≡ r → clock_now ≡ clock → P r_now clock_now → P r clock
along P r r_now clock clock_now same_r same_clock p = subst (λ (k : Option ℕ). P r k) same_clock (subst (λ (x : Roster). P x clock_now) same_r p)

pub back : (P : Roster → Option ℕ → Type 0) (r r_now : Roster) (clock clock_now : Option ℕ) → r_now ≡ r → clock_now ≡ clock → P r clock → P r_now clock_now
back P r r_now clock clock_now same_r same_clock p = along P r_now r clock_now clock (sym same_r) (sym same_clock) p

module _ {Y L : Type 0} (y : DeskGhosts Y) (Works : List ℕ → List ℕ → Lane L → Lane L → Outcome → Type 0) where
  abbrev pub WayBy : (start : Y) (lanes : List (Lane L)) (tape tape_now : Option Tape) (coming : Coming) (before : Option (List ℕ)) (now : Y) (lanes_now : List (Lane L)) (notices : List Arrival) (held : Option (List ℕ)) (least waiting : ℕ) → Roster → Option ℕ → Type 0
  WayBy start lanes tape tape_now coming before now lanes_now notices held least waiting r clock =
      IsUnderWay y Works (IsMomentOf clock) r start lanes tape tape_now coming before now lanes_now notices false held least waiting

  abbrev pub EndsBy : (start : Y) (lanes : List (Lane L)) (tape tape_now : Option Tape) (before : Option (List ℕ)) (now : Y) (lanes_now : List (Lane L)) (sunk : Option (List ℕ)) (end : ConnEnd) → Roster → Option ℕ → Type 0
  EndsBy start lanes tape tape_now before now lanes_now sunk end r clock = EndsHere y Works (IsMomentOf clock) r start lanes tape tape_now before now lanes_now sunk end

  abbrev pub GivesBy : (start : Y) (lanes : List (Lane L)) (tape tape_now : Option Tape) (ahead : List ℕ) (count : ℕ) (before : Option (List ℕ)) (now : Y) (lanes_now : List (Lane L)) (notices : List Arrival) (held sunk : Option (List ℕ)) (least waiting : ℕ) (result : Result (Option Over) Stop) → Roster → Option ℕ → Type 0
  GivesBy start lanes tape tape_now ahead count before now lanes_now notices held sunk least waiting result r clock =
      StepGives y Works (IsMomentOf clock) r start lanes tape tape_now ahead count before now lanes_now notices held sunk least waiting result

-- under way by the same roster and clock
pub way_along : {Y L : Type 0} {y : DeskGhosts Y} {Works : List ℕ → List ℕ → Lane L → Lane L → Outcome → Type 0}
    {start : Y} {lanes : List (Lane L)} {tape tape_now : Option Tape} {coming : Coming} {before : Option (List ℕ)} {now : Y} {lanes_now : List (Lane L)} {notices : List Arrival} {held : Option (List ℕ)} {least waiting : ℕ}
    (r r_now : Roster) (clock clock_now : Option ℕ) → r_now ≡ r → clock_now ≡ clock
    → IsUnderWay y Works (IsMomentOf clock_now) r_now start lanes tape tape_now coming before now lanes_now notices false held least waiting
    → IsUnderWay y Works (IsMomentOf clock) r start lanes tape tape_now coming before now lanes_now notices false held least waiting
way_along {y = y} {Works = Works} {start = start} {lanes = lanes} {tape = tape} {tape_now = tape_now} {coming = coming} {before = before} {now = now} {lanes_now = lanes_now} {notices = notices} {held = held} {least = least} {waiting = waiting} r r_now clock clock_now same_r same_clock w =
    along (WayBy y Works start lanes tape tape_now coming before now lanes_now notices held least waiting) r r_now clock clock_now same_r same_clock w

-- and with the same notices
pub way_with : {Y L : Type 0} {y : DeskGhosts Y} {Works : List ℕ → List ℕ → Lane L → Lane L → Outcome → Type 0} {IsMoment : ℕ → Type 0} {r : Roster}
    {start : Y} {lanes : List (Lane L)} {tape tape_now : Option Tape} {coming : Coming} {before : Option (List ℕ)} {now : Y} {lanes_now : List (Lane L)} {held : Option (List ℕ)} {least waiting : ℕ}
    (notices other : List Arrival) → notices ≡ other
    → IsUnderWay y Works IsMoment r start lanes tape tape_now coming before now lanes_now notices false held least waiting
    → IsUnderWay y Works IsMoment r start lanes tape tape_now coming before now lanes_now other false held least waiting
way_with {y = y} {Works = Works} {IsMoment = IsMoment} {r = r} {start = start} {lanes = lanes} {tape = tape} {tape_now = tape_now} {coming = coming} {before = before} {now = now} {lanes_now = lanes_now} {held = held} {least = least} {waiting = waiting} notices other same w =
    subst (λ (l : List Arrival). IsUnderWay y Works IsMoment r start lanes tape tape_now coming before now lanes_now l false held least waiting) same w

-- and after the same bytes that are held
pub way_behind : {Y L : Type 0} {y : DeskGhosts Y} {Works : List ℕ → List ℕ → Lane L → Lane L → Outcome → Type 0} {IsMoment : ℕ → Type 0} {r : Roster}
    {start : Y} {lanes : List (Lane L)} {tape tape_now : Option Tape} {count : ℕ} {before : Option (List ℕ)} {now : Y} {lanes_now : List (Lane L)} {notices : List Arrival} {held : Option (List ℕ)} {least waiting : ℕ}
    (ahead other : List ℕ) → ahead ≡ other
    → IsUnderWay y Works IsMoment r start lanes tape tape_now (more ahead count) before now lanes_now notices false held least waiting
    → IsUnderWay y Works IsMoment r start lanes tape tape_now (more other count) before now lanes_now notices false held least waiting
way_behind {y = y} {Works = Works} {IsMoment = IsMoment} {r = r} {start = start} {lanes = lanes} {tape = tape} {tape_now = tape_now} {count = count} {before = before} {now = now} {lanes_now = lanes_now} {notices = notices} {held = held} {least = least} {waiting = waiting} ahead other same w =
    subst (λ (l : List ℕ). IsUnderWay y Works IsMoment r start lanes tape tape_now (more l count) before now lanes_now notices false held least waiting) same w

-- what follows of an answer that is so
pub on_ok : {T E P Q : Type 0} (result : Result T E) → OnOk result P → (P → Q) → OnOk result Q
on_ok (Ok x) p f = f p
on_ok (Err e) p f = tt

pub on_ok_both : {T E P Q R : Type 0} (result : Result T E) → OnOk result P → OnOk result Q → (P → Q → R) → OnOk result R
on_ok_both (Ok x) p q f = f p q
on_ok_both (Err e) p q f = tt

pub on_err : {T E : Type 0} {P Q : E → Type 0} (result : Result T E) → IfErr result P → ((e : E) → P e → Q e) → IfErr result Q
on_err (Ok x) p f = tt
on_err (Err e) p f = f e p

-- what follows of a result that is so, where it is an answer, and where it is an error
pub if_ok_by : {T E : Type 0} {P : T → Type 0} (Q : Result T E → Type 0) (result : Result T E) → Q result → ((x : T) → Q (Ok x) → P x) → IfOk result P
if_ok_by Q (Ok x) q f = f x q
if_ok_by Q (Err e) q f = tt

pub on_ok_by : {T E P : Type 0} (Q : Result T E → Type 0) (result : Result T E) → Q result → ((x : T) → Q (Ok x) → P) → OnOk result P
on_ok_by Q (Ok x) q f = f x q
on_ok_by Q (Err e) q f = tt

pub on_err_by : {T E P : Type 0} (Q : Result T E → Type 0) (result : Result T E) → Q result → ((e : E) → Q (Err e) → P) → OnErr result P
on_err_by Q (Ok x) q f = tt
on_err_by Q (Err e) q f = f e q

-- and with a count that is the same
pub way_count : {Y L : Type 0} {y : DeskGhosts Y} {Works : List ℕ → List ℕ → Lane L → Lane L → Outcome → Type 0} {IsMoment : ℕ → Type 0} {r : Roster}
    {start : Y} {lanes : List (Lane L)} {tape tape_now : Option Tape} {ahead : List ℕ} {before : Option (List ℕ)} {now : Y} {lanes_now : List (Lane L)} {notices : List Arrival} {held : Option (List ℕ)} {least waiting : ℕ}
    (count other : ℕ) → count ≡ other
    → IsUnderWay y Works IsMoment r start lanes tape tape_now (more ahead count) before now lanes_now notices false held least waiting
    → IsUnderWay y Works IsMoment r start lanes tape tape_now (more ahead other) before now lanes_now notices false held least waiting
way_count {y = y} {Works = Works} {IsMoment = IsMoment} {r = r} {start = start} {lanes = lanes} {tape = tape} {tape_now = tape_now} {ahead = ahead} {before = before} {now = now} {lanes_now = lanes_now} {notices = notices} {held = held} {least = least} {waiting = waiting} count other same w =
    subst (λ (n : ℕ). IsUnderWay y Works IsMoment r start lanes tape tape_now (more ahead n) before now lanes_now notices false held least waiting) same w

-- what follows of an error that is this one
pub stopped : {T E : Type 0} (P : E → Type 0) (result : Result T E) (e : E) → result ≡ Err e → IfErr result P → P e
stopped {T = T} {E = E} P result e is p = subst (λ (r : Result T E). IfErr r P) is p
