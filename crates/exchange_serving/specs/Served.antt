-- What serving the connections of an acceptor on one desk leaves. This project's own.
-- Example: two connections of one bill each, of different awards, opened at a history of one ask: there are two
-- rows, each with one turn; the history has three entries, and which bill comes first is by the order of the
-- turns.
use Rattle.std.specs.Prelude.{◌≡◌, ◌≢◌, ◌⊎◌, ℕ, ◌<◌, ◌≤◌, List, [], ◌∷◌, ◌++◌, length, map, All, true, false, Some, IfSome, if◌then◌else◌, option_map, slice_get}
use Rattle.std.specs.List.{AllZip, flat_map}
use mathlib.Core.List.{IsPrefix}
use Rattle.adx_io.specs.Streams.{Rises, Tape}
use Rattle.day_journal.specs.declared.disk.Disk as disk
use Rattle.adx_links.specs.declared.link.Link as links
use Rattle.adx_links.specs.Pairs.{AcceptorTold, PairTold}
use Rattle.turnstile.specs.declared.noted.Noted.{Noted}
use Rattle.turnstile.specs.Turns.{AreAllRight, Stand, faults_noted, places_of}
use Rattle.turnstile.specs.Places.{AreAllOnce}
use Rattle.adx_links.specs.Serving.{ServedPair}
use Rattle.day_rules.specs.DayMeters.{meters_after}
use Rattle.day_rules.specs.declared.entry.Entry.{Entry}
use Rattle.day_rules.specs.Legal.{IsLegal}
use Rattle.day_rules.specs.RunBooks.{HasBooksAlong}
use Rattle.adx_desk.specs.declared.turn.Turn.{Turn}
use Rattle.adx_desk.specs.Desks.{OnDisk, StandsInDoubt}
use Rattle.adx_desk.specs.Endings.{IsWithinRise}
use Rattle.adx_desk.specs.Rosters.{desk_terms}
use Rattle.adx_desk.specs.Shared.{IsTakenAt, IsTurnAt, is_disk_fault}
use Rattle.shared_desk.specs.Callers.{entry_of}
use Rattle.adx_desk.specs.Steps.{AreSteps, Way, calls_of, shared}
use Rattle.shared_desk.specs.Passes.{IsNotedAs}
use Rattle.deal_floor.specs.declared.roster.Roster.{Roster}
use Rattle.fan_out.specs.declared.lane.Lane.{Lane}
use Rattle.http_connection.specs.declared.conn.ConnEnd.{ConnEnd}
use Rattle.http_service.specs.Connections.{HasCauses}
use Rattle.exchange_messages.specs.Courses.{Course}
use Rattle.exchange_http.specs.Serving.{EndsSo, Talked}
use Rattle.outbox.specs.declared.post.Post.{Post}
use Rattle.desk_board.specs.Tending.{AreTended, AreTriedOnce, due_behind}
use Rattle.exchange_serving.specs.declared.ending.Ending.{Ending}

-- a tape of which nothing was taken
abbrev pub untaken : Tape → Tape
untaken t = record { taken = []; left = t.taken ++ t.left }

-- what a pair reported when it came, by what it reports now: nothing was taken, put or failed
abbrev pub as_new : PairTold → PairTold
as_new p = record {
  tape = option_map untaken p.tape;
  read_faults = 0;
  held = option_map (λ bytes. []) p.held;
  write_faults = 0;
}

-- what its source gave and its sink took
abbrev pub talk_of : PairTold → Talked
talk_of p = record { tape = p.tape; held = p.held }

-- Where others call a desk, they may add entries after the history; and the meters that are read are those of the history that
-- was seen then.
abbrev pub showing : Way
showing = record { goes = IsPrefix; reads = λ history meters. meters ≡ meters_after history }

-- a connection that was served: its pair as it was given back, the history that was seen after it, what its messages made,
-- and how it ended
pub record Connection (L : Type 0) : Type 0 where
  pub pair : ServedPair Turn
  pub seen : List Entry
  pub course : Course L
  pub end : ConnEnd

-- How many entries a worker was shown the meters of once it has served a connection: all that were seen after it, unless
-- memory was wanting for it.
-- Example: after connections that ended at 5 entries, at 7, and at 9 with memory wanting, it was shown 7.
abbrev pub shown_after : {L : Type 0} → ℕ → Connection L → ℕ
shown_after known c = if c.pair.wanting then known else length c.seen

-- the same of one connection after another
abbrev pub shown_by : {L : Type 0} → ℕ → List (Connection L) → ℕ
shown_by known [] = known
shown_by known (c ∷ cs) = shown_by (shown_after known c) cs

module _ {L : Type 0} (l : links.Ghosts L) (IsMoment : ℕ → Type 0) (r : Roster) (opened : List Entry) where
  -- A pair was served over these lanes, on a desk whose history began with `opened` and was `history` after it, by a worker
  -- that had been shown the meters of so many entries.
  pub record IsServedOver (known : ℕ) (history : List Entry) (s : ServedPair Turn) (lanes : List (Lane L)) (course : Course L) (end : ConnEnd) : Type 0 where
    -- which messages its source brought, what its sink took for them by its steps, and why no more were read
    pub ends : EndsSo l IsMoment r (talk_of (as_new s.told)) (talk_of s.told) lanes course end
    pub causes : HasCauses 0 s.told.read_faults 0 s.told.write_faults end
    -- its steps were made on histories that go on, each from the one before; the first is no shorter than what its worker
    -- had been shown
    pub from : List Entry
    pub begins : IsPrefix opened from
    pub since : s.wanting ≡ false → known ≤ length from
    pub along : AreSteps shared (desk_terms r) from course.steps history
    -- its turns are the calls among them
    pub turns : AllZip IsNotedAs s.turns (calls_of course.steps)
    -- the meters that it was shown are each those of the history at its own message, which begins with all that the messages
    -- before it left
    pub meters : s.wanting ≡ false → AreSteps showing (desk_terms r) from course.steps history
    -- it is said where memory was refused for it
    pub wanting : end ≡ ConnEnd.OutOfMemory → s.wanting ≡ true

  -- Connections were served over lanes by a worker that had been shown so many entries, one after another: each over those
  -- lanes that the one before it left, from a history no shorter than what the worker was shown then, and each on a legal
  -- history of the day.
  abbrev pub AreServedOver : ℕ → List (Lane L) → List (Connection L) → List (Lane L) → Type 0
  AreServedOver known lanes [] now = now ≡ lanes
  AreServedOver known lanes (c ∷ cs) now =
      IsLegal (desk_terms r).day c.seen × IsServedOver known c.seen c.pair lanes c.course c.end
      × AreServedOver (shown_after known c) c.course.lanes cs now

  -- A pair was served by one of the workers, each of whom came with lanes of its own: over those that its connections
  -- before it left.
  pub record IsServed (workers : List (List (Lane L))) (history : List Entry) (s : ServedPair Turn) : Type 0 where
    pub worker : ℕ
    pub came_with : List (Lane L)
    pub is_worker : slice_get workers worker ≡ Some came_with
    pub earlier : List (Connection L)
    pub lanes : List (Lane L)
    pub are_left : AreServedOver 0 came_with earlier lanes
    pub course : Course L
    pub end : ConnEnd
    pub served : IsServedOver (shown_by 0 earlier) history s lanes course end

-- all turns of these pairs, one pair's after another's
abbrev pub turns_in : List (ServedPair Turn) → List (Noted Turn)
turns_in rows = flat_map (λ (s : ServedPair Turn). s.turns) rows

-- how many of them met a fault of the disk
abbrev pub faults_in : List (ServedPair Turn) → ℕ
faults_in rows = faults_noted (λ (t : Turn). is_disk_fault t.ended) (turns_in rows)

-- The pairs that were given back, in their order, and the history that their turns made of the one at the opening.
pub record AreServed {L : Type 0} (l : links.Ghosts L) (IsMoment : ℕ → Type 0) (r : Roster) (workers : List (List (Lane L)))
    (opened history : List Entry) (rows : List (ServedPair Turn)) (ending : Ending) : Type 0 where
  pub each : All (IsServed l IsMoment r opened workers history) rows
  pub wanting : All (λ (s : ServedPair Turn). s.wanting ≡ true → ending ≡ Ending.OutOfMemory) rows
  -- each turn is one of the day at the front of the history that is as long as it was at the turn's call; its entry, if it
  -- has one, is there
  pub right : AreAllRight (IsTurnAt (desk_terms r)) history (turns_in rows)
  pub stand : Stand entry_of history (turns_in rows)
  -- what a run over it leaves there: its call taken once, within the budgets, each ask as its choice was
  pub taken : AreAllRight (IsTakenAt (desk_terms r)) history (turns_in rows)
  -- each entry past the opening is of exactly one of these turns
  pub own : AreAllOnce (length opened) (length history) (places_of entry_of (turns_in rows))

-- What an acceptor reports, by what it reported and the pairs that were given back.
pub record HasBack (before now : AcceptorTold) (rows : List (ServedPair Turn)) (ending : Ending) : Type 0 where
  pub back : IfSome now.pairs (λ t. t.back ≡ map (λ (s : ServedPair Turn). s.told) rows)
  pub all_back : IfSome now.pairs (λ t. length t.out ≡ length t.back)
  pub later : before.faults ≤ now.faults
  pub fault : ending ≡ Ending.AcceptorFault → Rises before.faults now.faults
  pub over : ending ≢ Ending.OutOfMemory → ending ≢ Ending.AcceptorFault → (now.is_over ≡ true) × (now.faults ≡ before.faults)

-- What became of the posts of the history, by how serving ended. Unless memory was wanting all of it was followed, and a last
-- round tried each post that was due then, once, over the link as the rounds before had left it. Some posts are pending
-- then, or none.
pub record ArePosted {L : Type 0} (l : links.Ghosts L) (history : List Entry) (post post_now : L) (ending : Ending) : Type 0 where
  -- before the last round
  pub followed : List Entry
  pub waiting : List Post
  pub between : L
  pub earlier : AreTended l followed waiting post between
  -- in it, and after it
  pub more : List Entry
  pub begins : IsPrefix (followed ++ more) history
  pub pending : List Post
  pub round : AreTriedOnce l (due_behind waiting followed more) pending between post_now
  pub tended : AreTended l (followed ++ more) pending post post_now
  pub all : ending ≢ Ending.OutOfMemory → followed ++ more ≡ history
  pub each_tried : ending ≢ Ending.OutOfMemory → length round.outcomes ≡ length (due_behind waiting followed more)
  pub none : ending ≡ Ending.Done → pending ≡ []
  pub some : ending ≡ Ending.Pending → 0 < length pending

-- What serving connections leaves of an opened desk with its disk, of an acceptor, and of the link that posts go over.
pub record ServesDay {D L : Type 0} (d : disk.Ghosts D) (l : links.Ghosts L) (IsMoment : ℕ → Type 0) (r : Roster)
    (workers : List (List (Lane L))) (opened : OnDisk D) (disk_now : D) (acceptor acceptor_now : AcceptorTold)
    (post post_now : L) (ending : Ending) : Type 0 where
  pub history : List Entry
  pub begins : IsPrefix opened.desk.history history
  pub legal : IsLegal (desk_terms r).day history
  -- the books of all of it, and of each front of it, which is what each connection saw
  pub books : HasBooksAlong (desk_terms r).day history
  -- How many calls met a fault of the disk: at most what its count rose by since the opening.
  pub faults : ℕ
  pub risen : IsWithinRise opened.since.count faults (d.faults disk_now)
  -- Where the disk reported at the opening what it read, a crash now leaves the history, or it and one record in doubt of a call
  -- that met such a fault; and no record is in doubt where none did, as where serving ended well.
  pub on_disk : opened.since.tells ≡ true → StandsInDoubt (d.may_leave disk_now) (desk_terms r) history faults
  pub sound : (ending ≡ Ending.Done) ⊎ (ending ≡ Ending.Pending) → faults ≡ 0
  pub rows : List (ServedPair Turn)
  pub served : AreServed l IsMoment r workers opened.desk.history history rows ending
  pub accepted : HasBack acceptor acceptor_now rows ending
  -- the turns with a fault of the disk are at most what its count rose by since the opening
  pub counted : IsWithinRise opened.since.count (faults_in rows) (d.faults disk_now)
  pub fault : ending ≡ Ending.DiskFault → IsWithinRise opened.since.count 1 (d.faults disk_now)
  pub passed : (ending ≡ Ending.Done) ⊎ (ending ≡ Ending.Pending) → (faults_in rows ≡ 0) × (d.faults disk_now ≡ opened.since.count)
  pub posted : ArePosted l history post post_now ending
