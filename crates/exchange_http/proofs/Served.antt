-- What is so of a connection, by what its steps gave.
use Rattle.std.proofs.Common.{◌≡◌, inl, ℕ, List, [], ◌∷◌, length, Option, true, refl, sym, ap, ◌∙◌, subst, arith}
use Rattle.std.specs.Borrow.{GName}
use Rattle.std.specs.Io.KnownBytes.{append_known}
use Rattle.std.proofs.lemmas.List.Elements.{All-nil, All-cons}
use Rattle.adx_io.specs.Streams.{Tape}
use Rattle.day_journal.specs.declared.disk.Disk.{Ghosts as DiskGhosts}
use Rattle.adx_links.specs.declared.link.Link.{Ghosts as LinkGhosts}
use Rattle.adx_desk.specs.Desks.{OnDisk}
use Rattle.adx_desk.specs.Histories.{DeskTerms}
use Rattle.day_rules.specs.declared.entry.Entry.{Entry}
use Rattle.day_rules.specs.Legal.{IsLegal}
use Rattle.day_rules.specs.Runs.{AreTurns, IsCall, Turn}
use Rattle.deal_floor.specs.declared.roster.Roster.{Roster}
use Rattle.adx_desk.specs.Called.{turn_of}
use Rattle.adx_desk.specs.Steps.{AreSteps, Step, alone, history_behind, looked, metered, took, turns_of}
use Rattle.adx_desk.specs.declared.day_desk.DayDesk.{Ghosts as DeskGhosts}
use Rattle.adx_desk.proofs.Chains.{owned_now}
use Rattle.day_rules.proofs.RunBooks.{run_books}
use Rattle.fan_out.specs.declared.lane.Lane.{Lane}
use Rattle.http_connection.specs.Messages.{Request}
use Rattle.http_connection.specs.declared.conn.ConnEnd.{ConnEnd}
use Rattle.http_grammar.specs.Requests.{is_kept}
use Rattle.http_service.specs.Connections.{HasCauses}
use Rattle.exchange_http.specs.Owned.{OwnRuns}
use Rattle.exchange_messages.specs.Floors.{IsMomentOf}
use Rattle.exchange_messages.specs.declared.clock.Clock.{Ghosts as ClockGhosts}
use Rattle.exchange_messages.specs.declared.floor.Floor.{Floor}
use Rattle.exchange_messages.specs.Courses.{begun}
use Rattle.exchange_http.specs.Serving.{EndsSo, ServesConnection, ServesFloor, Talked, talked}
use Rattle.exchange_http.proofs.Gathered.{known_none}

-- the turns of steps are such as a day takes
taken_all : (terms : DeskTerms) (seen now : List Entry) (steps : List Step) → AreSteps alone terms seen steps now → AreTurns (length terms.day.budgets) (turns_of steps)
taken_all terms seen now [] are = All-nil (λ (t : Turn). IsCall (length terms.day.budgets) t.call)
taken_all terms seen now (took c ∷ steps) are =
    All-cons (λ (t : Turn). IsCall (length terms.day.budgets) t.call) (turn_of c) (turns_of steps) are.1.taken (taken_all terms (history_behind terms.day (took c)) now steps are.2)
taken_all terms seen now (looked h ∷ steps) are = taken_all terms h now steps are.2
taken_all terms seen now (metered h m ∷ steps) are = taken_all terms h now steps are.2

module _ {D L : Type 0} (d : DiskGhosts D) (l : LinkGhosts L) (IsMoment : ℕ → Type 0) (r : Roster) where
  abbrev Serves : Talked → Talked → List (Lane L) → List (Lane L) → OnDisk D → OnDisk D → ConnEnd → Type 0
  Serves = ServesConnection d l IsMoment r

  -- it ended so
  pub ended_so : (start now : OnDisk D) (lanes lanes_now : List (Lane L)) (before behind : Talked) (end : ConnEnd) (steps : List Step) → IsLegal start.desk.terms.day start.desk.history → OwnRuns d start now steps
      → EndsSo l IsMoment r before behind lanes (record { steps = steps; lanes = lanes_now }) end → Serves before behind lanes lanes_now start now end
  ended_so start now lanes lanes_now before behind end steps legal ran ends = record {
    course = record { steps = steps; lanes = lanes_now };
    lanes_are = refl;
    steps = ran.along;
    on_disk = ran.on_disk legal;
    books = run_books start.desk.terms.day start.desk.history (turns_of steps) now.desk.history legal (taken_all start.desk.terms start.desk.history now.desk.history steps ran.along)
        (owned_now start.desk.terms start.desk.history now.desk.history steps ran.along);
    ends = ends;
  }

  -- the same, where the loans of desk and lanes ended
  pub ended_behind : (start now desk : OnDisk D) (lanes lanes_now links : List (Lane L)) (before behind : Talked) (end : ConnEnd) → now ≡ desk → lanes_now ≡ links
      → IsLegal start.desk.terms.day start.desk.history
      → (steps : List Step) → OwnRuns d start now steps → EndsSo l IsMoment r before behind lanes (record { steps = steps; lanes = lanes_now }) end
      → Serves before behind lanes links start desk end
  ended_behind start now desk lanes lanes_now links before behind end desk_is links_are legal steps ran ends =
      subst (λ (x : OnDisk D). Serves before behind lanes links start x end) desk_is
      (subst (λ (x : List (Lane L)). Serves before behind lanes x start now end) links_are
      (ended_so start now lanes lanes_now before behind end steps legal ran ends))

-- the disk lasts, where the loan of the desk ended
pub lasts_behind : {D : Type 0} (d : DiskGhosts D) (start now desk : OnDisk D) → now ≡ desk → d.lasts start.disk now.disk → d.lasts start.disk desk.disk
lasts_behind {D} d start now desk is lasts = subst (λ (x : OnDisk D). d.lasts start.disk x.disk) is lasts

-- on a floor, over any desk
module _ {Y L C G : Type 0} (y : DeskGhosts Y) (l : LinkGhosts L) (c : ClockGhosts C) where
  -- a connection ended so, and the loan of its sink too
  pub floor_so : (old new : Floor Y L C G) (tape tape_now : Option Tape) (before sunk held held_now : Option (List ℕ)) (end : ConnEnd) → before ≡ held → sunk ≡ held_now
      → ((steps : List Step) × y.runs old.desk new.desk steps × EndsSo l (IsMomentOf (c.moment old.clock.now)) old.roster.now (talked tape before) (talked tape_now sunk) old.lanes.now.items (record { steps = steps; lanes = new.lanes.now.items }) end)
      → ServesFloor y l c old new (talked tape held) (talked tape_now held_now) end
  floor_so old new tape tape_now before sunk held held_now end held_is sunk_is ends =
      subst (λ (h : Option (List ℕ)). ServesFloor y l c old new (talked tape h) (talked tape_now held_now) end) held_is
      (subst (λ (h : Option (List ℕ)). ServesFloor y l c old new (talked tape before) (talked tape_now h) end) sunk_is
      (record { steps = ends.0; ran = ends.1; ends = ends.2 }))

  -- memory was refused before any message came
  pub never_begun : (f : Floor Y L C G) (tape : Option Tape) (held : Option (List ℕ)) → y.runs f.desk f.desk [] → ServesFloor y l c f f (talked tape held) (talked tape held) ConnEnd.OutOfMemory
  never_begun f tape held ran = record {
    steps = [];
    ran = ran;
    ends = (
      [],
      begun f.lanes.now.items,
      record { out = []; replies = (refl, refl); took = sym (known_none held) },
      record { kept = All-nil (λ (m : Request). is_kept m.head ≡ true); few = omega arith },
      inl (refl, refl, refl),
    );
  }

-- the references that a sink uses, one by one
abbrev name_or : GName → List GName → GName
name_or other [] = other
name_or other (n ∷ ns) = n

abbrev names_behind : List GName → List GName
names_behind [] = []
names_behind (n ∷ ns) = ns

pub first_name : (m n : GName) (ms ns : List GName) → m ∷ ms ≡ n ∷ ns → m ≡ n
first_name m n ms ns same = ap (name_or m) same

pub other_names : (m n : GName) (ms ns : List GName) → m ∷ ms ≡ n ∷ ns → ms ≡ ns
other_names m n ms ns same = ap names_behind same

-- what a sink has where nothing is gathered for it
pub held_alone : (sunk held : Option (List ℕ)) (left : List ℕ) → sunk ≡ held → left ≡ [] → append_known sunk left ≡ held
held_alone sunk held left same none = ap (append_known sunk) none ∙ known_none sunk ∙ same

-- causes by the counts of the sink that was lent
pub causes_lent : (read read_now write write_now was is : ℕ) (end : ConnEnd) → was ≡ write → is ≡ write_now → HasCauses read read_now was is end → HasCauses read read_now write write_now end
causes_lent read read_now write write_now was is end begins ends causes = subst (λ (n : ℕ). HasCauses read read_now write n end) ends (subst (λ (n : ℕ). HasCauses read read_now n is end) begins causes)
