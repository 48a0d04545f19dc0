-- What a round of a worker gives, and what is so of the pair that was served.
use Rattle.std.proofs.Common.{◌≡◌, inl, inr, ℕ, ◌≤◌, List, [], ◌∷◌, ◌++◌, length, Bool, true, false, not, ◌||◌, if◌then◌else◌, Option, Some, None, IfSome, option_map, refl, sym, ap, ◌∙◌, subst, arith, append-nil}
use Rattle.std.specs.Prelude.{unwrap_or}
use Rattle.std.specs.List.{AllZip}
use Rattle.std.specs.Io.KnownBytes.{append_known}
use Rattle.std.proofs.lemmas.List.Elements.{All-nil}
use mathlib.Core.List.{IsPrefix}
use Rattle.adx_links.specs.Pairs.{IsNew, PairTold}
use Rattle.adx_desk.specs.Histories.{DeskTerms}
use Rattle.adx_desk.specs.Rosters.{desk_terms}
use Rattle.adx_desk.specs.Shared.{terms_in}
use Rattle.adx_desk.specs.declared.shared.OpenedWith.{OpenedWith}
use Rattle.adx_desk.specs.declared.turn.Turn.{Turn}
use Rattle.adx_io.specs.Streams.{Tape, Took}
use Rattle.adx_links.specs.declared.link.Link as links
use Rattle.day_rules.specs.DayMeters.{steps_of}
use Rattle.day_rules.specs.DayState.{IsDay}
use Rattle.day_rules.specs.Legal.{IsLegal}
use Rattle.day_rules.specs.declared.entry.Entry.{Entry}
use Rattle.deal_floor.specs.declared.roster.Roster.{Roster}
use Rattle.desk_board.proofs.Meeting.{prefix_on, prefix_short}
use Rattle.adx_desk.specs.Steps.{AreSteps, Step, Way, calls_of, meters_read, shared}
use Rattle.adx_desk.proofs.Chains.{GoOn, shared_on, steps_join}
use Rattle.exchange_messages.specs.Floors.{AreLanes}
use Rattle.exchange_http.specs.Serving.{EndsSo, Talked}
use Rattle.exchange_messages.specs.Courses.{Course, begun}
use Rattle.fan_out.specs.declared.lane.Lane.{Lane}
use Rattle.http_connection.specs.Messages.{Request}
use Rattle.http_connection.specs.declared.conn.ConnEnd.{ConnEnd}
use Rattle.http_grammar.specs.Requests.{is_kept}
use Rattle.http_service.specs.Connections.{HasCauses}
use Rattle.adx_links.specs.Serving.{ServedPair}
use Rattle.day_rules.specs.declared.meters.Meters.{Meters}
use Rattle.day_rules.specs.declared.step.MeterStep.{MeterStep}
use Rattle.shared_desk.specs.Passes.{AreRead, IsNotedAs}
use Rattle.shared_desk.specs.Callers.{DeskPass, IsRightPass}
use Rattle.shared_desk.proofs.Steps.{as_many}
use Rattle.exchange_serving.specs.Showing.{ServesShown}
use Rattle.turnstile.specs.Passes.{IsSamePass}
use Rattle.turnstile.specs.declared.noted.Noted.{Noted}
use Rattle.exchange_serving.specs.Served.{AreServedOver, Connection, IsServed, IsServedOver, as_new, showing, shown_after, shown_by, talk_of, untaken}
use Rattle.exchange_serving.specs.Rounds.{AreOwn, IsRound, IsWhole, is_out_of_memory}

-- a longer history after some steps
pub steps_longer : (way : Way) (on : GoOn way) (terms : DeskTerms) (seen now more : List Entry) (steps : List Step) → AreSteps way terms seen steps now → way.goes now more → AreSteps way terms seen steps more
steps_longer way on terms seen now more steps are p = subst (λ (l : List Step). AreSteps way terms seen l more) (append-nil steps) (steps_join way on terms seen now more steps [] are p)

-- lists that were read go on
read_on : (seen now : List MeterStep) (ms : List Meters) → AreRead seen ms now → IsPrefix seen now
read_on seen now [] are = are
read_on seen now (m ∷ ms) are = prefix_on seen are.0 now are.1 (read_on are.0 now ms are.3)

same_again : (p q s : DeskPass) → IsSamePass p q → IsSamePass q s → IsSamePass p s
same_again p q s a b = (b.0 ∙ a.0, b.1 ∙ a.1, b.2 ∙ a.2, b.3 ∙ a.3, b.4 ∙ a.4)

-- a sink that took nothing
known_none : (held : Option (List ℕ)) → append_known held [] ≡ held
known_none None = refl
known_none (Some h) = ap (λ (bytes : List ℕ). Some bytes) (append-nil h)

-- by the tests of a round
shown_is : (shown missed short : Bool) → ((not shown || missed) || short) ≡ false → (shown ≡ true) × (missed ≡ false)
shown_is true false short e = (refl, refl)
shown_is true true short e = absurd (cc e)
shown_is false missed short e = absurd (cc e)

short_is : (shown missed short : Bool) → short ≡ true → ((not shown || missed) || short) ≡ true
short_is true false short e = e
short_is true true short e = refl
short_is false missed short e = refl

no_causes : (read write : ℕ) → HasCauses read read write write ConnEnd.OutOfMemory
no_causes read write = record {
  read_later = omega arith;
  write_later = omega arith;
  read_fault = λ e. absurd (cc e);
  write_fault = λ e. absurd (cc e);
  read_same = λ e. refl;
  write_same = λ e. refl;
}

module _ {L : Type 0} (l : links.Ghosts L) (IsMoment : ℕ → Type 0) (r : Roster) where
  -- memory was refused before any message came
  never_begun : (lanes : List (Lane L)) (t : Talked) → EndsSo l IsMoment r t t lanes (begun lanes) ConnEnd.OutOfMemory
  never_begun lanes t = (
    [],
    begun lanes,
    record { out = []; replies = (refl, refl); took = sym (known_none t.held) },
    record { kept = All-nil (λ (m : Request). is_kept m.head ≡ true); few = omega arith },
    inl (refl, refl, refl),
  )

  -- what a pass has seen is legal
  day_by : (opened : OpenedWith) (q : DeskPass) → terms_in opened ≡ desk_terms r → IsRightPass opened q → IsDay (desk_terms r).day q.seen
  day_by opened q terms right = subst (λ (t : DeskTerms). IsDay t.day q.seen) terms right.legal

  pub unserved : (opened : OpenedWith) (p q : DeskPass) (told : PairTold) (lanes : List (Lane L)) (b1 b2 : List MeterStep) → terms_in opened ≡ desk_terms r → IsRightPass opened q →
      IsSamePass p q → q.turns ≡ p.turns → IsPrefix p.seen q.seen → IsPrefix b1 b2 → IsRound l IsMoment r p q told told lanes lanes (length b1) (length b2) true
  unserved opened p q told lanes b1 b2 terms right same turns later read = record {
    course = begun lanes;
    end = ConnEnd.OutOfMemory;
    lanes_are = refl;
    ends = never_begun lanes (talk_of told);
    whole = refl;
    causes = no_causes told.read_faults told.write_faults;
    legal = (day_by opened q terms right).legal;
    same = same;
    noted = [];
    turns = turns ∙ sym (append-nil p.turns);
    are = tt;
    from = p.seen;
    start = ([], append-nil p.seen);
    since = λ e. absurd (cc e);
    along = later;
    meters = λ e. absurd (cc e);
    shown = λ e. absurd (cc e);
    no_fewer = prefix_short b1 b2 read;
    wanting = λ e. refl;
  }

  -- a connection between two looks at the board
  pub served_between : (opened : OpenedWith) (p p1 p2 q : DeskPass) (before now : PairTold) (lanes lanes_now : List (Lane L)) (b0 b1 b2 b3 : List MeterStep) (end : ConnEnd) (shown missed : Bool) →
      terms_in opened ≡ desk_terms r → IsRightPass opened q →
      IsSamePass p p1 → p1.turns ≡ p.turns → IsPrefix p.seen p1.seen → IsPrefix b0 b1 → b1 ≡ steps_of p1.seen →
      ServesShown l IsMoment r (talk_of before) (talk_of now) lanes lanes_now p1 p2 b1 b2 end missed → IsWhole before.tape now.tape →
      HasCauses before.read_faults now.read_faults before.write_faults now.write_faults end →
      IsSamePass p2 q → q.turns ≡ p2.turns → IsPrefix p2.seen q.seen → IsPrefix b2 b3 → (shown ≡ true → b3 ≡ steps_of q.seen) →
      IsRound l IsMoment r p q before now lanes lanes_now (length b0) (length b3) ((not shown || missed) || is_out_of_memory end)
  served_between opened p p1 p2 q before now lanes lanes_now b0 b1 b2 b3 end shown missed terms right same1 turns1 start read1 first shows whole causes same2 turns2 later read last =
      let serves = shows.serves in
      let g = serves.gains in
      let day = day_by opened q terms right in
      let long : length b1 ≡ length p1.seen = ap (λ (x : List MeterStep). length x) first ∙ as_many p1.seen in
      record {
        course = serves.course;
        end = end;
        lanes_are = sym serves.lanes_are;
        ends = serves.ends;
        whole = whole;
        causes = causes;
        legal = day.legal;
        same = same_again p p2 q (same_again p p1 p2 same1 g.same) same2;
        noted = g.noted;
        turns = turns2 ∙ (g.turns ∙ ap (λ (ts : List (Noted Turn)). ts ++ g.noted) turns1);
        are = g.are;
        from = p1.seen;
        start = start;
        since = λ e. omega (arith, prefix_short b0 b1 read1, long);
        along = steps_longer shared shared_on (desk_terms r) p1.seen p2.seen q.seen serves.course.steps g.along later;
        meters = λ e. steps_longer showing shared_on (desk_terms r) p1.seen p2.seen q.seen serves.course.steps (shows.shown (shown_is shown missed (is_out_of_memory end) e).1) later;
        shown = λ e. ap (λ (x : List MeterStep). length x) (last (shown_is shown missed (is_out_of_memory end) e).0) ∙ as_many q.seen;
        no_fewer = prefix_short b0 b3 (prefix_on b0 b1 b3 read1 (prefix_on b1 b2 b3 (read_on b1 b2 (meters_read serves.course.steps) serves.read) read));
        wanting = λ e. short_is shown missed (is_out_of_memory end) (ap is_out_of_memory e);
      }

  -- what the sink took
  took_some : (before now : Talked) (lanes : List (Lane L)) (course : Course L) (end : ConnEnd) → EndsSo l IsMoment r before now lanes course end → (bytes : List ℕ) × Took before.held now.held bytes
  took_some before now lanes course ConnEnd.Closed e = (e.1.out, e.1.took)
  took_some before now lanes course ConnEnd.Cut e = (e.1.out, e.1.took)
  took_some before now lanes course (ConnEnd.Refused fault) e = (_, e.took)
  took_some before now lanes course ConnEnd.ReadFault e = (e.1.out, e.1.took)
  took_some before now lanes course ConnEnd.WriteFault (inl e) = (_, e.took.3)
  took_some before now lanes course ConnEnd.WriteFault (inr e) = (_, e.1.took.3)
  took_some before now lanes course ConnEnd.Spent e = (e.1.out, e.1.took)
  took_some before now lanes course ConnEnd.OutOfMemory e = (e.2.out, e.2.took)

  -- the pair reported so when it came
  tape_new : (before now : Option Tape) → IfSome before (λ t. t.taken ≡ []) → IsWhole before now → before ≡ option_map untaken now
  tape_new None None new whole = refl
  tape_new None (Some n) new whole = absurd (cc whole)
  tape_new (Some b) None new whole = absurd (cc whole)
  tape_new (Some b) (Some n) new whole =
      let all : n.taken ++ n.left ≡ b.taken ++ b.left = ap (λ (o : Option (List ℕ)). unwrap_or o []) whole in
      let left : b.left ≡ n.taken ++ n.left = ap (λ (x : List ℕ). x ++ b.left) (sym new) ∙ sym all in
      λ i. Some (record { taken = new i; left = left i })

  held_new : (before now : Option (List ℕ)) (bytes : List ℕ) → IfSome before (λ h. h ≡ []) → now ≡ append_known before bytes → before ≡ option_map (λ h. []) now
  held_new None now bytes new took = sym (ap (λ (o : Option (List ℕ)). option_map (λ h. []) o) took)
  held_new (Some b) now bytes new took = ap (λ (h : List ℕ). Some h) new ∙ sym (ap (λ (o : Option (List ℕ)). option_map (λ h. []) o) took)

  -- what a worker was shown by connections and one more
  shown_more : (known : ℕ) (cs : List (Connection L)) (c : Connection L) → shown_by known (cs ++ c ∷ []) ≡ shown_after (shown_by known cs) c
  shown_more known [] c = refl
  shown_more known (d ∷ cs) c = shown_more (shown_after known d) cs c

  -- it is no more than its reader was shown
  shown_few : (known read read_now : ℕ) (c : Connection L) → known ≤ read → read ≤ read_now → (c.pair.wanting ≡ false → read_now ≡ length c.seen) → shown_after known c ≤ read_now
  shown_few known read read_now c few more all = go c.pair.wanting all
    where
      go : (b : Bool) → (b ≡ false → read_now ≡ length c.seen) → (if b then known else length c.seen) ≤ read_now
      go true is = omega (arith, few, more)
      go false is = let e = is refl in omega (arith, e)

  module _ (opened : List Entry) where
    abbrev pub OverLanes : ℕ → List Entry → ServedPair Turn → List (Lane L) → Course L → ConnEnd → Type 0
    OverLanes = IsServedOver l IsMoment r opened

    -- the pair that was served, over the lanes that a round began with
    pub served_over : (p q : DeskPass) (before now : PairTold) (lanes lanes_now : List (Lane L)) (known read read_now : ℕ) (short : Bool) → known ≤ read →
        IsNew before → p.turns ≡ [] → IsPrefix opened p.seen → (round : IsRound l IsMoment r p q before now lanes lanes_now read read_now short) →
        OverLanes known q.seen (record { told = now; turns = q.turns; wanting = short }) lanes round.course round.end
    served_over p q before now lanes lanes_now known read read_now short few new none begins round =
        let took = took_some (talk_of before) (talk_of now) lanes round.course round.end round.ends in
        let was : talk_of before ≡ talk_of (as_new now) = λ i. record { tape = tape_new before.tape now.tape new.untaken round.whole i; held = held_new before.held now.held took.0 new.unput took.1 i } in record {
          ends = subst (λ (t : Talked). EndsSo l IsMoment r t (talk_of now) lanes round.course round.end) was round.ends;
          causes = subst (λ (n : ℕ). HasCauses n now.read_faults 0 now.write_faults round.end) new.unread
              (subst (λ (n : ℕ). HasCauses before.read_faults now.read_faults n now.write_faults round.end) new.unwritten round.causes);
          from = round.from;
          begins = prefix_on opened p.seen round.from begins round.start;
          since = λ e. let s = round.since e in omega (arith, few, s);
          along = round.along;
          turns = subst (λ (ts : List (Noted Turn)). AllZip IsNotedAs ts (calls_of round.course.steps)) (sym (round.turns ∙ ap (λ (ts : List (Noted Turn)). ts ++ round.noted) none)) round.are;
          meters = round.meters;
          wanting = round.wanting;
        }

    -- over the lanes of its worker
    pub served_of : (workers : List (List (Lane L))) (p q : DeskPass) (before now : PairTold) (lanes lanes_now : List (Lane L)) (read read_now : ℕ) (short : Bool) →
        IsNew before → p.turns ≡ [] → IsPrefix opened p.seen → AreOwn l IsMoment r opened workers lanes read → IsRound l IsMoment r p q before now lanes lanes_now read read_now short →
        IsServed l IsMoment r opened workers q.seen (record { told = now; turns = q.turns; wanting = short })
    served_of workers p q before now lanes lanes_now read read_now short new none begins own round = record {
      worker = own.worker;
      came_with = own.came_with;
      is_worker = own.is_worker;
      earlier = own.earlier;
      lanes = lanes;
      are_left = own.are_left;
      course = round.course;
      end = round.end;
      served = served_over p q before now lanes lanes_now (shown_by 0 own.earlier) read read_now short own.shown new none begins round;
    }

    over_more : (known : ℕ) (lanes mid now : List (Lane L)) (cs : List (Connection L)) (c : Connection L) → AreServedOver l IsMoment r opened known lanes cs mid → IsLegal (desk_terms r).day c.seen →
        OverLanes (shown_by known cs) c.seen c.pair mid c.course c.end → now ≡ c.course.lanes → AreServedOver l IsMoment r opened known lanes (cs ++ c ∷ []) now
    over_more known lanes mid now [] c are legal over is = (legal, subst (λ (ls : List (Lane L)). OverLanes known c.seen c.pair ls c.course c.end) are over, is)
    over_more known lanes mid now (d ∷ cs) c are legal over is = (are.0, are.1, over_more (shown_after known d) d.course.lanes mid now cs c are.2 legal over is)

    -- the lanes that a round leaves are still of that worker
    pub own_on : (workers : List (List (Lane L))) (p q : DeskPass) (before now : PairTold) (lanes lanes_now : List (Lane L)) (read read_now : ℕ) (short : Bool) → IsNew before → p.turns ≡ [] → IsPrefix opened p.seen →
        AreLanes r lanes_now → AreOwn l IsMoment r opened workers lanes read → IsRound l IsMoment r p q before now lanes lanes_now read read_now short → AreOwn l IsMoment r opened workers lanes_now read_now
    own_on workers p q before now lanes lanes_now read read_now short new none begins are own round =
        let pair : ServedPair Turn = record { told = now; turns = q.turns; wanting = short } in
        let c : Connection L = record { pair = pair; seen = q.seen; course = round.course; end = round.end } in
        let over = served_over p q before now lanes lanes_now (shown_by 0 own.earlier) read read_now short own.shown new none begins round in record {
          are = are;
          worker = own.worker;
          came_with = own.came_with;
          is_worker = own.is_worker;
          earlier = own.earlier ++ c ∷ [];
          are_left = over_more 0 own.came_with lanes lanes_now own.earlier c own.are_left round.legal over round.lanes_are;
          shown = subst (λ (n : ℕ). n ≤ read_now) (sym (shown_more 0 own.earlier c)) (shown_few (shown_by 0 own.earlier) read read_now c own.shown round.no_fewer round.shown);
        }

    -- a pair that was served stays so in a history that goes on
    pub served_longer : (workers : List (List (Lane L))) (history more : List Entry) (s : ServedPair Turn) → IsPrefix history more → IsServed l IsMoment r opened workers history s → IsServed l IsMoment r opened workers more s
    served_longer workers history more s p served =
        let over = served.served in record {
          worker = served.worker;
          came_with = served.came_with;
          is_worker = served.is_worker;
          earlier = served.earlier;
          lanes = served.lanes;
          are_left = served.are_left;
          course = served.course;
          end = served.end;
          served = record {
            ends = over.ends;
            causes = over.causes;
            from = over.from;
            begins = over.begins;
            since = over.since;
            along = steps_longer shared shared_on (desk_terms r) over.from history more served.course.steps over.along p;
            turns = over.turns;
            meters = λ e. steps_longer showing shared_on (desk_terms r) over.from history more served.course.steps (over.meters e) p;
            wanting = over.wanting;
          };
        }
