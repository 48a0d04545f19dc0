-- A message by its meaning: what its lanes and its steps come to.
use Rattle.std.proofs.Common.{◌≡◌, ◌⊎◌, inl, inr, ℕ, ◌≤◌, List, [], ◌∷◌, ◌++◌, length, map, Option, Result, Ok, Err, IfOk, OnErr, refl, sym, ap, ap₂, ◌∙◌, subst, arith}
use Rattle.std.specs.Borrow.{GName}
use Rattle.std.specs.List.{All}
use Rattle.std.proofs.lemmas.List.{length-map}
use Rattle.std.proofs.lemmas.List.Elements.{All-cons, All-head, All-tail}
use Rattle.adx_desk.specs.Rosters.{desk_terms}
use Rattle.adx_links.specs.Links.{Course, Exchanges}
use Rattle.adx_links.specs.declared.link.Link.{Ghosts as LinkGhosts}
use Rattle.adx_json.specs.Tree.{Tree}
use Rattle.adx_json.specs.Spelling.{spelling}
use Rattle.answer_lines.specs.Table.{closing_table}
use Rattle.day_rules.specs.declared.answer.Seen.{Seen}
use Rattle.day_rules.specs.declared.entry.Entry.{Entry}
use Rattle.day_rules.specs.Replies.{Call, seen_in, set_budget}
use Rattle.day_rules.specs.Entries.{BudgetChange}
use Rattle.day_rules.specs.declared.meters.Meters.{Meters}
use Rattle.deal_floor.specs.declared.place.Place.{Place}
use Rattle.deal_floor.specs.declared.roster.Roster.{Roster}
use Rattle.adx_desk.specs.DayDesks.{Looks}
use Rattle.adx_desk.specs.Steps.{Step, looked, metered, took}
use Rattle.adx_desk.specs.declared.day_desk.DayDesk.{Ghosts as DeskGhosts}
use Rattle.fan_out.specs.declared.answer.BidderAnswer.{BidderAnswer}
use Rattle.fan_out.specs.declared.answer.TheConstants.{ANSWER_LIMIT}
use Rattle.fan_out.specs.declared.lane.Lane.{Lane}
use Rattle.fan_out.specs.Answers.{said_by}
use Rattle.fan_out.specs.Gathering.{AreWorked, WereWorked, outcomes_of}
use Rattle.fan_out.specs.Lanes.{IsWorked, Outcome, works}
use Rattle.http_connection.specs.Messages.{Request}
use Rattle.rtb_request.specs.ForBidders.{request_for_bidders}
use Rattle.rtb_request.specs.declared.bid_request.BidRequest.{BidRequest}
use Rattle.exchange_messages.specs.Asking.{AsksAt, LeavesCall, StopsAt, TakesCall}
use Rattle.exchange_messages.specs.Floors.{AnswersHere, AreLanes, GivesUpHere, IsFloor, IsKept, IsMomentOf}
use Rattle.exchange_messages.specs.declared.clock.Clock.{Ghosts as ClockGhosts}
use Rattle.exchange_messages.specs.declared.floor.Floor.{Floor}
use Rattle.exchange_messages.specs.Meanings.{Meaning, Means, asks, refused, sets_budget, wants_books, wants_meters}
use Rattle.exchange_messages.specs.Meters.{meters_text}
use Rattle.exchange_messages.proofs.Changes.{IsChange}
use Rattle.exchange_messages.specs.Replies.{Reply, refusal_reply, with_status}
use Rattle.exchange_messages.specs.Turns.{Gathers, terms_by}
use Rattle.exchange_messages.specs.declared.refusal.Refusal.{Refusal}

-- each lane's work came to an outcome
worked_length : {L : Type 0} (Works : Lane L → Lane L → Outcome → Type 0) (old new : List (Lane L)) (outcomes : List Outcome) → AreWorked Works old new outcomes → length outcomes ≡ length old
worked_length Works [] [] [] worked = refl
worked_length Works (l ∷ ls) (n ∷ ns) (o ∷ os) worked = let e = worked_length Works ls ns os worked.1 in omega (arith, e)
worked_length Works old new outcomes worked = absurd worked

module _ {L : Type 0} (exchanges : L → Option Exchanges) (course : L → Option Course) (faults : L → ℕ) (stands_on : L → List GName) (body id : List ℕ) where
  worked_places : (old new : List (Lane L)) (outcomes : List Outcome) → AreWorked (IsWorked exchanges course faults stands_on body id) old new outcomes
      → map (λ (l : Lane L). l.place) new ≡ map (λ (l : Lane L). l.place) old
  worked_places [] [] [] worked = refl
  worked_places (l ∷ ls) (n ∷ ns) (o ∷ os) worked = ap₂ (λ (p : Place) (ps : List Place). p ∷ ps) worked.0.place (worked_places ls ns os worked.1)
  worked_places old new outcomes worked = absurd worked

  worked_limits : (old new : List (Lane L)) (outcomes : List Outcome) → AreWorked (IsWorked exchanges course faults stands_on body id) old new outcomes
      → All (λ (l : Lane L). l.conn.limit ≡ ANSWER_LIMIT) old → All (λ (l : Lane L). l.conn.limit ≡ ANSWER_LIMIT) new
  worked_limits [] [] [] worked each = each
  worked_limits (l ∷ ls) (n ∷ ns) (o ∷ os) worked each =
      All-cons (λ (x : Lane L). x.conn.limit ≡ ANSWER_LIMIT) n ns (worked.0.limit ∙ All-head (λ (x : Lane L). x.conn.limit ≡ ANSWER_LIMIT) l ls each)
      (worked_limits ls ns os worked.1 (All-tail (λ (x : Lane L). x.conn.limit ≡ ANSWER_LIMIT) l ls each))
  worked_limits old new outcomes worked each = absurd worked

  -- lanes that were worked are still the lanes of the roster
  pub lanes_worked : (r : Roster) (old new : List (Lane L)) → WereWorked (IsWorked exchanges course faults stands_on body id) old new → AreLanes r old → AreLanes r new
  lanes_worked r old new worked are = record {
    places = worked_places old new worked.0 worked.1 ∙ are.places;
    limits = worked_limits old new worked.0 worked.1 are.limits;
  }

  pub lanes_on : (r : Roster) (old new : List (Lane L)) → (new ≡ old) ⊎ WereWorked (IsWorked exchanges course faults stands_on body id) old new → AreLanes r old → AreLanes r new
  lanes_on r old new (inl same) are = subst (AreLanes r) (sym same) are
  lanes_on r old new (inr worked) are = lanes_worked r old new worked are

module _ {L : Type 0} (Works : List ℕ → List ℕ → Lane L → Lane L → Outcome → Type 0) where
  -- lanes whose answers were gathered were worked, or they are as they were
  pub gathered_left : (seen : Seen) (t : Tree) (asked : BidRequest) (old new : List (Lane L)) (answers : List BidderAnswer) → Gathers Works seen t asked old new answers
      → (new ≡ old) ⊎ WereWorked (Works (spelling (request_for_bidders t)) asked.id) old new
  gathered_left Seen.New t asked old new answers gathered = inr (outcomes_of answers, gathered)
  gathered_left seen t asked old new answers gathered = inl gathered.0

  -- no more answers were gathered than there are bidders
  pub gathered_few : (r : Roster) (seen : Seen) (t : Tree) (asked : BidRequest) (old new : List (Lane L)) (answers : List BidderAnswer) → Gathers Works seen t asked old new answers
      → AreLanes r old → length answers ≤ length r.bidders
  gathered_few r Seen.New t asked old new answers gathered are =
      let outcomes = worked_length (Works (spelling (request_for_bidders t)) asked.id) old new (outcomes_of answers) gathered in
      let said : length (outcomes_of answers) ≡ length answers = length-map answers (λ a. Ok (said_by a)) in
      let lanes : length old ≡ length r.bidders = sym (length-map old (λ (l : Lane L). l.place)) ∙ ap length are.places in
      omega (arith, outcomes, said, lanes)
  gathered_few r seen t asked old new answers gathered are = let none = ap length gathered.1 in omega (arith, none)

-- the request's bidders gave these answers by a history
abbrev pub GathersAt : {L : Type 0} → LinkGhosts L → Tree → BidRequest → List (Lane L) → List (Lane L) → List BidderAnswer → List Entry → Type 0
GathersAt l t asked old new answers at = Gathers (works l) (seen_in at asked.id asked.digest) t asked old new answers

-- steps after steps
abbrev pub JoinsSteps : {Y : Type 0} → (Y → Y → List Step → Type 0) → Type 0
JoinsSteps {Y = Y} runs = (a b c : Y) (first rest : List Step) → runs a b first → runs b c rest → runs a c (first ++ rest)

module _ {Y : Type 0} (runs : Y → Y → List Step → Type 0) (join : JoinsSteps runs) where
  -- either way its steps are said
  pub request_runs : {A E : Type 0} (old mid new : Y) (r : Roster) (IsMoment : ℕ → Type 0) (asked : BidRequest) (lent : List BidderAnswer) (said : A → Reply) (at : List Entry) (result : Result A E) → runs old mid (looked at ∷ [])
      → IfOk result (λ a. AsksAt runs mid new r IsMoment asked lent (said a)) → OnErr result (StopsAt runs mid new r IsMoment asked lent ⊎ runs mid new [])
      → (steps : List Step) × runs old new steps
  request_runs old mid new r IsMoment asked lent said at (Ok a) look asked_so stopped = (looked at ∷ asked_so.steps, join old mid new (looked at ∷ []) asked_so.steps look asked_so.ran)
  request_runs old mid new r IsMoment asked lent said at (Err e) look asked_so (inl stopped) = (looked at ∷ stopped.steps, join old mid new (looked at ∷ []) stopped.steps look stopped.ran)
  request_runs old mid new r IsMoment asked lent said at (Err e) look asked_so (inr none) = (looked at ∷ [], join old mid new (looked at ∷ []) [] look none)

  -- either way the step of a change is said
  pub change_runs : {A E : Type 0} (old new : Y) (r : Roster) (call : Call) (said : A → Reply) (result : Result A E) → IfOk result (λ a. TakesCall runs old new r call (said a)) → OnErr result (LeavesCall runs old new call)
      → (steps : List Step) × runs old new steps
  change_runs old new r call said (Ok a) taken left = (took taken.called ∷ [], taken.ran)
  change_runs old new r call said (Err e) taken left = (took left.0 ∷ [], left.2)

module _ {Y L C G : Type 0} (y : DeskGhosts Y) where
  -- what is kept from a floor to the next, and from that to a later one
  pub kept_on : (old mid new : Floor Y L C G) → IsKept y old mid → IsKept y mid new → IsKept y old new
  kept_on old mid new a b = record {
    roster = b.roster ∙ a.roster;
    clock = b.clock ∙ a.clock;
    gatherer = b.gatherer ∙ a.gatherer;
    desk = b.desk ∙ a.desk;
    lanes = b.lanes ∙ a.lanes;
  }

  -- a floor after steps
  pub floor_on : (same : (a b : Y) (steps : List Step) → y.runs a b steps → y.terms b ≡ y.terms a) (old new : Floor Y L C G) (steps : List Step) → new.roster ≡ old.roster → IsFloor y old → y.runs old.desk new.desk steps
      → AreLanes old.roster.now new.lanes.now.items → IsFloor y new
  floor_on same old new steps roster floor ran are = record {
    terms = same old.desk new.desk steps ran ∙ floor.terms ∙ ap (λ r. desk_terms r.now) (sym roster);
    lanes_are = subst (λ r. AreLanes r.now new.lanes.now.items) (sym roster) are;
  }

module _ {Y L C G : Type 0} (y : DeskGhosts Y) (l : LinkGhosts L) (c : ClockGhosts C) (join : JoinsSteps y.runs) where
  -- a request for bids that was replied, by the answers that were lent
  pub request_answered : (old new : Floor Y L C G) (mid : Y) (m : Request) (t : Tree) (asked : BidRequest) (answers lent : List BidderAnswer) (said : Reply) → lent ≡ answers
      → Looks y.runs old.desk mid (GathersAt l t asked old.lanes.now.items new.lanes.now.items answers)
      → AsksAt y.runs mid new.desk old.roster.now (IsMomentOf (c.moment old.clock.now)) asked lent said → Means m (asks t asked) → AnswersHere y l c old new m said
  request_answered old new mid m t asked answers lent said same look at means = record {
    steps = looked look.0 ∷ at.steps;
    answered = record {
      meaning = asks t asked;
      means = means;
      answered = record {
        looked_at = look.0;
        answers = lent;
        gathered = subst (λ (x : List BidderAnswer). GathersAt l t asked old.lanes.now.items new.lanes.now.items x look.0) (sym same) look.2;
        now = at.now;
        moment = at.moment_is;
        ticked = at.ticked;
        ticks = at.ticks;
        later = at.steps;
        behind = at.behind;
        are = refl;
      };
    };
    ran = join old.desk mid new.desk (looked look.0 ∷ []) at.steps look.1 at.ran;
  }

  -- one for which memory was refused before its tick
  pub request_dropped : (old new : Floor Y L C G) (m : Request) (t : Tree) (asked : BidRequest)
      → Looks y.runs old.desk new.desk (λ at. (new.lanes.now.items ≡ old.lanes.now.items) ⊎ WereWorked (works l (spelling (request_for_bidders t)) asked.id) old.lanes.now.items new.lanes.now.items)
      → Means m (asks t asked) → GivesUpHere y l c old new m
  request_dropped old new m t asked look means = record {
    steps = looked look.0 ∷ [];
    left_unmade = inr (inr (inl (t, asked, means, (look.0, [], refl, inl (refl, look.2)))));
    ran = look.1;
  }

  -- or after it
  pub request_stopped : (old new : Floor Y L C G) (mid : Y) (m : Request) (t : Tree) (asked : BidRequest) (answers lent : List BidderAnswer) → lent ≡ answers
      → Looks y.runs old.desk mid (GathersAt l t asked old.lanes.now.items new.lanes.now.items answers)
      → StopsAt y.runs mid new.desk old.roster.now (IsMomentOf (c.moment old.clock.now)) asked lent ⊎ y.runs mid new.desk [] → Means m (asks t asked) → GivesUpHere y l c old new m
  request_stopped old new mid m t asked answers lent same look (inl at) means = record {
    steps = looked look.0 ∷ at.steps;
    left_unmade = inr (inr (inl (
      t,
      asked,
      means,
      (
        look.0,
        at.steps,
        refl,
        inr (lent, subst (λ (x : List BidderAnswer). GathersAt l t asked old.lanes.now.items new.lanes.now.items x look.0) (sym same) look.2, at.now, at.moment_is, at.ticked, at.ticks, at.calls),
      ),
    )));
    ran = join old.desk mid new.desk (looked look.0 ∷ []) at.steps look.1 at.ran;
  }
  request_stopped old new mid m t asked answers lent same look (inr none) means =
      request_dropped old new m t asked
      (look.0, join old.desk mid new.desk (looked look.0 ∷ []) [] look.1 none, gathered_left (works l) (seen_in look.0 asked.id asked.digest) t asked old.lanes.now.items new.lanes.now.items answers look.2) means

  -- a message that is refused
  pub refused_answered : (old : Floor Y L C G) (m : Request) (why : Refusal) (said : Reply) → y.runs old.desk old.desk [] → Means m (refused why) → said ≡ refusal_reply why → AnswersHere y l c old old m said
  refused_answered old m why said none means replied = record { steps = []; answered = record { meaning = refused why; means = means; answered = (refl, refl, replied) }; ran = none }

  -- one that wants the books
  pub books_answered : (old new : Floor Y L C G) (m : Request) (said : Reply) (at : List Entry) → new.lanes ≡ old.lanes → y.runs old.desk new.desk (looked at ∷ []) → Means m wants_books
      → said ≡ with_status 200 (closing_table old.roster.now.campaigns (terms_by old.roster.now) at) → AnswersHere y l c old new m said
  books_answered old new m said at lanes ran means replied =
      record { steps = looked at ∷ []; answered = record { meaning = wants_books; means = means; answered = (at, refl, ap (λ x. x.now.items) lanes, replied) }; ran = ran }

  -- and whose reply wasn't made
  pub books_dropped : (old new : Floor Y L C G) (m : Request) (at : List Entry) → new.lanes ≡ old.lanes → y.runs old.desk new.desk (looked at ∷ []) → Means m wants_books → GivesUpHere y l c old new m
  books_dropped old new m at lanes ran means = record { steps = looked at ∷ []; left_unmade = inr (inl (at, ap (λ x. x.now.items) lanes, inl (means, refl))); ran = ran }

  -- one that wants the meters
  pub meters_answered : (old new : Floor Y L C G) (m : Request) (said : Reply) (at : List Entry) (meters : Meters) → new.lanes ≡ old.lanes → y.runs old.desk new.desk (metered at meters ∷ []) → Means m wants_meters
      → said ≡ with_status 200 (meters_text meters) → AnswersHere y l c old new m said
  meters_answered old new m said at meters lanes ran means replied =
      record { steps = metered at meters ∷ []; answered = record { meaning = wants_meters; means = means; answered = (at, meters, refl, ap (λ x. x.now.items) lanes, replied) }; ran = ran }

  pub meters_dropped : (old new : Floor Y L C G) (m : Request) (at : List Entry) (meters : Meters) → new.lanes ≡ old.lanes → y.runs old.desk new.desk (metered at meters ∷ []) → Means m wants_meters → GivesUpHere y l c old new m
  meters_dropped old new m at meters lanes ran means =
      record { steps = metered at meters ∷ []; left_unmade = inr (inl (at, ap (λ x. x.now.items) lanes, inr (means, meters, refl))); ran = ran }

  -- a change of a budget
  pub change_answered : (old new : Floor Y L C G) (m : Request) (meaning : Meaning) (x : BudgetChange) (said : Reply) → new.lanes ≡ old.lanes → IsChange old.roster.now.campaigns meaning x
      → TakesCall y.runs old.desk new.desk old.roster.now (set_budget x) said → Means m meaning → AnswersHere y l c old new m said
  change_answered old new m meaning x said lanes named taken means = record {
    steps = took taken.called ∷ [];
    answered = record {
      meaning = sets_budget named.seat named.cid named.change named.budget;
      means = subst (Means m) named.meant means;
      answered = (taken.called, taken.is ∙ ap set_budget named.is, refl, ap (λ x. x.now.items) lanes, taken.replied);
    };
    ran = taken.ran;
  }

  pub change_stopped : (old new : Floor Y L C G) (m : Request) (meaning : Meaning) (x : BudgetChange) → new.lanes ≡ old.lanes → IsChange old.roster.now.campaigns meaning x
      → LeavesCall y.runs old.desk new.desk (set_budget x) → Means m meaning → GivesUpHere y l c old new m
  change_stopped old new m meaning x lanes named left means = record {
    steps = took left.0 ∷ [];
    left_unmade = inr (inr (inr (
      named.seat,
      named.cid,
      named.change,
      named.budget,
      subst (Means m) named.meant means,
      left.0,
      left.1 ∙ ap set_budget named.is,
      refl,
      ap (λ x. x.now.items) lanes,
    )));
    ran = left.2;
  }

  -- one whose reply wasn't made, before anything was done
  pub nothing_done : (old : Floor Y L C G) (m : Request) → y.runs old.desk old.desk [] → GivesUpHere y l c old old m
  nothing_done old m none = record { steps = []; left_unmade = inl (refl, refl); ran = none }
