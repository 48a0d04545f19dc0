-- What a message does and is answered, on a day with some history and with lanes to the bidders. This project's own: that a
-- request is looked up before its bidders are asked, and that a tick comes before each request that is read.
use Rattle.std.specs.Prelude.{◌≡◌, ◌⊎◌, ℕ, List, [], ◌∷◌, map, Option, Some, None, true, false, Bool}
use Rattle.adx_json.specs.Tree.{Tree}
use Rattle.adx_json.specs.Spelling.{spelling}
use Rattle.adx_desk.specs.Rosters.{desk_terms}
use Rattle.adx_units.specs.declared.units.Units.{Units}
use Rattle.answer_lines.specs.Answers.{answer_line, ask_told, below_line, budgetreused_line, conflict_line, dayfull_line, late_line, reused_line}
use Rattle.answer_lines.specs.Table.{closing_table}
use Rattle.answer_lines.specs.declared.faults.Fault.{Fault}
use Rattle.script_lines.specs.Making.{ask_of}
use Rattle.day_rules.specs.declared.answer.Answer.{Answer}
use Rattle.day_rules.specs.declared.answer.Seen.{Seen}
use Rattle.day_rules.specs.declared.ask.Ask.{Ask}
use Rattle.day_rules.specs.declared.entry.Entry.{Entry}
use Rattle.day_rules.specs.Entries.{change_of}
use Rattle.day_rules.specs.Replies.{Call, ask, notice, set_budget, tick, is_awarded, reply, seen_in, with_entry}
use Rattle.day_rules.specs.Terms.{Terms}
use Rattle.deal_floor.specs.declared.roster.Roster.{Roster}
use Rattle.fan_out.specs.declared.answer.BidderAnswer.{BidderAnswer}
use Rattle.fan_out.specs.declared.lane.Lane.{Lane}
use Rattle.fan_out.specs.Gathering.{AreWorked, WereWorked, outcomes_of}
use Rattle.fan_out.specs.Lanes.{Outcome}
use Rattle.http_connection.specs.Messages.{Request}
use Rattle.rtb_request.specs.ForBidders.{request_for_bidders}
use Rattle.rtb_request.specs.declared.bid_request.BidRequest.{BidRequest}
use Rattle.rtb_response.specs.declared.bid_answer.BidAnswer.{BidAnswer}
use Rattle.adx_desk.specs.Called.{Called, Ended, wanted_memory, was_done, was_given_up}
use Rattle.adx_desk.specs.Steps.{Step, looked, metered, took}
use Rattle.day_rules.specs.declared.meters.Meters.{Meters}
use Rattle.script_lines.specs.Changes.{pair_place}
use Rattle.http_service.specs.declared.answer.Methods.{Methods}
use Rattle.exchange_messages.specs.Meanings.{Meaning, asks, notifies, sets_budget, wants_books, wants_meters, refused, Means}
use Rattle.exchange_messages.specs.Meters.{meters_text}
use Rattle.exchange_messages.specs.Replies.{Reply, fault_reply, no_content, refusal_reply, tick_fault_reply, with_status}
use Rattle.exchange_messages.specs.Sales.{IsSale}

-- what the day of a roster is opened with
abbrev pub terms_by : Roster → Terms
terms_by r = (desk_terms r).day

-- the bids that a bidder gave, if it gave some
abbrev pub given_by : BidderAnswer → Option BidAnswer
given_by (BidderAnswer.Bids a) = Some a
given_by BidderAnswer.NoBid = None
given_by (BidderAnswer.Refused why) = None
given_by BidderAnswer.LinkFault = None

-- the ask that a request and what its bidders answered make at a moment
abbrev pub ask_by : Roster → BidRequest → List BidderAnswer → ℕ → Ask
ask_by r asked answers now = ask_of asked r.campaigns (map given_by answers) now

-- the reply with the exchange's answer, which says the version of OpenRTB
abbrev pub sale_reply : List ℕ → Reply
sale_reply body = record { answer = record { status = 200; openrtb = true; allow = Methods.Unsaid }; body = body }

-- the reply by the ask that the history keeps: the exchange's answer where it was awarded, and else nothing
abbrev pub SoldReplies : Bool → Roster → Ask → Reply → Type 0
SoldReplies true r a said = (body : List ℕ) × IsSale r a body × (said ≡ sale_reply body)
SoldReplies false r a said = said ≡ no_content

-- the same, if there is one; a notice that is there already is about none
abbrev pub AskReplies : Roster → Option Ask → Reply → Type 0
AskReplies r None said = said ≡ no_content
AskReplies r (Some a) said = SoldReplies (is_awarded a) r a said

-- the reply to a call that was done, by its answer and the ask that it is about
abbrev pub AnswerReplies : Roster → Answer → Option Ask → Reply → Type 0
AnswerReplies r (Answer.Awarded place) about said = AskReplies r about said
AnswerReplies r (Answer.NoSale place) about said = AskReplies r about said
AnswerReplies r Answer.Counted about said = said ≡ no_content
AnswerReplies r (Answer.Repeat place) about said = AskReplies r about said
AnswerReplies r (Answer.Conflict kept) about said = said ≡ with_status 409 (conflict_line kept)
AnswerReplies r Answer.Unknown about said = said ≡ with_status 404 (answer_line r.campaigns Answer.Unknown None)
AnswerReplies r (Answer.Ticked ended) about said = said ≡ no_content
AnswerReplies r (Answer.Reused kept given) about said = said ≡ with_status 409 (reused_line kept given)
AnswerReplies r (Answer.DayFull which count) about said = said ≡ with_status 503 (dayfull_line which count)
AnswerReplies r Answer.Budgeted about said = said ≡ no_content
AnswerReplies r (Answer.BudgetReused kept) about said = said ≡ with_status 409 (budgetreused_line kept.0)
AnswerReplies r (Answer.Late last) about said = said ≡ with_status 409 (late_line last)
AnswerReplies r (Answer.BelowCommitted committed) about said = said ≡ with_status 409 (below_line committed.0)
AnswerReplies r Answer.NoCampaign about said = said ≡ with_status 404 (answer_line r.campaigns Answer.NoCampaign None)

-- the reply to a call by how it ended: by the answer that the history at which it was taken gives it, or by its fault
abbrev pub RepliesBy : Roster → List Entry → Call → Ended → Reply → Type 0
RepliesBy r at call was_done said =
    AnswerReplies r (reply (terms_by r) at call).answer
    (ask_told (with_entry at (reply (terms_by r) at call).entry) (reply (terms_by r) at call).answer) said
RepliesBy r at call (was_given_up fault) said = said ≡ fault_reply fault
RepliesBy r at call wanted_memory said = ⊥

-- the reply to a call, by the history at which it was taken and how it ended
abbrev pub CallReplies : Roster → Called → Reply → Type 0
CallReplies r c said = RepliesBy r c.at c.call c.ended said

-- the call of a change of a budget: of the campaign that the roster has with the seat and the id, or of none
abbrev pub change_call : Roster → List ℕ → List ℕ → ℕ → Units → Call
change_call r seat cid change budget = set_budget (change_of (pair_place r.campaigns seat cid) change budget)

-- After the tick of a request: where that was done, the request is asked at the same moment; where the disk's fault gave
-- it up, it isn't.
abbrev pub AsksBehind : Roster → BidRequest → List BidderAnswer → ℕ → Called → Ended → List Step → Reply → Type 0
AsksBehind r asked answers now ticked was_done steps said =
    (c : Called) × (c.call ≡ ask (ask_by r asked answers now)) × (steps ≡ took ticked ∷ took c ∷ []) × CallReplies r c said
AsksBehind r asked answers now ticked (was_given_up Fault.Disk) steps said = (steps ≡ took ticked ∷ []) × (said ≡ tick_fault_reply)
AsksBehind r asked answers now ticked (was_given_up (Fault.JournalFull size)) steps said = ⊥
AsksBehind r asked answers now ticked wanted_memory steps said = ⊥

module _ {L : Type 0} (Works : List ℕ → List ℕ → Lane L → Lane L → Outcome → Type 0) where
  -- The bidders are asked where the request is new, with the body that their lanes are worked with, and each gives its
  -- answer; else none is asked, and none answers.
  abbrev pub Gathers : Seen → Tree → BidRequest → List (Lane L) → List (Lane L) → List BidderAnswer → Type 0
  Gathers Seen.New t asked old new answers = AreWorked (Works (spelling (request_for_bidders t)) asked.id) old new (outcomes_of answers)
  Gathers (Seen.Same place) t asked old new answers = (new ≡ old) × (answers ≡ [])
  Gathers (Seen.Other kept) t asked old new answers = (new ≡ old) × (answers ≡ [])

module _ {L : Type 0} (Works : List ℕ → List ℕ → Lane L → Lane L → Outcome → Type 0) (IsMoment : ℕ → Type 0) (r : Roster) where
  -- a request for bids: a look at the history, what its bidders answered by it, and its tick and its ask at a moment of the
  -- clock
  pub record IsAsked (old : List (Lane L)) (t : Tree) (asked : BidRequest) (steps : List Step) (new : List (Lane L)) (said : Reply) : Type 0 where
    pub looked_at : List Entry
    pub answers : List BidderAnswer
    pub gathered : Gathers Works (seen_in looked_at asked.id asked.digest) t asked old new answers
    pub now : ℕ
    pub moment : IsMoment now
    pub ticked : Called
    pub ticks : ticked.call ≡ tick now
    pub later : List Step
    pub behind : AsksBehind r asked answers now ticked ticked.ended later said
    pub are : steps ≡ looked looked_at ∷ later

  -- what a message is answered, by what it means: the steps that it makes, what becomes of the lanes, and the reply, which is
  -- by the history of its own step
  abbrev pub IsAnsweredAs : List (Lane L) → Meaning → List Step → List (Lane L) → Reply → Type 0
  IsAnsweredAs old (asks t asked) steps new said = IsAsked old t asked steps new said
  IsAnsweredAs old (notifies kind auction award) steps new said =
      (c : Called) × (c.call ≡ notice kind auction award) × (steps ≡ took c ∷ []) × (new ≡ old) × CallReplies r c said
  IsAnsweredAs old (sets_budget seat cid change budget) steps new said =
      (c : Called) × (c.call ≡ change_call r seat cid change budget) × (steps ≡ took c ∷ []) × (new ≡ old) × CallReplies r c said
  IsAnsweredAs old wants_books steps new said =
      (at : List Entry) × (steps ≡ looked at ∷ []) × (new ≡ old) × (said ≡ with_status 200 (closing_table r.campaigns (terms_by r) at))
  IsAnsweredAs old wants_meters steps new said =
      (at : List Entry) × (m : Meters) × (steps ≡ metered at m ∷ []) × (new ≡ old) × (said ≡ with_status 200 (meters_text m))
  IsAnsweredAs old (refused why) steps new said = (steps ≡ []) × (new ≡ old) × (said ≡ refusal_reply why)

  -- what a message is answered, by its meaning
  -- Example: a message that wants the books makes one look, and its reply is the closing table of the history that
  -- was looked at.
  pub record IsAnswered (old : List (Lane L)) (request : Request) (steps : List Step) (new : List (Lane L)) (said : Reply) : Type 0 where
    pub meaning : Meaning
    pub means : Means request meaning
    pub answered : IsAnsweredAs old meaning steps new said

  -- The steps of a request for bids whose reply wasn't made, for lack of memory: a look, or with its tick, or with its tick and
  -- its ask. Its lanes are as their work left them.
  abbrev pub LeavesAsked : List (Lane L) → Tree → BidRequest → List Step → List (Lane L) → Type 0
  LeavesAsked old t asked steps new =
      (looked_at : List Entry) × (later : List Step) × (steps ≡ looked looked_at ∷ later)
      × (((later ≡ []) × ((new ≡ old) ⊎ WereWorked (Works (spelling (request_for_bidders t)) asked.id) old new))
      ⊎ ((answers : List BidderAnswer) × Gathers Works (seen_in looked_at asked.id asked.digest) t asked old new answers
      × (now : ℕ) × IsMoment now × (ticked : Called) × (ticked.call ≡ tick now)
      × ((later ≡ took ticked ∷ [])
      ⊎ ((ticked.ended ≡ was_done) × (c : Called) × (c.call ≡ ask (ask_by r asked answers now))
      × (later ≡ took ticked ∷ took c ∷ [])))))

  -- the call of a change of a budget whose reply wasn't made, for lack of memory
  abbrev pub LeavesChange : List (Lane L) → Request → List Step → List (Lane L) → Type 0
  LeavesChange old request steps new =
      (seat cid : List ℕ) × (change : ℕ) × (budget : Units) × Means request (sets_budget seat cid change budget)
      × (c : Called) × (c.call ≡ change_call r seat cid change budget) × (steps ≡ took c ∷ []) × (new ≡ old)

  -- a look at the books, or at the meters, whose reply wasn't made
  abbrev pub LeavesLook : List (Lane L) → Request → List Step → List (Lane L) → Type 0
  LeavesLook old request steps new =
      (at : List Entry) × (new ≡ old)
      × ((Means request wants_books × (steps ≡ looked at ∷ [])) ⊎ (Means request wants_meters × (m : Meters) × (steps ≡ metered at m ∷ [])))

  -- a message whose reply wasn't made: it made no step, or a look; or it is a request for bids, or a change of a budget
  abbrev pub LeavesUnmade : List (Lane L) → Request → List Step → List (Lane L) → Type 0
  LeavesUnmade old request steps new =
      ((steps ≡ []) × (new ≡ old))
      ⊎ (LeavesLook old request steps new
      ⊎ (((t : Tree) × (asked : BidRequest) × Means request (asks t asked) × LeavesAsked old t asked steps new)
      ⊎ LeavesChange old request steps new))
