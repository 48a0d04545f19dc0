-- What a caller of a desk knows, and what a call makes of that: the same words for a desk of one's own and for one that
-- threads share. This project's own.
use Rattle.std.specs.Prelude.{◌≡◌, ℕ, ◌≤◌, List, [], ◌∷◌, ◌++◌, length, Option, Some, None, Result, Ok, Err}
use mathlib.Core.List.{IsPrefix}
use Rattle.day_rules.specs.declared.answer.Answer.{Answer}
use Rattle.day_rules.specs.declared.entry.Entry.{Entry}
use Rattle.day_rules.specs.DayState.{IsDay}
use Rattle.day_rules.specs.Laws.{Arrival, after_arrival, arrival_reply}
use Rattle.day_rules.specs.Replies.{reply}
use Rattle.day_rules.specs.RunBooks.{HasBooksAlong}
use Rattle.adx_desk.specs.declared.done.Done.{Done}
use Rattle.adx_desk.specs.declared.fault.DeskFault.{DeskFault}
use Rattle.adx_desk.specs.declared.shared.OpenedWith.{OpenedWith}
use Rattle.adx_desk.specs.declared.turn.Call.{Call}
use Rattle.adx_desk.specs.declared.turn.Turn.{Turn}
use Rattle.adx_desk.specs.Histories.{DeskTerms}
use Rattle.day_machine.specs.Batches.{BatchState, answers_in_turn}
use Rattle.adx_desk.specs.Shared.{IsTakenAt, IsTurnAt, call_of, is_disk_fault, terms_in}
use Rattle.turnstile.specs.Turns.{AreAllRight, AreRight, HasRisen, Stand, added_by, placed}
use Rattle.turnstile.specs.Places.{one_where}
use Rattle.turnstile.specs.Passes.{IsSamePass, PassView}

-- the entry that a turn adds
abbrev pub entry_of : Turn → Option Entry
entry_of turn = turn.entry

-- the entry of a reply, where the call was done
abbrev pub entry_where_done : Result Answer DeskFault → Option Entry → Option Entry
entry_where_done (Ok answer) entry = entry
entry_where_done (Err fault) entry = None

-- the turn of a call that is made at this history and ends so
abbrev pub turn_at : DeskTerms → List Entry → Call → Result Answer DeskFault → Turn
turn_at terms history call ended = record {
  call = call;
  ended = ended;
  entry = entry_where_done ended (reply terms.day history (call_of call)).entry;
}

-- the turns of notices that are answered together, each behind the entries of those before it
abbrev pub turns_in_turn : DeskTerms → List Entry → List Arrival → List Turn
turns_in_turn terms history [] = []
turns_in_turn terms history (x ∷ xs) =
    turn_at terms history (Call.Notice x.kind x.auction x.award) (Ok (arrival_reply history x).answer)
    ∷ turns_in_turn terms (after_arrival history x) xs

-- the answer of a done ask, or its fault
abbrev pub answer_in : Result Done DeskFault → Result Answer DeskFault
answer_in (Ok done) = Ok done.answer
answer_in (Err fault) = Err fault

-- by how much a call that ends so raised the number of faults
abbrev pub raised_by : Result Answer DeskFault → ℕ
raised_by ended = one_where (is_disk_fault ended)

-- What a caller knows: the history that it has seen, the length of the history that it knows of, and the number of
-- faults that it knows of. Of a desk of its own it knows all.
-- Example: a pass that saw 3 entries bills an award while another thread added one: the history at the call has 4,
-- its turn's length is 4, then it has seen 5
pub record Caller : Type 0 where
  pub seen : List Entry
  pub known : ℕ
  pub faults : ℕ

-- A call on a desk that was opened with this, which was answered at the history `before`, added these turns and raised
-- the number of faults by so much.
pub record Answered (opened : OpenedWith) (before : List Entry) (turns : List Turn) (raised : ℕ) (old new : Caller) : Type 0 where
  -- the history begins with all that was seen, and is no shorter than was known
  pub begins : IsPrefix old.seen before
  pub no_shorter : old.known ≤ length before
  -- each turn is one of the day's at its place, and their entries stand behind the history, with no other between
  pub right : AreRight entry_of (IsTurnAt (terms_in opened)) before turns
  pub seen : new.seen ≡ before ++ added_by entry_of turns
  -- all of that is legal, and no more is known of
  pub legal : IsDay (terms_in opened).day new.seen
  pub known : new.known ≡ length new.seen
  -- the faults known are more by what the call raised them, unless they stand at their last value
  pub no_fewer : old.faults ≤ new.faults
  pub counted : HasRisen raised old.faults new.faults

-- a pass of a shared desk
abbrev pub DeskPass : Type 0
DeskPass = PassView Entry OpenedWith Turn

-- what a pass knows
abbrev pub caller_of : DeskPass → Caller
caller_of p = record { seen = p.seen; known = p.known; faults = p.faults }

-- Such a call by a pass, which has the turns behind its own, each with the length of the history at its call.
pub record Passed (opened : OpenedWith) (before : List Entry) (turns : List Turn) (raised : ℕ) (p q : DeskPass) : Type 0 where
  pub answered : Answered opened before turns raised (caller_of p) (caller_of q)
  pub turns_are : q.turns ≡ p.turns ++ placed entry_of (length before) turns
  pub same : IsSamePass p q

module _ (opened : OpenedWith) where
  -- the pass made this call, which ended so: one turn more
  abbrev pub AddsTurn : Call → Result Answer DeskFault → DeskPass → DeskPass → Type 0
  AddsTurn call ended p q =
      (before : List Entry) × Passed opened before (turn_at (terms_in opened) before call ended ∷ []) (raised_by ended) p q

  -- the pass looked at the history, which it has seen then: no turn more
  abbrev pub Looks : DeskPass → DeskPass → Type 0
  Looks p q = (before : List Entry) × Passed opened before [] 0 p q

  -- the pass had a batch answered: a turn more for each of its calls, and their answers, all at one history
  abbrev pub AnswersBatch : BatchState → BatchState → DeskPass → DeskPass → Type 0
  AnswersBatch old new p q =
      (before : List Entry) × Passed opened before (turns_in_turn (terms_in opened) before old.calls) 0 p q
      × (new ≡ record old { answers = Some (answers_in_turn before old.calls) })

  -- the disk failed in a batch of the pass: no turn more, and a fault more
  abbrev pub FailsBatch : DeskPass → DeskPass → Type 0
  FailsBatch p q = (before : List Entry) × Passed opened before [] 1 p q

-- A pass of a desk that was opened with this: its history is legal; each of its turns is one of the day at the front of
-- the history that has the length of the turn's call; and the turn's entry, if it has one, stands there in the history.
pub record IsRightPass (opened : OpenedWith) (p : DeskPass) : Type 0 where
  pub legal : IsDay (terms_in opened).day p.seen
  pub turns : AreAllRight (IsTurnAt (terms_in opened)) p.seen p.turns
  pub stand : Stand entry_of p.seen p.turns
  -- the books of each front of its history, and what each turn leaves of the front that it is called at
  pub books : HasBooksAlong (terms_in opened).day p.seen
  pub taken : AreAllRight (IsTakenAt (terms_in opened)) p.seen p.turns
