-- What a line of a day's script means: a call of the day, or why it is refused. This project's own.
use Rattle.std.specs.Prelude.{◌≡◌, ◌≢◌, ◌⊎◌, ℕ, List, length, codes, Option, Some, None}
use Rattle.std.specs.List.{AllZip}
use Rattle.adx_json.specs.Tree.{Tree}
use Rattle.adx_json.specs.Grammar.{IsJson}
use Rattle.adx_json.specs.Faults.{IsFault}
use Rattle.adx_json.specs.Named.{member_in}
use Rattle.adx_json.specs.declared.fault.JsonFault.{JsonFault}
use Rattle.adx_json.specs.Values.{number_in, text_in}
use Rattle.rtb_request.specs.Requests.{IsRequest, request_fault}
use Rattle.rtb_request.specs.declared.bid_request.BidRequest.{BidRequest}
use Rattle.rtb_request.specs.declared.fault.RequestFault.{RequestFault}
use Rattle.rtb_response.specs.Answers.{IsAnswer, answer_fault}
use Rattle.rtb_response.specs.declared.bid_answer.BidAnswer.{BidAnswer}
use Rattle.rtb_response.specs.declared.fault.AnswerFault.{AnswerFault}
use Rattle.notice_book.specs.declared.kind.NoticeKind.{NoticeKind}
use Rattle.deal_floor.specs.declared.roster.Roster.{Roster}
use Rattle.day_rules.specs.declared.ask.Ask.{Ask}
use Rattle.day_rules.specs.Entries.{BudgetChange}
use Rattle.day_rules.specs.Replies.{Call, ask, notice, tick, set_budget}
use Rattle.script_lines.specs.Making.{ask_of}
use Rattle.script_lines.specs.Changes.{change_in}
use Rattle.script_lines.specs.Members.{answers_in, ask_moment, moment_in, kind_in, award_in}
use Rattle.script_lines.specs.declared.refusal.Refusal.{Refusal}
use Rattle.script_lines.specs.declared.refusal.Refusal.TheVariants.{Json, NoCall, Request}

-- a line means a call of the day, or is refused, and why
pub data Meaning : Type 0 where
  calls : Call → Meaning
  refused : Refusal → Meaning

-- what an element of `answers` gives: the answer to the auction that it is, or none
abbrev pub GivesAnswer : List ℕ → Tree → Option BidAnswer → Type 0
GivesAnswer auction t None = (f : AnswerFault) × (answer_fault auction t ≡ Some f)
GivesAnswer auction t (Some a) = IsAnswer auction t a

-- the ask that a request makes with these answers at a moment
pub record MakesAsk (r : Roster) (asking : Tree) (answering : List Tree) (now : ℕ) (a : Ask) : Type 0 where
  pub asked : BidRequest
  pub answered : List (Option BidAnswer)
  pub request : IsRequest asking asked
  pub answers : AllZip (GivesAnswer asked.id) answering answered
  pub made : a ≡ ask_of asked r.campaigns answered now

-- a request makes an ask, or is refused by its first fault
abbrev pub RequestMeans : Roster → Tree → List Tree → ℕ → Meaning → Type 0
RequestMeans r request answers now (calls (ask a)) = MakesAsk r request answers now a
RequestMeans r request answers now (calls (notice kind auction award)) = ⊥
RequestMeans r request answers now (calls (tick moment)) = ⊥
RequestMeans r request answers now (calls (set_budget change)) = ⊥
RequestMeans r request answers now (refused why) = (f : RequestFault) × (request_fault request ≡ Some f) × (why ≡ Request f)

-- a line with a request; answers and moment are looked at first
abbrev pub AskMeans : Roster → Tree → Option (List Tree) → Option ℕ → Meaning → Type 0
AskMeans r request None now m = m ≡ refused NoCall
AskMeans r request (Some answers) None m = m ≡ refused NoCall
AskMeans r request (Some answers) (Some now) m = RequestMeans r request answers now m

-- a notice of a kind names an auction and an award
abbrev pub notice_meaning : Option NoticeKind → Option (List ℕ) → Option ℕ → Meaning
notice_meaning None auction award = refused NoCall
notice_meaning (Some kind) None award = refused NoCall
notice_meaning (Some kind) (Some auction) None = refused NoCall
notice_meaning (Some kind) (Some auction) (Some award) = calls (notice kind auction award)

abbrev pub tick_meaning : Option ℕ → Meaning
tick_meaning None = refused NoCall
tick_meaning (Some moment) = calls (tick moment)

-- a change of a budget, or that the line is no call
abbrev pub change_meaning : Option BudgetChange → Meaning
change_meaning None = refused NoCall
change_meaning (Some change) = calls (set_budget change)

module _ (r : Roster) (t : Tree) where
  -- the first member that is there, of `ask`, `notice`, `tick` and `budget`, tells which kind of line it is
  abbrev pub MeansBy : Option Tree → Option Tree → Option Tree → Option Tree → Meaning → Type 0
  MeansBy (Some request) kind moment budget m =
      AskMeans r request (answers_in (length r.bidders) (member_in (codes "answers") t)) (ask_moment (member_in (codes "now") t)) m
  MeansBy None (Some kind) moment budget m =
      m ≡ notice_meaning (kind_in kind) (text_in (member_in (codes "auction") t)) (award_in (member_in (codes "bid") t))
  MeansBy None None (Some moment) budget m = m ≡ tick_meaning (moment_in (Some moment))
  MeansBy None None None (Some budget) m =
      m ≡ change_meaning (change_in r.campaigns (text_in (member_in (codes "seat") t))
      (text_in (member_in (codes "cid") t)) (number_in (member_in (codes "change") t)) (number_in (Some budget)))
  MeansBy None None None None m = m ≡ refused NoCall

  -- what a line's value means
  abbrev pub ValueMeans : Meaning → Type 0
  ValueMeans m =
      MeansBy (member_in (codes "ask") t) (member_in (codes "notice") t) (member_in (codes "tick") t) (member_in (codes "budget") t) m

-- what a line means on a day with this roster, in any spelling of its value; bytes that are no value are refused by
-- their fault
abbrev pub LineMeans : Roster → List ℕ → Meaning → Type 0
LineMeans r line m =
    ((t : Tree) × IsJson line t × ValueMeans r t m)
    ⊎ ((f : JsonFault) × (f ≢ JsonFault.OutOfMemory) × IsFault line f × (m ≡ refused (Json f)))
