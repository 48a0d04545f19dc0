-- No line is without a meaning, and no roster line without a roster or a refusal.
use Rattle.std.proofs.Common.{◌≡◌, ◌≢◌, inl, inr, ℕ, zero, suc, ◌+◌, ◌<◌, ◌≤◌, List, [], ◌∷◌, length, take, Option, Some, None, refl, arith}
use Rattle.std.specs.List.{AllZip}
use Rattle.std.proofs.lemmas.Bool.{cases_order}
use Rattle.adx_json.specs.Tree.{Tree}
use Rattle.adx_json.specs.Grammar.{IsJson}
use Rattle.adx_json.specs.Faults.{IsFault, IsFaultPlace, BeginsText, BeginsLevel65, BreaksUtf8}
use Rattle.adx_json.specs.Machine.{at_value}
use Rattle.adx_json.specs.declared.fault.JsonFault.{JsonFault}
use Rattle.adx_json.proofs.Judged.{reached_begins}
use Rattle.rtb_request.specs.Requests.{request_fault}
use Rattle.rtb_request.specs.declared.fault.RequestFault.{RequestFault}
use Rattle.rtb_response.specs.Answers.{answer_fault}
use Rattle.rtb_response.specs.declared.bid_answer.BidAnswer.{BidAnswer}
use Rattle.rtb_response.specs.declared.fault.AnswerFault.{AnswerFault}
use Rattle.day_rules.specs.Replies.{ask}
use Rattle.deal_floor.specs.Rosters.{roster_fault}
use Rattle.deal_floor.specs.declared.fault.RosterFault.{RosterFault}
use Rattle.deal_floor.specs.declared.roster.Roster.{Roster}
use Rattle.script_lines.specs.Making.{ask_of}
use Rattle.script_lines.specs.Meanings.{Meaning, calls, refused, GivesAnswer, RequestMeans, AskMeans, MeansBy, ValueMeans, LineMeans}
use Rattle.script_lines.specs.Rosters.{IsRosterLine, RefusesRosterLine}
use Rattle.script_lines.specs.declared.refusal.Refusal.TheVariants.{Json, NoCall, Request}
use Rattle.script_lines.specs.declared.refusal.RosterRefusal.{RosterRefusal}
use Rattle.script_lines.proofs.SomeRequest.{some_request, some_answer}
use Rattle.script_lines.proofs.SomeRoster.{some_roster}

-- an element of the answers gives an answer or none
answer_by : (auction : List ℕ) (t : Tree) (o : Option AnswerFault) → answer_fault auction t ≡ o → (x : Option BidAnswer) × GivesAnswer auction t x
answer_by auction t (Some f) e = (None, (f, e))
answer_by auction t None e =
    let a = some_answer auction t e in
    (Some a.0, (e, a.1))

some_answers : (auction : List ℕ) (ts : List Tree) → (xs : List (Option BidAnswer)) × AllZip (GivesAnswer auction) ts xs
some_answers auction [] = ([], tt)
some_answers auction (t ∷ ts) =
    let first = answer_by auction t (answer_fault auction t) refl in
    let rest = some_answers auction ts in
    (first.0 ∷ rest.0, (first.1, rest.1))

-- there is no value without a meaning
request_by : (r : Roster) (t : Tree) (ts : List Tree) (now : ℕ) (o : Option RequestFault) → request_fault t ≡ o
    → ((m : Meaning) → RequestMeans r t ts now m → ⊥) → ⊥
request_by r t ts now (Some f) e none = none (refused (Request f)) (f, e, refl)
request_by r t ts now None e none =
    let asked = some_request t e in
    let answered = some_answers asked.0.id ts in
    none (calls (ask (ask_of asked.0 r.campaigns answered.0 now)))
    (record { asked = asked.0; answered = answered.0; request = (e, asked.1); answers = answered.1; made = refl })

some_ask : (r : Roster) (t : Tree) (answers : Option (List Tree)) (now : Option ℕ) → ((m : Meaning) → AskMeans r t answers now m → ⊥) → ⊥
some_ask r t None now none = none (refused NoCall) refl
some_ask r t (Some ts) None none = none (refused NoCall) refl
some_ask r t (Some ts) (Some now) none = request_by r t ts now (request_fault t) refl none

some_by : (r : Roster) (t : Tree) (request kind moment budget : Option Tree) → ((m : Meaning) → MeansBy r t request kind moment budget m → ⊥) → ⊥
some_by r t (Some request) kind moment budget none = some_ask r request _ _ none
some_by r t None (Some kind) moment budget none = none _ refl
some_by r t None None (Some moment) budget none = none _ refl
some_by r t None None None (Some budget) none = none _ refl
some_by r t None None None None none = none _ refl

some_value : (r : Roster) (t : Tree) → ((m : Meaning) → ValueMeans r t m → ⊥) → ⊥
some_value r t none = some_by r t _ _ _ _ none

-- among so many first bytes there is a longest front of a text
module _ (line : List ℕ) (unread : (t : Tree) → IsJson line t → ⊥) (nowhere : (at : ℕ) → IsFaultPlace line at → ⊥) where
  no_front : (k : ℕ) → k ≤ length line → ((at : ℕ) → k < at → at ≤ length line → BeginsText 64 (take at line) → ⊥) → ⊥
  no_front zero low later =
      nowhere 0 (record { none = unread; within = omega arith; begins = reached_begins 64 [] at_value [] (refl, refl); longest = λ below begins. later 1 (omega arith) (omega (arith, below)) begins })
  no_front (suc k) low later =
      no_front k (omega (arith, low)) (λ at above within begins.
      elim (cases_order at (suc k)) [
        | inl here ↦
            nowhere at (record { none = unread; within = within; begins = begins; longest = λ below longer. later (at + 1) (omega (arith, here)) (omega (arith, below)) longer })
        | inr order ↦
            (elim order [
              | inl before ↦ absurd (omega (arith, above, before))
              | inr behind ↦ later at behind within begins
            ])
      ])

-- bytes that are no text have a fault
some_fault : (line : List ℕ) → ((t : Tree) → IsJson line t → ⊥) → ((f : JsonFault) → f ≢ JsonFault.OutOfMemory → IsFault line f → ⊥) → ⊥
some_fault line unread none =
    no_front line unread
    (λ at place.
    let whole : BreaksUtf8 line at → ⊥ = λ broken. none (JsonFault.Utf8 at) (λ e. cc e) (place, broken) in
    let level : BeginsLevel65 line at → ⊥ = λ deep. none (JsonFault.Depth at) (λ e. cc e) (place, deep) in
    none (JsonFault.Syntax at) (λ e. cc e) (place, level, whole))
    (length line) (omega arith) (λ at above within begins. absurd (omega (arith, above, within)))

-- there is no line without a meaning
pub some_meaning : (r : Roster) (line : List ℕ) → ((m : Meaning) → LineMeans r line m → ⊥) → ⊥
some_meaning r line none =
    some_fault line (λ t is. some_value r t (λ m means. none m (inl (t, is, means)))) (λ f other fault. none (refused (Json f)) (inr (f, other, fault, refl)))

-- there is no first line that is neither a roster's nor refused
roster_by : (line : List ℕ) (t : Tree) (o : Option RosterFault) → roster_fault t ≡ o → IsJson line t → ((r : Roster) → IsRosterLine line r → ⊥)
    → ((why : RosterRefusal) → RefusesRosterLine line why → ⊥) → ⊥
roster_by line t (Some f) e is none unrefused = unrefused (RosterRefusal.Member f) (inl (t, is, (f, e, refl)))
roster_by line t None e is none unrefused =
    let r = some_roster t e in
    none r.0 (t, is, (e, r.1))

pub some_first : (line : List ℕ) → ((r : Roster) → IsRosterLine line r → ⊥) → ((why : RosterRefusal) → RefusesRosterLine line why → ⊥) → ⊥
some_first line none unrefused =
    some_fault line (λ t is. roster_by line t (roster_fault t) refl is none unrefused) (λ f other fault. unrefused (RosterRefusal.Json f) (inr (f, other, fault, refl)))
