-- A line has one meaning, and a roster line one roster or one refusal.
use Rattle.std.proofs.Common.{◌≡◌, ◌≢◌, inl, inr, ℕ, List, Option, Some, None, refl, sym, ap, ◌∙◌, subst}
use Rattle.std.specs.List.{AllZip}
use Rattle.adx_json.specs.Tree.{Tree}
use Rattle.adx_json.specs.Grammar.{IsJson}
use Rattle.adx_json.specs.Faults.{IsFault}
use Rattle.adx_json.specs.declared.fault.JsonFault.{JsonFault}
use Rattle.adx_json.proofs.Listing.{zip_same}
use Rattle.adx_json.proofs.OneTree.{one_json}
use Rattle.rtb_request.specs.Requests.{request_fault}
use Rattle.rtb_response.specs.Answers.{answer_fault}
use Rattle.rtb_response.specs.declared.bid_answer.BidAnswer.{BidAnswer}
use Rattle.day_rules.specs.declared.ask.Ask.{Ask}
use Rattle.day_rules.specs.Replies.{ask, notice, tick, set_budget}
use Rattle.deal_floor.specs.Rosters.{IsRoster, roster_fault}
use Rattle.deal_floor.specs.declared.roster.Roster.{Roster}
use Rattle.script_lines.specs.Making.{ask_of}
use Rattle.script_lines.specs.Meanings.{Meaning, calls, refused, GivesAnswer, MakesAsk, RequestMeans, AskMeans, MeansBy, ValueMeans, LineMeans}
use Rattle.script_lines.specs.Rosters.{IsRosterLine, RefusesRosterLine}
use Rattle.script_lines.specs.declared.refusal.Refusal.TheVariants.{Json, Request}
use Rattle.script_lines.specs.declared.refusal.RosterRefusal.{RosterRefusal}
use Rattle.script_lines.specs.declared.refusal.RosterRefusal.TheVariants as roster_refusals
use Rattle.script_lines.proofs.OneFault.{one_fault}
use Rattle.script_lines.proofs.Views.{request_same, answer_same, roster_same}

-- a fault is one
one_fault_of : {F : Type 0} (o : Option F) (f g : F) → o ≡ Some f → o ≡ Some g → f ≡ g
one_fault_of o f g a b = cc (sym a ∙ b)

never_both : {F : Type 0} (o : Option F) (f : F) → o ≡ None → o ≡ Some f → ⊥
never_both o f a b = cc (sym a ∙ b)

-- an element of the answers gives one answer
gives_same : (auction : List ℕ) (t : Tree) (o p : Option BidAnswer) → GivesAnswer auction t o → GivesAnswer auction t p → o ≡ p
gives_same auction t None None a b = refl
gives_same auction t None (Some y) (f, is) b = absurd (never_both (answer_fault auction t) f b.0 is)
gives_same auction t (Some x) None a (f, is) = absurd (never_both (answer_fault auction t) f a.0 is)
gives_same auction t (Some x) (Some y) a b = ap Some (answer_same auction t x y a b)

-- a request makes one ask
makes_same : (r : Roster) (t : Tree) (ts : List Tree) (now : ℕ) (a b : Ask) → MakesAsk r t ts now a → MakesAsk r t ts now b → a ≡ b
makes_same r t ts now a b x y =
    let asked = request_same t x.asked y.asked x.request y.request in
    let answered = zip_same (GivesAnswer x.asked.id) (gives_same x.asked.id) ts x.answered y.answered x.answers (subst (λ q. AllZip (GivesAnswer q.id) ts y.answered) (sym asked) y.answers) in
    x.made ∙ (λ i. ask_of (asked i) r.campaigns (answered i) now) ∙ sym y.made

request_one : (r : Roster) (t : Tree) (ts : List Tree) (now : ℕ) (m n : Meaning) → RequestMeans r t ts now m → RequestMeans r t ts now n → m ≡ n
request_one r t ts now (calls (ask a)) (calls (ask b)) x y = ap (λ c. calls (ask c)) (makes_same r t ts now a b x y)
request_one r t ts now (calls (ask a)) (calls (notice k q w)) x y = absurd y
request_one r t ts now (calls (ask a)) (calls (tick k)) x y = absurd y
request_one r t ts now (calls (ask a)) (calls (set_budget k)) x y = absurd y
request_one r t ts now (calls (ask a)) (refused why) x (f, is, e) = absurd (never_both (request_fault t) f x.request.0 is)
request_one r t ts now (calls (notice k q w)) n x y = absurd x
request_one r t ts now (calls (tick k)) n x y = absurd x
request_one r t ts now (calls (set_budget k)) n x y = absurd x
request_one r t ts now (refused why) (calls (ask b)) (f, is, e) y = absurd (never_both (request_fault t) f y.request.0 is)
request_one r t ts now (refused why) (calls (notice k q w)) x y = absurd y
request_one r t ts now (refused why) (calls (tick k)) x y = absurd y
request_one r t ts now (refused why) (calls (set_budget k)) x y = absurd y
request_one r t ts now (refused why) (refused other) (f, is, e) (g, is', e') =
    ap refused (e ∙ ap Request (one_fault_of (request_fault t) f g is is') ∙ sym e')

ask_one : (r : Roster) (t : Tree) (answers : Option (List Tree)) (now : Option ℕ) (m n : Meaning) → AskMeans r t answers now m
    → AskMeans r t answers now n → m ≡ n
ask_one r t None now m n a b = a ∙ sym b
ask_one r t (Some ts) None m n a b = a ∙ sym b
ask_one r t (Some ts) (Some now) m n a b = request_one r t ts now m n a b

means_one : (r : Roster) (t : Tree) (request kind moment budget : Option Tree) (m n : Meaning) → MeansBy r t request kind moment budget m
    → MeansBy r t request kind moment budget n → m ≡ n
means_one r t (Some request) kind moment budget m n a b = ask_one r request _ _ m n a b
means_one r t None (Some kind) moment budget m n a b = a ∙ sym b
means_one r t None None (Some moment) budget m n a b = a ∙ sym b
means_one r t None None None (Some budget) m n a b = a ∙ sym b
means_one r t None None None None m n a b = a ∙ sym b

value_one : (r : Roster) (t : Tree) (m n : Meaning) → ValueMeans r t m → ValueMeans r t n → m ≡ n
value_one r t m n a b = means_one r t _ _ _ _ m n a b

-- bytes that are JSON have no fault
json_no_fault : (line : List ℕ) (t : Tree) (f : JsonFault) → IsJson line t → f ≢ JsonFault.OutOfMemory → IsFault line f → ⊥
json_no_fault line t (JsonFault.Syntax at) is other fault = fault.0.none t is
json_no_fault line t (JsonFault.Utf8 at) is other fault = fault.0.none t is
json_no_fault line t (JsonFault.Depth at) is other fault = fault.0.none t is
json_no_fault line t JsonFault.OutOfMemory is other fault = other refl

-- a line has one meaning
pub one_meaning : (r : Roster) (line : List ℕ) (m n : Meaning) → LineMeans r line m → LineMeans r line n → m ≡ n
one_meaning r line m n (inl (t, is, a)) (inl (u, is', b)) =
    value_one r t m n a (subst (λ v. ValueMeans r v n) (one_json line u t is' is) b)
one_meaning r line m n (inl (t, is, a)) (inr (f, other, fault, e)) = absurd (json_no_fault line t f is other fault)
one_meaning r line m n (inr (f, other, fault, e)) (inl (t, is, a)) = absurd (json_no_fault line t f is other fault)
one_meaning r line m n (inr (f, other, fault, e)) (inr (g, other', fault', e')) =
    e ∙ ap (λ h. refused (Json h)) (one_fault line f g other other' fault fault') ∙ sym e'

-- a line is one roster's
pub one_roster : (line : List ℕ) (r s : Roster) → IsRosterLine line r → IsRosterLine line s → r ≡ s
one_roster line r s (t, is, a) (u, is', b) =
    roster_same t r s a (subst (λ v. IsRoster v s) (one_json line u t is' is) b)

-- a roster's line isn't refused
pub roster_not_refused : (line : List ℕ) (r : Roster) (why : RosterRefusal) → IsRosterLine line r → RefusesRosterLine line why → ⊥
roster_not_refused line r why (t, is, a) (inl (u, is', (f, b, e))) = never_both (roster_fault t) f a.0 (ap roster_fault (one_json line t u is is') ∙ b)
roster_not_refused line r why (t, is, a) (inr (f, other, fault, e)) = json_no_fault line t f is other fault

-- and a line is refused in one way
pub one_refusal : (line : List ℕ) (why other : RosterRefusal) → RefusesRosterLine line why → RefusesRosterLine line other → why ≡ other
one_refusal line why other (inl (t, is, (f, a, e))) (inl (u, is', (g, b, e'))) =
    e ∙ ap roster_refusals.Member (one_fault_of (roster_fault t) f g a (ap roster_fault (one_json line t u is is') ∙ b)) ∙ sym e'
one_refusal line why other (inl (t, is, a)) (inr (f, ne, fault, e)) = absurd (json_no_fault line t f is ne fault)
one_refusal line why other (inr (f, ne, fault, e)) (inl (t, is, a)) = absurd (json_no_fault line t f is ne fault)
one_refusal line why other (inr (f, ne, fault, e)) (inr (g, ne', fault', e')) =
    e ∙ ap roster_refusals.Json (one_fault line f g ne ne' fault fault') ∙ sym e'
