-- No message is without a meaning, and none has two.
use Rattle.std.proofs.Common.{◌≡◌, ◌≢◌, inl, inr, ℕ, List, Bool, true, false, Option, Some, None, refl, sym, ap, ◌∙◌, subst}
use Rattle.adx_json.specs.Faults.{IsFault}
use Rattle.adx_json.specs.Grammar.{IsJson}
use Rattle.adx_json.specs.Tree.{Tree}
use Rattle.adx_json.specs.declared.fault.JsonFault.{JsonFault}
use Rattle.adx_json.proofs.OneTree.{one_json}
use Rattle.adx_http.specs.Targets.{path_of, query_of}
use Rattle.http_connection.specs.Messages.{Request}
use Rattle.http_grammar.specs.Requests.{verb_of_method}
use Rattle.rtb_request.specs.Requests.{request_fault}
use Rattle.rtb_request.specs.declared.fault.RequestFault.{RequestFault}
use Rattle.script_lines.specs.Rosters.{RefusesRosterLine}
use Rattle.script_lines.specs.declared.refusal.RosterRefusal.{RosterRefusal}
use Rattle.script_lines.proofs.OneFault.{one_fault}
use Rattle.script_lines.proofs.SomeMeaning.{some_first}
use Rattle.script_lines.proofs.SomeRequest.{some_request}
use Rattle.exchange_http.specs.Laws.{AreOne, HasMeaning, HasOneMeaning}
use Rattle.exchange_messages.specs.Meanings.{BodyMeans, Meaning, MeansBy, PathMeans, ServedMeans, TreeMeans, asks, budget_query_meaning, query_meaning, refused, wants_books, wants_meters}
use Rattle.exchange_messages.specs.Paths.{is_served, path_named}
use Rattle.exchange_messages.specs.declared.path.Path.{Path}
use Rattle.exchange_messages.specs.declared.refusal.Refusal.{Refusal}

-- what is JSON has no fault
no_fault : (body : List ℕ) (t : Tree) (f : JsonFault) → f ≢ JsonFault.OutOfMemory → IsJson body t → IsFault body f → ⊥
no_fault body t JsonFault.OutOfMemory named json fault = named refl
no_fault body t f named json fault = fault.0.none t json

-- bytes are a JSON text, or have a fault
text_or_fault : (body : List ℕ) → ((t : Tree) → IsJson body t → ⊥) → ((f : JsonFault) → f ≢ JsonFault.OutOfMemory → IsFault body f → ⊥) → ⊥
text_or_fault body unread sound = some_first body (λ r is. unread is.0 is.1) (λ why refuses. by why refuses)
  where
    by : (why : RosterRefusal) → RefusesRosterLine body why → ⊥
    by why (inl (t, is, refuses)) = unread t is
    by why (inr (f, other, fault, is)) = sound f other fault

-- a tree is a request for bids, or has a first fault
tree_means : (t : Tree) (o : Option RequestFault) → request_fault t ≡ o → (m : Meaning) × TreeMeans t m
tree_means t (Some f) e = (refused (Refusal.Request f), inr (f, e, refl))
tree_means t None e =
    let asked = some_request t e in
    (asks t asked.0, inl (asked.0, (e, asked.1), refl))

body_means : (body : List ℕ) → ((m : Meaning) → BodyMeans body m → ⊥) → ⊥
body_means body none =
    text_or_fault body
    (λ t is.
    let means = tree_means t (request_fault t) refl in
    none means.0 (inl (t, is, means.1)))
    (λ f other fault. none (refused (Refusal.Json f)) (inr (f, other, fault, refl)))

path_means : (path : Path) (request : Request) → ((m : Meaning) → PathMeans path request m → ⊥) → ⊥
path_means Path.OpenRtb request none = body_means request.body none
path_means (Path.Notice kind) request none = none (query_meaning kind (query_of request.head.target)) refl
path_means Path.Books request none = none wants_books refl
path_means Path.Meters request none = none wants_meters refl
path_means Path.Budget request none = none (budget_query_meaning (query_of request.head.target)) refl

served_means : (served : Bool) (path : Path) (request : Request) → ((m : Meaning) → ServedMeans served path request m → ⊥) → ⊥
served_means true path request none = path_means path request none
served_means false path request none = none (refused (Refusal.Method path)) refl

means_by : (path : Option Path) (request : Request) → ((m : Meaning) → MeansBy path request m → ⊥) → ⊥
means_by None request none = none (refused Refusal.Path) refl
means_by (Some path) request none = served_means (is_served path (verb_of_method request.head.method)) path request none

-- there is no message without a meaning
pub has_meaning : HasMeaning
has_meaning = λ request none. means_by (path_named (path_of request.head.target)) request none

-- equal meanings are one
same_one : (x y : Meaning) → y ≡ x → AreOne x y
same_one (asks t asked) y is = subst (AreOne (asks t asked)) (sym is) refl
same_one x y is = is

one_tree_meaning : (t : Tree) (x y : Meaning) → TreeMeans t x → TreeMeans t y → AreOne x y
one_tree_meaning t x y (inl (asked, req, is)) (inl (other, again, also)) = subst (λ (m : Meaning). AreOne m y) (sym is) (subst (AreOne (asks t asked)) (sym also) refl)
one_tree_meaning t x y (inl (asked, req, is)) (inr (f, fails, also)) = absurd (let e : None ≡ Some f = sym req.0 ∙ fails in cc e)
one_tree_meaning t x y (inr (f, fails, is)) (inl (other, again, also)) = absurd (let e : None ≡ Some f = sym again.0 ∙ fails in cc e)
one_tree_meaning t x y (inr (f, fails, is)) (inr (g, again, also)) =
    let same : Some f ≡ Some g = sym fails ∙ again in
    let one : f ≡ g = cc same in
    same_one x y (also ∙ ap (λ (h : RequestFault). refused (Refusal.Request h)) (sym one) ∙ sym is)

one_body_meaning : (body : List ℕ) (x y : Meaning) → BodyMeans body x → BodyMeans body y → AreOne x y
one_body_meaning body x y (inl (t, is, means)) (inl (u, again, other)) = one_tree_meaning t x y means (subst (λ (v : Tree). TreeMeans v y) (one_json body u t again is) other)
one_body_meaning body x y (inl (t, is, means)) (inr (f, named, fault, other)) = absurd (no_fault body t f named is fault)
one_body_meaning body x y (inr (f, named, fault, means)) (inl (u, again, other)) = absurd (no_fault body u f named again fault)
one_body_meaning body x y (inr (f, named, fault, means)) (inr (g, other_named, other_fault, other)) =
    same_one x y (other ∙ ap (λ (h : JsonFault). refused (Refusal.Json h)) (one_fault body g f other_named named other_fault fault) ∙ sym means)

one_path_meaning : (path : Path) (request : Request) (x y : Meaning) → PathMeans path request x → PathMeans path request y → AreOne x y
one_path_meaning Path.OpenRtb request x y means other = one_body_meaning request.body x y means other
one_path_meaning path request x y means other = same_one x y (other ∙ sym means)

one_served_meaning : (served : Bool) (path : Path) (request : Request) (x y : Meaning) → ServedMeans served path request x
    → ServedMeans served path request y → AreOne x y
one_served_meaning true path request x y means other = one_path_meaning path request x y means other
one_served_meaning false path request x y means other = same_one x y (other ∙ sym means)

one_meaning_by : (path : Option Path) (request : Request) (x y : Meaning) → MeansBy path request x → MeansBy path request y → AreOne x y
one_meaning_by None request x y means other = same_one x y (other ∙ sym means)
one_meaning_by (Some path) request x y means other = one_served_meaning (is_served path (verb_of_method request.head.method)) path request x y means other

-- and none with two
pub one_meaning : HasOneMeaning
one_meaning request x y means other = one_meaning_by (path_named (path_of request.head.target)) request x y means other
