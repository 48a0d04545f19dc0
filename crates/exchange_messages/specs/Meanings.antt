-- What a message means: a request for bids, a notice, a change of a budget, a look at the books or the meters, or nothing
-- that a day is asked, and why. The tests come in the order path, method, and then query or body. This project's own.
use Rattle.std.specs.Prelude.{◌≡◌, ◌≢◌, ◌⊎◌, ℕ, List, Bool, true, false, codes, Option, Some, None, Result, Ok, Err}
use Rattle.adx_units.specs.Money.{budget_of}
use Rattle.adx_units.specs.declared.price.PriceFault.{PriceFault}
use Rattle.adx_units.specs.declared.units.Units.{Units}
use Rattle.adx_json.specs.Tree.{Tree}
use Rattle.adx_json.specs.Grammar.{IsJson}
use Rattle.adx_json.specs.Faults.{IsFault}
use Rattle.adx_json.specs.declared.fault.JsonFault.{JsonFault}
use Rattle.adx_json.specs.Values.{whole_by}
use Rattle.adx_http.specs.Targets.{path_of, query_of, value_of}
use Rattle.http_connection.specs.Messages.{Request}
use Rattle.http_grammar.specs.Requests.{verb_of_method}
use Rattle.notice_book.specs.declared.kind.NoticeKind.{NoticeKind}
use Rattle.rtb_request.specs.Requests.{IsRequest, request_fault}
use Rattle.rtb_request.specs.declared.bid_request.BidRequest.{BidRequest}
use Rattle.rtb_request.specs.declared.fault.RequestFault.{RequestFault}
use Rattle.script_lines.specs.Members.{change_number}
use Rattle.script_lines.specs.declared.limits.TheConstants.{LAST_AWARD}
use Rattle.exchange_messages.specs.Paths.{path_named, is_served}
use Rattle.exchange_messages.specs.declared.path.Path.{Path}
use Rattle.exchange_messages.specs.declared.refusal.Refusal.{Refusal}

-- a message asks for bids by the tree of its body, which is this request; or it is a notice of an award of an auction; or
-- it sets the budget of the campaign with a seat and an id, by the number of the change; or it wants the books, or the
-- meters; or it is refused, and why
pub data Meaning : Type 0 where
  asks : Tree → BidRequest → Meaning
  notifies : NoticeKind → List ℕ → ℕ → Meaning
  sets_budget : List ℕ → List ℕ → ℕ → Units → Meaning
  wants_books : Meaning
  wants_meters : Meaning
  refused : Refusal → Meaning

-- what the tree of a body means: a request for bids, or its first fault
abbrev pub TreeMeans : Tree → Meaning → Type 0
TreeMeans t m =
    ((asked : BidRequest) × IsRequest t asked × (m ≡ asks t asked))
    ⊎ ((f : RequestFault) × (request_fault t ≡ Some f) × (m ≡ refused (Refusal.Request f)))

-- what a body means, in any spelling of its tree; bytes that are no JSON text are refused by their fault
-- Example: `seat=s1&cid=c1&change=1&budget=0.02` sets 20,000,000 units.
abbrev pub BodyMeans : List ℕ → Meaning → Type 0
BodyMeans body m =
    ((t : Tree) × IsJson body t × TreeMeans t m)
    ⊎ ((f : JsonFault) × (f ≢ JsonFault.OutOfMemory) × IsFault body f × (m ≡ refused (Refusal.Json f)))

-- a notice of a kind names an auction and an award
abbrev pub notice_meaning : NoticeKind → Option (List ℕ) → Option ℕ → Meaning
notice_meaning kind None award = refused Refusal.Call
notice_meaning kind (Some auction) None = refused Refusal.Call
notice_meaning kind (Some auction) (Some award) = notifies kind auction award

-- by the values of `auction` and `bid` in its query; the latter is a whole number of an award
abbrev pub query_meaning : NoticeKind → List ℕ → Meaning
query_meaning kind query =
    notice_meaning kind (value_of (codes "auction") query) (whole_by LAST_AWARD (value_of (codes "bid") query))

-- the change of a campaign's budget, where its number and its budget are of their form
abbrev pub formed_change : List ℕ → List ℕ → Option ℕ → Result Units PriceFault → Meaning
formed_change seat cid None budget = refused Refusal.Call
formed_change seat cid (Some change) (Err fault) = refused Refusal.Call
formed_change seat cid (Some change) (Ok budget) = sets_budget seat cid change budget

-- that four texts name: a seat, an id, a whole number from 1 to 2^32 - 1, and a budget in dollars
abbrev pub change_meaning : List ℕ → List ℕ → List ℕ → List ℕ → Meaning
change_meaning seat cid change budget = formed_change seat cid (change_number change) (budget_of budget)

-- the same where each text may be absent
abbrev pub budget_meaning : Option (List ℕ) → Option (List ℕ) → Option (List ℕ) → Option (List ℕ) → Meaning
budget_meaning None cid change budget = refused Refusal.Call
budget_meaning (Some seat) None change budget = refused Refusal.Call
budget_meaning (Some seat) (Some cid) None budget = refused Refusal.Call
budget_meaning (Some seat) (Some cid) (Some change) None = refused Refusal.Call
budget_meaning (Some seat) (Some cid) (Some change) (Some budget) = change_meaning seat cid change budget

-- by the values of `seat`, `cid`, `change` and `budget` in its query
abbrev pub budget_query_meaning : List ℕ → Meaning
budget_query_meaning query =
    budget_meaning (value_of (codes "seat") query) (value_of (codes "cid") query) (value_of (codes "change") query) (value_of (codes "budget") query)

-- what a message to a path means that the path is served by
abbrev pub PathMeans : Path → Request → Meaning → Type 0
PathMeans Path.OpenRtb request m = BodyMeans request.body m
PathMeans (Path.Notice kind) request m = m ≡ query_meaning kind (query_of request.head.target)
PathMeans Path.Books request m = m ≡ wants_books
PathMeans Path.Meters request m = m ≡ wants_meters
PathMeans Path.Budget request m = m ≡ budget_query_meaning (query_of request.head.target)

-- what a request to this path means, by whether the method serves it
abbrev pub ServedMeans : Bool → Path → Request → Meaning → Type 0
ServedMeans true path request m = PathMeans path request m
ServedMeans false path request m = m ≡ refused (Refusal.Method path)

-- what a request means, by the path that its target names, if it names one
abbrev pub MeansBy : Option Path → Request → Meaning → Type 0
MeansBy None request m = m ≡ refused Refusal.Path
MeansBy (Some path) request m = ServedMeans (is_served path (verb_of_method request.head.method)) path request m

-- what a message means
-- Example: a GET of `/openrtb` is refused for its method, whatever its body.
abbrev pub Means : Request → Meaning → Type 0
Means request m = MeansBy (path_named (path_of request.head.target)) request m
