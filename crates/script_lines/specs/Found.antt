-- What was found of a line is what it means.
use Rattle.std.specs.Prelude.{◌≡◌, ℕ, List, Option, Some, None, Result, Ok, Err}
use Rattle.adx_json.specs.Tree.{Tree}
use Rattle.rtb_request.specs.Requests.{IsRequest, request_fault}
use Rattle.rtb_request.specs.declared.bid_request.BidRequest.{BidRequest}
use Rattle.rtb_request.specs.declared.fault.RequestFault.{RequestFault}
use Rattle.deal_floor.specs.declared.roster.Roster.{Roster}
use Rattle.day_rules.specs.Replies.{Call, ask, notice, tick, set_budget}
use Rattle.day_rules.specs.Runs.{IsCall}
use Rattle.day_rules.specs.declared.ask.Ask.{Ask}
use Rattle.script_lines.specs.Changes.{change_told}
use Rattle.script_lines.specs.Meanings.{Meaning, calls, refused, AskMeans, ValueMeans, LineMeans}
use Rattle.script_lines.specs.declared.line.ScriptLine.{ScriptLine}
use Rattle.script_lines.specs.declared.notice.Notice.{Notice}
use Rattle.script_lines.specs.declared.refusal.LineFault.{LineFault}
use Rattle.script_lines.specs.declared.refusal.Refusal.TheVariants.{NoCall, Request}

-- the call that a line was read as
abbrev pub call_of : ScriptLine → Call
call_of (ScriptLine.Ask a) = ask a
call_of (ScriptLine.Notice n) = notice n.kind n.auction n.award
call_of (ScriptLine.Tick now) = tick now
call_of (ScriptLine.Budget change) = set_budget (change_told change)

-- the meaning of a line that was found
abbrev pub meaning_of : ScriptLine → Meaning
meaning_of found = calls (call_of found)

-- what was found means so; where memory was refused nothing is told
abbrev pub Finds : {A : Type 0} → (A → Meaning) → (Meaning → Type 0) → Result A LineFault → Type 0
Finds meaning Means (Ok found) = Means (meaning found)
Finds meaning Means (Err (LineFault.Refused why)) = Means (refused why)
Finds meaning Means (Err LineFault.OutOfMemory) = Unit {0}

-- what was found of a line of a roster's day is what the line means
abbrev pub FindsLine : Roster → List ℕ → Result ScriptLine LineFault → Type 0
FindsLine r line result = Finds meaning_of (LineMeans r line) result

-- the same of a line's value
abbrev pub FindsValue : Roster → Tree → Result ScriptLine LineFault → Type 0
FindsValue r t result = Finds meaning_of (ValueMeans r t) result

-- the same of a request with its answers and its moment
abbrev pub FindsAsk : Roster → Tree → Option (List Tree) → Option ℕ → Result Ask LineFault → Type 0
FindsAsk r request answers now result = Finds (λ a. calls (ask a)) (AskMeans r request answers now) result

-- the tree is this request, or is refused by its first fault
abbrev pub FindsRequest : Tree → Result BidRequest LineFault → Type 0
FindsRequest t (Ok r) = IsRequest t r
FindsRequest t (Err (LineFault.Refused why)) = (f : RequestFault) × (request_fault t ≡ Some f) × (why ≡ Request f)
FindsRequest t (Err LineFault.OutOfMemory) = Unit {0}

-- a notice was found, or the line is no call
abbrev pub meaning_of_notice : Option Notice → Meaning
meaning_of_notice None = refused NoCall
meaning_of_notice (Some n) = calls (notice n.kind n.auction n.award)

-- the call is one that a day with so many campaigns takes
abbrev pub IsReadyLine : ℕ → ScriptLine → Type 0
IsReadyLine campaigns found = IsCall campaigns (call_of found)
