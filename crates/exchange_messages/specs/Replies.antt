-- The replies of an exchange (RFC 9110, section 15). This project's own: which outcome has which status, and the bodies,
-- which are JSON (RFC 8259) in its one compact spelling.
use Rattle.std.specs.Prelude.{◌≢◌, ℕ, List, [], codes}
use Rattle.adx_json.specs.declared.fault.JsonFault.{JsonFault}
use Rattle.answer_lines.specs.Answers.{fault_line}
use Rattle.answer_lines.specs.declared.faults.Fault.{Fault}
use Rattle.http_service.specs.Bodies.{disallowed, plain, refused_body}
use Rattle.http_service.specs.declared.answer.Answer.{Answer}
use Rattle.rtb_request.specs.declared.fault.RequestFault.{RequestFault}
use Rattle.script_lines.specs.Whys.{json_why, request_why}
use Rattle.exchange_messages.specs.Paths.{methods_of}
use Rattle.exchange_messages.specs.declared.refusal.Refusal.{Refusal}

-- an answer with its body
-- Example: a full journal gives 503 with its line.
pub record Reply : Type 0 where
  pub answer : Answer
  pub body : List ℕ

-- a status with a body
abbrev pub with_status : ℕ → List ℕ → Reply
with_status status body = record { answer = plain status; body = body }

-- nothing is to be said
abbrev pub no_content : Reply
no_content = with_status 204 []

-- the reply to a message that is no call of the day
abbrev pub refusal_reply : Refusal → Reply
refusal_reply Refusal.Path = with_status 404 (refused_body (codes "path"))
refusal_reply (Refusal.Method path) = record {
  answer = disallowed (methods_of path);
  body = refused_body (codes "method");
}
refusal_reply Refusal.Call = with_status 400 (refused_body (codes "call"))
refusal_reply (Refusal.Json fault) = with_status 400 (refused_body (json_why fault))
refusal_reply (Refusal.Request fault) = with_status 400 (refused_body (request_why fault))

-- a message may be answered by the refusal: it isn't out of memory
abbrev pub IsTold : Refusal → Type 0
IsTold Refusal.Path = Unit {0}
IsTold (Refusal.Method path) = Unit {0}
IsTold Refusal.Call = Unit {0}
IsTold (Refusal.Json fault) = fault ≢ JsonFault.OutOfMemory
IsTold (Refusal.Request fault) = fault ≢ RequestFault.OutOfMemory

-- the reply to a call that was given up
abbrev pub fault_reply : Fault → Reply
fault_reply Fault.Disk = with_status 500 (fault_line Fault.Disk)
fault_reply (Fault.JournalFull size) = with_status 503 (fault_line (Fault.JournalFull size))

-- the reply to a request for bids whose tick the disk's fault gave up: it wasn't asked
abbrev pub tick_fault_reply : Reply
tick_fault_reply = with_status 500 (codes "{\"answer\":\"diskfault\",\"of\":\"tick\"}")
