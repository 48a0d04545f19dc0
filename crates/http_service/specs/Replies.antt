-- The replies to messages: those that were answered, and those that are refused. This project's own: which fault has
-- which status (RFC 9110, section 15), and that a refusal has no body and closes its connection.
use Rattle.std.specs.Prelude.{ℕ, List, [], Bool, true, false, not, codes, Option, Some, None}
use Rattle.std.specs.Borrow.{Bor}
use Rattle.http_connection.specs.Messages.{Request}
use Rattle.http_grammar.specs.Requests.{is_kept, verb_of_method}
use Rattle.http_grammar.specs.declared.verb.Verb.{Verb}
use Rattle.http_grammar.specs.declared.fault.HttpFault.{HttpFault}
use Rattle.adx_http.specs.Replies.{reply_bytes}
use Rattle.http_service.specs.declared.answer.Answer.{Answer}
use Rattle.http_service.specs.declared.answer.Methods.{Methods}

-- the methods that are allowed (RFC 9110, section 10.2.1)
abbrev pub methods_text : Methods → List ℕ
methods_text Methods.Unsaid = []
methods_text Methods.Post = codes "POST"
methods_text Methods.Get = codes "GET"
methods_text Methods.GetAndPost = codes "GET, POST"

-- the status by which a message is refused; none where the bytes end or the source fails
-- Example: a POST that says no length is refused with 411.
abbrev pub fault_status : HttpFault → Option ℕ
fault_status HttpFault.BadHead = Some 400
fault_status HttpFault.HeadTooLong = Some 431
fault_status HttpFault.LengthRequired = Some 411
fault_status HttpFault.BodyTooLong = Some 413
fault_status HttpFault.BadChunk = Some 400
fault_status HttpFault.Cut = None
fault_status HttpFault.ReadFault = None
fault_status HttpFault.Coding = Some 415

-- bytes that a reply is lent, wherever they lie
abbrev pub lent : List ℕ → Bor (List ℕ)
lent bytes = record { ref_ptr = (0, 0); now = bytes }

-- the bytes of the reply with an answer and its body
abbrev pub answer_bytes : Bool → Bool → Answer → List ℕ → List ℕ
answer_bytes close head a body =
    reply_bytes (record {
      status = a.status;
      json = true;
      openrtb = a.openrtb;
      close = close;
      allow = lent (methods_text a.allow);
      head = head;
      body = lent body;
    })

-- the method is HEAD, whose reply has no body
abbrev pub is_head : Verb → Bool
is_head Verb.Get = false
is_head Verb.Head = true
is_head Verb.Post = false
is_head Verb.Other = false

-- the bytes of what a message is replied: it says `close` where the message doesn't keep its connection, and a HEAD's
-- has no body
abbrev pub reply_to : Request → Answer → List ℕ → List ℕ
reply_to m a body = answer_bytes (not (is_kept m.head)) (is_head (verb_of_method m.head.method)) a body

-- the bytes of the reply to a message that is refused
abbrev pub refusal_bytes : ℕ → List ℕ
refusal_bytes status =
    reply_bytes (record {
      status = status;
      json = true;
      openrtb = false;
      close = true;
      allow = lent [];
      head = false;
      body = lent [];
    })
