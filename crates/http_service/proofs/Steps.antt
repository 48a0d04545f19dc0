-- What one step of a connection gives, of what its calls say.
use Rattle.std.proofs.Common.{◌≡◌, ◌≤◌, inl, inr, ℕ, List, [], ◌++◌, length, Bool, true, false, Option, Some, None, Result, Ok, Err, refl, sym, ap, ◌∙◌, subst}
use Rattle.adx_io.specs.Streams.{Tape, WhereTold}
use Rattle.http_connection.specs.BufferState.{Passes}
use Rattle.http_connection.specs.Steps.{Advances}
use Rattle.http_connection.specs.Answers.{AnswersMessage, GivesMessage, Shows}
use Rattle.http_connection.specs.Messages.{Request, RefusesRequest}
use Rattle.http_connection.specs.State.{ConnState, room_of}
use Rattle.http_connection.specs.declared.conn.ConnEnd.{ConnEnd}
use Rattle.http_connection.specs.declared.conn.Message.{Message}
use Rattle.http_grammar.specs.Requests.{is_kept, verb_of_method}
use Rattle.http_grammar.specs.declared.fault.HttpFault.{HttpFault}
use Rattle.http_grammar.specs.declared.verb.Verb.{Verb}
use Rattle.httparse.specs.Grammar.{lf}
use Rattle.std.specs.Prelude.{codes}
use Rattle.http_service.specs.Connections.{Answering, GivingUp}
use Rattle.http_service.specs.Replies.{fault_status}
use Rattle.http_service.specs.Steps.{BringsOne, FaultEnds, Finds, MessageEnds, StepGives, WritesRefusal}

-- some request that a message shows, where the source doesn't report its bytes
method_for : Verb → List ℕ
method_for Verb.Get = codes "GET"
method_for Verb.Head = codes "HEAD"
method_for Verb.Post = codes "POST"
method_for Verb.Other = codes "PUT"

minor_for : Bool → ℕ
minor_for true = 1
minor_for false = 0

request_for : Message → Request
request_for m = record {
  head = record { blank = []; method = method_for m.verb; target = m.target.now; minor = minor_for m.keep; line_end = lf; fields = []; last = lf };
  body = m.body.now;
}

verb_back : (v : Verb) → v ≡ verb_of_method (method_for v)
unfolding method_for
verb_back Verb.Get = refl
verb_back Verb.Head = refl
verb_back Verb.Post = refl
verb_back Verb.Other = refl

keep_back : (target : List ℕ) (method : List ℕ) (k : Bool) → k ≡ is_kept (record { blank = []; method = method; target = target; minor = minor_for k; line_end = lf; fields = []; last = lf })
unfolding minor_for
keep_back target method true = refl
keep_back target method false = refl

shows_some : (m : Message) → (r : Request) × Shows m r
unfolding request_for
shows_some m = (request_for m, record { verb = verb_back m.verb; target = refl; body = refl; keep = keep_back m.target.now (method_for m.verb) m.keep })

-- a message was read: it is the one that the bytes bring, where they are reported
message_step : {S : Type 0} (answers : Answering S) (gives_up : GivingUp S) (limit : ℕ) (ahead ahead_now : List ℕ) (tape tape_now : Option Tape) (held held_now : Option (List ℕ)) (s now : S) (m : Message) (end : Option ConnEnd)
    → length ahead_now ≤ room_of limit → WhereTold tape tape_now (λ o n. GivesMessage limit (ahead ++ o.left) (Ok (Some m)) (ahead_now ++ n.left))
    → ((r : Request) → Shows m r → MessageEnds answers gives_up held held_now s now r end)
    → (r : Request) × BringsOne limit ahead ahead_now tape tape_now r × MessageEnds answers gives_up held held_now s now r end
message_step answers gives_up limit ahead ahead_now None tape_now held held_now s now m end fits told ends =
    let some = shows_some m in (some.0, record { fits = fits; is = told }, ends some.0 some.1)
message_step answers gives_up limit ahead ahead_now (Some o) None held held_now s now m end fits told ends = absurd told
message_step answers gives_up limit ahead ahead_now (Some o) (Some n) held held_now s now m end fits told ends = (told.0, record { fits = fits; is = told.1 }, ends told.0 told.2)

-- the step of a message that was read
step_of : {S : Type 0} (answers : Answering S) (gives_up : GivingUp S) (limit : ℕ) (ahead ahead_now : List ℕ) (tape tape_now : Option Tape) (held held_now : Option (List ℕ)) (s now : S) (end : Option ConnEnd)
    → (r : Request) × BringsOne limit ahead ahead_now tape tape_now r × MessageEnds answers gives_up held held_now s now r end
    → StepGives answers gives_up limit ahead ahead_now tape tape_now held held_now s now end
step_of answers gives_up limit ahead ahead_now tape tape_now held held_now s now None g = g
step_of answers gives_up limit ahead ahead_now tape tape_now held held_now s now (Some ConnEnd.Closed) g = inr g
step_of answers gives_up limit ahead ahead_now tape tape_now held held_now s now (Some ConnEnd.Cut) g = absurd g.2
step_of answers gives_up limit ahead ahead_now tape tape_now held held_now s now (Some (ConnEnd.Refused fault)) g = absurd g.2
step_of answers gives_up limit ahead ahead_now tape tape_now held held_now s now (Some ConnEnd.ReadFault) g = absurd g.2
step_of answers gives_up limit ahead ahead_now tape tape_now held held_now s now (Some ConnEnd.WriteFault) g = inl g
step_of answers gives_up limit ahead ahead_now tape tape_now held held_now s now (Some ConnEnd.Spent) g = absurd g.2
step_of answers gives_up limit ahead ahead_now tape tape_now held held_now s now (Some ConnEnd.OutOfMemory) g = g

pub served_step : {S : Type 0} (answers : Answering S) (gives_up : GivingUp S) (c c_now : ConnState) (tape tape_now : Option Tape) (held held_now : Option (List ℕ)) (s now : S) (m : Message) (end : Option ConnEnd)
    → c.failed ≡ false → AnswersMessage c c_now tape tape_now (Ok (Some m))
    → ((r : Request) → Shows m r → MessageEnds answers gives_up held held_now s now r end)
    → StepGives answers gives_up c.limit c.held c_now.held tape tape_now held held_now s now end
served_step answers gives_up c c_now tape tape_now held held_now s now m end sound a ends =
    step_of answers gives_up c.limit c.held c_now.held tape tape_now held held_now s now end
    (message_step answers gives_up c.limit c.held c_now.held tape tape_now held held_now s now m end (AnswersMessage.fits a m refl) (AnswersMessage.told a sound) ends)

-- what is so of all bytes, where some of those that come were taken
finds : (ahead : List ℕ) (old new : Option Tape) (P : List ℕ → List ℕ → Type 0) (Rest : List ℕ → Type 0) (after : Tape → List ℕ)
    → ((bytes rest : List ℕ) → P bytes rest → Rest bytes)
    → Advances old new → WhereTold old new (λ o n. P (ahead ++ o.left) (after n)) → Finds ahead old new Rest
finds ahead None new P Rest after f a w = w
finds ahead (Some o) None P Rest after f a w = w
finds ahead (Some o) (Some n) P Rest after f a w = (a.0, Passes.left a.1, f (ahead ++ o.left) (after n) w)

-- a fault that isn't the source's is one of all bytes
refused_bytes : (limit : ℕ) (fault : HttpFault) (bytes rest : List ℕ) → GivesMessage limit bytes (Err fault) rest → (fault ≡ HttpFault.ReadFault → ⊥) → RefusesRequest limit bytes fault
refused_bytes limit HttpFault.ReadFault bytes rest g other = absurd (other refl)
refused_bytes limit HttpFault.BadHead bytes rest g other = g
refused_bytes limit HttpFault.HeadTooLong bytes rest g other = g
refused_bytes limit HttpFault.LengthRequired bytes rest g other = g
refused_bytes limit HttpFault.BodyTooLong bytes rest g other = g
refused_bytes limit HttpFault.BadChunk bytes rest g other = g
refused_bytes limit HttpFault.Cut bytes rest g other = g
refused_bytes limit HttpFault.Coding bytes rest g other = g

finds_refusal : (c c_now : ConnState) (tape tape_now : Option Tape) (fault : HttpFault) → c.failed ≡ false → AnswersMessage c c_now tape tape_now (Err fault) → (fault ≡ HttpFault.ReadFault → ⊥) → Finds c.held tape tape_now (λ rest. RefusesRequest c.limit rest fault)
finds_refusal c c_now tape tape_now fault sound a other =
    finds c.held tape tape_now (λ bytes rest. GivesMessage c.limit bytes (Err fault) rest) (λ rest. RefusesRequest c.limit rest fault) (λ n. c_now.held ++ n.left) (λ bytes rest g. refused_bytes c.limit fault bytes rest g other) (AnswersMessage.advances a) (AnswersMessage.told a sound)

-- only a fault that isn't the source's has a reply
has_no_reply : (fault : HttpFault) (status : ℕ) → fault_status fault ≡ Some status → fault ≡ HttpFault.ReadFault → ⊥
has_no_reply fault status answered is = absurd (let e : fault_status HttpFault.ReadFault ≡ Some status = subst (λ (f : HttpFault). fault_status f ≡ Some status) is answered in cc)

-- the next message is refused, the bytes end within it, or the source fails
pub fault_step : {S : Type 0} (answers : Answering S) (gives_up : GivingUp S) (c c_now : ConnState) (tape tape_now : Option Tape) (held held_now : Option (List ℕ)) (s : S) (fault : HttpFault) (end : ConnEnd)
    → c.failed ≡ false → AnswersMessage c c_now tape tape_now (Err fault) → FaultEnds held held_now fault end
    → StepGives answers gives_up c.limit c.held c_now.held tape tape_now held held_now s s (Some end)
fault_step answers gives_up c c_now tape tape_now held held_now s fault ConnEnd.Closed sound a ends = absurd ends
fault_step answers gives_up c c_now tape tape_now held held_now s fault ConnEnd.Cut sound a ends = (
  refl,
  ends.1,
  subst (λ (f : HttpFault). Finds c.held tape tape_now (λ rest. RefusesRequest c.limit rest f)) ends.0 (finds_refusal c c_now tape tape_now fault sound a (λ is. absurd (let e : HttpFault.Cut ≡ HttpFault.ReadFault = sym ends.0 ∙ is in cc))),
)
fault_step answers gives_up c c_now tape tape_now held held_now s fault (ConnEnd.Refused f) sound a ends =
    subst (λ (g : HttpFault). StepGives answers gives_up c.limit c.held c_now.held tape tape_now held held_now s s (Some (ConnEnd.Refused g))) (sym ends.0)
    (refl, ends.1, finds_refusal c c_now tape tape_now fault sound a (has_no_reply fault (WritesRefusal.status ends.1) (WritesRefusal.answered ends.1)))
fault_step answers gives_up c c_now tape tape_now held held_now s fault ConnEnd.ReadFault sound a ends = (refl, ends.1, AnswersMessage.unread a (ap Err ends.0))
fault_step answers gives_up c c_now tape tape_now held held_now s fault ConnEnd.WriteFault sound a ends =
    inr (fault, refl, ends, finds_refusal c c_now tape tape_now fault sound a (has_no_reply fault (WritesRefusal.status ends) (WritesRefusal.answered ends)))
fault_step answers gives_up c c_now tape tape_now held held_now s fault ConnEnd.Spent sound a ends = absurd ends
fault_step answers gives_up c c_now tape tape_now held held_now s fault ConnEnd.OutOfMemory sound a ends = absurd ends

-- the same, by what the call answered
pub served_by : {S : Type 0} (answers : Answering S) (gives_up : GivingUp S) (c c_now : ConnState) (tape tape_now : Option Tape) (held held_now : Option (List ℕ)) (s now : S) (result : Result (Option Message) HttpFault) (m : Message) (end : Option ConnEnd)
    → result ≡ Ok (Some m) → c.failed ≡ false → AnswersMessage c c_now tape tape_now result
    → ((r : Request) → Shows m r → MessageEnds answers gives_up held held_now s now r end)
    → StepGives answers gives_up c.limit c.held c_now.held tape tape_now held held_now s now end
served_by answers gives_up c c_now tape tape_now held held_now s now result m end is sound a ends =
    served_step answers gives_up c c_now tape tape_now held held_now s now m end sound (subst (λ (r : Result (Option Message) HttpFault). AnswersMessage c c_now tape tape_now r) is a) ends

pub fault_by : {S : Type 0} (answers : Answering S) (gives_up : GivingUp S) (c c_now : ConnState) (tape tape_now : Option Tape) (held held_now : Option (List ℕ)) (s : S) (result : Result (Option Message) HttpFault) (fault : HttpFault) (end : ConnEnd)
    → result ≡ Err fault → c.failed ≡ false → AnswersMessage c c_now tape tape_now result → FaultEnds held held_now fault end
    → StepGives answers gives_up c.limit c.held c_now.held tape tape_now held held_now s s (Some end)
fault_by answers gives_up c c_now tape tape_now held held_now s result fault end is sound a ends =
    fault_step answers gives_up c c_now tape tape_now held held_now s fault end sound (subst (λ (r : Result (Option Message) HttpFault). AnswersMessage c c_now tape tape_now r) is a) ends
