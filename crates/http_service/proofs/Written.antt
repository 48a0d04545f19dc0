-- What was written of a reply, and the causes of an end.
use Rattle.std.proofs.Common.{◌≡◌, ℕ, List, take, drop, Bool, not, Option, Some, Err, sym, ap, ◌∙◌, subst}
use Rattle.std.proofs.lemmas.List.{take-append-drop}
use Rattle.adx_io.specs.Streams.{Took}
use Rattle.http_connection.specs.Steps.{ReadsBy}
use Rattle.http_connection.specs.Answers.{Shows}
use Rattle.http_connection.specs.Messages.{Request}
use Rattle.http_connection.specs.declared.conn.ConnEnd.{ConnEnd}
use Rattle.http_connection.specs.declared.conn.Message.{Message}
use Rattle.http_grammar.specs.Requests.{is_kept, verb_of_method}
use Rattle.http_grammar.specs.declared.fault.HttpFault.{HttpFault}
use Rattle.http_service.specs.Connections.{HasCauses, TookFront}
use Rattle.http_service.specs.Replies.{answer_bytes, fault_status, is_head, reply_to}
use Rattle.http_service.specs.Steps.{StepCauses}
use Rattle.http_service.specs.declared.answer.Answer.{Answer}

-- so many bytes are a front
pub front_of : (held held_now : Option (List ℕ)) (bytes : List ℕ) (n : ℕ) → Took held held_now (take n bytes) → TookFront held held_now bytes
front_of held held_now bytes n took = (take n bytes, drop n bytes, sym (take-append-drop n bytes), took)

-- the reply to the message that is shown
pub took_reply : (Takes : Option (List ℕ) → Option (List ℕ) → List ℕ → Type 0) (held held_now : Option (List ℕ)) (message : Message) (m : Request) (a : Answer) (body bytes : List ℕ) (head : Bool)
    → Shows message m → head ≡ is_head message.verb → bytes ≡ body → Takes held held_now (answer_bytes (not message.keep) head a bytes) → Takes held held_now (reply_to m a body)
took_reply Takes held held_now message m a body bytes head shows head_is bytes_are took =
    let e : answer_bytes (not message.keep) head a bytes ≡ reply_to m a body =
    ap (λ (k : Bool). answer_bytes (not k) head a bytes) (Shows.keep shows)
    ∙ ap (λ (h : Bool). answer_bytes (not (is_kept m.head)) h a bytes) (head_is ∙ ap is_head (Shows.verb shows))
    ∙ ap (λ (b : List ℕ). answer_bytes (not (is_kept m.head)) (is_head (verb_of_method m.head.method)) a b) bytes_are in
    subst (λ (b : List ℕ). Takes held held_now b) e took

-- a fault that has a reply isn't the source's
reads_same : (before now : ℕ) (given : HttpFault) (status : ℕ) → fault_status given ≡ Some status → ReadsBy {T = Option Message} before now (Err given) → now ≡ before
reads_same before now HttpFault.ReadFault status answered r = absurd (cc)
reads_same before now HttpFault.BadHead status answered r = r
reads_same before now HttpFault.HeadTooLong status answered r = r
reads_same before now HttpFault.LengthRequired status answered r = r
reads_same before now HttpFault.BodyTooLong status answered r = r
reads_same before now HttpFault.BadChunk status answered r = r
reads_same before now HttpFault.Cut status answered r = r
reads_same before now HttpFault.Coding status answered r = r

pub refused_causes : (before now write write_now : ℕ) (fault given : HttpFault) (status : ℕ) (end : ConnEnd) → fault ≡ given → fault_status given ≡ Some status → ((faults : ℕ) → HasCauses faults faults write write_now end) → ReadsBy {T = Option Message} before now (Err fault) → HasCauses before now write write_now end
refused_causes before now write write_now fault given status end is answered causes r =
    subst (λ (n : ℕ). HasCauses before n write write_now end) (sym (reads_same before now given status answered (subst (λ (f : HttpFault). ReadsBy {T = Option Message} before now (Err f)) is r))) (causes before)

pub step_causes : (before now write write_now : ℕ) (end : Option ConnEnd) → now ≡ before → ((faults : ℕ) → StepCauses faults faults write write_now end) → StepCauses before now write write_now end
step_causes before now write write_now end same causes = subst (λ (n : ℕ). StepCauses before n write write_now end) (sym same) (causes before)
