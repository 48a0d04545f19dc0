-- What one step of serving a connection does; private clauses alone cite this file.
use Rattle.std.specs.Prelude.{◌≡◌, ◌⊎◌, ℕ, ◌≤◌, List, [], ◌++◌, length, All, true, false, Option, Some, None, Err}
use Rattle.adx_io.specs.Streams.{Tape, WhereTold, Took}
use Rattle.http_connection.specs.Steps.{ReadsBy}
use Rattle.http_connection.specs.State.{room_of}
use Rattle.http_connection.specs.declared.conn.Message.{Message}
use Rattle.http_connection.specs.Messages.{Request, IsRequestThen, AreRequests, RefusesRequest, IsUnfinishedRequest}
use Rattle.http_connection.specs.declared.conn.ConnEnd.{ConnEnd}
use Rattle.http_grammar.specs.Requests.{is_kept}
use Rattle.http_grammar.specs.declared.fault.HttpFault.{HttpFault}
use Rattle.http_service.specs.Connections.{Answering, GivingUp, HasCauses, Served, TookFront}
use Rattle.http_service.specs.Replies.{fault_status, refusal_bytes, reply_to}
use Rattle.http_service.specs.declared.answer.Answer.{Answer}

-- a message was answered, and of its reply this was written
pub record Answers {S : Type 0} (answers : Answering S) (Takes : Option (List ℕ) → Option (List ℕ) → List ℕ → Type 0)
    (held held_now : Option (List ℕ)) (s now : S) (m : Request) : Type 0 where
  pub answer : Answer
  pub body : List ℕ
  pub answered : answers s m answer body now
  pub took : Takes held held_now (reply_to m answer body)

-- what came of a message that was read: it was replied, and more may come (None); or the connection ended so
abbrev pub MessageEnds : {S : Type 0} → Answering S → GivingUp S → Option (List ℕ) → Option (List ℕ) → S → S → Request → Option ConnEnd → Type 0
MessageEnds answers gives_up held held_now s now m None = (is_kept m.head ≡ true) × Answers answers Took held held_now s now m
MessageEnds answers gives_up held held_now s now m (Some ConnEnd.Closed) = (is_kept m.head ≡ false) × Answers answers Took held held_now s now m
MessageEnds answers gives_up held held_now s now m (Some ConnEnd.Cut) = ⊥
MessageEnds answers gives_up held held_now s now m (Some (ConnEnd.Refused fault)) = ⊥
MessageEnds answers gives_up held held_now s now m (Some ConnEnd.ReadFault) = ⊥
MessageEnds answers gives_up held held_now s now m (Some ConnEnd.WriteFault) = Answers answers TookFront held held_now s now m
MessageEnds answers gives_up held held_now s now m (Some ConnEnd.Spent) = ⊥
MessageEnds answers gives_up held held_now s now m (Some ConnEnd.OutOfMemory) = gives_up s m now × (held_now ≡ held)

-- a refusal was written
pub record WritesRefusal (Takes : Option (List ℕ) → Option (List ℕ) → List ℕ → Type 0) (held held_now : Option (List ℕ)) (fault : HttpFault) : Type 0 where
  pub status : ℕ
  pub answered : fault_status fault ≡ Some status
  pub took : Takes held held_now (refusal_bytes status)

-- how a connection ends by a fault of its next message
abbrev pub FaultEnds : Option (List ℕ) → Option (List ℕ) → HttpFault → ConnEnd → Type 0
FaultEnds held held_now fault ConnEnd.Closed = ⊥
FaultEnds held held_now fault ConnEnd.Cut = (fault ≡ HttpFault.Cut) × (held_now ≡ held)
FaultEnds held held_now fault (ConnEnd.Refused f) = (f ≡ fault) × WritesRefusal Took held held_now fault
FaultEnds held held_now fault ConnEnd.ReadFault = (fault ≡ HttpFault.ReadFault) × (held_now ≡ held)
FaultEnds held held_now fault ConnEnd.WriteFault = WritesRefusal TookFront held held_now fault
FaultEnds held held_now fault ConnEnd.Spent = ⊥
FaultEnds held held_now fault ConnEnd.OutOfMemory = ⊥

-- the bytes that were held and those that come, where the source reports them, begin with this message; those held then are
-- at most what a connection has room for
pub record BringsOne (limit : ℕ) (ahead ahead_now : List ℕ) (tape tape_now : Option Tape) (m : Request) : Type 0 where
  pub fits : length ahead_now ≤ room_of limit
  pub is : WhereTold tape tape_now (λ before now. IsRequestThen limit (ahead ++ before.left) m (ahead_now ++ now.left))

-- of the bytes that were held and those that come this is so, and some of those that come were taken
abbrev pub Finds : List ℕ → Option Tape → Option Tape → (List ℕ → Type 0) → Type 0
Finds ahead tape tape_now Rest = WhereTold tape tape_now (λ before now. (piece : List ℕ) × (before.left ≡ piece ++ now.left) × Rest (ahead ++ before.left))

-- of the bytes that were held and those that the source gave, where it reports them, this is so
abbrev pub FindsGiven : List ℕ → Option Tape → Option Tape → (List ℕ → Type 0) → Type 0
FindsGiven ahead tape tape_now Rest = WhereTold tape tape_now (λ before now. (given : List ℕ) × (before.left ≡ given ++ now.left) × Rest (ahead ++ given))

-- what came of the next message of a connection: it was replied, and more may come (None); or the connection ended so
abbrev pub StepGives : {S : Type 0} → Answering S → GivingUp S → ℕ → List ℕ → List ℕ → Option Tape → Option Tape
    → Option (List ℕ) → Option (List ℕ) → S → S → Option ConnEnd → Type 0
StepGives answers gives_up limit ahead ahead_now tape tape_now held held_now s now None =
    (m : Request) × BringsOne limit ahead ahead_now tape tape_now m × MessageEnds answers gives_up held held_now s now m None
StepGives answers gives_up limit ahead ahead_now tape tape_now held held_now s now (Some ConnEnd.Closed) =
    ((now ≡ s) × (held_now ≡ held) × Finds ahead tape tape_now (λ rest. rest ≡ []))
    ⊎ ((m : Request) × BringsOne limit ahead ahead_now tape tape_now m × MessageEnds answers gives_up held held_now s now m (Some ConnEnd.Closed))
StepGives answers gives_up limit ahead ahead_now tape tape_now held held_now s now (Some ConnEnd.Cut) =
    (now ≡ s) × (held_now ≡ held) × Finds ahead tape tape_now (λ rest. RefusesRequest limit rest HttpFault.Cut)
StepGives answers gives_up limit ahead ahead_now tape tape_now held held_now s now (Some (ConnEnd.Refused fault)) =
    (now ≡ s) × WritesRefusal Took held held_now fault × Finds ahead tape tape_now (λ rest. RefusesRequest limit rest fault)
StepGives answers gives_up limit ahead ahead_now tape tape_now held held_now s now (Some ConnEnd.ReadFault) =
    (now ≡ s) × (held_now ≡ held) × FindsGiven ahead tape tape_now (IsUnfinishedRequest limit)
StepGives answers gives_up limit ahead ahead_now tape tape_now held held_now s now (Some ConnEnd.WriteFault) =
    ((m : Request) × BringsOne limit ahead ahead_now tape tape_now m × MessageEnds answers gives_up held held_now s now m (Some ConnEnd.WriteFault))
    ⊎ ((fault : HttpFault) × (now ≡ s) × WritesRefusal TookFront held held_now fault × Finds ahead tape tape_now (λ rest. RefusesRequest limit rest fault))
StepGives answers gives_up limit ahead ahead_now tape tape_now held held_now s now (Some ConnEnd.Spent) = ⊥
StepGives answers gives_up limit ahead ahead_now tape tape_now held held_now s now (Some ConnEnd.OutOfMemory) =
    (m : Request) × BringsOne limit ahead ahead_now tape tape_now m × MessageEnds answers gives_up held held_now s now m (Some ConnEnd.OutOfMemory)

-- so many messages were served, and more may come
pub record Runs {S : Type 0} (answers : Answering S) (limit count : ℕ) (ahead : List ℕ) (tape tape_now : Option Tape)
    (held held_now : Option (List ℕ)) (s now : S) : Type 0 where
  pub ms : List Request
  pub many : length ms ≡ count
  pub kept : All (λ (m : Request). is_kept m.head ≡ true) ms
  pub served : Served answers ms held held_now s now
  pub fits : length ahead ≤ room_of limit
  pub brings : WhereTold tape tape_now (λ before after. AreRequests limit before.left ms (ahead ++ after.left))

-- the causes of a step's end: more may come only where nothing failed
abbrev pub StepCauses : ℕ → ℕ → ℕ → ℕ → Option ConnEnd → Type 0
StepCauses read read_now write write_now None = (read_now ≡ read) × (write_now ≡ write)
StepCauses read read_now write write_now (Some end) = HasCauses read read_now write write_now end

-- the causes of an end by a fault of the next message
abbrev pub FaultCauses : ℕ → ℕ → ℕ → ℕ → HttpFault → ConnEnd → Type 0
FaultCauses read read_now write write_now fault end = ReadsBy {T = Option Message} read read_now (Err fault) → HasCauses read read_now write write_now end
