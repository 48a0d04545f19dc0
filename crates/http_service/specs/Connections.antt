-- What comes of a connection whose messages are served one after another: which messages came, what they were replied,
-- in which state that left the service, and why no more were read (RFC 9112, section 9). It speaks of any service, by
-- what it answers to a message in a state. This project's own: how many messages a connection may bring, and the ends.
use Rattle.std.specs.Prelude.{◌≡◌, ◌≢◌, ◌⊎◌, ℕ, ◌<◌, ◌≤◌, List, [], ◌∷◌, ◌++◌, length, All, true, false, Option, Some}
use Rattle.adx_io.specs.Streams.{Tape, WhereTold, Took, Rises}
use Rattle.http_connection.specs.Messages.{Request, AreRequests, RefusesRequest, IsUnfinishedRequest}
use Rattle.http_connection.specs.State.{room_of}
use Rattle.http_connection.specs.declared.conn.ConnEnd.{ConnEnd}
use Rattle.http_grammar.specs.Requests.{is_kept}
use Rattle.http_grammar.specs.declared.fault.HttpFault.{HttpFault}
use Rattle.http_service.specs.Replies.{fault_status, refusal_bytes, reply_to}
use Rattle.http_service.specs.declared.answer.Answer.{Answer}
use Rattle.http_service.specs.declared.limits.TheConstants.{MESSAGE_LIMIT}

-- what a service answers to a message in a state, with the body, and the state that it leaves
abbrev pub Answering : Type 0 → Type 1
Answering S = S → Request → Answer → List ℕ → S → Type 0

-- the state that a message leaves where memory was refused before it was answered
abbrev pub GivingUp : Type 0 → Type 1
GivingUp S = S → Request → S → Type 0

-- what messages are replied, each in the state that those before it left, and the state after the last
abbrev pub Replies : {S : Type 0} → Answering S → S → List Request → List ℕ → S → Type 0
Replies answers s [] out now = (out ≡ []) × (now ≡ s)
Replies {S = S} answers s (m ∷ ms) out now =
    (a : Answer) × (body : List ℕ) × (between : S) × (rest : List ℕ)
    × answers s m a body between × Replies answers between ms rest now × (out ≡ reply_to m a body ++ rest)

-- each of the messages keeps its connection, and one more may come
pub record GoOn (ms : List Request) : Type 0 where
  pub kept : All (λ (m : Request). is_kept m.head ≡ true) ms
  pub few : length ms < MESSAGE_LIMIT

-- the last of the messages doesn't keep its connection
pub record CloseLast (ms : List Request) : Type 0 where
  pub before : List Request
  pub last : Request
  pub split : ms ≡ before ++ last ∷ []
  pub go_on : GoOn before
  pub closes : is_kept last.head ≡ false

-- as many messages came as a connection may bring
pub record AreSpent (ms : List Request) : Type 0 where
  pub kept : All (λ (m : Request). is_kept m.head ≡ true) ms
  pub many : length ms ≡ MESSAGE_LIMIT

-- the bytes that come, where the source reports them, are these messages, and then a rest of which this is so: what was
-- taken beyond them, and what is left
abbrev pub Brings : ℕ → Option Tape → Option Tape → List Request → (List ℕ → Type 0) → Type 0
Brings limit tape tape_now ms Rest =
    WhereTold tape tape_now (λ before now. (beyond : List ℕ) × AreRequests limit before.left ms (beyond ++ now.left) × Rest (beyond ++ now.left))

-- the bytes that come, where the source reports them, begin with these messages; what was taken beyond them is at most what
-- a connection has room for
-- Example: a message that says `close`, and a gigabyte after it: at most 163,840 bytes of that were taken (limit
-- 65,536).
abbrev pub BringsLast : ℕ → Option Tape → Option Tape → List Request → Type 0
BringsLast limit tape tape_now ms =
    WhereTold tape tape_now (λ before now. (beyond : List ℕ) × (length beyond ≤ room_of limit) × AreRequests limit before.left ms (beyond ++ now.left))

-- the bytes that the source gave, where it reports them, are these messages, and then a rest of which this is so; what is
-- left comes after that
-- Example: the source gives a message and `GET`, and fails: the message is replied, and the rest is `GET`, which
-- is unfinished.
abbrev pub Gave : ℕ → Option Tape → Option Tape → List Request → (List ℕ → Type 0) → Type 0
Gave limit tape tape_now ms Rest =
    WhereTold tape tape_now (λ before now. (given : List ℕ) × (rest : List ℕ) × (before.left ≡ given ++ now.left) × AreRequests limit given ms rest × Rest rest)

-- these messages were replied, and the sink took the replies
pub record Served {S : Type 0} (answers : Answering S) (ms : List Request) (held held_now : Option (List ℕ)) (s now : S) : Type 0 where
  pub out : List ℕ
  pub replies : Replies answers s ms out now
  pub took : Took held held_now out

-- the sink took some front of these bytes
abbrev pub TookFront : Option (List ℕ) → Option (List ℕ) → List ℕ → Type 0
TookFront held held_now bytes = (front back : List ℕ) × (bytes ≡ front ++ back) × Took held held_now front

-- after these bytes the sink took some front of those
abbrev pub TookWithFront : Option (List ℕ) → Option (List ℕ) → List ℕ → List ℕ → Type 0
TookWithFront held held_now out bytes = (front back : List ℕ) × (bytes ≡ front ++ back) × Took held held_now (out ++ front)

-- a message is refused for this fault, and its reply is written after those to the messages before it
pub record Refuses {S : Type 0} (answers : Answering S) (limit : ℕ) (tape tape_now : Option Tape)
    (held held_now : Option (List ℕ)) (s now : S) (fault : HttpFault) : Type 0 where
  pub ms : List Request
  pub out : List ℕ
  pub status : ℕ
  pub go_on : GoOn ms
  pub replies : Replies answers s ms out now
  pub answered : fault_status fault ≡ Some status
  pub took : Took held held_now (out ++ refusal_bytes status)
  pub brings : Brings limit tape tape_now ms (λ rest. RefusesRequest limit rest fault)

-- the sink failed within the reply to a message that is refused for this fault; it took the replies to all before it
pub record FailsRefusing {S : Type 0} (answers : Answering S) (limit : ℕ) (tape tape_now : Option Tape)
    (held held_now : Option (List ℕ)) (s now : S) (fault : HttpFault) : Type 0 where
  pub ms : List Request
  pub out : List ℕ
  pub status : ℕ
  pub go_on : GoOn ms
  pub replies : Replies answers s ms out now
  pub answered : fault_status fault ≡ Some status
  pub took : TookWithFront held held_now out (refusal_bytes status)
  pub brings : Brings limit tape tape_now ms (λ rest. RefusesRequest limit rest fault)

-- the sink failed within the reply to the last message; it took the replies to all before it
pub record FailsWriting {S : Type 0} (answers : Answering S) (limit : ℕ) (tape tape_now : Option Tape) (held held_now : Option (List ℕ)) (s now : S) : Type 0 where
  pub before : List Request
  pub last : Request
  pub between : S
  pub out : List ℕ
  pub answer : Answer
  pub body : List ℕ
  pub go_on : GoOn before
  pub replies : Replies answers s before out between
  pub answered : answers between last answer body now
  pub took : TookWithFront held held_now out (reply_to last answer body)
  pub brings : BringsLast limit tape tape_now (before ++ last ∷ [])

-- memory was refused before any message came, or while one was answered, whose reply wasn't begun
abbrev pub GaveUp : {S : Type 0} → GivingUp S → ℕ → Option Tape → Option Tape → List Request → S → S → Type 0
GaveUp gives_up limit tape tape_now ms s now =
    ((ms ≡ []) × (now ≡ s) × (tape_now ≡ tape)) ⊎ ((m : Request) × gives_up s m now × BringsLast limit tape tape_now (ms ++ m ∷ []))

-- How a connection ended, what its source brought, what its sink took, and in which state the service was left. Where the
-- source failed, all whole messages that it gave were answered, and what it gave after them is the front of one or nothing.
-- Where the sink failed, it took all replies but the last, and a front of that one.
-- Example: two messages of which the second says `close`, and more bytes: both are replied, the end is `Closed`,
-- and at most a connection's room was taken of the bytes beyond.
abbrev pub EndsWith : {S : Type 0} → Answering S → GivingUp S → ℕ → Option Tape → Option Tape → Option (List ℕ) → Option (List ℕ) → S → S → ConnEnd → Type 0
EndsWith answers gives_up limit tape tape_now held held_now s now ConnEnd.Closed =
    (ms : List Request) × Served answers ms held held_now s now
    × ((GoOn ms × Brings limit tape tape_now ms (λ rest. rest ≡ [])) ⊎ (CloseLast ms × BringsLast limit tape tape_now ms))
EndsWith answers gives_up limit tape tape_now held held_now s now ConnEnd.Cut =
    (ms : List Request) × Served answers ms held held_now s now × GoOn ms × Brings limit tape tape_now ms (λ rest. RefusesRequest limit rest HttpFault.Cut)
EndsWith answers gives_up limit tape tape_now held held_now s now (ConnEnd.Refused fault) =
    Refuses answers limit tape tape_now held held_now s now fault
EndsWith answers gives_up limit tape tape_now held held_now s now ConnEnd.ReadFault =
    (ms : List Request) × Served answers ms held held_now s now × GoOn ms × Gave limit tape tape_now ms (IsUnfinishedRequest limit)
EndsWith answers gives_up limit tape tape_now held held_now s now ConnEnd.WriteFault =
    FailsWriting answers limit tape tape_now held held_now s now
    ⊎ ((fault : HttpFault) × FailsRefusing answers limit tape tape_now held held_now s now fault)
EndsWith answers gives_up limit tape tape_now held held_now s now ConnEnd.Spent =
    (ms : List Request) × Served answers ms held held_now s now × AreSpent ms × BringsLast limit tape tape_now ms
EndsWith {S = S} answers gives_up limit tape tape_now held held_now s now ConnEnd.OutOfMemory =
    (ms : List Request) × (between : S) × Served answers ms held held_now s between × GoOn ms × GaveUp gives_up limit tape tape_now ms between now

-- each fault has its cause, and no fault is passed over
pub record HasCauses (read read_now write write_now : ℕ) (end : ConnEnd) : Type 0 where
  pub read_later : read ≤ read_now
  pub write_later : write ≤ write_now
  pub read_fault : end ≡ ConnEnd.ReadFault → Rises read read_now
  pub write_fault : end ≡ ConnEnd.WriteFault → Rises write write_now
  pub read_same : end ≢ ConnEnd.ReadFault → read_now ≡ read
  pub write_same : end ≢ ConnEnd.WriteFault → write_now ≡ write
