-- What the calls of a connection answer.
use Rattle.std.specs.Prelude.{◌≡◌, ℕ, ◌≤◌, List, [], ◌++◌, length, true, false, Option, Some, None, Result, Ok, Err, is_err, ⊤}
use Rattle.adx_io.specs.Streams.{Tape, WhereTold}
use Rattle.http_grammar.specs.Requests.{verb_of_method, is_kept}
use Rattle.http_grammar.specs.declared.fault.HttpFault.{HttpFault}
use Rattle.httparse.specs.Grammar.{status_code}
use Rattle.http_connection.specs.State.{ConnState, room_of}
use Rattle.http_connection.specs.Ready.{IsReady}
use Rattle.http_connection.specs.Steps.{Advances}
use Rattle.http_connection.specs.Messages.{Request, IsRequestThen, RefusesRequest, IsUnfinishedRequest, ResponseRead, IsResponseThen, RefusesResponse, IsUnfinishedResponse}
use Rattle.http_connection.specs.declared.conn.Message.{Message}
use Rattle.http_connection.specs.declared.conn.Response.{Response}

-- the message that is lent shows the request
pub record Shows (m : Message) (r : Request) : Type 0 where
  pub verb : m.verb ≡ verb_of_method r.head.method
  pub target : m.target.now ≡ r.head.target
  pub body : m.body.now ≡ r.body
  pub keep : m.keep ≡ is_kept r.head

-- all bytes that come give this answer, and the rest is still to come
-- Example: `GET / HTTP/1.1`, `Host: x`, an empty line, then `G`: the request, and `G` is the rest.
abbrev pub GivesMessage : ℕ → List ℕ → Result (Option Message) HttpFault → List ℕ → Type 0
GivesMessage limit bytes (Ok (Some m)) rest = (r : Request) × IsRequestThen limit bytes r rest × Shows m r
GivesMessage limit bytes (Ok None) rest = (bytes ≡ []) × (rest ≡ [])
GivesMessage limit bytes (Err HttpFault.ReadFault) rest = ⊤
GivesMessage limit bytes (Err fault) rest = RefusesRequest limit bytes fault

-- The next message, if there was no fault and the bytes held begin with a whole request: it shows that one, and what
-- comes after it is held, which is at most what a connection has room for. None where they don't, or after a fault;
-- then nothing changes.
abbrev pub AnswersHeld : ConnState → ConnState → Option Message → Type 0
AnswersHeld before now (Some m) =
    (before.failed ≡ false) × (now ≡ record before { held = now.held }) × (length now.held ≤ room_of before.limit)
    × ((r : Request) × IsRequestThen before.limit before.held r now.held × Shows m r)
AnswersHeld before now None = (IsReady before → ⊥) × (now ≡ before)

-- After a fault the answer is `Cut`, and nothing changes. Else the answer is a function of the bytes held and those that
-- the source has left, where it reports them. If the source fails, the bytes held and those it gave are unfinished:
-- no whole message is in them, and none that is refused. What was taken beyond a message is at most what a
-- connection has room for.
pub record AnswersMessage (before now : ConnState) (old new : Option Tape) (result : Result (Option Message) HttpFault) : Type 0 where
  pub limit : now.limit ≡ before.limit
  pub failed : before.failed ≡ true → (result ≡ Err HttpFault.Cut) × (now ≡ before) × (new ≡ old)
  pub sound : before.failed ≡ false → now.failed ≡ is_err result
  pub told : before.failed ≡ false → WhereTold old new (λ o n. GivesMessage before.limit (before.held ++ o.left) result (now.held ++ n.left))
  pub unread : result ≡ Err HttpFault.ReadFault
      → WhereTold old new (λ o n. (given : List ℕ) × (o.left ≡ given ++ n.left)
      × IsUnfinishedRequest before.limit (before.held ++ given))
  pub fits : (m : Message) → result ≡ Ok (Some m) → length now.held ≤ room_of before.limit
  pub advances : Advances old new

-- a response as its caller sees it has the status and the body of the one that was read
pub record ShowsResponse (m : Response) (r : ResponseRead) : Type 0 where
  pub status : m.status ≡ status_code r.head
  pub body : m.body.now ≡ r.body

-- What these bytes give: a response, and the bytes after it; or the fault that refuses them. A failed read says nothing
-- of the bytes.
abbrev pub GivesResponse : ℕ → List ℕ → Result Response HttpFault → List ℕ → Type 0
GivesResponse limit bytes (Ok m) rest = (r : ResponseRead) × IsResponseThen limit bytes r rest × ShowsResponse m r
GivesResponse limit bytes (Err HttpFault.ReadFault) rest = ⊤
GivesResponse limit bytes (Err fault) rest = RefusesResponse limit bytes fault

-- Reading a response. After a fault the answer is `Cut`, and nothing changes. Else the answer is a function of the bytes
-- held and those that the source has left. Where the source fails, no whole response and none that is refused is in the
-- bytes so far.
pub record AnswersResponse (before now : ConnState) (old new : Option Tape) (result : Result Response HttpFault) : Type 0 where
  pub limit : now.limit ≡ before.limit
  pub failed : before.failed ≡ true → (result ≡ Err HttpFault.Cut) × (now ≡ before) × (new ≡ old)
  pub sound : before.failed ≡ false → now.failed ≡ is_err result
  pub told : before.failed ≡ false → WhereTold old new (λ o n. GivesResponse before.limit (before.held ++ o.left) result (now.held ++ n.left))
  pub unread : result ≡ Err HttpFault.ReadFault
      → WhereTold old new (λ o n. (given : List ℕ) × (o.left ≡ given ++ n.left)
      × IsUnfinishedResponse before.limit (before.held ++ given))
  pub advances : Advances old new
