-- A list of bytes as messages (RFC 9112). It speaks of all bytes that come, and knows no buffer and no pieces. The order
-- of the tests and the bounds are this project's own; the grammar of heads is that of `httparse`.
use Rattle.std.specs.Prelude.{◌≡◌, ◌⊎◌, ℕ, ◌<◌, ◌≤◌, List, [], ◌∷◌, length, Option}
use Rattle.httparse.specs.Grammar.{RequestHead, ResponseHead, ReadsRequest, ReadsResponse, status_code}
use Rattle.http_connection.specs.HeadEnds.{BeginsWithHead, HasNoHead}
use Rattle.http_connection.specs.declared.head.TheConstants.{HEAD_LIMIT}
use Rattle.http_grammar.specs.Judged.{IsSoundRequest, FailsRequest, IsSoundResponse, FailsResponse}
use Rattle.http_grammar.specs.Requests.{pairs, response_pairs, is_post}
use Rattle.http_grammar.specs.declared.framing.Framing.{Framing}
use Rattle.http_grammar.specs.declared.fault.HttpFault.{HttpFault}
use Rattle.http_connection.specs.declared.chunks.TheConstants.{LINE_COUNT_LIMIT}
use Rattle.http_connection.specs.BodyForms.{body_of_request, body_of_response, IsBodyThen, FailsBody}
use Rattle.http_connection.specs.declared.bodies.Body.{Body}

-- no head ends in the bytes: they are too long for one, or cut
abbrev pub FailsWithoutHead : List ℕ → HttpFault → Type 0
FailsWithoutHead bytes HttpFault.HeadTooLong = HasNoHead bytes × (HEAD_LIMIT ≤ length bytes)
FailsWithoutHead bytes HttpFault.Cut = HasNoHead bytes × (0 < length bytes) × (length bytes < HEAD_LIMIT)
FailsWithoutHead bytes fault = ⊥

-- a request's head and its body
pub record Request : Type 0 where
  pub head : RequestHead
  pub body : List ℕ

-- the bytes begin with this request
pub record IsRequestThen (limit : ℕ) (bytes : List ℕ) (m : Request) (rest : List ℕ) : Type 0 where
  pub head : List ℕ
  pub behind : List ℕ
  pub framing : Framing
  pub begins : BeginsWithHead bytes head behind
  pub few : length begins.lines ≤ LINE_COUNT_LIMIT
  pub reads : ReadsRequest head m.head []
  pub sound : IsSoundRequest limit m.head.minor (is_post m.head) (pairs m.head) framing
  pub body : IsBodyThen limit (body_of_request framing) behind m.body rest

-- What is wrong with a request whose head ends there: too many lines, then the grammar, then the tests of the head, and
-- then the body.
abbrev pub FailsRequestAt : ℕ → ℕ → List ℕ → List ℕ → HttpFault → Type 0
FailsRequestAt limit count head behind fault =
    ((LINE_COUNT_LIMIT < count) × (fault ≡ HttpFault.HeadTooLong))
    ⊎ (((count ≤ LINE_COUNT_LIMIT) × (fault ≡ HttpFault.BadHead) × ((h : RequestHead) → ReadsRequest head h [] → ⊥))
    ⊎ (((count ≤ LINE_COUNT_LIMIT) × (h : RequestHead) × ReadsRequest head h [] × FailsRequest limit h.minor (is_post h) (pairs h) fault)
    ⊎ ((count ≤ LINE_COUNT_LIMIT) × (h : RequestHead) × ReadsRequest head h [] × (framing : Framing)
    × IsSoundRequest limit h.minor (is_post h) (pairs h) framing × FailsBody limit (body_of_request framing) behind fault)))

-- what is wrong with the first request of the bytes
abbrev pub RefusesRequest : ℕ → List ℕ → HttpFault → Type 0
RefusesRequest limit bytes fault =
    FailsWithoutHead bytes fault
    ⊎ ((head behind : List ℕ) × (begins : BeginsWithHead bytes head behind) × FailsRequestAt limit (length begins.lines) head behind fault)

-- no byte, or the front of a request: the bytes would be cut if none followed
-- Example: `GET / HT`.
abbrev pub IsUnfinishedRequest : ℕ → List ℕ → Type 0
IsUnfinishedRequest limit bytes = (bytes ≡ []) ⊎ RefusesRequest limit bytes HttpFault.Cut

-- a response's head and its body
pub record ResponseRead : Type 0 where
  pub head : ResponseHead
  pub body : List ℕ

-- the bytes begin with this response
pub record IsResponseThen (limit : ℕ) (bytes : List ℕ) (m : ResponseRead) (rest : List ℕ) : Type 0 where
  pub head : List ℕ
  pub behind : List ℕ
  pub framing : Option Framing
  pub begins : BeginsWithHead bytes head behind
  pub few : length begins.lines ≤ LINE_COUNT_LIMIT
  pub reads : ReadsResponse head m.head []
  pub sound : IsSoundResponse limit (status_code m.head) (response_pairs m.head) framing
  pub body : IsBodyThen limit (body_of_response framing) behind m.body rest

-- the fault of a response whose head is this and has so many lines
abbrev pub FailsResponseAt : ℕ → ℕ → List ℕ → List ℕ → HttpFault → Type 0
FailsResponseAt limit count head behind fault =
    ((LINE_COUNT_LIMIT < count) × (fault ≡ HttpFault.HeadTooLong))
    ⊎ (((count ≤ LINE_COUNT_LIMIT) × (fault ≡ HttpFault.BadHead) × ((h : ResponseHead) → ReadsResponse head h [] → ⊥))
    ⊎ (((count ≤ LINE_COUNT_LIMIT) × (h : ResponseHead) × ReadsResponse head h [] × FailsResponse limit (status_code h) (response_pairs h) fault)
    ⊎ ((count ≤ LINE_COUNT_LIMIT) × (h : ResponseHead) × ReadsResponse head h [] × (framing : Option Framing)
    × IsSoundResponse limit (status_code h) (response_pairs h) framing × FailsBody limit (body_of_response framing) behind fault)))

-- what is wrong with the first response of the bytes; an end before its first byte is an end within it
abbrev pub RefusesResponse : ℕ → List ℕ → HttpFault → Type 0
RefusesResponse limit bytes fault =
    FailsWithoutHead bytes fault
    ⊎ (((head behind : List ℕ) × (begins : BeginsWithHead bytes head behind) × FailsResponseAt limit (length begins.lines) head behind fault)
    ⊎ ((bytes ≡ []) × (fault ≡ HttpFault.Cut)))

-- the front of a response: the bytes would be cut if none followed, or be a response whose body goes to their end
abbrev pub IsUnfinishedResponse : ℕ → List ℕ → Type 0
IsUnfinishedResponse limit bytes =
    RefusesResponse limit bytes HttpFault.Cut
    ⊎ ((m : ResponseRead) × (all : IsResponseThen limit bytes m []) × (body_of_response (IsResponseThen.framing all) ≡ Body.ToEnd))

-- the bytes are these requests one after the other, and then the rest
abbrev pub AreRequests : ℕ → List ℕ → List Request → List ℕ → Type 0
AreRequests limit bytes [] rest = bytes ≡ rest
AreRequests limit bytes (m ∷ ms) rest = (between : List ℕ) × IsRequestThen limit bytes m between × AreRequests limit between ms rest
