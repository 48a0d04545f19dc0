-- What was found of a message before it is lent; private clauses alone cite this file.
use Rattle.std.specs.Prelude.{◌≡◌, ◌⊎◌, ℕ, ◌<◌, ◌≤◌, List, [], length, take, drop, Option, Some, None, Result, Ok, Err}
use Rattle.adx_io.specs.Streams.{Tape, WhereTold}
use Rattle.httparse.specs.Spans.{span_bytes}
use Rattle.httparse.specs.Grammar.{status_code}
use Rattle.http_connection.specs.BufferState.{BufferState}
use Rattle.http_grammar.specs.Requests.{verb_of_method, is_kept, SaysRequest}
use Rattle.http_grammar.specs.declared.parts.RequestParts.{RequestParts}
use Rattle.http_grammar.specs.declared.fault.HttpFault.{HttpFault}
use Rattle.http_connection.specs.HeadEnds.{HeadEndsAt, NeverHasHead, HasNoHeadYet}
use Rattle.http_connection.specs.declared.chunks.TheConstants.{LINE_COUNT_LIMIT}
use Rattle.http_connection.specs.BodyForms.{HasBody, body_of_request}
use Rattle.http_connection.specs.Steps.{HasGiven, coming}
use Rattle.http_connection.specs.Messages.{Request, IsRequestThen, RefusesRequest, IsUnfinishedRequest, ResponseRead, IsResponseThen, RefusesResponse, IsUnfinishedResponse}
use Rattle.http_connection.specs.declared.conn.Found.{Found}
use Rattle.http_connection.specs.declared.whole.Whole.{Whole}

-- the bytes begin with a head that is so long, whose lines are few
pub record HasHead (bytes : List ℕ) (end : ℕ) : Type 0 where
  pub lines : ℕ
  pub ends : HeadEndsAt bytes end lines
  pub few : lines ≤ LINE_COUNT_LIMIT

-- what was found of a head: where it ends, that nothing came, or why there is none
abbrev pub HeadGives : List ℕ → Result (Option ℕ) HttpFault → Type 0
HeadGives bytes (Ok (Some end)) = HasHead bytes end
HeadGives bytes (Ok None) = bytes ≡ []
HeadGives bytes (Err HttpFault.HeadTooLong) = NeverHasHead bytes ⊎ ((end lines : ℕ) × HeadEndsAt bytes end lines × (LINE_COUNT_LIMIT < lines))
HeadGives bytes (Err HttpFault.Cut) = HasNoHeadYet bytes × (0 < length bytes)
HeadGives bytes (Err HttpFault.ReadFault) = HasNoHeadYet bytes
HeadGives bytes (Err HttpFault.BadHead) = ⊥
HeadGives bytes (Err HttpFault.LengthRequired) = ⊥
HeadGives bytes (Err HttpFault.BodyTooLong) = ⊥
HeadGives bytes (Err HttpFault.BadChunk) = ⊥
HeadGives bytes (Err HttpFault.Coding) = ⊥

-- the bytes begin with the head of a request that is so long and says this
pub record HasRequestHead (limit : ℕ) (bytes : List ℕ) (end : ℕ) (parts : RequestParts) : Type 0 where
  pub has : HasHead bytes end
  pub says : SaysRequest limit (take end bytes) parts

-- what was found shows the request in what is kept
pub record FoundShows (f : Found) (kept : List ℕ) (r : Request) : Type 0 where
  pub verb : f.verb ≡ verb_of_method r.head.method
  pub target : span_bytes (take f.head kept) f.target ≡ r.head.target
  pub body : drop f.head kept ≡ r.body
  pub keep : f.keep ≡ is_kept r.head

-- the bytes begin with a whole request, whose head is so long and says this
pub record IsWhole (limit : ℕ) (bytes : List ℕ) (w : Whole) : Type 0 where
  pub head : HasRequestHead limit bytes w.head w.parts
  pub body : HasBody limit (body_of_request w.parts.framing) (drop w.head bytes)

-- the offsets are in their order
pub record IsWithin (f : Found) (kept : List ℕ) : Type 0 where
  pub head : f.head ≤ length kept
  pub start : f.target.start ≤ f.target.end
  pub end : f.target.end ≤ f.head

-- what is wrong holds of all bytes that come; where the source fails, what came is unfinished
abbrev pub FaultGives : (ℕ → List ℕ → HttpFault → Type 0) → (ℕ → List ℕ → Type 0) → ℕ → BufferState → Option Tape → Option Tape → HttpFault → Type 0
FaultGives refuses unfinished limit before old new HttpFault.ReadFault = HasGiven before old new (unfinished limit)
FaultGives refuses unfinished limit before old new HttpFault.BadHead = WhereTold old new (λ o n. refuses limit (coming before o) HttpFault.BadHead)
FaultGives refuses unfinished limit before old new HttpFault.HeadTooLong = WhereTold old new (λ o n. refuses limit (coming before o) HttpFault.HeadTooLong)
FaultGives refuses unfinished limit before old new HttpFault.LengthRequired = WhereTold old new (λ o n. refuses limit (coming before o) HttpFault.LengthRequired)
FaultGives refuses unfinished limit before old new HttpFault.BodyTooLong = WhereTold old new (λ o n. refuses limit (coming before o) HttpFault.BodyTooLong)
FaultGives refuses unfinished limit before old new HttpFault.BadChunk = WhereTold old new (λ o n. refuses limit (coming before o) HttpFault.BadChunk)
FaultGives refuses unfinished limit before old new HttpFault.Cut = WhereTold old new (λ o n. refuses limit (coming before o) HttpFault.Cut)
FaultGives refuses unfinished limit before old new HttpFault.Coding = WhereTold old new (λ o n. refuses limit (coming before o) HttpFault.Coding)

abbrev pub RequestGives : ℕ → BufferState → BufferState → Option Tape → Option Tape → Result (Option Found) HttpFault → Type 0
RequestGives limit before now old new (Ok (Some f)) =
    IsWithin f now.kept × WhereTold old new (λ o n. (r : Request) × IsRequestThen limit (coming before o) r (coming now n) × FoundShows f now.kept r)
RequestGives limit before now old new (Ok None) = WhereTold old new (λ o n. (coming before o ≡ []) × (coming now n ≡ []))
RequestGives limit before now old new (Err fault) = FaultGives RefusesRequest IsUnfinishedRequest limit before old new fault

-- the whole request that was pending is kept, what was found shows it, and what came after it is pending
abbrev pub GivesWhole : ℕ → BufferState → BufferState → Found → Type 0
GivesWhole limit before now f =
    IsWithin f now.kept × ((r : Request) × IsRequestThen limit before.pending r now.pending × FoundShows f now.kept r)

-- a status, and a response in what is kept, whose head is so long
pub record StatusShows (status head : ℕ) (kept : List ℕ) (r : ResponseRead) : Type 0 where
  pub status_is : status ≡ status_code r.head
  pub body : drop head kept ≡ r.body

abbrev pub ResponseGives : ℕ → BufferState → BufferState → Option Tape → Option Tape → Result (ℕ × ℕ) HttpFault → Type 0
ResponseGives limit before now old new (Ok f) =
    (f.1 ≤ length now.kept) × WhereTold old new (λ o n. (r : ResponseRead) × IsResponseThen limit (coming before o) r (coming now n) × StatusShows f.0 f.1 now.kept r)
ResponseGives limit before now old new (Err fault) = FaultGives RefusesResponse IsUnfinishedResponse limit before old new fault
