-- What the head of a message says to its reader.
use Rattle.std.specs.Prelude.{◌≡◌, ◌⊎◌, ℕ, ◌≤◌, List, [], length, drop, map, Bool, ◌&&◌, ◌==◌, not, Result, Ok, Err, codes, if◌then◌else◌}
use Rattle.std.specs.Str.{bytes_eq}
use Rattle.httparse.specs.Grammar.{RequestHead, ReadsRequest, print_request, ResponseHead, ReadsResponse, status_code}
use Rattle.httparse.specs.Spans.{name_and_value, span_bytes}
use Rattle.http_grammar.specs.Fields.{says_close}
use Rattle.http_grammar.specs.Judged.{IsSoundRequest, FailsRequest, IsSoundResponse, FailsResponse}
use Rattle.http_grammar.specs.declared.verb.Verb.{Verb}
use Rattle.http_grammar.specs.declared.fault.HttpFault.{HttpFault}
use Rattle.http_grammar.specs.declared.parts.FirstRequest.{FirstRequest}
use Rattle.http_grammar.specs.declared.parts.RequestParts.{RequestParts}
use Rattle.http_grammar.specs.declared.parts.ResponseParts.{ResponseParts}

-- the method that a name is; any other name is `Other`
abbrev pub verb_of_method : List ℕ → Verb
verb_of_method method =
    if bytes_eq method (codes "GET") then Verb.Get else (
    if bytes_eq method (codes "HEAD") then Verb.Head else (
    if bytes_eq method (codes "POST") then Verb.Post else Verb.Other))

-- the names and the values of a request's fields, and of a response's
abbrev pub pairs : RequestHead → List (List ℕ × List ℕ)
pairs h = map name_and_value h.fields

-- the names and the values of a response's fields
abbrev pub response_pairs : ResponseHead → List (List ℕ × List ℕ)
response_pairs h = map name_and_value h.fields

-- the method is POST
abbrev pub is_post : RequestHead → Bool
is_post h = bytes_eq h.method (codes "POST")

-- whether a request keeps its connection: one of HTTP/1.1 that doesn't say `close`
abbrev pub is_kept : RequestHead → Bool
is_kept h = (h.minor == 1) && not (says_close (pairs h))

-- the head passes each test, and the parts are its
pub record HasParts (limit : ℕ) (bytes : List ℕ) (h : RequestHead) (parts : RequestParts) : Type 0 where
  pub sound : IsSoundRequest limit h.minor (is_post h) (pairs h) parts.framing
  pub verb : parts.verb ≡ verb_of_method h.method
  pub target : span_bytes bytes parts.target ≡ h.target
  pub keep : parts.keep ≡ is_kept h

-- what a head says, or the first test that it fails
abbrev pub Judges : ℕ → List ℕ → RequestHead → Result RequestParts HttpFault → Type 0
Judges limit bytes h (Ok parts) = HasParts limit bytes h parts
Judges limit bytes h (Err fault) = FailsRequest limit h.minor (is_post h) (pairs h) fault

-- the bytes begin with a head that is so long and has at most so many fields, and this is what it says
pub record BeginsWithRequest (room limit : ℕ) (bytes : List ℕ) (first : FirstRequest) : Type 0 where
  pub h : RequestHead
  pub reads : ReadsRequest bytes h (drop first.len bytes)
  pub long : first.len ≡ length (print_request h)
  pub few : length h.fields ≤ room
  pub judges : Judges limit bytes h first.parts

-- the bytes begin with no head that has at most so many fields
abbrev pub BeginsWithNoRequest : ℕ → List ℕ → Type 0
BeginsWithNoRequest room bytes = (h : RequestHead) (rest : List ℕ) → ReadsRequest bytes h rest → length h.fields ≤ room → ⊥

-- the bytes are a request's head that passes each test, and the parts are its
pub record SaysRequest (limit : ℕ) (head : List ℕ) (parts : RequestParts) : Type 0 where
  pub h : RequestHead
  pub reads : ReadsRequest head h []
  pub has : HasParts limit head h parts

-- the bytes are no head with so few fields, or one that fails a test
abbrev pub RefusesRequest : ℕ → ℕ → List ℕ → HttpFault → Type 0
RefusesRequest room limit head fault =
    ((fault ≡ HttpFault.BadHead) × ((h : RequestHead) → ReadsRequest head h [] → length h.fields ≤ room → ⊥))
    ⊎ ((h : RequestHead) × ReadsRequest head h [] × FailsRequest limit h.minor (is_post h) (pairs h) fault)

-- the bytes are a response's head that passes each test, and the parts are its
pub record SaysResponse (limit : ℕ) (head : List ℕ) (parts : ResponseParts) : Type 0 where
  pub h : ResponseHead
  pub reads : ReadsResponse head h []
  pub sound : IsSoundResponse limit (status_code h) (response_pairs h) parts.framing
  pub status : parts.status ≡ status_code h

-- the first fault of a response's head
abbrev pub RefusesResponse : ℕ → ℕ → List ℕ → HttpFault → Type 0
RefusesResponse room limit head fault =
    ((fault ≡ HttpFault.BadHead) × ((h : ResponseHead) → ReadsResponse head h [] → length h.fields ≤ room → ⊥))
    ⊎ ((h : ResponseHead) × ReadsResponse head h [] × FailsResponse limit (status_code h) (response_pairs h) fault)
