-- The body after a head (RFC 9112, section 6). It speaks of all bytes that come, and knows no buffer and no pieces.
use Rattle.std.specs.Prelude.{◌≡◌, ℕ, ◌<◌, ◌≤◌, List, [], ◌++◌, length, Option, Some, None}
use Rattle.http_grammar.specs.declared.framing.Framing.{Framing}
use Rattle.http_grammar.specs.declared.fault.HttpFault.{HttpFault}
use Rattle.http_connection.specs.Chunks.{IsChunkedThen, FailsChunks, ChunkFault}
use Rattle.http_connection.specs.declared.bodies.Body.{Body}

-- a request that isn't framed has no body, and a response that isn't goes to the end of the bytes
abbrev pub body_of_request : Framing → Body
body_of_request Framing.Unframed = Body.Absent
body_of_request Framing.Chunked = Body.Chunked
body_of_request (Framing.Sized n) = Body.Sized n

-- The body of a response: none where its status allows none; in chunks; of a length; or up to the end of the bytes where
-- its head says neither.
abbrev pub body_of_response : Option Framing → Body
body_of_response None = Body.Absent
body_of_response (Some Framing.Unframed) = Body.ToEnd
body_of_response (Some Framing.Chunked) = Body.Chunked
body_of_response (Some (Framing.Sized n)) = Body.Sized n

-- the bytes after a head are this body and the rest
abbrev pub IsBodyThen : ℕ → Body → List ℕ → List ℕ → List ℕ → Type 0
IsBodyThen limit Body.Absent bytes body rest = (body ≡ []) × (rest ≡ bytes)
IsBodyThen limit (Body.Sized n) bytes body rest = (length body ≡ n) × (bytes ≡ body ++ rest)
IsBodyThen limit Body.Chunked bytes body rest = IsChunkedThen limit bytes body rest
IsBodyThen limit Body.ToEnd bytes body rest = (body ≡ bytes) × (rest ≡ []) × (length body ≤ limit)

-- what is wrong with the body; a length against the limit is a test of the head
abbrev pub FailsBody : ℕ → Body → List ℕ → HttpFault → Type 0
FailsBody limit (Body.Sized n) bytes HttpFault.Cut = length bytes < n
FailsBody limit Body.Chunked bytes HttpFault.Cut = FailsChunks limit bytes ChunkFault.cut
FailsBody limit Body.Chunked bytes HttpFault.BadChunk = FailsChunks limit bytes ChunkFault.bad
FailsBody limit Body.Chunked bytes HttpFault.BodyTooLong = FailsChunks limit bytes ChunkFault.too_long
FailsBody limit Body.ToEnd bytes HttpFault.BodyTooLong = limit < length bytes
FailsBody limit body bytes fault = ⊥

-- the bytes begin with a whole body
abbrev pub HasBody : ℕ → Body → List ℕ → Type 0
HasBody limit body bytes = (b : List ℕ) × (rest : List ℕ) × IsBodyThen limit body bytes b rest

-- something is wrong with the body, as that the bytes end within it
abbrev pub LacksBody : ℕ → Body → List ℕ → Type 0
LacksBody limit body bytes = (fault : HttpFault) × FailsBody limit body bytes fault
