-- A body in chunks (RFC 9112, section 7.1). The bounds and the end of a trailer are this project's own.
-- Example, with `/` for CR LF: `5/hello/0//` is the body `hello`, and what comes after it is the rest.
use Rattle.std.specs.Prelude.{◌≡◌, ◌≢◌, ◌⊎◌, ℕ, ◌+◌, ◌<◌, ◌≤◌, List, [], ◌∷◌, ◌++◌, length, All}
use Rattle.std.specs.List.{flat_map}
use Rattle.httparse.specs.Ascii.{crlf_bytes}
use Rattle.httparse.specs.Grammar.{ChunkLine, IsChunkLine, print_chunk_line, chunk_size}
use Rattle.http_connection.specs.Lines.{IsLine, ended}
use Rattle.http_connection.specs.HeadEnds.{IsEmpty, IsFull}
use Rattle.http_connection.specs.declared.head.TheConstants.{HEAD_LIMIT}
use Rattle.http_connection.specs.declared.chunks.TheConstants.{LINE_COUNT_LIMIT}

-- a chunk: the line with its length, and its bytes
pub record Chunk : Type 0 where
  pub line : ChunkLine
  pub bytes : List ℕ

-- the bytes of a chunk, with the end of its line
abbrev pub print_chunk : Chunk → List ℕ
print_chunk c = print_chunk_line c.line ++ c.bytes ++ crlf_bytes

-- a chunk has at least one byte, and as many as its line says
pub record IsChunk (c : Chunk) : Type 0 where
  pub line : IsChunkLine c.line
  pub short : length (print_chunk_line c.line) ≤ HEAD_LIMIT
  pub some : 0 < length c.bytes
  pub size : chunk_size c.line ≡ length c.bytes

-- the bytes of all chunks, one after the other
abbrev pub joined : List Chunk → List ℕ
joined chunks = flat_map (λ (c : Chunk). c.bytes) chunks

-- these chunks come, whose bytes are within the limit, and then the rest
pub record HasChunks (limit : ℕ) (bytes : List ℕ) (chunks : List Chunk) (rest : List ℕ) : Type 0 where
  pub each : All IsChunk chunks
  pub within : length (joined chunks) ≤ limit
  pub bytes_are : bytes ≡ flat_map print_chunk chunks ++ rest

-- a line of this size comes, and then the rest
pub record BeginsChunk (bytes : List ℕ) (size : ℕ) (rest : List ℕ) : Type 0 where
  pub line : ChunkLine
  pub is_line : IsChunkLine line
  pub short : length (print_chunk_line line) ≤ HEAD_LIMIT
  pub size_is : chunk_size line ≡ size
  pub bytes_are : bytes ≡ print_chunk_line line ++ rest

-- a trailer: lines that aren't empty, and an empty one
pub record IsTrailer (trailer : List ℕ) : Type 0 where
  pub lines : List (List ℕ)
  pub last : List ℕ
  pub full : All IsFull lines
  pub ends : IsEmpty last
  pub few : length lines ≤ LINE_COUNT_LIMIT
  pub trailer_is : trailer ≡ flat_map ended (lines ++ last ∷ [])
  pub short : length trailer ≤ HEAD_LIMIT

-- no trailer ends in the bytes
abbrev pub HasNoTrailer : List ℕ → Type 0
HasNoTrailer bytes = (trailer rest : List ℕ) → IsTrailer trailer → bytes ≡ trailer ++ rest → ⊥

-- the body in chunks, and what comes after it
pub record IsChunkedThen (limit : ℕ) (bytes body rest : List ℕ) : Type 0 where
  pub chunks : List Chunk
  pub last : List ℕ
  pub behind : List ℕ
  pub trailer : List ℕ
  pub before : HasChunks limit bytes chunks last
  pub zero : BeginsChunk last 0 behind
  pub trailer_ends : IsTrailer trailer
  pub behind_is : behind ≡ trailer ++ rest
  pub body_is : body ≡ joined chunks

-- the line up to its LF is no chunk line within the bound, or so many bytes hold no LF
abbrev pub IsBadLine : List ℕ → Type 0
IsBadLine bytes =
    ((line rest : List ℕ) × IsLine line × (bytes ≡ ended line ++ rest) × (length (ended line) ≤ HEAD_LIMIT)
    × ((l : ChunkLine) → IsChunkLine l → ended line ≡ print_chunk_line l → ⊥))
    ⊎ ((line rest : List ℕ) × IsLine line × (bytes ≡ line ++ rest) × (HEAD_LIMIT ≤ length line))

-- no line ends in the bytes, which end before the bound
abbrev pub IsOpenLine : List ℕ → Type 0
IsOpenLine bytes = IsLine bytes × (length bytes < HEAD_LIMIT)

-- a line too many that isn't empty has ended, or so many bytes hold no whole trailer
abbrev pub IsBadTrailer : List ℕ → Type 0
IsBadTrailer bytes =
    ((lines : List (List ℕ)) × (rest : List ℕ) × All IsFull lines × (LINE_COUNT_LIMIT < length lines)
    × (bytes ≡ flat_map ended lines ++ rest) × (length (flat_map ended lines) ≤ HEAD_LIMIT))
    ⊎ ((HEAD_LIMIT ≤ length bytes) × HasNoTrailer bytes)

-- no trailer ends in the bytes yet, they are below the bound, and nothing in them is wrong
abbrev pub IsOpenTrailer : List ℕ → Type 0
IsOpenTrailer bytes = (length bytes < HEAD_LIMIT) × HasNoTrailer bytes × (IsBadTrailer bytes → ⊥)

-- a chunk's data and the two bytes after it have come, and those aren't CR and LF
pub record EndsBadly (size : ℕ) (bytes : List ℕ) : Type 0 where
  pub data_bytes : List ℕ
  pub x : ℕ
  pub y : ℕ
  pub rest : List ℕ
  pub size_is : length data_bytes ≡ size
  pub bytes_are : bytes ≡ data_bytes ++ x ∷ y ∷ rest
  pub other : (x ∷ y ∷ []) ≢ crlf_bytes

-- what is wrong after chunks that were read
pub data ChunkFault : Type 0 where
  bad too_long cut : ChunkFault

-- The first that is wrong after so many bytes of data: the line's form, what follows value 0, the sum, and the data.
-- Nothing is judged before it is complete, and at an end before that the bytes are cut.
abbrev pub FailsAt : ℕ → ℕ → List ℕ → ChunkFault → Type 0
FailsAt limit so_far bytes ChunkFault.bad =
    IsBadLine bytes
    ⊎ (((rest : List ℕ) × BeginsChunk bytes 0 rest × IsBadTrailer rest)
    ⊎ ((size : ℕ) × (rest : List ℕ) × BeginsChunk bytes size rest × (0 < size) × (so_far + size ≤ limit) × EndsBadly size rest))
FailsAt limit so_far bytes ChunkFault.too_long =
    (size : ℕ) × (rest : List ℕ) × BeginsChunk bytes size rest × (0 < size) × (limit < so_far + size)
FailsAt limit so_far bytes ChunkFault.cut =
    IsOpenLine bytes
    ⊎ (((rest : List ℕ) × BeginsChunk bytes 0 rest × IsOpenTrailer rest)
    ⊎ ((size : ℕ) × (rest : List ℕ) × BeginsChunk bytes size rest × (0 < size) × (so_far + size ≤ limit) × (length rest < size + 2)))

-- the body in chunks ends in a fault
pub record FailsChunks (limit : ℕ) (bytes : List ℕ) (fault : ChunkFault) : Type 0 where
  pub chunks : List Chunk
  pub behind : List ℕ
  pub before : HasChunks limit bytes chunks behind
  pub fails : FailsAt limit (length (joined chunks)) behind fault
