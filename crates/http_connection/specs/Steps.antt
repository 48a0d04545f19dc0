-- What one step of reading does to a buffer and its source; private clauses alone cite this file, but for `Advances` and
-- `ReadsBy`.
use Rattle.std.specs.Prelude.{◌≡◌, ℕ, ◌+◌, ◌<◌, ◌≤◌, List, ◌++◌, length, take, drop, Bool, Option, Result, Ok, Err, ⊤}
use Rattle.std.specs.Str.{bytes_eq}
use Rattle.httparse.specs.Ascii.{crlf_bytes}
use Rattle.adx_io.specs.Streams.{Tape, WhereTold, Rises}
use Rattle.http_connection.specs.BufferState.{BufferState, Passes}
use Rattle.http_grammar.specs.declared.fault.HttpFault.{HttpFault}
use Rattle.httparse.specs.Grammar.{IsChunkLine, chunk_size, ChunkLine, print_chunk_line}
use Rattle.http_connection.specs.Chunks.{BeginsChunk, IsBadLine, IsOpenLine, IsTrailer, IsBadTrailer, IsOpenTrailer, EndsBadly}
use Rattle.http_connection.specs.BodyForms.{IsBodyThen, FailsBody}
use Rattle.http_connection.specs.declared.bodies.Body.{Body}

-- the source, where it reports its bytes, gave some of those that were left
abbrev pub Advances : Option Tape → Option Tape → Type 0
Advances old new = WhereTold old new (λ o n. (piece : List ℕ) × Passes piece o n)

-- a fault of the source is answered only where its count rose, and none is passed over
abbrev pub ReadsBy : {T : Type 0} → ℕ → ℕ → Result T HttpFault → Type 0
ReadsBy before now (Ok value) = now ≡ before
ReadsBy before now (Err HttpFault.ReadFault) = (before ≤ now) × Rises before now
ReadsBy before now (Err HttpFault.BadHead) = now ≡ before
ReadsBy before now (Err HttpFault.HeadTooLong) = now ≡ before
ReadsBy before now (Err HttpFault.LengthRequired) = now ≡ before
ReadsBy before now (Err HttpFault.BodyTooLong) = now ≡ before
ReadsBy before now (Err HttpFault.BadChunk) = now ≡ before
ReadsBy before now (Err HttpFault.Cut) = now ≡ before
ReadsBy before now (Err HttpFault.Coding) = now ≡ before

-- all bytes that come: those pending, and those that are left
abbrev pub coming : BufferState → Tape → List ℕ
coming b t = b.pending ++ t.left

-- the source, where it reports its bytes, gave some of those that were left, and of the bytes pending before with them this
-- is so
abbrev pub HasGiven : BufferState → Option Tape → Option Tape → (List ℕ → Type 0) → Type 0
HasGiven before old new P = WhereTold old new (λ o n. (piece : List ℕ) × Passes piece o n × P (before.pending ++ piece))

-- the bytes end within the body, or it goes to their end
abbrev pub IsOpenBody : ℕ → Body → List ℕ → Type 0
IsOpenBody limit Body.ToEnd bytes = length bytes ≤ limit
IsOpenBody limit body bytes = FailsBody limit body bytes HttpFault.Cut

-- the body is joined to what is kept, or what is wrong with it holds of all bytes that come; where the source fails, what
-- came is open
abbrev pub BodyGives : ℕ → Body → BufferState → BufferState → Option Tape → Option Tape → Result Unit HttpFault → Type 0
BodyGives limit body before now old new (Ok done) =
    (b : List ℕ) × (now.kept ≡ before.kept ++ b) × WhereTold old new (λ o n. IsBodyThen limit body (coming before o) b (coming now n))
BodyGives limit body before now old new (Err HttpFault.ReadFault) = HasGiven before old new (IsOpenBody limit body)
BodyGives limit body before now old new (Err HttpFault.Cut) = WhereTold old new (λ o n. FailsBody limit body (coming before o) HttpFault.Cut)
BodyGives limit body before now old new (Err HttpFault.BadChunk) = WhereTold old new (λ o n. FailsBody limit body (coming before o) HttpFault.BadChunk)
BodyGives limit body before now old new (Err HttpFault.BodyTooLong) = WhereTold old new (λ o n. FailsBody limit body (coming before o) HttpFault.BodyTooLong)
BodyGives limit body before now old new (Err HttpFault.BadHead) = ⊥
BodyGives limit body before now old new (Err HttpFault.HeadTooLong) = ⊥
BodyGives limit body before now old new (Err HttpFault.LengthRequired) = ⊥
BodyGives limit body before now old new (Err HttpFault.Coding) = ⊥

-- a chunk line was passed over, or there is none
abbrev pub LineGives : BufferState → BufferState → Option Tape → Option Tape → Result ℕ HttpFault → Type 0
LineGives before now old new (Ok size) = (now.kept ≡ before.kept) × WhereTold old new (λ o n. BeginsChunk (coming before o) size (coming now n))
LineGives before now old new (Err HttpFault.ReadFault) = HasGiven before old new IsOpenLine
LineGives before now old new (Err HttpFault.Cut) = WhereTold old new (λ o n. IsOpenLine (coming before o))
LineGives before now old new (Err HttpFault.BadChunk) = WhereTold old new (λ o n. IsBadLine (coming before o))
LineGives before now old new (Err HttpFault.BodyTooLong) = ⊥
LineGives before now old new (Err HttpFault.BadHead) = ⊥
LineGives before now old new (Err HttpFault.HeadTooLong) = ⊥
LineGives before now old new (Err HttpFault.LengthRequired) = ⊥
LineGives before now old new (Err HttpFault.Coding) = ⊥

-- a length that a head says is within the limit
abbrev pub FitsBody : ℕ → Body → Type 0
FitsBody limit Body.Absent = ⊤
FitsBody limit (Body.Sized n) = n ≤ limit
FitsBody limit Body.Chunked = ⊤
FitsBody limit Body.ToEnd = ⊤

-- the bytes are a chunk line of this size, or none
abbrev pub IsLineOf : List ℕ → ℕ → Type 0
IsLineOf bytes size = (l : ChunkLine) × IsChunkLine l × (bytes ≡ print_chunk_line l) × (chunk_size l ≡ size)

abbrev pub IsNoLine : List ℕ → Type 0
IsNoLine bytes = (l : ChunkLine) → IsChunkLine l → bytes ≡ print_chunk_line l → ⊥

-- whether CR and LF come after so many bytes
abbrev pub ends_behind : List ℕ → ℕ → Bool
ends_behind bytes size = bytes_eq (take 2 (drop size bytes)) crlf_bytes

-- a chunk's data was joined and its end passed over, or what is wrong with it
abbrev pub DataGives : ℕ → BufferState → BufferState → Option Tape → Option Tape → Result Unit HttpFault → Type 0
DataGives size before now old new (Ok done) =
    (b : List ℕ) × (now.kept ≡ before.kept ++ b) × (length b ≡ size) × WhereTold old new (λ o n. coming before o ≡ (b ++ crlf_bytes) ++ coming now n)
DataGives size before now old new (Err HttpFault.ReadFault) = HasGiven before old new (λ bytes. length bytes < size + 2)
DataGives size before now old new (Err HttpFault.Cut) = WhereTold old new (λ o n. length (coming before o) < size + 2)
DataGives size before now old new (Err HttpFault.BadChunk) = WhereTold old new (λ o n. EndsBadly size (coming before o))
DataGives size before now old new (Err HttpFault.BodyTooLong) = ⊥
DataGives size before now old new (Err HttpFault.BadHead) = ⊥
DataGives size before now old new (Err HttpFault.HeadTooLong) = ⊥
DataGives size before now old new (Err HttpFault.LengthRequired) = ⊥
DataGives size before now old new (Err HttpFault.Coding) = ⊥

-- a trailer was passed over, or what is wrong with it
abbrev pub TrailerGives : BufferState → BufferState → Option Tape → Option Tape → Result Unit HttpFault → Type 0
TrailerGives before now old new (Ok done) =
    (now.kept ≡ before.kept) × WhereTold old new (λ o n. (trailer : List ℕ) × IsTrailer trailer × (coming before o ≡ trailer ++ coming now n))
TrailerGives before now old new (Err HttpFault.ReadFault) = HasGiven before old new IsOpenTrailer
TrailerGives before now old new (Err HttpFault.Cut) = WhereTold old new (λ o n. IsOpenTrailer (coming before o))
TrailerGives before now old new (Err HttpFault.BadChunk) = WhereTold old new (λ o n. IsBadTrailer (coming before o))
TrailerGives before now old new (Err HttpFault.BodyTooLong) = ⊥
TrailerGives before now old new (Err HttpFault.BadHead) = ⊥
TrailerGives before now old new (Err HttpFault.HeadTooLong) = ⊥
TrailerGives before now old new (Err HttpFault.LengthRequired) = ⊥
TrailerGives before now old new (Err HttpFault.Coding) = ⊥
