-- The bytes of a record after its gate, and the frame that holds them. This project's own.
use Rattle.std.specs.Prelude.{◌≡◌, ℕ, ◌-◌, ◌≤◌, List, [], ◌∷◌, ◌++◌, length, take, drop}
use Rattle.std.specs.Int.{w32, to_le_bytes}
use Rattle.adx_io.specs.declared.frame.TheConstants.{LONGEST_PAYLOAD}

-- the longest payload of a record, in bytes
abbrev pub longest_payload : ℕ
longest_payload = LONGEST_PAYLOAD

-- a payload after its length
abbrev pub body : List ℕ → List ℕ
body payload = to_le_bytes w32 (length payload) ++ payload

-- the same, and a closed gate after it
abbrev pub record_of : List ℕ → List ℕ
record_of payload = body payload ++ 0 ∷ []

-- a payload, the front of it that was marked, and for how many bytes more the frame has room without memory
pub record FrameState : Type 0 where
  pub payload : List ℕ
  pub marked : List ℕ
  pub spare : ℕ

-- the bytes between the length and the gate
abbrev pub payload_in : List ℕ → List ℕ
payload_in bytes = take (length bytes - 5) (drop 4 bytes)

-- the bytes are a record
pub record IsRecord (bytes : List ℕ) : Type 0 where
  pub whole : bytes ≡ record_of (payload_in bytes)
  pub fits : length (payload_in bytes) ≤ longest_payload
