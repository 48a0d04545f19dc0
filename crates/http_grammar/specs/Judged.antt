-- The tests of a head of the grammar, in their order: its host and how it frames its body, its coding, a missing length,
-- and its length against the limit. The order and the limit are this project's own.
use Rattle.std.specs.Prelude.{◌≡◌, ◌≢◌, ◌⊎◌, ℕ, ◌<◌, ◌≤◌, List, Bool, true, false, Option, Some, None, ⊤}
use Rattle.std.specs.Char.{is_ascii_digit}
use Rattle.std.specs.Str.Parse.{digits_value}
use Rattle.httparse.specs.Grammar.{AllPass}
use Rattle.http_grammar.specs.Fields.{Frames, is_plain, HasHost}
use Rattle.http_grammar.specs.declared.framing.Framing.{Framing}
use Rattle.http_grammar.specs.declared.judge.Form.{Form}
use Rattle.http_grammar.specs.declared.fault.HttpFault.{HttpFault}

-- the fields frame the body in one way
abbrev pub IsSound : List (List ℕ × List ℕ) → Type 0
IsSound fields = (framing : Framing) × Frames fields framing

-- the body's length, if it is said, is within the limit
abbrev pub FitsLimit : ℕ → Framing → Type 0
FitsLimit limit Framing.Unframed = ⊤
FitsLimit limit Framing.Chunked = ⊤
FitsLimit limit (Framing.Sized n) = n ≤ limit

-- the first test of a request's head that fails
abbrev pub FailsRequest : ℕ → ℕ → Bool → List (List ℕ × List ℕ) → HttpFault → Type 0
FailsRequest limit minor is_post fields HttpFault.BadHead = HasHost minor fields → IsSound fields → ⊥
FailsRequest limit minor is_post fields HttpFault.Coding = HasHost minor fields × IsSound fields × (is_plain fields ≡ false)
FailsRequest limit minor is_post fields HttpFault.LengthRequired =
    HasHost minor fields × (is_plain fields ≡ true) × (is_post ≡ true) × Frames fields Framing.Unframed
FailsRequest limit minor is_post fields HttpFault.BodyTooLong =
    HasHost minor fields × (is_plain fields ≡ true) × (n : ℕ) × Frames fields (Framing.Sized n) × (limit < n)
FailsRequest limit minor is_post fields HttpFault.HeadTooLong = ⊥
FailsRequest limit minor is_post fields HttpFault.BadChunk = ⊥
FailsRequest limit minor is_post fields HttpFault.Cut = ⊥
FailsRequest limit minor is_post fields HttpFault.ReadFault = ⊥

-- a request's head passes each test
pub record IsSoundRequest (limit minor : ℕ) (is_post : Bool) (fields : List (List ℕ × List ℕ)) (framing : Framing) : Type 0 where
  pub host : HasHost minor fields
  pub frames : Frames fields framing
  pub plain : is_plain fields ≡ true
  pub length_is_said : is_post ≡ true → framing ≢ Framing.Unframed
  pub fits : FitsLimit limit framing

-- a response with these statuses has no body
abbrev pub IsBodiless : ℕ → Type 0
IsBodiless status = (status ≡ 204) ⊎ (status ≡ 304)

-- the first test of a response's head that fails
abbrev pub FailsResponse : ℕ → ℕ → List (List ℕ × List ℕ) → HttpFault → Type 0
FailsResponse limit status fields HttpFault.BadHead = IsSound fields → ⊥
FailsResponse limit status fields HttpFault.Coding = IsSound fields × (is_plain fields ≡ false)
FailsResponse limit status fields HttpFault.LengthRequired = ⊥
FailsResponse limit status fields HttpFault.BodyTooLong =
    (is_plain fields ≡ true) × (IsBodiless status → ⊥) × (n : ℕ) × Frames fields (Framing.Sized n) × (limit < n)
FailsResponse limit status fields HttpFault.HeadTooLong = ⊥
FailsResponse limit status fields HttpFault.BadChunk = ⊥
FailsResponse limit status fields HttpFault.Cut = ⊥
FailsResponse limit status fields HttpFault.ReadFault = ⊥

-- a response's head passes each test; None where the status says that there is no body
abbrev pub IsSoundResponse : ℕ → ℕ → List (List ℕ × List ℕ) → Option Framing → Type 0
IsSoundResponse limit status fields None = IsBodiless status × IsSound fields × (is_plain fields ≡ true)
IsSoundResponse limit status fields (Some framing) =
    (IsBodiless status → ⊥) × Frames fields framing × (is_plain fields ≡ true) × FitsLimit limit framing

-- how the fields frame the body, before a length is read as a number
abbrev pub HasForm : List (List ℕ × List ℕ) → Form → Type 0
HasForm fields Form.Unframed = Frames fields Framing.Unframed
HasForm fields Form.Chunked = Frames fields Framing.Chunked
HasForm fields (Form.Sized d) = Frames fields (Framing.Sized (digits_value 10 d.now)) × AllPass is_ascii_digit d.now
