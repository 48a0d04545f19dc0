-- How the fields frame a body.
use Rattle.std.proofs.Common.{◌≡◌, ℕ, List, All, Bool, subst, sym}
use Rattle.std.specs.Str.Parse.{digits_value}
use Rattle.std.proofs.lemmas.List.Elements.{All-nil}
use Rattle.http_grammar.specs.Fields.{lengths, IsLength}
use Rattle.http_grammar.specs.Judged.{IsSound, HasForm, FailsRequest, FailsResponse}
use Rattle.http_grammar.specs.declared.framing.Framing.{Framing}
use Rattle.http_grammar.specs.declared.fault.HttpFault.{HttpFault}
use Rattle.http_grammar.specs.declared.judge.Form.{Form}

-- lengths that don't agree frame no body
pub unsound : (fields : List (List ℕ × List ℕ)) → ((n : ℕ) → All (IsLength n) (lengths fields) → ⊥) → IsSound fields → ⊥
unsound fields never (Framing.Unframed, frames) = never 0 (subst (All (IsLength 0)) (sym frames.0) (All-nil (IsLength 0)))
unsound fields never (Framing.Chunked, frames) = never 0 (subst (All (IsLength 0)) (sym frames.0) (All-nil (IsLength 0)))
unsound fields never (Framing.Sized n, frames) = never n frames.0.1

pub sound_of : (fields : List (List ℕ × List ℕ)) (form : Form) → HasForm fields form → IsSound fields
sound_of fields Form.Unframed has = (Framing.Unframed, has)
sound_of fields Form.Chunked has = (Framing.Chunked, has)
sound_of fields (Form.Sized d) has = (Framing.Sized (digits_value 10 d.now), has.0)

-- a test that fails, in other words for the same parts
pub request_fails : (limit minor minor' : ℕ) (post post' : Bool) (fields fields' : List (List ℕ × List ℕ)) (fault : HttpFault) → minor ≡ minor' → post ≡ post' → fields ≡ fields' → FailsRequest limit minor post fields fault → FailsRequest limit minor' post' fields' fault
request_fails limit minor minor' post post' fields fields' fault m p f fails =
    subst (λ (fs : List (List ℕ × List ℕ)). FailsRequest limit minor' post' fs fault) f
    (subst (λ (b : Bool). FailsRequest limit minor' b fields fault) p (subst (λ (n : ℕ). FailsRequest limit n post fields fault) m fails))

pub response_fails : (limit status status' : ℕ) (fields fields' : List (List ℕ × List ℕ)) (fault : HttpFault) → status ≡ status' → fields ≡ fields' → FailsResponse limit status fields fault → FailsResponse limit status' fields' fault
response_fails limit status status' fields fields' fault s f fails =
    subst (λ (fs : List (List ℕ × List ℕ)). FailsResponse limit status' fs fault) f (subst (λ (n : ℕ). FailsResponse limit n fields fault) s fails)
