-- How the fields of a head frame its body, or its fault: one answer.
use Rattle.std.proofs.Common.{◌≡◌, ◌≢◌, ℕ, ◌≤◌, List, [], ◌∷◌, All, Bool, Option, Some, None, refl, sym, ap, subst, ◌∙◌, arith}
use Rattle.std.proofs.lemmas.List.Elements.{All-head}
use Rattle.http_grammar.specs.Fields.{Frames, IsLength, lengths}
use Rattle.http_grammar.specs.Judged.{FitsLimit, FailsRequest, IsSoundRequest, FailsResponse, IsSoundResponse}
use Rattle.http_grammar.specs.declared.framing.Framing.{Framing}
use Rattle.http_grammar.specs.declared.fault.HttpFault.{HttpFault}

one_length : (values : List (List ℕ)) (m n : ℕ) → (values ≢ []) → All (IsLength m) values → All (IsLength n) values → m ≡ n
one_length [] m n some a b = absurd (some refl)
one_length (x ∷ values) m n some a b = sym (All-head (IsLength m) x values a).2 ∙ (All-head (IsLength n) x values b).2

-- fields frame a body in one way
pub one_framing : (fields : List (List ℕ × List ℕ)) (f g : Framing) → Frames fields f → Frames fields g → f ≡ g
one_framing fields Framing.Unframed Framing.Unframed x y = refl
one_framing fields Framing.Unframed Framing.Chunked x y = let e = x.1 in let h = y.1.1 in absurd (cc (e, h))
one_framing fields Framing.Unframed (Framing.Sized n) x y = absurd (y.0.0 x.0)
one_framing fields Framing.Chunked Framing.Unframed x y = let e = y.1 in let h = x.1.1 in absurd (cc (e, h))
one_framing fields Framing.Chunked Framing.Chunked x y = refl
one_framing fields Framing.Chunked (Framing.Sized n) x y = absurd (y.0.0 x.0)
one_framing fields (Framing.Sized m) Framing.Unframed x y = absurd (x.0.0 y.0)
one_framing fields (Framing.Sized m) Framing.Chunked x y = absurd (x.0.0 y.0)
one_framing fields (Framing.Sized m) (Framing.Sized n) x y = ap Framing.Sized (one_length (lengths fields) m n x.0.0 x.0.1 y.0.1)

-- a head that passes each test fails none
pub sound_not_fault : (limit minor : ℕ) (post : Bool) (fields : List (List ℕ × List ℕ)) (framing : Framing) (fault : HttpFault) → IsSoundRequest limit minor post fields framing → FailsRequest limit minor post fields fault → ⊥
sound_not_fault limit minor post fields framing HttpFault.BadHead s x = x s.host (framing, s.frames)
sound_not_fault limit minor post fields framing HttpFault.Coding s x = let e = s.plain in let f = x.2 in absurd (cc (e, f))
sound_not_fault limit minor post fields framing HttpFault.LengthRequired s x = s.length_is_said x.2 (one_framing fields framing Framing.Unframed s.frames x.3)
sound_not_fault limit minor post fields framing HttpFault.BodyTooLong s x =
    let e = one_framing fields framing (Framing.Sized x.2) s.frames x.3 in
    let less : x.2 ≤ limit = subst (FitsLimit limit) e s.fits in
    let more = x.4 in
    omega (arith, less, more)
sound_not_fault limit minor post fields framing fault s x = x

-- a head fails one test first
pub one_request_fault : (limit minor : ℕ) (post : Bool) (fields : List (List ℕ × List ℕ)) (f g : HttpFault) → FailsRequest limit minor post fields f → FailsRequest limit minor post fields g → f ≡ g
one_request_fault limit minor post fields HttpFault.BadHead HttpFault.BadHead x y = refl
one_request_fault limit minor post fields HttpFault.BadHead HttpFault.Coding x y = absurd (x y.0 y.1)
one_request_fault limit minor post fields HttpFault.BadHead HttpFault.LengthRequired x y = absurd (x y.0 (Framing.Unframed, y.3))
one_request_fault limit minor post fields HttpFault.BadHead HttpFault.BodyTooLong x y = absurd (x y.0 (Framing.Sized y.2, y.3))
one_request_fault limit minor post fields HttpFault.BadHead g x y = absurd y
one_request_fault limit minor post fields HttpFault.Coding HttpFault.BadHead x y = absurd (y x.0 x.1)
one_request_fault limit minor post fields HttpFault.Coding HttpFault.Coding x y = refl
one_request_fault limit minor post fields HttpFault.Coding HttpFault.LengthRequired x y = let e = x.2 in let f = y.1 in absurd (cc (e, f))
one_request_fault limit minor post fields HttpFault.Coding HttpFault.BodyTooLong x y = let e = x.2 in let f = y.1 in absurd (cc (e, f))
one_request_fault limit minor post fields HttpFault.Coding g x y = absurd y
one_request_fault limit minor post fields HttpFault.LengthRequired HttpFault.BadHead x y = absurd (y x.0 (Framing.Unframed, x.3))
one_request_fault limit minor post fields HttpFault.LengthRequired HttpFault.Coding x y = let e = y.2 in let f = x.1 in absurd (cc (e, f))
one_request_fault limit minor post fields HttpFault.LengthRequired HttpFault.LengthRequired x y = refl
one_request_fault limit minor post fields HttpFault.LengthRequired HttpFault.BodyTooLong x y = let e = one_framing fields Framing.Unframed (Framing.Sized y.2) x.3 y.3 in absurd (cc e)
one_request_fault limit minor post fields HttpFault.LengthRequired g x y = absurd y
one_request_fault limit minor post fields HttpFault.BodyTooLong HttpFault.BadHead x y = absurd (y x.0 (Framing.Sized x.2, x.3))
one_request_fault limit minor post fields HttpFault.BodyTooLong HttpFault.Coding x y = let e = y.2 in let f = x.1 in absurd (cc (e, f))
one_request_fault limit minor post fields HttpFault.BodyTooLong HttpFault.LengthRequired x y = let e = one_framing fields Framing.Unframed (Framing.Sized x.2) y.3 x.3 in absurd (cc e)
one_request_fault limit minor post fields HttpFault.BodyTooLong HttpFault.BodyTooLong x y = refl
one_request_fault limit minor post fields HttpFault.BodyTooLong g x y = absurd y
one_request_fault limit minor post fields f g x y = absurd x

-- the same for responses
pub one_response_framing : (limit status : ℕ) (fields : List (List ℕ × List ℕ)) (f g : Option Framing) → IsSoundResponse limit status fields f → IsSoundResponse limit status fields g → f ≡ g
one_response_framing limit status fields None None x y = refl
one_response_framing limit status fields None (Some g) x y = absurd (y.0 x.0)
one_response_framing limit status fields (Some f) None x y = absurd (x.0 y.0)
one_response_framing limit status fields (Some f) (Some g) x y = ap Some (one_framing fields f g x.1 y.1)

pub response_not_fault : (limit status : ℕ) (fields : List (List ℕ × List ℕ)) (framing : Option Framing) (fault : HttpFault) → IsSoundResponse limit status fields framing → FailsResponse limit status fields fault → ⊥
response_not_fault limit status fields None HttpFault.BadHead s x = x s.1
response_not_fault limit status fields (Some f) HttpFault.BadHead s x = x (f, s.1)
response_not_fault limit status fields None HttpFault.Coding s x = let e = s.2 in let f = x.1 in absurd (cc (e, f))
response_not_fault limit status fields (Some f) HttpFault.Coding s x = let e = s.2 in let f = x.1 in absurd (cc (e, f))
response_not_fault limit status fields None HttpFault.BodyTooLong s x = x.1 s.0
response_not_fault limit status fields (Some f) HttpFault.BodyTooLong s x =
    let e = one_framing fields f (Framing.Sized x.2) s.1 x.3 in
    let less : x.2 ≤ limit = subst (FitsLimit limit) e s.3 in
    let more = x.4 in
    omega (arith, less, more)
response_not_fault limit status fields framing fault s x = x

pub one_response_fault : (limit status : ℕ) (fields : List (List ℕ × List ℕ)) (f g : HttpFault) → FailsResponse limit status fields f → FailsResponse limit status fields g → f ≡ g
one_response_fault limit status fields HttpFault.BadHead HttpFault.BadHead x y = refl
one_response_fault limit status fields HttpFault.BadHead HttpFault.Coding x y = absurd (x y.0)
one_response_fault limit status fields HttpFault.BadHead HttpFault.BodyTooLong x y = absurd (x (Framing.Sized y.2, y.3))
one_response_fault limit status fields HttpFault.BadHead g x y = absurd y
one_response_fault limit status fields HttpFault.Coding HttpFault.BadHead x y = absurd (y x.0)
one_response_fault limit status fields HttpFault.Coding HttpFault.Coding x y = refl
one_response_fault limit status fields HttpFault.Coding HttpFault.BodyTooLong x y = let e = x.1 in let f = y.0 in absurd (cc (e, f))
one_response_fault limit status fields HttpFault.Coding g x y = absurd y
one_response_fault limit status fields HttpFault.BodyTooLong HttpFault.BadHead x y = absurd (y (Framing.Sized x.2, x.3))
one_response_fault limit status fields HttpFault.BodyTooLong HttpFault.Coding x y = let e = y.1 in let f = x.0 in absurd (cc (e, f))
one_response_fault limit status fields HttpFault.BodyTooLong HttpFault.BodyTooLong x y = refl
one_response_fault limit status fields HttpFault.BodyTooLong g x y = absurd y
one_response_fault limit status fields f g x y = absurd x
