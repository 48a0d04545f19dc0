-- A list of bytes gives one answer.
use Rattle.std.proofs.Common.{◌≡◌, ℕ, ◌<◌, List, [], length, Option, refl, sym, ap, subst, ◌∙◌, arith, inl, inr}
use Rattle.httparse.specs.Grammar.{RequestHead, ReadsRequest, ResponseHead, ReadsResponse, status_code}
use Rattle.httparse.proofs.GrammarLemmas.{request_unique, response_unique}
use Rattle.http_connection.specs.HeadEnds.{BeginsWithHead, HasNoHead}
use Rattle.http_grammar.specs.Judged.{IsSoundRequest, FailsRequest, IsSoundResponse, FailsResponse}
use Rattle.http_grammar.specs.Requests.{pairs, response_pairs, is_post}
use Rattle.http_grammar.specs.declared.framing.Framing.{Framing}
use Rattle.http_grammar.specs.declared.fault.HttpFault.{HttpFault}
use Rattle.http_connection.specs.BodyForms.{body_of_request, body_of_response, IsBodyThen, FailsBody}
use Rattle.http_connection.specs.Messages.{Request, IsRequestThen, RefusesRequest, FailsRequestAt, FailsWithoutHead, ResponseRead, IsResponseThen, RefusesResponse, FailsResponseAt}
use Rattle.http_connection.specs.Laws.{HasOneRequest, HasOneResponse}
use Rattle.http_connection.specs.Laws.RequestAnswer.{request, refusal, ending}
use Rattle.http_connection.specs.Laws.ResponseAnswer.{response, refused}
use Rattle.http_connection.proofs.OneHead.{one_head, head_some}
use Rattle.http_connection.proofs.OneBody.{one_body, body_not_fault, one_body_fault}
use Rattle.http_connection.proofs.OneFraming.{one_framing, sound_not_fault, one_request_fault, one_response_framing, response_not_fault, one_response_fault}

-- bytes without a head
without_head : (bytes : List ℕ) (fault : HttpFault) → FailsWithoutHead bytes fault → HasNoHead bytes × (0 < length bytes)
without_head bytes HttpFault.HeadTooLong x = (x.0, (let l = x.1 in omega (arith, l)))
without_head bytes HttpFault.Cut x = (x.0, x.1)
without_head bytes fault x = absurd x

one_end : (bytes : List ℕ) (f g : HttpFault) → FailsWithoutHead bytes f → FailsWithoutHead bytes g → f ≡ g
one_end bytes HttpFault.HeadTooLong HttpFault.HeadTooLong x y = refl
one_end bytes HttpFault.Cut HttpFault.Cut x y = refl
one_end bytes HttpFault.HeadTooLong HttpFault.Cut x y = let l = x.1 in let s = y.2 in absurd (omega (arith, l, s))
one_end bytes HttpFault.Cut HttpFault.HeadTooLong x y = let l = y.1 in let s = x.2 in absurd (omega (arith, l, s))
one_end bytes HttpFault.HeadTooLong g x y = absurd y
one_end bytes HttpFault.Cut g x y = absurd y
one_end bytes f g x y = absurd x

request_is : (a b : Request) → a.head ≡ b.head → a.body ≡ b.body → a ≡ b
request_is a b h e = λ i. record { head = h i; body = e i }

response_is : (a b : ResponseRead) → a.head ≡ b.head → a.body ≡ b.body → a ≡ b
response_is a b h e = λ i. record { head = h i; body = e i }

-- the head of a request is one
head_is : (head : List ℕ) (h k : RequestHead) → ReadsRequest head h [] → ReadsRequest head k [] → h ≡ k
head_is head h k x y = (request_unique head h k [] [] x y).0

framing_is : (limit : ℕ) (h k : RequestHead) (f g : Framing) → h ≡ k → IsSoundRequest limit h.minor (is_post h) (pairs h) f → IsSoundRequest limit k.minor (is_post k) (pairs k) g → f ≡ g
framing_is limit h k f g e x y =
    let z = subst (λ (r : RequestHead). IsSoundRequest limit r.minor (is_post r) (pairs r) f) e x in
    one_framing (pairs k) f g (IsSoundRequest.frames z) (IsSoundRequest.frames y)

one_request : (limit : ℕ) (bytes : List ℕ) (m : Request) (rest : List ℕ) (m2 : Request) (rest2 : List ℕ) → IsRequestThen limit bytes m rest → IsRequestThen limit bytes m2 rest2 → (m ≡ m2) × (rest ≡ rest2)
one_request limit bytes m rest m2 rest2 a b =
    let same = one_head b.begins a.begins in
    let heads = head_is b.head m.head m2.head (subst (λ l. ReadsRequest l m.head []) same.0 a.reads) b.reads in
    let framing = framing_is limit m.head m2.head a.framing b.framing heads a.sound b.sound in
    let bodies = one_body limit (body_of_request b.framing) b.behind m.body rest m2.body rest2
    (subst (λ l. IsBodyThen limit (body_of_request b.framing) l m.body rest) same.1 (subst (λ f. IsBodyThen limit (body_of_request f) a.behind m.body rest) framing a.body)) b.body in
    (request_is m m2 heads bodies.0, bodies.1)

-- what is wrong with a request that is read
at_not_fault : (limit : ℕ) (bytes : List ℕ) (m : Request) (rest : List ℕ) (fault : HttpFault) → (a : IsRequestThen limit bytes m rest) → FailsRequestAt limit (length (BeginsWithHead.lines (IsRequestThen.begins a))) (IsRequestThen.head a) (IsRequestThen.behind a) fault → ⊥
at_not_fault limit bytes m rest fault a (inl many) = let n = many.0 in let f = a.few in omega (arith, n, f)
at_not_fault limit bytes m rest fault a (inr (inl none)) = none.2 m.head a.reads
at_not_fault limit bytes m rest fault a (inr (inr (inl (few, h, reads, fails)))) =
    let e = head_is a.head h m.head reads a.reads in
    sound_not_fault limit m.head.minor (is_post m.head) (pairs m.head) a.framing fault a.sound (subst (λ (r : RequestHead). FailsRequest limit r.minor (is_post r) (pairs r) fault) e fails)
at_not_fault limit bytes m rest fault a (inr (inr (inr (few, h, reads, framing, sound, fails)))) =
    let e = head_is a.head h m.head reads a.reads in
    let f = framing_is limit h m.head framing a.framing e sound a.sound in
    body_not_fault limit (body_of_request a.framing) a.behind m.body rest fault a.body (subst (λ x. FailsBody limit (body_of_request x) a.behind fault) f fails)

-- where the head is one, what is said of it is said of the other
moved : (limit : ℕ) (fault : HttpFault) (count count2 : ℕ) (head head2 behind behind2 : List ℕ) → (head2 ≡ head) × (behind2 ≡ behind) × (count2 ≡ count) → FailsRequestAt limit count2 head2 behind2 fault → FailsRequestAt limit count head behind fault
moved limit fault count count2 head head2 behind behind2 same x =
    subst (λ n. FailsRequestAt limit n head behind fault) same.2 (subst (λ l. FailsRequestAt limit count2 head l fault) same.1 (subst (λ l. FailsRequestAt limit count2 l behind2 fault) same.0 x))

request_not_fault : (limit : ℕ) (bytes : List ℕ) (m : Request) (rest : List ℕ) (fault : HttpFault) → IsRequestThen limit bytes m rest → RefusesRequest limit bytes fault → ⊥
request_not_fault limit bytes m rest fault a (inl none) = (without_head bytes fault none).0 a.head a.behind a.begins
request_not_fault limit bytes m rest fault a (inr (head, behind, begins, fails)) =
    at_not_fault limit bytes m rest fault a (moved limit fault (length (BeginsWithHead.lines a.begins)) (length (BeginsWithHead.lines begins)) a.head head a.behind behind (one_head a.begins begins) fails)

-- a request that is refused is refused by one fault
one_at : (limit count : ℕ) (head behind : List ℕ) (f g : HttpFault) → FailsRequestAt limit count head behind f → FailsRequestAt limit count head behind g → f ≡ g
one_at limit count head behind f g (inl x) (inl y) = x.1 ∙ sym y.1
one_at limit count head behind f g (inl x) (inr (inl y)) = let n = x.0 in let m = y.0 in absurd (omega (arith, n, m))
one_at limit count head behind f g (inl x) (inr (inr (inl y))) = let n = x.0 in let m = y.0 in absurd (omega (arith, n, m))
one_at limit count head behind f g (inl x) (inr (inr (inr y))) = let n = x.0 in let m = y.0 in absurd (omega (arith, n, m))
one_at limit count head behind f g (inr (inl x)) (inl y) = let n = y.0 in let m = x.0 in absurd (omega (arith, n, m))
one_at limit count head behind f g (inr (inl x)) (inr (inl y)) = x.1 ∙ sym y.1
one_at limit count head behind f g (inr (inl x)) (inr (inr (inl y))) = absurd (x.2 y.1 y.2)
one_at limit count head behind f g (inr (inl x)) (inr (inr (inr y))) = absurd (x.2 y.1 y.2)
one_at limit count head behind f g (inr (inr (inl x))) (inl y) = let n = y.0 in let m = x.0 in absurd (omega (arith, n, m))
one_at limit count head behind f g (inr (inr (inl x))) (inr (inl y)) = absurd (y.2 x.1 x.2)
one_at limit count head behind f g (inr (inr (inl (few, h, reads, fails)))) (inr (inr (inl (few2, k, reads2, fails2)))) =
    let e = head_is head h k reads reads2 in
    one_request_fault limit k.minor (is_post k) (pairs k) f g (subst (λ (r : RequestHead). FailsRequest limit r.minor (is_post r) (pairs r) f) e fails) fails2
one_at limit count head behind f g (inr (inr (inl (few, h, reads, fails)))) (inr (inr (inr (few2, k, reads2, framing, sound, fails2)))) =
    let e = head_is head h k reads reads2 in
    absurd (sound_not_fault limit k.minor (is_post k) (pairs k) framing f sound (subst (λ (r : RequestHead). FailsRequest limit r.minor (is_post r) (pairs r) f) e fails))
one_at limit count head behind f g (inr (inr (inr x))) (inl y) = let n = y.0 in let m = x.0 in absurd (omega (arith, n, m))
one_at limit count head behind f g (inr (inr (inr x))) (inr (inl y)) = absurd (y.2 x.1 x.2)
one_at limit count head behind f g (inr (inr (inr (few, h, reads, framing, sound, fails)))) (inr (inr (inl (few2, k, reads2, fails2)))) =
    let e = head_is head k h reads2 reads in
    absurd (sound_not_fault limit h.minor (is_post h) (pairs h) framing g sound (subst (λ (r : RequestHead). FailsRequest limit r.minor (is_post r) (pairs r) g) e fails2))
one_at limit count head behind f g (inr (inr (inr (few, h, reads, framing, sound, fails)))) (inr (inr (inr (few2, k, reads2, framing2, sound2, fails2)))) =
    let e = head_is head h k reads reads2 in
    let same = framing_is limit h k framing framing2 e sound sound2 in
    one_body_fault limit (body_of_request framing2) behind f g (subst (λ x. FailsBody limit (body_of_request x) behind f) same fails) fails2

one_refusal : (limit : ℕ) (bytes : List ℕ) (f g : HttpFault) → RefusesRequest limit bytes f → RefusesRequest limit bytes g → f ≡ g
one_refusal limit bytes f g (inl x) (inl y) = one_end bytes f g x y
one_refusal limit bytes f g (inl x) (inr (head, behind, begins, fails)) = absurd ((without_head bytes f x).0 head behind begins)
one_refusal limit bytes f g (inr (head, behind, begins, fails)) (inl y) = absurd ((without_head bytes g y).0 head behind begins)
one_refusal limit bytes f g (inr (head, behind, begins, fails)) (inr (head2, behind2, begins2, fails2)) =
    one_at limit (length (BeginsWithHead.lines begins)) head behind f g fails
    (moved limit g (length (BeginsWithHead.lines begins)) (length (BeginsWithHead.lines begins2)) head head2 behind behind2 (one_head begins begins2) fails2)

refusal_some : (limit : ℕ) (bytes : List ℕ) (f : HttpFault) → RefusesRequest limit bytes f → bytes ≡ [] → ⊥
refusal_some limit bytes f (inl x) none = let s = (without_head bytes f x).1 in let k = ap length none in omega (arith, s, k)
refusal_some limit bytes f (inr (head, behind, begins, fails)) none = head_some begins none

pub has_one_request : HasOneRequest
has_one_request limit bytes (request m rest) (request m2 rest2) x y = let e = one_request limit bytes m rest m2 rest2 x y in λ i. request (e.0 i) (e.1 i)
has_one_request limit bytes (request m rest) (refusal g) x y = absurd (request_not_fault limit bytes m rest g x y)
has_one_request limit bytes (request m rest) ending x y = absurd (head_some (IsRequestThen.begins x) y)
has_one_request limit bytes (refusal f) (request m rest) x y = absurd (request_not_fault limit bytes m rest f y x)
has_one_request limit bytes (refusal f) (refusal g) x y = ap refusal (one_refusal limit bytes f g x y)
has_one_request limit bytes (refusal f) ending x y = absurd (refusal_some limit bytes f x y)
has_one_request limit bytes ending (request m rest) x y = absurd (head_some (IsRequestThen.begins y) x)
has_one_request limit bytes ending (refusal g) x y = absurd (refusal_some limit bytes g y x)
has_one_request limit bytes ending ending x y = refl

-- a request that is read isn't refused
pub read_not_refused : (limit : ℕ) (bytes : List ℕ) (m : Request) (rest : List ℕ) (fault : HttpFault) → IsRequestThen limit bytes m rest → RefusesRequest limit bytes fault → ⊥
read_not_refused limit bytes m rest fault a b = request_not_fault limit bytes m rest fault a b

-- the same for responses
reply_is : (head : List ℕ) (h k : ResponseHead) → ReadsResponse head h [] → ReadsResponse head k [] → h ≡ k
reply_is head h k x y = (response_unique head h k [] [] x y).0

reply_framing : (limit : ℕ) (h k : ResponseHead) (f g : Option Framing) → h ≡ k → IsSoundResponse limit (status_code h) (response_pairs h) f → IsSoundResponse limit (status_code k) (response_pairs k) g → f ≡ g
reply_framing limit h k f g e x y =
    one_response_framing limit (status_code k) (response_pairs k) f g (subst (λ (r : ResponseHead). IsSoundResponse limit (status_code r) (response_pairs r) f) e x) y

one_response : (limit : ℕ) (bytes : List ℕ) (m : ResponseRead) (rest : List ℕ) (m2 : ResponseRead) (rest2 : List ℕ) → IsResponseThen limit bytes m rest → IsResponseThen limit bytes m2 rest2 → (m ≡ m2) × (rest ≡ rest2)
one_response limit bytes m rest m2 rest2 a b =
    let same = one_head b.begins a.begins in
    let heads = reply_is b.head m.head m2.head (subst (λ l. ReadsResponse l m.head []) same.0 a.reads) b.reads in
    let framing = reply_framing limit m.head m2.head a.framing b.framing heads a.sound b.sound in
    let bodies = one_body limit (body_of_response b.framing) b.behind m.body rest m2.body rest2
    (subst (λ l. IsBodyThen limit (body_of_response b.framing) l m.body rest) same.1 (subst (λ f. IsBodyThen limit (body_of_response f) a.behind m.body rest) framing a.body)) b.body in
    (response_is m m2 heads bodies.0, bodies.1)

reply_at_not_fault : (limit : ℕ) (bytes : List ℕ) (m : ResponseRead) (rest : List ℕ) (fault : HttpFault) → (a : IsResponseThen limit bytes m rest) → FailsResponseAt limit (length (BeginsWithHead.lines (IsResponseThen.begins a))) (IsResponseThen.head a) (IsResponseThen.behind a) fault → ⊥
reply_at_not_fault limit bytes m rest fault a (inl many) = let n = many.0 in let f = a.few in omega (arith, n, f)
reply_at_not_fault limit bytes m rest fault a (inr (inl none)) = none.2 m.head a.reads
reply_at_not_fault limit bytes m rest fault a (inr (inr (inl (few, h, reads, fails)))) =
    let e = reply_is a.head h m.head reads a.reads in
    response_not_fault limit (status_code m.head) (response_pairs m.head) a.framing fault a.sound (subst (λ (r : ResponseHead). FailsResponse limit (status_code r) (response_pairs r) fault) e fails)
reply_at_not_fault limit bytes m rest fault a (inr (inr (inr (few, h, reads, framing, sound, fails)))) =
    let e = reply_is a.head h m.head reads a.reads in
    let f = reply_framing limit h m.head framing a.framing e sound a.sound in
    body_not_fault limit (body_of_response a.framing) a.behind m.body rest fault a.body (subst (λ x. FailsBody limit (body_of_response x) a.behind fault) f fails)

reply_moved : (limit : ℕ) (fault : HttpFault) (count count2 : ℕ) (head head2 behind behind2 : List ℕ) → (head2 ≡ head) × (behind2 ≡ behind) × (count2 ≡ count) → FailsResponseAt limit count2 head2 behind2 fault → FailsResponseAt limit count head behind fault
reply_moved limit fault count count2 head head2 behind behind2 same x =
    subst (λ n. FailsResponseAt limit n head behind fault) same.2 (subst (λ l. FailsResponseAt limit count2 head l fault) same.1 (subst (λ l. FailsResponseAt limit count2 l behind2 fault) same.0 x))

response_not_refused : (limit : ℕ) (bytes : List ℕ) (m : ResponseRead) (rest : List ℕ) (fault : HttpFault) → IsResponseThen limit bytes m rest → RefusesResponse limit bytes fault → ⊥
response_not_refused limit bytes m rest fault a (inl none) = (without_head bytes fault none).0 a.head a.behind a.begins
response_not_refused limit bytes m rest fault a (inr (inl (head, behind, begins, fails))) =
    reply_at_not_fault limit bytes m rest fault a (reply_moved limit fault (length (BeginsWithHead.lines a.begins)) (length (BeginsWithHead.lines begins)) a.head head a.behind behind (one_head a.begins begins) fails)
response_not_refused limit bytes m rest fault a (inr (inr none)) = head_some a.begins none.0

reply_one_at : (limit count : ℕ) (head behind : List ℕ) (f g : HttpFault) → FailsResponseAt limit count head behind f → FailsResponseAt limit count head behind g → f ≡ g
reply_one_at limit count head behind f g (inl x) (inl y) = x.1 ∙ sym y.1
reply_one_at limit count head behind f g (inl x) (inr (inl y)) = let n = x.0 in let m = y.0 in absurd (omega (arith, n, m))
reply_one_at limit count head behind f g (inl x) (inr (inr (inl y))) = let n = x.0 in let m = y.0 in absurd (omega (arith, n, m))
reply_one_at limit count head behind f g (inl x) (inr (inr (inr y))) = let n = x.0 in let m = y.0 in absurd (omega (arith, n, m))
reply_one_at limit count head behind f g (inr (inl x)) (inl y) = let n = y.0 in let m = x.0 in absurd (omega (arith, n, m))
reply_one_at limit count head behind f g (inr (inl x)) (inr (inl y)) = x.1 ∙ sym y.1
reply_one_at limit count head behind f g (inr (inl x)) (inr (inr (inl y))) = absurd (x.2 y.1 y.2)
reply_one_at limit count head behind f g (inr (inl x)) (inr (inr (inr y))) = absurd (x.2 y.1 y.2)
reply_one_at limit count head behind f g (inr (inr (inl x))) (inl y) = let n = y.0 in let m = x.0 in absurd (omega (arith, n, m))
reply_one_at limit count head behind f g (inr (inr (inl x))) (inr (inl y)) = absurd (y.2 x.1 x.2)
reply_one_at limit count head behind f g (inr (inr (inl (few, h, reads, fails)))) (inr (inr (inl (few2, k, reads2, fails2)))) =
    let e = reply_is head h k reads reads2 in
    one_response_fault limit (status_code k) (response_pairs k) f g (subst (λ (r : ResponseHead). FailsResponse limit (status_code r) (response_pairs r) f) e fails) fails2
reply_one_at limit count head behind f g (inr (inr (inl (few, h, reads, fails)))) (inr (inr (inr (few2, k, reads2, framing, sound, fails2)))) =
    let e = reply_is head h k reads reads2 in
    absurd (response_not_fault limit (status_code k) (response_pairs k) framing f sound (subst (λ (r : ResponseHead). FailsResponse limit (status_code r) (response_pairs r) f) e fails))
reply_one_at limit count head behind f g (inr (inr (inr x))) (inl y) = let n = y.0 in let m = x.0 in absurd (omega (arith, n, m))
reply_one_at limit count head behind f g (inr (inr (inr x))) (inr (inl y)) = absurd (y.2 x.1 x.2)
reply_one_at limit count head behind f g (inr (inr (inr (few, h, reads, framing, sound, fails)))) (inr (inr (inl (few2, k, reads2, fails2)))) =
    let e = reply_is head k h reads2 reads in
    absurd (response_not_fault limit (status_code h) (response_pairs h) framing g sound (subst (λ (r : ResponseHead). FailsResponse limit (status_code r) (response_pairs r) g) e fails2))
reply_one_at limit count head behind f g (inr (inr (inr (few, h, reads, framing, sound, fails)))) (inr (inr (inr (few2, k, reads2, framing2, sound2, fails2)))) =
    let e = reply_is head h k reads reads2 in
    let same = reply_framing limit h k framing framing2 e sound sound2 in
    one_body_fault limit (body_of_response framing2) behind f g (subst (λ x. FailsBody limit (body_of_response x) behind f) same fails) fails2

one_response_refusal : (limit : ℕ) (bytes : List ℕ) (f g : HttpFault) → RefusesResponse limit bytes f → RefusesResponse limit bytes g → f ≡ g
one_response_refusal limit bytes f g (inl x) (inl y) = one_end bytes f g x y
one_response_refusal limit bytes f g (inl x) (inr (inl (head, behind, begins, fails))) = absurd ((without_head bytes f x).0 head behind begins)
one_response_refusal limit bytes f g (inl x) (inr (inr y)) = let s = (without_head bytes f x).1 in let k = ap length y.0 in absurd (omega (arith, s, k))
one_response_refusal limit bytes f g (inr (inl (head, behind, begins, fails))) (inl y) = absurd ((without_head bytes g y).0 head behind begins)
one_response_refusal limit bytes f g (inr (inl (head, behind, begins, fails))) (inr (inl (head2, behind2, begins2, fails2))) =
    reply_one_at limit (length (BeginsWithHead.lines begins)) head behind f g fails
    (reply_moved limit g (length (BeginsWithHead.lines begins)) (length (BeginsWithHead.lines begins2)) head head2 behind behind2 (one_head begins begins2) fails2)
one_response_refusal limit bytes f g (inr (inl (head, behind, begins, fails))) (inr (inr y)) = absurd (head_some begins y.0)
one_response_refusal limit bytes f g (inr (inr x)) (inl y) = let s = (without_head bytes g y).1 in let k = ap length x.0 in absurd (omega (arith, s, k))
one_response_refusal limit bytes f g (inr (inr x)) (inr (inl (head, behind, begins, fails))) = absurd (head_some begins x.0)
one_response_refusal limit bytes f g (inr (inr x)) (inr (inr y)) = x.1 ∙ sym y.1

pub has_one_response : HasOneResponse
has_one_response limit bytes (response m rest) (response m2 rest2) x y = let e = one_response limit bytes m rest m2 rest2 x y in λ i. response (e.0 i) (e.1 i)
has_one_response limit bytes (response m rest) (refused g) x y = absurd (response_not_refused limit bytes m rest g x y)
has_one_response limit bytes (refused f) (response m rest) x y = absurd (response_not_refused limit bytes m rest f y x)
has_one_response limit bytes (refused f) (refused g) x y = ap refused (one_response_refusal limit bytes f g x y)
