-- A whole exchange.
use Rattle.std.proofs.Common.{◌≡◌, inl, inr, ℕ, List, [], ◌∷◌, ◌++◌, length, take, refl, sym, ap, ◌∙◌, subst, arith, length-append, Option, Some, None, option_map, Result, Ok, Err, is_err, IfSome, false, true}
use Rattle.std.proofs.Math.Seq.{take-length}
use Rattle.adx_io.specs.Streams.{Tape, WhereTold}
use Rattle.adx_io.specs.declared.failed.Failed.{Failed}
use Rattle.adx_links.specs.Links.{Exchange, Exchanges, exchanges_in, answering, Answers, Course, next_start}
use Rattle.http_connection.specs.BufferState.{Passes}
use Rattle.http_connection.specs.Answers.{AnswersResponse, GivesResponse}
use Rattle.http_connection.specs.State.{ConnState}
use Rattle.http_connection.specs.declared.conn.Response.{Response}
use Rattle.http_grammar.specs.declared.fault.HttpFault.{HttpFault}
use Rattle.http_connection.specs.Messages.{IsResponseThen}
use Rattle.httparse.specs.Grammar.{status_code}
use Rattle.adx_http.specs.Exchanging.{AnswersFront, AskedIn, Exchanged, HeardFrom, IsFrontOf, MadeOf, OneMore, TakesOver, WaitsForAnswer, next_tape, tape_of}

-- what a response's refusal says of all the bytes
refused : {H T : Type 0} → (hears : H → ℕ → List ℕ → T → Type 0) (hearer : H) (limit : ℕ) (bytes rest : List ℕ) (fault : HttpFault) → GivesResponse limit bytes (Err fault) rest → MadeOf hears hearer limit bytes (Err fault)
refused hears hearer limit bytes rest HttpFault.ReadFault gives = tt
refused hears hearer limit bytes rest HttpFault.BadHead gives = gives
refused hears hearer limit bytes rest HttpFault.HeadTooLong gives = gives
refused hears hearer limit bytes rest HttpFault.LengthRequired gives = gives
refused hears hearer limit bytes rest HttpFault.BodyTooLong gives = gives
refused hears hearer limit bytes rest HttpFault.BadChunk gives = gives
refused hears hearer limit bytes rest HttpFault.Cut gives = gives
refused hears hearer limit bytes rest HttpFault.Coding gives = gives

from_tapes : (o n : Option Tape) (P Q : Tape → Tape → Type 0) → ((s t : Tape) → P s t → Q s t) → WhereTold o n P → WhereTold o n Q
from_tapes None n P Q from told = told
from_tapes (Some s) None P Q from told = told
from_tapes (Some s) (Some t) P Q from told = from s t told

-- what the connection's tapes say, where the course is reported
over_courses : (o n : Option Course) (bytes : List ℕ) (P : Tape → Tape → Type 0) → WhereTold o n (TakesOver bytes) → WhereTold (tape_of o) (tape_of n) P → WhereTold o n (λ a b. WhereTold (tape_of (Some a)) (tape_of (Some b)) P)
over_courses None n bytes P takes told = takes
over_courses (Some o) None bytes P takes told = absurd takes
over_courses (Some o) (Some n) bytes P takes told = told

pub heard_response : {H T : Type 0} → (hears : H → ℕ → List ℕ → T → Type 0) (hearer : H) (o n : Option Course) (before now : ConnState) (bytes : List ℕ) (m : Response) (heard : T)
    → before.held ≡ [] → before.failed ≡ false → WhereTold o n (TakesOver bytes) → AnswersResponse before now (tape_of o) (tape_of n) (Ok m) → hears hearer m.status m.body.now heard
    → WhereTold o n (HeardFrom hears hearer before.limit (Ok heard))
heard_response hears hearer o n before now bytes m heard held sound takes answers hear =
    over_courses o n bytes (λ s t. MadeOf hears hearer before.limit s.left (Ok heard)) takes
    (from_tapes (tape_of o) (tape_of n) (λ s t. GivesResponse before.limit (before.held ++ s.left) (Ok m) (now.held ++ t.left)) (λ s t. MadeOf hears hearer before.limit s.left (Ok heard))
    (λ s t gives. (
      gives.0,
      now.held ++ t.left,
      subst (λ (h : List ℕ). IsResponseThen before.limit (h ++ s.left) gives.0 (now.held ++ t.left)) held gives.1,
      subst (λ (b : List ℕ). hears hearer (status_code gives.0.head) b heard) gives.2.body (subst (λ (k : ℕ). hears hearer k m.body.now heard) gives.2.status hear),
    ))
    (answers.told sound))

pub heard_fault : {H T : Type 0} → (hears : H → ℕ → List ℕ → T → Type 0) (hearer : H) (o n : Option Course) (before now : ConnState) (bytes : List ℕ) (fault : HttpFault)
    → before.held ≡ [] → before.failed ≡ false → WhereTold o n (TakesOver bytes) → AnswersResponse before now (tape_of o) (tape_of n) (Err fault)
    → WhereTold o n (HeardFrom hears hearer before.limit (Err fault))
heard_fault hears hearer o n before now bytes fault held sound takes answers =
    over_courses o n bytes (λ s t. MadeOf hears hearer before.limit s.left (Err fault)) takes
    (from_tapes (tape_of o) (tape_of n) (λ s t. GivesResponse before.limit (before.held ++ s.left) (Err fault) (now.held ++ t.left)) (λ s t. MadeOf hears hearer before.limit s.left (Err fault))
    (λ s t gives. refused hears hearer before.limit s.left (now.held ++ t.left) fault (subst (λ (h : List ℕ). GivesResponse before.limit (h ++ s.left) (Err fault) (now.held ++ t.left)) held gives))
    (answers.told sound))

in_talk : {T : Type 0} → (host : List ℕ) (port : ℕ) (request answered : List ℕ) (result : Result T HttpFault) (o n : Exchanges) → OneMore host port request answered o n → Exchanged host port request result o n
in_talk host port request answered (Ok t) o n one = (answered, one)
in_talk host port request answered (Err HttpFault.ReadFault) o n one = inl (length request, answered, subst (λ (r : List ℕ). OneMore host port r answered o n) (sym (take-length request)) one)
in_talk host port request answered (Err HttpFault.BadHead) o n one = (answered, one)
in_talk host port request answered (Err HttpFault.HeadTooLong) o n one = (answered, one)
in_talk host port request answered (Err HttpFault.LengthRequired) o n one = (answered, one)
in_talk host port request answered (Err HttpFault.BodyTooLong) o n one = (answered, one)
in_talk host port request answered (Err HttpFault.BadChunk) o n one = (answered, one)
in_talk host port request answered (Err HttpFault.Cut) o n one = (answered, one)
in_talk host port request answered (Err HttpFault.Coding) o n one = (answered, one)

abbrev answered_in : List ℕ → Exchanges → Exchanges
answered_in bytes e = record e { now = option_map (answering bytes) e.now }

one_answered : (host : List ℕ) (port : ℕ) (request bytes : List ℕ) (o m n : Exchanges) → AskedIn host port request (Ok tt) o m → Answers bytes m n → OneMore host port request bytes o n
one_answered host port request bytes o m n asked answers = record { more = ap exchanges_in answers ∙ ap (λ (x : Exchanges). exchanges_in (answered_in bytes x)) asked }

pub whole_talk : {T : Type 0} → (host : List ℕ) (port : ℕ) (request bytes : List ℕ) (result : Result T HttpFault) (o m n : Option Exchanges)
    → WhereTold o m (AskedIn host port request (Ok tt)) → WhereTold m n (Answers bytes) → WhereTold o n (Exchanged host port request result)
whole_talk host port request bytes result None None n asked answers = answers
whole_talk host port request bytes result None (Some m) n asked answers = absurd (cc asked)
whole_talk host port request bytes result (Some o) None n asked answers = absurd asked
whole_talk host port request bytes result (Some o) (Some m) None asked answers = absurd answers
whole_talk host port request bytes result (Some o) (Some m) (Some n) asked answers = in_talk host port request bytes result o n (one_answered host port request bytes o m n asked answers)

pub asked_ok : (host : List ℕ) (port : ℕ) (request : List ℕ) (result : Result Unit Failed) (o m : Option Exchanges) → false ≡ is_err result → WhereTold o m (AskedIn host port request result) → WhereTold o m (AskedIn host port request (Ok tt))
asked_ok host port request (Ok tt) o m ok asked = asked
asked_ok host port request (Err e) o m ok asked = absurd (cc ok)

-- what was answered is a front of the bytes that were to come
abbrev last_of : List Exchange → List ℕ
last_of [] = []
last_of (e ∷ []) = e.answered
last_of (e ∷ f ∷ es) = last_of (f ∷ es)

last_behind : (es : List Exchange) (e : Exchange) → last_of (es ++ e ∷ []) ≡ e.answered
last_behind [] e = refl
last_behind (d ∷ []) e = refl
last_behind (d ∷ f ∷ es) e = last_behind (f ∷ es) e

same_answer : (es : List Exchange) (d e : Exchange) → es ++ d ∷ [] ≡ es ++ e ∷ [] → e.answered ≡ d.answered
same_answer es d e same = sym (last_behind es e) ∙ sym (ap last_of same) ∙ last_behind es d

one_front : (host : List ℕ) (port : ℕ) (request bytes : List ℕ) (c : Course) (o n : Exchanges) → OneMore host port request bytes o n → IsFrontOf bytes (next_start c.plan).bytes → AnswersFront c o n
one_front host port request bytes c o n one front = λ e more.
    subst (λ (a : List ℕ). IsFrontOf a (next_start c.plan).bytes) (sym (same_answer (exchanges_in o) (record { host = host; port = port; asked = request; answered = bytes }) e (sym one.more ∙ more))) front

no_more : (es : List Exchange) (e : Exchange) → es ≡ es ++ e ∷ [] → ⊥
no_more es e same = omega (arith, ap length same, length-append es (e ∷ []))

abbrev left_of : Option Tape → List ℕ
left_of None = []
left_of (Some t) = t.left

-- a connection that waited for its answer gave a front of what it was to give
took_front : (c : Course) (m n : Option Course) (bytes : List ℕ) → WhereTold (Some c) m (WaitsForAnswer (Ok tt)) → WhereTold m n (TakesOver bytes) → IsFrontOf bytes (next_start c.plan).bytes
took_front c None n bytes waits takes = absurd waits
took_front c (Some m) None bytes waits takes = absurd takes
took_front c (Some m) (Some n) bytes waits takes = by_tape (tape_of (Some m)) (tape_of (Some n)) waits.1 takes.tape where
  by_tape : (s t : Option Tape) → s ≡ Some (next_tape c) → WhereTold s t (Passes bytes) → IsFrontOf bytes (next_start c.plan).bytes
  by_tape None t is passes = absurd (cc is)
  by_tape (Some s) None is passes = absurd passes
  by_tape (Some s) (Some t) is passes = (t.left, sym (ap left_of is) ∙ passes.left)

pub whole_front : (host : List ℕ) (port : ℕ) (request bytes : List ℕ) (o m n : Option Exchanges) (c d e : Option Course)
    → WhereTold o m (AskedIn host port request (Ok tt)) → WhereTold m n (Answers bytes) → WhereTold c d (WaitsForAnswer (Ok tt)) → WhereTold d e (TakesOver bytes)
    → IfSome c (λ k. WhereTold o n (AnswersFront k))
whole_front host port request bytes o m n None d e asked answers waits takes = tt
whole_front host port request bytes None None n (Some c) d e asked answers waits takes = answers
whole_front host port request bytes None (Some m) n (Some c) d e asked answers waits takes = absurd (cc asked)
whole_front host port request bytes (Some o) None n (Some c) d e asked answers waits takes = absurd asked
whole_front host port request bytes (Some o) (Some m) None (Some c) d e asked answers waits takes = absurd answers
whole_front host port request bytes (Some o) (Some m) (Some n) (Some c) d e asked answers waits takes =
    one_front host port request bytes c o n (one_answered host port request bytes o m n asked answers) (took_front c d e bytes waits takes)

-- a call that wasn't asked whole gave nothing
pub failed_front : (host : List ℕ) (port : ℕ) (request : List ℕ) (result : Result Unit Failed) (o n : Option Exchanges) (c : Option Course) → true ≡ is_err result → WhereTold o n (AskedIn host port request result) → IfSome c (λ k. WhereTold o n (AnswersFront k))
failed_front host port request result o n None failed asked = tt
failed_front host port request (Ok done) o n (Some c) failed asked = absurd (cc failed)
failed_front host port request (Err e) None n (Some c) failed asked = asked
failed_front host port request (Err e) (Some o) None (Some c) failed asked = absurd asked
failed_front host port request (Err e) (Some o) (Some n) (Some c) failed (inl one) = one_front host port (take one.0 request) [] c o n one.1 ((next_start c.plan).bytes, refl)
failed_front host port request (Err e) (Some o) (Some n) (Some c) failed (inr none) = λ f more. absurd (no_more (exchanges_in o) f (sym none ∙ more))

pub waits_ok : (result : Result Unit Failed) (c d : Option Course) → false ≡ is_err result → WhereTold c d (WaitsForAnswer result) → WhereTold c d (WaitsForAnswer (Ok tt))
waits_ok (Ok tt) c d ok waits = waits
waits_ok (Err e) c d ok waits = absurd (cc ok)
