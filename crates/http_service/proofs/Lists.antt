-- Lists of messages and of replies that grow by one at their end.
use Rattle.std.proofs.Common.{◌≡◌, ℕ, ◌+◌, List, [], ◌∷◌, ◌++◌, length, All, true, refl, sym, ap, ◌∙◌, append_assoc, append-nil, subst, arith, length-append}
use Rattle.std.proofs.lemmas.List.Elements.{All-nil, All-cons, All-append}
use Rattle.http_connection.specs.Messages.{Request, IsRequestThen, AreRequests}
use Rattle.http_grammar.specs.Requests.{is_kept}
use Rattle.http_service.specs.Connections.{Answering, Replies}
use Rattle.http_service.specs.Replies.{reply_to}
use Rattle.http_service.specs.declared.answer.Answer.{Answer}

-- one message more
pub requests_more : (limit : ℕ) (bytes : List ℕ) (ms : List Request) (between : List ℕ) (m : Request) (rest : List ℕ) → AreRequests limit bytes ms between → IsRequestThen limit between m rest → AreRequests limit bytes (ms ++ m ∷ []) rest
requests_more limit bytes [] between m rest are is = (rest, subst (λ (b : List ℕ). IsRequestThen limit b m rest) (sym are) is, refl)
requests_more limit bytes (n ∷ ms) between m rest are is = (are.0, are.1, requests_more limit are.0 ms between m rest are.2 is)

pub replies_more : {S : Type 0} (answers : Answering S) (s : S) (ms : List Request) (out : List ℕ) (between : S) (m : Request) (a : Answer) (body : List ℕ) (now : S) → Replies answers s ms out between → answers between m a body now → Replies answers s (ms ++ m ∷ []) (out ++ reply_to m a body) now
replies_more {S = S} answers s [] out between m a body now are is = (
  a,
  body,
  now,
  [],
  subst (λ (b : S). answers b m a body now) are.1 is,
  (refl, refl),
  ap (λ (b : List ℕ). b ++ reply_to m a body) are.0 ∙ sym (append-nil (reply_to m a body)),
)
replies_more {S = S} answers s (n ∷ ms) out between m a body now are is = (
  are.0,
  are.1,
  are.2,
  are.3 ++ reply_to m a body,
  are.4,
  replies_more answers are.2 ms are.3 between m a body now are.5 is,
  ap (λ (b : List ℕ). b ++ reply_to m a body) are.6 ∙ append_assoc (reply_to n are.0 are.1) are.3 (reply_to m a body),
)

pub kept_more : (ms : List Request) (m : Request) → All (λ (r : Request). is_kept r.head ≡ true) ms → is_kept m.head ≡ true → All (λ (r : Request). is_kept r.head ≡ true) (ms ++ m ∷ [])
kept_more ms m kept is = All-append (λ (r : Request). is_kept r.head ≡ true) ms (m ∷ []) kept (All-cons (λ (r : Request). is_kept r.head ≡ true) m [] is (All-nil (λ (r : Request). is_kept r.head ≡ true)))

pub one_more : (ms : List Request) (m : Request) (count : ℕ) → length ms ≡ count → length (ms ++ m ∷ []) ≡ count + 1
one_more ms m count many = omega (arith, length-append ms (m ∷ []))
