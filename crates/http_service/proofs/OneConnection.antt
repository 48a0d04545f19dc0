-- The bytes of a connection are one list of messages, and no more are read for one reason.
use Rattle.std.proofs.Common.{◌≡◌, ◌⊎◌, inl, inr, ℕ, ◌<◌, List, [], ◌∷◌, ◌++◌, length, All, true, Some, refl, sym, ap, ◌∙◌, append_assoc, append-nil, length-append, arith, subst}
use Rattle.std.proofs.lemmas.List.Elements.{All-nil, All-cons, All-head, All-tail}
use Rattle.http_connection.specs.Laws.RequestAnswer.{request, refusal, ending}
use Rattle.http_connection.specs.Messages.{AreRequests, IsRequestThen, RefusesRequest, Request}
use Rattle.http_connection.proofs.OneAnswer.{has_one_request}
use Rattle.http_grammar.specs.Requests.{is_kept}
use Rattle.http_grammar.specs.declared.fault.HttpFault.{HttpFault}
use Rattle.http_service.specs.Connections.{Answering, AreSpent, CloseLast, GivingUp, GoOn, Replies}
use Rattle.http_service.specs.Replies.{fault_status, refusal_bytes}
use Rattle.http_service.specs.declared.limits.TheConstants.{MESSAGE_LIMIT}
use Rattle.http_service.specs.ConnectionRuns.{EndsConnection}

-- a message that keeps its connection
abbrev IsKept : Request → Type 0
IsKept m = is_kept m.head ≡ true

kept_front : (ms more : List Request) → All IsKept (ms ++ more) → All IsKept ms
kept_front [] more all = All-nil IsKept
kept_front (m ∷ ms) more all = All-cons IsKept m ms (All-head IsKept m (ms ++ more) all) (kept_front ms more (All-tail IsKept m (ms ++ more) all))

kept_last : (ms : List Request) (last : Request) → All IsKept (ms ++ last ∷ []) → IsKept last
kept_last [] last all = All-head IsKept last [] all
kept_last (m ∷ ms) last all = kept_last ms last (All-tail IsKept m (ms ++ last ∷ []) all)

not_closed : (ms : List Request) → All IsKept ms → CloseLast ms → ⊥
not_closed ms all close = cc (sym (kept_last close.before close.last (subst (All IsKept) close.split all)) ∙ close.closes)

-- what comes before a message comes before the last one
front_of : (p : List Request) (m : Request) (ms before : List Request) (last : Request) → p ++ m ∷ ms ≡ before ++ last ∷ [] → (q : List Request) × (before ≡ p ++ q)
front_of [] m ms before last is = (before, refl)
front_of (x ∷ p) m ms [] last is = absurd (omega (arith, ap length is, length-append p (m ∷ ms)))
front_of (x ∷ p) m ms (b ∷ before) last is =
    let same : x ≡ b = cc is in
    let rest : p ++ m ∷ ms ≡ before ++ last ∷ [] = cc is in
    let f = front_of p m ms before last rest in
    (f.0, ap (λ (l : List Request). b ∷ l) f.1 ∙ ap (λ (y : Request). y ∷ (p ++ f.0)) (sym same))

module _ (limit : ℕ) where
  -- why no more is read after these messages, and what is written then beside their replies: nothing, or the reply to a
  -- message that is refused
  abbrev IsQuiet : List Request → List ℕ → Type 0
  IsQuiet ms rest = (GoOn ms × ((rest ≡ []) ⊎ RefusesRequest limit rest HttpFault.Cut)) ⊎ (CloseLast ms ⊎ AreSpent ms)

  abbrev IsRefused : List Request → List ℕ → List ℕ → Type 0
  IsRefused ms rest tail = (fault : HttpFault) × (status : ℕ) × GoOn ms × RefusesRequest limit rest fault × (fault_status fault ≡ Some status) × (tail ≡ refusal_bytes status)

  abbrev Ends : List Request → List ℕ → List ℕ → Type 0
  Ends ms rest tail = (IsQuiet ms rest × (tail ≡ [])) ⊎ IsRefused ms rest tail

  -- no message comes after those that keep their connection
  abbrev ComesNone : List ℕ → Type 0
  ComesNone rest = (rest ≡ []) ⊎ ((fault : HttpFault) × RefusesRequest limit rest fault)

  -- where messages are read after some, those keep the connection, and are fewer than may come
  abbrev GoesOn : List Request → Type 0
  GoesOn p = All IsKept p × (length p < MESSAGE_LIMIT)

  on_kept : (p : List Request) (m : Request) (ms : List Request) → GoOn (p ++ m ∷ ms) → GoesOn p
  on_kept p m ms go_on = (kept_front p (m ∷ ms) go_on.kept, omega (arith, go_on.few, length-append p (m ∷ ms)))

  on_closed : (p : List Request) (m : Request) (ms : List Request) → CloseLast (p ++ m ∷ ms) → GoesOn p
  on_closed p m ms close =
      let f = front_of p m ms close.before close.last close.split in
      (kept_front p f.0 (subst (All IsKept) f.1 close.go_on.kept), omega (arith, close.go_on.few, ap length f.1, length-append p f.0))

  on_spent : (p : List Request) (m : Request) (ms : List Request) → AreSpent (p ++ m ∷ ms) → GoesOn p
  on_spent p m ms spent = (kept_front p (m ∷ ms) spent.kept, omega (arith, spent.many, length-append p (m ∷ ms)))

  goes_on : (p : List Request) (m : Request) (ms : List Request) (rest tail : List ℕ) → Ends (p ++ m ∷ ms) rest tail → GoesOn p
  goes_on p m ms rest tail (inl (inl (go_on, why), none)) = on_kept p m ms go_on
  goes_on p m ms rest tail (inl (inr (inl close), none)) = on_closed p m ms close
  goes_on p m ms rest tail (inl (inr (inr spent), none)) = on_spent p m ms spent
  goes_on p m ms rest tail (inr (fault, status, go_on, refuses, answered, said)) = on_kept p m ms go_on

  comes_none : (p : List Request) (rest tail : List ℕ) → GoesOn p → Ends p rest tail → ComesNone rest
  comes_none p rest tail goes (inl (inl (go_on, inl none), said)) = inl none
  comes_none p rest tail goes (inl (inl (go_on, inr cut), said)) = inr (HttpFault.Cut, cut)
  comes_none p rest tail goes (inl (inr (inl close), said)) = absurd (not_closed p goes.0 close)
  comes_none p rest tail goes (inl (inr (inr spent), said)) = absurd (omega (arith, goes.1, spent.many))
  comes_none p rest tail goes (inr (fault, status, go_on, refuses, answered, said)) = inr (fault, refuses)

  comes_some : (rest : List ℕ) (m : Request) (between : List ℕ) → IsRequestThen limit rest m between → ComesNone rest → ⊥
  comes_some rest m between is (inl none) = let e : request m between ≡ ending = has_one_request limit rest (request m between) ending is none in cc e
  comes_some rest m between is (inr (fault, refuses)) = let e : request m between ≡ refusal fault = has_one_request limit rest (request m between) (refusal fault) is refuses in cc e

  -- read on after some messages
  behind : (p : List Request) (m : Request) (ms : List Request) (rest tail : List ℕ) → Ends (p ++ m ∷ ms) rest tail → Ends ((p ++ m ∷ []) ++ ms) rest tail
  behind p m ms rest tail = subst (λ (l : List Request). Ends l rest tail) (sym (append_assoc p (m ∷ []) ms))

  one_reading : (p ms ns : List Request) (bytes rest other tail tail_other : List ℕ) → AreRequests limit bytes ms rest → AreRequests limit bytes ns other → Ends (p ++ ms) rest tail → Ends (p ++ ns) other tail_other
      → (ms ≡ ns) × (rest ≡ other)
  one_reading p [] [] bytes rest other tail tail_other a b x y = (refl, sym a ∙ b)
  one_reading p [] (n ∷ ns) bytes rest other tail tail_other a b x y =
      let none = comes_none p rest tail (goes_on p n ns other tail_other y) (subst (λ (l : List Request). Ends l rest tail) (append-nil p) x) in
      absurd (comes_some rest n b.0 (subst (λ (i : List ℕ). IsRequestThen limit i n b.0) a b.1) none)
  one_reading p (m ∷ ms) [] bytes rest other tail tail_other a b x y =
      let none = comes_none p other tail_other (goes_on p m ms rest tail x) (subst (λ (l : List Request). Ends l other tail_other) (append-nil p) y) in
      absurd (comes_some other m a.0 (subst (λ (i : List ℕ). IsRequestThen limit i m a.0) b a.1) none)
  one_reading p (m ∷ ms) (n ∷ ns) bytes rest other tail tail_other a b x y =
      let e : request m a.0 ≡ request n b.0 = has_one_request limit bytes (request m a.0) (request n b.0) a.1 b.1 in
      let same : m ≡ n = cc e in
      let between : a.0 ≡ b.0 = cc e in
      let more = one_reading (p ++ m ∷ []) ms ns a.0 rest other tail tail_other a.2 (subst (λ (i : List ℕ). AreRequests limit i ns other) (sym between) b.2)
      (behind p m ms rest tail x) (behind p m ns other tail_other (subst (λ (l : Request). Ends (p ++ l ∷ ns) other tail_other) (sym same) y)) in
      (ap (λ (l : Request). l ∷ ms) same ∙ ap (λ (l : List Request). n ∷ l) more.0, more.1)

  refused_not_quiet : (ms : List Request) (rest tail : List ℕ) → IsQuiet ms rest → IsRefused ms rest tail → ⊥
  refused_not_quiet ms rest tail (inl (go_on, inl none)) (fault, status, kept, refuses, answered, said) =
      let e : ending ≡ refusal fault = has_one_request limit rest ending (refusal fault) none refuses in cc e
  refused_not_quiet ms rest tail (inl (go_on, inr cut)) (fault, status, kept, refuses, answered, said) =
      let e : refusal HttpFault.Cut ≡ refusal fault = has_one_request limit rest (refusal HttpFault.Cut) (refusal fault) cut refuses in
      let same : HttpFault.Cut ≡ fault = cc e in
      cc (ap fault_status same ∙ answered)
  refused_not_quiet ms rest tail (inr (inl close)) (fault, status, kept, refuses, answered, said) = not_closed ms kept.kept close
  refused_not_quiet ms rest tail (inr (inr spent)) (fault, status, kept, refuses, answered, said) = omega (arith, kept.few, spent.many)

  one_tail : (ms : List Request) (rest tail other : List ℕ) → Ends ms rest tail → Ends ms rest other → tail ≡ other
  one_tail ms rest tail other (inl (quiet, none)) (inl (too, also)) = none ∙ sym also
  one_tail ms rest tail other (inl (quiet, none)) (inr refused) = absurd (refused_not_quiet ms rest other quiet refused)
  one_tail ms rest tail other (inr refused) (inl (quiet, none)) = absurd (refused_not_quiet ms rest tail quiet refused)
  one_tail ms rest tail other (inr (fault, status, go_on, refuses, answered, said)) (inr (fault', status', go_on', refuses', answered', said')) =
      let e : refusal fault ≡ refusal fault' = has_one_request limit rest (refusal fault) (refusal fault') refuses refuses' in
      let same : fault ≡ fault' = cc e in
      let some : Some status ≡ Some status' = sym answered ∙ ap fault_status same ∙ answered' in
      let one : status ≡ status' = cc some in
      said ∙ ap refusal_bytes one ∙ sym said'

  -- all that is written for the bytes of a connection
  record Whole {S : Type 0} (answers : Answering S) (s now : S) (input out : List ℕ) : Type 0 where
    ms : List Request
    rest : List ℕ
    put : List ℕ
    tail : List ℕ
    are : AreRequests limit input ms rest
    replies : Replies answers s ms put now
    ends : Ends ms rest tail
    said : out ≡ put ++ tail

  module _ {S : Type 0} (answers : Answering S) (gives_up : GivingUp S) (most : ℕ) (s now : S) where
    quiet_whole : (taken left out : List ℕ) (ms : List Request) (beyond : List ℕ) → AreRequests limit (taken ++ left) ms (beyond ++ left) → Replies answers s ms out now → IsQuiet ms (beyond ++ left) → Whole answers s now (taken ++ left) out
    quiet_whole taken left out ms beyond are replies quiet =
        record { ms = ms; rest = beyond ++ left; put = out; tail = []; are = are; replies = replies; ends = inl (quiet, refl); said = sym (append-nil out) }

    whole_of : (taken left out : List ℕ) → EndsConnection answers gives_up limit most s now taken left out → Whole answers s now (taken ++ left) out
    whole_of taken left out (inl (ms, replies, inl (go_on, (beyond, are, none)))) = quiet_whole taken left out ms beyond are replies (inl (go_on, inl none))
    whole_of taken left out (inl (ms, replies, inr (inl (close, (beyond, are, few))))) = quiet_whole taken left out ms beyond are replies (inr (inl close))
    whole_of taken left out (inl (ms, replies, inr (inr (inl (go_on, (beyond, are, cut)))))) = quiet_whole taken left out ms beyond are replies (inl (go_on, inr cut))
    whole_of taken left out (inl (ms, replies, inr (inr (inr (spent, (beyond, are, few)))))) = quiet_whole taken left out ms beyond are replies (inr (inr spent))
    whole_of taken left out (inr (put, reply, (ms, fault, status, go_on, replies, answered, is, (beyond, are, refuses)), said)) =
        record { ms = ms; rest = beyond ++ left; put = put; tail = reply; are = are; replies = replies; ends = inr (fault, status, go_on, refuses, answered, is); said = said }

  -- The same bytes have one output, where the replies to the same messages are the same: by how two services answer, from
  -- their states to those that they are left in.
  pub one_output : {S : Type 0} (answers others : Answering S) (gives gives_other : GivingUp S) (most : ℕ) (s t now then : S) (taken left out taken_other left_other out_other : List ℕ)
      → ((ms : List Request) (put put_other : List ℕ) → Replies answers s ms put now → Replies others t ms put_other then → put ≡ put_other)
      → taken ++ left ≡ taken_other ++ left_other → EndsConnection answers gives limit most s now taken left out → EndsConnection others gives_other limit most t then taken_other left_other out_other
      → out ≡ out_other
  one_output answers others gives gives_other most s t now then taken left out taken_other left_other out_other same_replies same x y =
      let a = whole_of answers gives most s now taken left out x in
      let b = whole_of others gives_other most t then taken_other left_other out_other y in
      let both = one_reading [] a.ms b.ms (taken ++ left) a.rest b.rest a.tail b.tail a.are (subst (λ (i : List ℕ). AreRequests limit i b.ms b.rest) (sym same) b.are) a.ends b.ends in
      let put : a.put ≡ b.put = same_replies b.ms a.put b.put (subst (λ (l : List Request). Replies answers s l a.put now) both.0 a.replies) b.replies in
      let ends : Ends b.ms b.rest a.tail = subst (λ (l : List ℕ). Ends b.ms l a.tail) both.1 (subst (λ (l : List Request). Ends l a.rest a.tail) both.0 a.ends) in
      a.said ∙ ap (λ (l : List ℕ). l ++ a.tail) put ∙ ap (λ (l : List ℕ). b.put ++ l) (one_tail b.ms b.rest a.tail b.tail ends b.ends) ∙ sym b.said
