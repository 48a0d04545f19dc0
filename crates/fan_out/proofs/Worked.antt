-- One lane's work, by what is known of its exchange.
use Rattle.std.specs.Prelude.{◌≡◌, ◌≢◌, ◌<◌, ℕ, List, [], ◌∷◌, ◌++◌, length, IsTrue, Option, Some, None, IfSome, IfOk, Result, Ok, Err, refl}
use Rattle.std.specs.Borrow.{GName}
use Rattle.std.proofs.Common.{sym, ap, subst, inl, inr, arith}
use Rattle.std.proofs.lemmas.List.{length-append}
use Rattle.adx_units.specs.declared.memory.OutOfMemory.{OutOfMemory}
use Rattle.adx_io.specs.Streams.{WhereTold}
use Rattle.adx_links.specs.Links.{Course, Exchange, Exchanges, FailsStart, after_start, exchanges_in, next_start}
use Rattle.http_connection.specs.Steps.{ReadsBy}
use Rattle.http_connection.specs.State.{ConnState}
use Rattle.http_grammar.specs.declared.fault.HttpFault.{HttpFault}
use Rattle.httparse.specs.Grammar.{status_code}
use Rattle.deal_floor.specs.declared.place.Place.{Place}
use Rattle.adx_http.specs.Exchanging.{Answered, Exchanged, HeardSome, MadeOf, AnswersFront}
use Rattle.fan_out.specs.declared.answer.BidderAnswer.{BidderAnswer}
use Rattle.fan_out.specs.declared.answer.Refusal.{Refusal}
use Rattle.fan_out.specs.declared.lane.Lane.{Lane}
use Rattle.fan_out.specs.Answers.{Said, said_by, bids, no_bid, refused, link_fault, SaysBody, SaysResponse, SaysSome, Says, IsOfAnswer}
use Rattle.fan_out.specs.Lanes.{Outcome, outcome_of, Asks, Follows, IsLost, IsPlanned, IsCaused, IsOwn, IsWorked}
use Rattle.fan_out.specs.Requests.{request_bytes, request_head}
use Rattle.fan_out.specs.Lasts.{answer_of, emptied, lane_of}

-- what an auction hears
abbrev pub HearsAs : List ℕ → ℕ → List ℕ → Result BidderAnswer OutOfMemory → Type 0
HearsAs id status body heard = IfOk heard (λ a. SaysResponse id status body (said_by a))

abbrev pub HeardOf : List ℕ → Result (Result BidderAnswer OutOfMemory) HttpFault → Type 0
HeardOf id res = IfOk res (λ h. (status : ℕ) × (body : List ℕ) × HearsAs id status body h)

pub told_as : {T : Type 0} (a b : Option T) (R Q : T → T → Type 0) → ((x y : T) → R x y → Q x y) → WhereTold a b R → WhereTold a b Q
told_as None b R Q f h = h
told_as (Some x) None R Q f h = h
told_as (Some x) (Some y) R Q f h = f x y h

-- a response never says that the link failed, or that it is no response
not_link : (id body : List ℕ) (status : ℕ) → SaysResponse id status body link_fault → ⊥
not_link id body status (inl x) = x.1
not_link id body status (inr (inl x)) = cc x.1
not_link id body status (inr (inr x)) = cc x.2

not_http : (id body : List ℕ) (status : ℕ) (f : HttpFault) → SaysResponse id status body (refused (Refusal.Http f)) → ⊥
not_http id body status f (inl x) = x.1
not_http id body status f (inr (inl x)) = cc x.1
not_http id body status f (inr (inr x)) = cc x.2

own_body : (id body : List ℕ) (said : Said) → SaysBody id body said → IsOfAnswer said
own_body id body (bids a) s = s.3
own_body id body no_bid s = tt
own_body id body (refused (Refusal.Http f)) s = absurd s
own_body id body (refused (Refusal.Status n)) s = absurd s
own_body id body (refused (Refusal.Json f)) s = s.1
own_body id body (refused (Refusal.Answer f)) s = s.3
own_body id body link_fault s = absurd s

own_response : (id body : List ℕ) (status : ℕ) (said : Said) → SaysResponse id status body said → IsOfAnswer said
own_response id body status said (inl x) = own_body id body said x.1
own_response id body status said (inr (inl x)) = subst IsOfAnswer (sym x.1) tt
own_response id body status said (inr (inr x)) = subst IsOfAnswer (sym x.2) (x.0, x.1)

pub own : (id : List ℕ) (res : Result (Result BidderAnswer OutOfMemory) HttpFault) → HeardOf id res → IsOwn (outcome_of (answer_of res))
own id (Ok (Ok a)) h = own_response id h.1 h.0 (said_by a) h.2
own id (Ok (Err e)) h = tt
own id (Err HttpFault.ReadFault) h = tt
own id (Err HttpFault.BadHead) h = λ e. cc e
own id (Err HttpFault.HeadTooLong) h = λ e. cc e
own id (Err HttpFault.LengthRequired) h = λ e. cc e
own id (Err HttpFault.BodyTooLong) h = λ e. cc e
own id (Err HttpFault.BadChunk) h = λ e. cc e
own id (Err HttpFault.Cut) h = λ e. cc e
own id (Err HttpFault.Coding) h = λ e. cc e

pub asks : (id : List ℕ) (p : Place) (request : List ℕ) (res : Result (Result BidderAnswer OutOfMemory) HttpFault) (old new : Exchanges) → HeardOf id res
    → Exchanged p.host p.port request res old new → Asks p request (outcome_of (answer_of res)) old new
asks id p request (Ok (Ok (BidderAnswer.Bids a))) old new h e = e
asks id p request (Ok (Ok BidderAnswer.NoBid)) old new h e = e
asks id p request (Ok (Ok (BidderAnswer.Refused r))) old new h e = e
asks id p request (Ok (Ok BidderAnswer.LinkFault)) old new h e = absurd (not_link id h.1 h.0 h.2)
asks id p request (Ok (Err x)) old new h e = inl e
asks id p request (Err HttpFault.ReadFault) old new h (inl e) = inl e
asks id p request (Err HttpFault.ReadFault) old new h (inr e) = inr e
asks id p request (Err HttpFault.BadHead) old new h e = e
asks id p request (Err HttpFault.HeadTooLong) old new h e = e
asks id p request (Err HttpFault.LengthRequired) old new h e = e
asks id p request (Err HttpFault.BodyTooLong) old new h e = e
asks id p request (Err HttpFault.BadChunk) old new h e = e
asks id p request (Err HttpFault.Cut) old new h e = e
asks id p request (Err HttpFault.Coding) old new h e = e

module _ {A : Type 0} (id : List ℕ) (hears : A → ℕ → List ℕ → Result BidderAnswer OutOfMemory → Type 0) (auction : A)
    (as_heard : (status : ℕ) (body : List ℕ) (h : Result BidderAnswer OutOfMemory) → hears auction status body h → HearsAs id status body h) where
  some_says : (limit : ℕ) (bytes : List ℕ) (a : BidderAnswer) → MadeOf hears auction limit bytes (Ok (Ok a)) → SaysSome limit id bytes (said_by a)
  some_says limit bytes a m = (m.0, m.1, m.2, as_heard (status_code m.0.head) m.0.body (Ok a) m.3)

  says_heard : (limit : ℕ) (bytes : List ℕ) (a : BidderAnswer) → SaysSome limit id bytes (said_by a) → Says limit id bytes (said_by a)
  says_heard limit bytes (BidderAnswer.Bids a) s = s
  says_heard limit bytes BidderAnswer.NoBid s = s
  says_heard limit bytes (BidderAnswer.Refused (Refusal.Http f)) s = absurd (not_http id s.0.body (status_code s.0.head) f s.3)
  says_heard limit bytes (BidderAnswer.Refused (Refusal.Status n)) s = s
  says_heard limit bytes (BidderAnswer.Refused (Refusal.Json f)) s = s
  says_heard limit bytes (BidderAnswer.Refused (Refusal.Answer f)) s = s
  says_heard limit bytes BidderAnswer.LinkFault s = absurd (not_link id s.0.body (status_code s.0.head) s.3)

  follows_heard : (limit : ℕ) (a : BidderAnswer) (old new : Course) → new.plan ≡ after_start old.plan → Says limit id (next_start old.plan).bytes (said_by a) → Follows limit id (Ok (said_by a)) old new
  follows_heard limit (BidderAnswer.Bids a) old new plan s = (plan, s)
  follows_heard limit BidderAnswer.NoBid old new plan s = (plan, s)
  follows_heard limit (BidderAnswer.Refused r) old new plan s = (plan, s)
  follows_heard limit BidderAnswer.LinkFault old new plan s = plan

  pub follows : (limit : ℕ) (res : Result (Result BidderAnswer OutOfMemory) HttpFault) (old new : Course) → Answered hears auction limit res old new → Follows limit id (outcome_of (answer_of res)) old new
  follows limit (Ok (Ok a)) old new w = follows_heard limit a old new w.plan (says_heard limit (next_start old.plan).bytes a (some_says limit (next_start old.plan).bytes a w.made))
  follows limit (Ok (Err x)) old new w = inl w.plan
  follows limit (Err HttpFault.ReadFault) old new w = w.plan
  follows limit (Err HttpFault.BadHead) old new w = (w.plan, (w.made, λ e. cc e))
  follows limit (Err HttpFault.HeadTooLong) old new w = (w.plan, (w.made, λ e. cc e))
  follows limit (Err HttpFault.LengthRequired) old new w = (w.plan, (w.made, λ e. cc e))
  follows limit (Err HttpFault.BodyTooLong) old new w = (w.plan, (w.made, λ e. cc e))
  follows limit (Err HttpFault.BadChunk) old new w = (w.plan, (w.made, λ e. cc e))
  follows limit (Err HttpFault.Cut) old new w = (w.plan, (w.made, λ e. cc e))
  follows limit (Err HttpFault.Coding) old new w = (w.plan, (w.made, λ e. cc e))

-- the link failed exactly where its fault was read
lost : (res : Result (Result BidderAnswer OutOfMemory) HttpFault) → res ≡ Err HttpFault.ReadFault → IsLost (outcome_of (answer_of res))
lost res is = subst (λ (r : Result (Result BidderAnswer OutOfMemory) HttpFault). IsLost (outcome_of (answer_of r))) (sym is) tt

pub planned : (res : Result (Result BidderAnswer OutOfMemory) HttpFault) (course : Option Course)
    → IfSome course (λ c. FailsStart c → res ≡ Err HttpFault.ReadFault) → IfSome course (λ c. IsTrue (next_start c.plan).put_fails → res ≡ Err HttpFault.ReadFault)
    → IfSome course (IsPlanned (outcome_of (answer_of res)))
planned res None s p = tt
planned res (Some c) s p = (λ f. lost res (s f), λ f. lost res (p f))

caused_by : (before now : ℕ) (o : Outcome) → o ≢ Ok link_fault → now ≡ before → IsCaused before now o
caused_by before now o other is = record { later = omega (arith, is); failed = λ e. absurd (other e); passed = λ e. is }

caused_heard : (id : List ℕ) (before now : ℕ) (a : BidderAnswer) → HeardOf id (Ok (Ok a)) → now ≡ before → IsCaused before now (Ok (said_by a))
caused_heard id before now (BidderAnswer.Bids a) h is = caused_by before now _ (λ e. cc e) is
caused_heard id before now BidderAnswer.NoBid h is = caused_by before now _ (λ e. cc e) is
caused_heard id before now (BidderAnswer.Refused r) h is = caused_by before now _ (λ e. cc e) is
caused_heard id before now BidderAnswer.LinkFault h is = absurd (not_link id h.1 h.0 h.2)

pub caused : (id : List ℕ) (before now : ℕ) (res : Result (Result BidderAnswer OutOfMemory) HttpFault) → HeardOf id res → ReadsBy before now res → IsCaused before now (outcome_of (answer_of res))
caused id before now (Ok (Ok a)) h r = caused_heard id before now a h r
caused id before now (Ok (Err e)) h r = caused_by before now _ (λ e. cc e) r
caused id before now (Err HttpFault.ReadFault) h r = record { later = r.0; failed = λ e. r.1; passed = λ other. absurd (other refl) }
caused id before now (Err HttpFault.BadHead) h r = caused_by before now _ (λ e. cc e) r
caused id before now (Err HttpFault.HeadTooLong) h r = caused_by before now _ (λ e. cc e) r
caused id before now (Err HttpFault.LengthRequired) h r = caused_by before now _ (λ e. cc e) r
caused id before now (Err HttpFault.BodyTooLong) h r = caused_by before now _ (λ e. cc e) r
caused id before now (Err HttpFault.BadChunk) h r = caused_by before now _ (λ e. cc e) r
caused id before now (Err HttpFault.Cut) h r = caused_by before now _ (λ e. cc e) r
caused id before now (Err HttpFault.Coding) h r = caused_by before now _ (λ e. cc e) r

some_head : (p : Place) (len : ℕ) → 0 < length (request_head p len)
some_head p len = omega arith

-- a lane that wasn't started
untouched_talk : (p : Place) (request : List ℕ) (e : OutOfMemory) (t : Option Exchanges) → WhereTold t t (Asks p request (Err e))
untouched_talk p request e None = refl
untouched_talk p request e (Some x) = inr refl

untouched_course : (limit : ℕ) (id : List ℕ) (e : OutOfMemory) (c : Option Course) → WhereTold c c (Follows limit id (Err e))
untouched_course limit id e None = refl
untouched_course limit id e (Some x) = inr refl

none_more : (xs : List Exchange) (x : Exchange) → xs ≡ xs ++ x ∷ [] → ⊥
none_more xs x is = let long : length xs ≡ length (xs ++ x ∷ []) = ap length is in absurd (omega (arith, long, length-append xs (x ∷ [])))

untouched_front : (t : Option Exchanges) (c : Option Course) → IfSome c (λ c. WhereTold t t (AnswersFront c))
untouched_front t None = tt
untouched_front None (Some c) = refl
untouched_front (Some x) (Some c) = λ e is. absurd (none_more (exchanges_in x) e is)

untouched_plan : (e : OutOfMemory) (c : Option Course) → IfSome c (IsPlanned (Err e))
untouched_plan e None = tt
untouched_plan e (Some x) = (λ f. tt, λ f. tt)

module _ {L : Type 0} (exchanges : L → Option Exchanges) (course : L → Option Course) (faults : L → ℕ) (stands_on : L → List GName) (body id : List ℕ) where
  pub untouched : (p : Place) (l : L) (k : ConnState) (before now : Option (Result BidderAnswer OutOfMemory)) (e : OutOfMemory)
      → IsWorked exchanges course faults stands_on body id (lane_of p l k before) (lane_of p l k now) (Err e)
  untouched p l k before now e = record {
    place = refl;
    limit = refl;
    asks = untouched_talk p (request_bytes p body) e (exchanges l);
    follows = untouched_course k.limit id e (course l);
    front = untouched_front (exchanges l) (course l);
    planned = untouched_plan e (course l);
    cause = caused_by (faults l) (faults l) (Err e) (λ x. cc x) refl;
    same = refl;
    own = tt;
  }

  pub worked_kept : (l n : Lane L) (o : Outcome) → IsWorked exchanges course faults stands_on body id l n o → IsWorked exchanges course faults stands_on body id l (emptied n) o
  worked_kept l n o w = record { place = w.place; limit = w.limit; asks = w.asks; follows = w.follows; front = w.front; planned = w.planned; cause = w.cause; same = w.same; own = w.own }

  module _ {A : Type 0} (hears : A → ℕ → List ℕ → Result BidderAnswer OutOfMemory → Type 0) (auction : A)
      (as_heard : (status : ℕ) (text : List ℕ) (h : Result BidderAnswer OutOfMemory) → hears auction status text h → HearsAs id status text h) where
    heard_of : (res : Result (Result BidderAnswer OutOfMemory) HttpFault) → IfOk res (λ h. HeardSome hears auction h) → HeardOf id res
    heard_of (Ok h) s = (s.0, s.1, as_heard s.0 s.1 h s.2)
    heard_of (Err f) s = tt

    put_so : (p : Place) (request : List ℕ) (res : Result (Result BidderAnswer OutOfMemory) HttpFault) (c : Option Course) → request ≡ request_bytes p body
        → IfSome c (λ c. 0 < length request → IsTrue (next_start c.plan).put_fails → res ≡ Err HttpFault.ReadFault)
        → IfSome c (λ c. IsTrue (next_start c.plan).put_fails → res ≡ Err HttpFault.ReadFault)
    put_so p request res None is h = tt
    put_so p request res (Some c) is h =
        h (omega (arith, ap length is, length-append (request_head p (length body)) body, some_head p (length body)))

    pub worked_by : (p : Place) (l m : L) (k n : ConnState) (before now : Option (Result BidderAnswer OutOfMemory)) (res : Result (Result BidderAnswer OutOfMemory) HttpFault)
        (host request : List ℕ) → host ≡ p.host → request ≡ request_bytes p body
        → WhereTold (exchanges l) (exchanges m) (Exchanged host p.port request res)
        → WhereTold (course l) (course m) (Answered hears auction k.limit res)
        → IfSome (course l) (λ c. WhereTold (exchanges l) (exchanges m) (AnswersFront c))
        → IfOk res (λ h. HeardSome hears auction h)
        → IfSome (course l) (λ c. FailsStart c → res ≡ Err HttpFault.ReadFault)
        → IfSome (course l) (λ c. 0 < length request → IsTrue (next_start c.plan).put_fails → res ≡ Err HttpFault.ReadFault)
        → ReadsBy (faults l) (faults m) res → stands_on m ≡ stands_on l → n.limit ≡ k.limit
        → IsWorked exchanges course faults stands_on body id (lane_of p l k before) (lane_of p m n now) (outcome_of (answer_of res))
    worked_by p l m k n before now res host request host_is request_is talk answer front heard starts puts cause same limit =
        let h : HeardOf id res = heard_of res heard in
        let talk_so : WhereTold (exchanges l) (exchanges m) (Exchanged p.host p.port (request_bytes p body) res) =
        subst (λ (t : List ℕ). WhereTold (exchanges l) (exchanges m) (Exchanged t p.port (request_bytes p body) res)) host_is
        (subst (λ (t : List ℕ). WhereTold (exchanges l) (exchanges m) (Exchanged host p.port t res)) request_is talk) in
        record {
          place = refl;
          limit = limit;
          asks = told_as (exchanges l) (exchanges m) (Exchanged p.host p.port (request_bytes p body) res) (Asks p (request_bytes p body) (outcome_of (answer_of res)))
              (λ x y e. asks id p (request_bytes p body) res x y h e) talk_so;
          follows = told_as (course l) (course m) (Answered hears auction k.limit res) (Follows k.limit id (outcome_of (answer_of res)))
              (λ x y w. follows id hears auction as_heard k.limit res x y w) answer;
          front = front;
          planned = planned res (course l) starts (put_so p request res (course l) request_is puts);
          cause = caused id (faults l) (faults m) res h cause;
          same = same;
          own = own id res h;
        }
