-- Tries one after the other, and what they leave pending.
use Rattle.std.proofs.Common.{◌≡◌, ◌≢◌, ℕ, ◌<◌, List, [], ◌∷◌, ◌++◌, length, Bool, true, false, cond, refl, sym, ap, ◌∙◌, subst, arith, Option, Some, None, Result, Ok, Err, IsTrue, append-nil, inl, inr, suc, ◌+◌}
use Rattle.std.specs.Option.{IfSome}
use Rattle.std.specs.List.{count_by}
use Rattle.std.specs.Prelude.{min, ◌-◌, ◌^◌}
use Rattle.adx_io.specs.Streams.{WhereTold}
use Rattle.http_connection.specs.Steps.{ReadsBy}
use Rattle.http_grammar.specs.declared.fault.HttpFault.{HttpFault}
use Rattle.httparse.specs.Grammar.{status_code}
use Rattle.adx_http.specs.Exchanging.{Answered, AnswersFront, Exchanged, MadeOf}
use Rattle.outbox.specs.declared.calling.Call.{Call}
use Rattle.outbox.specs.declared.report.Outcome.TheVariants.{Delivered, Failed, Answered as Other, Undeliverable}
use Rattle.std.specs.Borrow.{GName}
use Rattle.adx_links.specs.Links.{Course, Exchanges, FailsStart, next_start}
use Rattle.outbox.specs.declared.post.Post.{Post}
use Rattle.outbox.specs.declared.report.Outcome.{Outcome}
use Rattle.outbox.specs.Calls.{call_of}
use Rattle.outbox.specs.Following.{OutboxState}
use Rattle.adx_units.specs.declared.memory.OutOfMemory.{OutOfMemory}
use Rattle.outbox.specs.Pumping.{AreTried, Asks, ComesTo, Follows, IsCaused, IsPlanned, IsTried, Pumps, TriesCall, counted, given_up_with, is_success, is_undeliverable, left_of, outcome_by, stays, stays_at}

module _ {L : Type 0} (exchanges : L → Option Exchanges) (course : L → Option Course) (faults : L → ℕ) (stands_on : L → List GName) (limit : ℕ) where
  pub tried_more : (ps : List Post) (os : List Outcome) (p : Post) (o : Outcome) (old mid new : L)
      → AreTried exchanges course faults stands_on limit ps os old mid
      → TriesCall exchanges course faults stands_on limit (call_of p.url) mid new o
      → AreTried exchanges course faults stands_on limit (ps ++ p ∷ []) (os ++ o ∷ []) old new
  tried_more [] [] p o old mid new before now = (new, subst (λ (m : L). TriesCall exchanges course faults stands_on limit (call_of p.url) m new o) before now, refl)
  tried_more [] (x ∷ os) p o old mid new before now = absurd before
  tried_more (q ∷ ps) [] p o old mid new before now = absurd before
  tried_more (q ∷ ps) (x ∷ os) p o old mid new before now = (before.0, before.1, tried_more ps os p o before.0 mid new before.2 now)

-- ---- what an exchange comes to

where_told : {X : Type 0} (R S : X → X → Type 0) (old new : Option X) → ((a b : X) → R a b → S a b) → WhereTold old new R → WhereTold old new S
where_told R S None new h told = told
where_told R S (Some a) None h told = told
where_told R S (Some a) (Some b) h told = h a b told

asks_by : (c : Call) (result : Result Bool HttpFault) (old new : Exchanges) → Exchanged c.host c.port c.request result old new → Asks c (outcome_by result) old new
asks_by c (Ok true) old new h = h
asks_by c (Ok false) old new h = h
asks_by c (Err HttpFault.ReadFault) old new (inl h) = inl (h.0, (h.1, h.2))
asks_by c (Err HttpFault.ReadFault) old new (inr h) = inr h
asks_by c (Err HttpFault.BadHead) old new h = h
asks_by c (Err HttpFault.HeadTooLong) old new h = h
asks_by c (Err HttpFault.LengthRequired) old new h = h
asks_by c (Err HttpFault.BodyTooLong) old new h = h
asks_by c (Err HttpFault.BadChunk) old new h = h
asks_by c (Err HttpFault.Cut) old new h = h
asks_by c (Err HttpFault.Coding) old new h = h

-- a hearer of successes
abbrev pub HearsSuccess : {H : Type 0} → (H → ℕ → List ℕ → Bool → Type 0) → Type 0
HearsSuccess {H} hears = (h : H) (status : ℕ) (body : List ℕ) (heard : Bool) → hears h status body heard → heard ≡ is_success status

comes_by : {H : Type 0} (hears : H → ℕ → List ℕ → Bool → Type 0) (hearer : H) (limit : ℕ) (bytes : List ℕ) (result : Result Bool HttpFault) → HearsSuccess hears → MadeOf hears hearer limit bytes result → ComesTo limit bytes (outcome_by result)
comes_by hears hearer limit bytes (Ok true) s m = (m.0, m.1, m.2, s hearer (status_code m.0.head) m.0.body true m.3)
comes_by hears hearer limit bytes (Ok false) s m = inl (m.0, m.1, m.2, s hearer (status_code m.0.head) m.0.body false m.3)
comes_by hears hearer limit bytes (Err HttpFault.ReadFault) s m = tt
comes_by hears hearer limit bytes (Err HttpFault.BadHead) s m = inr (HttpFault.BadHead, m)
comes_by hears hearer limit bytes (Err HttpFault.HeadTooLong) s m = inr (HttpFault.HeadTooLong, m)
comes_by hears hearer limit bytes (Err HttpFault.LengthRequired) s m = inr (HttpFault.LengthRequired, m)
comes_by hears hearer limit bytes (Err HttpFault.BodyTooLong) s m = inr (HttpFault.BodyTooLong, m)
comes_by hears hearer limit bytes (Err HttpFault.BadChunk) s m = inr (HttpFault.BadChunk, m)
comes_by hears hearer limit bytes (Err HttpFault.Cut) s m = inr (HttpFault.Cut, m)
comes_by hears hearer limit bytes (Err HttpFault.Coding) s m = inr (HttpFault.Coding, m)

passed_over : (before now : ℕ) (o : Outcome) → o ≢ Failed → now ≡ before → IsCaused before now o
passed_over before now o other same = record { later = omega (arith, same); failed = λ is. absurd (other is); passed = λ n. same }

caused_by : (before now : ℕ) (result : Result Bool HttpFault) → ReadsBy before now result → IsCaused before now (outcome_by result)
caused_by before now (Ok true) h = passed_over before now Delivered (λ e. cc) h
caused_by before now (Ok false) h = passed_over before now Other (λ e. cc) h
caused_by before now (Err HttpFault.ReadFault) h = record { later = h.0; failed = λ e. h.1; passed = λ n. absurd (n refl) }
caused_by before now (Err HttpFault.BadHead) h = passed_over before now Other (λ e. cc) h
caused_by before now (Err HttpFault.HeadTooLong) h = passed_over before now Other (λ e. cc) h
caused_by before now (Err HttpFault.LengthRequired) h = passed_over before now Other (λ e. cc) h
caused_by before now (Err HttpFault.BodyTooLong) h = passed_over before now Other (λ e. cc) h
caused_by before now (Err HttpFault.BadChunk) h = passed_over before now Other (λ e. cc) h
caused_by before now (Err HttpFault.Cut) h = passed_over before now Other (λ e. cc) h
caused_by before now (Err HttpFault.Coding) h = passed_over before now Other (λ e. cc) h

was_sent : (result : Result Bool HttpFault) → outcome_by result ≢ Undeliverable
was_sent (Ok true) = λ e. cc
was_sent (Ok false) = λ e. cc
was_sent (Err HttpFault.ReadFault) = λ e. cc
was_sent (Err HttpFault.BadHead) = λ e. cc
was_sent (Err HttpFault.HeadTooLong) = λ e. cc
was_sent (Err HttpFault.LengthRequired) = λ e. cc
was_sent (Err HttpFault.BodyTooLong) = λ e. cc
was_sent (Err HttpFault.BadChunk) = λ e. cc
was_sent (Err HttpFault.Cut) = λ e. cc
was_sent (Err HttpFault.Coding) = λ e. cc

planned_by : (call : Call) (result : Result Bool HttpFault) (course : Option Course)
    → IfSome course (λ c. FailsStart c → result ≡ Err HttpFault.ReadFault)
    → IfSome course (λ c. 0 < length call.request → IsTrue (next_start c.plan).put_fails → result ≡ Err HttpFault.ReadFault)
    → IfSome course (IsPlanned call (outcome_by result))
planned_by call result None s p = tt
planned_by call result (Some c) s p = record { start = λ f. ap outcome_by (s f); put = λ n f. ap outcome_by (p n f) }

module _ {L : Type 0} (exchanges : L → Option Exchanges) (course : L → Option Course) (faults : L → ℕ) (stands_on : L → List GName) (limit : ℕ) where
  pub tried_by : {H : Type 0} (hears : H → ℕ → List ℕ → Bool → Type 0) (hearer : H) (call : Call) (host request : List ℕ) (result : Result Bool HttpFault) (old new : L)
      → host ≡ call.host → request ≡ call.request → HearsSuccess hears
      → WhereTold (exchanges old) (exchanges new) (Exchanged host call.port request result)
      → WhereTold (course old) (course new) (Answered hears hearer limit result)
      → IfSome (course old) (λ c. WhereTold (exchanges old) (exchanges new) (AnswersFront c))
      → IfSome (course old) (λ c. FailsStart c → result ≡ Err HttpFault.ReadFault)
      → IfSome (course old) (λ c. 0 < length request → IsTrue (next_start c.plan).put_fails → result ≡ Err HttpFault.ReadFault)
      → ReadsBy (faults old) (faults new) result
      → stands_on new ≡ stands_on old
      → IsTried exchanges course faults stands_on limit call old new (outcome_by result)
  tried_by hears hearer call host request result old new called same success talk answer front start put cause place =
      record {
        asks = where_told (Exchanged call.host call.port call.request result) (Asks call (outcome_by result)) (exchanges old) (exchanges new) (asks_by call result)
            (subst (λ (bytes : List ℕ). WhereTold (exchanges old) (exchanges new) (Exchanged call.host call.port bytes result)) same
            (subst (λ (bytes : List ℕ). WhereTold (exchanges old) (exchanges new) (Exchanged bytes call.port request result)) called talk));
        follows = where_told (Answered hears hearer limit result) (Follows limit (outcome_by result)) (course old) (course new)
            (λ a b h. record { plan = h.plan; comes = comes_by hears hearer limit (next_start a.plan).bytes result success h.made }) answer;
        front = front;
        planned = planned_by call result (course old) start (subst (λ (bytes : List ℕ). IfSome (course old) (λ c. 0 < length bytes → IsTrue (next_start c.plan).put_fails → result ≡ Err HttpFault.ReadFault)) same put);
        cause = caused_by (faults old) (faults new) result cause;
        same = place;
        sent = was_sent result;
      }

-- the count of posts that were given up, by a count that stands still at its last value
pub given_up_more : (before : ℕ) (os : List Outcome) → before < 2 ^ 32 → min (before + counted is_undeliverable os) (2 ^ 32 - 1) ≡ given_up_with before os
given_up_more before os few = capped before (count_by is_undeliverable os) (2 ^ 32) few
  where
    capped : (a b many : ℕ) → a < many → min (a + min b (many - 1)) (many - 1) ≡ a + min b ((many - 1) - a)
    capped a b many few = omega (arith, few)
