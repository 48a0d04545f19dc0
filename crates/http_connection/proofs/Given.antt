-- What was found, as the answer of a call.
use Rattle.std.proofs.Common.{◌≡◌, ℕ, List, [], ◌++◌, true, false, subst, Option, Err, refl, sym}
use Rattle.adx_io.specs.Streams.{Tape, WhereTold}
use Rattle.http_connection.specs.BufferState.{BufferState, Passes}
use Rattle.http_grammar.specs.declared.fault.HttpFault.{HttpFault}
use Rattle.http_connection.specs.Steps.{coming, Advances}
use Rattle.http_connection.specs.Messages.{RefusesRequest, IsUnfinishedRequest, RefusesResponse, IsUnfinishedResponse}
use Rattle.http_connection.specs.State.{ConnState}
use Rattle.http_connection.specs.Answers.{GivesMessage, GivesResponse, AnswersMessage, AnswersResponse}
use Rattle.http_connection.specs.Found.{FaultGives}
use Rattle.http_connection.proofs.Told.{told_map}

-- of all bytes that come a source that fails says nothing
nothing : (old new : Option Tape) (P : Tape → Tape → Type 0) → Advances old new → ((o n : Tape) → P o n) → WhereTold old new P
nothing old new P a f = told_map old new (λ o n. (piece : List ℕ) × Passes piece o n) P (λ o n p. f o n) a

pub refusal_given : (limit : ℕ) (start now : BufferState) (old new : Option Tape) (fault : HttpFault) → Advances old new → FaultGives RefusesRequest IsUnfinishedRequest limit start old new fault
    → WhereTold old new (λ o n. GivesMessage limit (coming start o) (Err fault) (coming now n))
refusal_given limit start now old new HttpFault.ReadFault a w = nothing old new (λ o n. GivesMessage limit (coming start o) (Err HttpFault.ReadFault) (coming now n)) a (λ o n. tt)
refusal_given limit start now old new HttpFault.BadHead a w = w
refusal_given limit start now old new HttpFault.HeadTooLong a w = w
refusal_given limit start now old new HttpFault.LengthRequired a w = w
refusal_given limit start now old new HttpFault.BodyTooLong a w = w
refusal_given limit start now old new HttpFault.BadChunk a w = w
refusal_given limit start now old new HttpFault.Cut a w = w
refusal_given limit start now old new HttpFault.Coding a w = w

pub response_refusal_given : (limit : ℕ) (start now : BufferState) (old new : Option Tape) (fault : HttpFault) → Advances old new → FaultGives RefusesResponse IsUnfinishedResponse limit start old new fault
    → WhereTold old new (λ o n. GivesResponse limit (coming start o) (Err fault) (coming now n))
response_refusal_given limit start now old new HttpFault.ReadFault a w = nothing old new (λ o n. GivesResponse limit (coming start o) (Err HttpFault.ReadFault) (coming now n)) a (λ o n. tt)
response_refusal_given limit start now old new HttpFault.BadHead a w = w
response_refusal_given limit start now old new HttpFault.HeadTooLong a w = w
response_refusal_given limit start now old new HttpFault.LengthRequired a w = w
response_refusal_given limit start now old new HttpFault.BodyTooLong a w = w
response_refusal_given limit start now old new HttpFault.BadChunk a w = w
response_refusal_given limit start now old new HttpFault.Cut a w = w
response_refusal_given limit start now old new HttpFault.Coding a w = w

-- what the source gave before it failed
unread_given : (refuses : ℕ → List ℕ → HttpFault → Type 0) (unfinished : ℕ → List ℕ → Type 0) (limit : ℕ) (start : BufferState) (old new : Option Tape) (fault : HttpFault) → FaultGives refuses unfinished limit start old new fault
    → fault ≡ HttpFault.ReadFault → WhereTold old new (λ o n. (given : List ℕ) × (o.left ≡ given ++ n.left) × unfinished limit (start.pending ++ given))
unread_given refuses unfinished limit start old new fault w is =
    told_map old new (λ o n. (piece : List ℕ) × Passes piece o n × unfinished limit (start.pending ++ piece)) (λ o n. (given : List ℕ) × (o.left ≡ given ++ n.left) × unfinished limit (start.pending ++ given))
    (λ o n g. (g.0, Passes.left g.1, g.2)) (subst (FaultGives refuses unfinished limit start old new) is w)

-- a call that refuses a message answers for the bytes held and those that the source has left
pub message_refused : (before : ConnState) (buffer start end : BufferState) (limit : ℕ) (old new : Option Tape) (fault : HttpFault) → before ≡ record { held = buffer.pending; failed = false; limit = limit } → start ≡ record buffer { kept = [] }
    → Advances old new → FaultGives RefusesRequest IsUnfinishedRequest limit start old new fault → AnswersMessage before (record { held = end.pending; failed = true; limit = limit }) old new (Err fault)
message_refused before buffer start end limit old new fault is release a w =
    subst (λ (b : ConnState). AnswersMessage b (record { held = end.pending; failed = true; limit = limit }) old new (Err fault)) (sym is) (record {
      limit = refl;
      failed = λ e. absurd (cc (e));
      sound = λ e. refl;
      unread = λ e. unread_given RefusesRequest IsUnfinishedRequest limit (record buffer { kept = [] }) old new fault (subst (λ (s : BufferState). FaultGives RefusesRequest IsUnfinishedRequest limit s old new fault) release w) cc;
      told = λ e. refusal_given limit (record buffer { kept = [] }) end old new fault a (subst (λ (s : BufferState). FaultGives RefusesRequest IsUnfinishedRequest limit s old new fault) release w);
      fits = λ m e. absurd (cc (e));
      advances = a;
    })

pub response_refused : (before : ConnState) (buffer start end : BufferState) (limit : ℕ) (old new : Option Tape) (fault : HttpFault) → before ≡ record { held = buffer.pending; failed = false; limit = limit } → start ≡ record buffer { kept = [] }
    → Advances old new → FaultGives RefusesResponse IsUnfinishedResponse limit start old new fault → AnswersResponse before (record { held = end.pending; failed = true; limit = limit }) old new (Err fault)
response_refused before buffer start end limit old new fault is release a w =
    subst (λ (b : ConnState). AnswersResponse b (record { held = end.pending; failed = true; limit = limit }) old new (Err fault)) (sym is) (record {
      limit = refl;
      failed = λ e. absurd (cc (e));
      sound = λ e. refl;
      unread = λ e. unread_given RefusesResponse IsUnfinishedResponse limit (record buffer { kept = [] }) old new fault (subst (λ (s : BufferState). FaultGives RefusesResponse IsUnfinishedResponse limit s old new fault) release w) cc;
      told = λ e. response_refusal_given limit (record buffer { kept = [] }) end old new fault a (subst (λ (s : BufferState). FaultGives RefusesResponse IsUnfinishedResponse limit s old new fault) release w);
      advances = a;
    })
