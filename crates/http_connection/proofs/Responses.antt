-- A response from its head and its body.
use Rattle.std.proofs.Common.{◌≡◌, ℕ, ◌≤◌, List, [], ◌∷◌, ◌++◌, length, take, drop, Option, Some, None, Result, Ok, Err, refl, sym, ap, subst, ◌∙◌, arith, inl, inr}
use Rattle.adx_io.specs.Streams.{Tape, WhereTold}
use Rattle.httparse.specs.Grammar.{ResponseHead, ReadsResponse, status_code}
use Rattle.http_connection.specs.BufferState.{BufferState, Passes, Takes, IsAtEnd}
use Rattle.http_connection.specs.HeadEnds.{HeadEndsAt, HasNoHeadYet}
use Rattle.http_grammar.specs.Requests as grammar
use Rattle.http_grammar.specs.Judged.{IsSoundResponse, FailsResponse}
use Rattle.http_grammar.specs.Requests.{response_pairs}
use Rattle.http_grammar.specs.declared.fault.HttpFault.{HttpFault}
use Rattle.http_grammar.specs.declared.framing.Framing.{Framing}
use Rattle.http_grammar.specs.declared.parts.ResponseParts.{ResponseParts}
use Rattle.http_connection.specs.declared.chunks.TheConstants.{LINE_COUNT_LIMIT}
use Rattle.http_connection.specs.BodyForms.{body_of_response, IsBodyThen, FailsBody}
use Rattle.http_connection.specs.Steps.{HasGiven, IsOpenBody, coming, BodyGives, FitsBody}
use Rattle.http_connection.specs.Messages.{ResponseRead, IsResponseThen, RefusesResponse, IsUnfinishedResponse, FailsWithoutHead}
use Rattle.http_connection.specs.Found.{HasHead, HeadGives, StatusShows, FaultGives, ResponseGives}
use Rattle.http_connection.proofs.Told.{told_map, told_then, told_same, flow, given}
use Rattle.http_connection.proofs.BodyParts.{keeping}
use Rattle.http_connection.proofs.Counts.{response_fields}
use Rattle.http_connection.proofs.Heads.{begins, few_lines, kept_parts, refused, fault_carried, never_head, cut_head, HasManyLines, many_lines}

-- a length within the limit is one that a body may have
pub response_fits : (limit status : ℕ) (fields : List (List ℕ × List ℕ)) (framing : Option Framing) → IsSoundResponse limit status fields framing → FitsBody limit (body_of_response framing)
response_fits limit status fields None s = tt
response_fits limit status fields (Some Framing.Unframed) s = tt
response_fits limit status fields (Some Framing.Chunked) s = tt
response_fits limit status fields (Some (Framing.Sized n)) s = s.3

pub response_found : (limit end : ℕ) (start kept now : BufferState) (old new : Option Tape) (parts : ResponseParts) → start.kept ≡ [] → (h : HasHead start.pending end)
    → (says : grammar.SaysResponse limit (take end start.pending) parts) → kept ≡ keeping start end → (body : BodyGives limit (body_of_response parts.framing) kept now old new (Ok tt))
    → (end ≤ length now.kept) × WhereTold old new (λ o n. (r : ResponseRead) × IsResponseThen limit (coming start o) r (coming now n) × StatusShows parts.status end now.kept r)
response_found limit end start kept now old new parts none h says is body =
    let p = start.pending in
    let shape = kept_parts start now end body.0 none (HeadEndsAt.within (HasHead.ends h)) (body.1 ∙ ap (λ (b : BufferState). b.kept ++ body.0) is) in (
      shape.2,
      told_map old new (λ o n. IsBodyThen limit (body_of_response parts.framing) (coming kept o) body.0 (coming now n))
          (λ o n. (r : ResponseRead) × IsResponseThen limit (coming start o) r (coming now n) × StatusShows parts.status end now.kept r)
          (λ o n b. (
            record { head = says.h; body = body.0 },
            record {
              head = take end p;
              behind = drop end p ++ o.left;
              framing = parts.framing;
              begins = begins p o.left end h;
              few = few_lines p o.left end h;
              reads = says.reads;
              sound = says.sound;
              body = subst (λ (s : BufferState). IsBodyThen limit (body_of_response parts.framing) (coming s o) body.0 (coming now n)) is b;
            },
            record { status_is = says.status; body = shape.1 },
          ))
          body.2,
    )

-- a head that is refused
pub head_refused : (limit end : ℕ) (start : BufferState) (old : Option Tape) (fault : HttpFault) → HasHead start.pending end
    → grammar.RefusesResponse LINE_COUNT_LIMIT limit (take end start.pending) fault → FaultGives RefusesResponse IsUnfinishedResponse limit start old old fault
head_refused limit end start old fault h (inl none) =
    let p = start.pending in
    refused RefusesResponse IsUnfinishedResponse limit start old old fault
    (told_same old (λ o n. RefusesResponse limit (coming start o) fault)
    (λ o. let b = begins p o.left end h in let few = few_lines p o.left end h in
    inr (inl (take end p, drop end p ++ o.left, b, inr (inl (few, none.0, λ k reads. none.1 k reads (let l = response_fields b k reads in omega (arith, l, few))))))))
    (λ is. let e : HttpFault.BadHead ≡ HttpFault.ReadFault = sym none.0 ∙ is in absurd (cc))
head_refused limit end start old fault h (inr fails) =
    let p = start.pending in
    refused RefusesResponse IsUnfinishedResponse limit start old old fault
    (told_same old (λ o n. RefusesResponse limit (coming start o) fault)
    (λ o. inr (inl (take end p, drop end p ++ o.left, begins p o.left end h, inr (inr (inl (few_lines p o.left end h, fails.0, fails.1, fails.2)))))))
    (λ is. subst (FailsResponse limit (status_code fails.0) (grammar.response_pairs fails.0)) is fails.2)

-- where no head has ended yet there is the front of a response
unfinished_head : (limit : ℕ) (bytes : List ℕ) → HasNoHeadYet bytes → IsUnfinishedResponse limit bytes
unfinished_head limit [] none = inl (inr (inr (refl, refl)))
unfinished_head limit (b ∷ bytes) none = inl (inl (HasNoHeadYet.none none, omega arith, HasNoHeadYet.short none))

-- no head was found
pub no_head : (limit : ℕ) (start mid : BufferState) (old new : Option Tape) (fault : HttpFault) → Takes start mid old new → HeadGives mid.pending (Err fault) → (fault ≡ HttpFault.Cut → IsAtEnd new)
    → FaultGives RefusesResponse IsUnfinishedResponse limit start old new fault
no_head limit start mid old new HttpFault.HeadTooLong t (inl never) end =
    told_map old new (λ o n. FailsWithoutHead (coming start o) HttpFault.HeadTooLong) (λ o n. RefusesResponse limit (coming start o) HttpFault.HeadTooLong) (λ o n f. inl f)
    (never_head start mid old new t never)
no_head limit start mid old new HttpFault.HeadTooLong t (inr many) end =
    told_map old new (λ o n. HasManyLines (coming start o)) (λ o n. RefusesResponse limit (coming start o) HttpFault.HeadTooLong) (λ o n m. inr (inl (m.0, m.1, m.2, inl (m.3, refl))))
    (many_lines start mid old new many.0 many.1 t many.2 many.3)
no_head limit start mid old new HttpFault.Cut t g end =
    told_map old new (λ o n. FailsWithoutHead (coming start o) HttpFault.Cut) (λ o n. RefusesResponse limit (coming start o) HttpFault.Cut) (λ o n f. inl f)
    (cut_head start mid old new t g.0 g.1 (end refl))
no_head limit start mid old new HttpFault.ReadFault t g end = given start mid old new (IsUnfinishedResponse limit) t (unfinished_head limit mid.pending g)
no_head limit start mid old new HttpFault.BadHead t g end = absurd g
no_head limit start mid old new HttpFault.LengthRequired t g end = absurd g
no_head limit start mid old new HttpFault.BodyTooLong t g end = absurd g
no_head limit start mid old new HttpFault.BadChunk t g end = absurd g
no_head limit start mid old new HttpFault.Coding t g end = absurd g

-- a body that is refused
body_fault : (limit end : ℕ) (start kept : BufferState) (old new : Option Tape) (fault : HttpFault) (parts : ResponseParts) → (h : HasHead start.pending end) → (says : grammar.SaysResponse limit (take end start.pending) parts)
    → kept ≡ keeping start end → WhereTold old new (λ o n. FailsBody limit (body_of_response parts.framing) (coming kept o) fault)
    → WhereTold old new (λ o n. RefusesResponse limit (coming start o) fault)
body_fault limit end start kept old new fault parts h says is w =
    let p = start.pending in
    told_map old new (λ o n. FailsBody limit (body_of_response parts.framing) (coming kept o) fault) (λ o n. RefusesResponse limit (coming start o) fault)
    (λ o n f. inr (inl (
      take end p,
      drop end p ++ o.left,
      begins p o.left end h,
      inr (inr (inr (few_lines p o.left end h, says.h, says.reads, parts.framing, says.sound, subst (λ (s : BufferState). FailsBody limit (body_of_response parts.framing) (coming s o) fault) is f))),
    )))
    w

-- the front of a response ends within its body, or its body goes to the end of the bytes
open_response : (limit end : ℕ) (p piece : List ℕ) (framing : Option Framing) → (h : HasHead p end) → (m : ResponseHead) → ReadsResponse (take end p) m [] → IsSoundResponse limit (status_code m) (response_pairs m) framing
    → IsOpenBody limit (body_of_response framing) (drop end p ++ piece) → IsUnfinishedResponse limit (p ++ piece)
open_response limit end p piece None h m reads sound b = inl (inr (inl (take end p, drop end p ++ piece, begins p piece end h, inr (inr (inr (few_lines p piece end h, m, reads, None, sound, b))))))
open_response limit end p piece (Some Framing.Unframed) h m reads sound b =
    inr (
      record { head = m; body = drop end p ++ piece },
      record {
        head = take end p;
        behind = drop end p ++ piece;
        framing = Some Framing.Unframed;
        begins = begins p piece end h;
        few = few_lines p piece end h;
        reads = reads;
        sound = sound;
        body = (refl, refl, b);
      },
      refl,
    )
open_response limit end p piece (Some Framing.Chunked) h m reads sound b =
    inl (inr (inl (take end p, drop end p ++ piece, begins p piece end h, inr (inr (inr (few_lines p piece end h, m, reads, Some Framing.Chunked, sound, b))))))
open_response limit end p piece (Some (Framing.Sized n)) h m reads sound b =
    inl (inr (inl (take end p, drop end p ++ piece, begins p piece end h, inr (inr (inr (few_lines p piece end h, m, reads, Some (Framing.Sized n), sound, b))))))

-- the source failed within a body
body_unread : (limit end : ℕ) (start kept : BufferState) (old new : Option Tape) (parts : ResponseParts) → (h : HasHead start.pending end) → (says : grammar.SaysResponse limit (take end start.pending) parts)
    → kept ≡ keeping start end → HasGiven kept old new (IsOpenBody limit (body_of_response parts.framing)) → HasGiven start old new (IsUnfinishedResponse limit)
body_unread limit end start kept old new parts h says is w =
    told_map old new (λ o n. (piece : List ℕ) × Passes piece o n × IsOpenBody limit (body_of_response parts.framing) (kept.pending ++ piece)) (λ o n. (piece : List ℕ) × Passes piece o n × IsUnfinishedResponse limit (start.pending ++ piece))
    (λ o n g. (
      g.0,
      g.1,
      open_response limit end start.pending g.0 parts.framing h says.h says.reads says.sound (subst (λ (s : BufferState). IsOpenBody limit (body_of_response parts.framing) (s.pending ++ g.0)) is g.2),
    ))
    w

pub body_refused : (limit end : ℕ) (start kept now : BufferState) (old new : Option Tape) (fault : HttpFault) (parts : ResponseParts) → (h : HasHead start.pending end) → (says : grammar.SaysResponse limit (take end start.pending) parts)
    → kept ≡ keeping start end → BodyGives limit (body_of_response parts.framing) kept now old new (Err fault) → FaultGives RefusesResponse IsUnfinishedResponse limit start old new fault
body_refused limit end start kept now old new HttpFault.Cut parts h says is w = body_fault limit end start kept old new HttpFault.Cut parts h says is w
body_refused limit end start kept now old new HttpFault.BadChunk parts h says is w = body_fault limit end start kept old new HttpFault.BadChunk parts h says is w
body_refused limit end start kept now old new HttpFault.BodyTooLong parts h says is w = body_fault limit end start kept old new HttpFault.BodyTooLong parts h says is w
body_refused limit end start kept now old new HttpFault.ReadFault parts h says is w = body_unread limit end start kept old new parts h says is w
body_refused limit end start kept now old new HttpFault.BadHead parts h says is w = absurd w
body_refused limit end start kept now old new HttpFault.HeadTooLong parts h says is w = absurd w
body_refused limit end start kept now old new HttpFault.LengthRequired parts h says is w = absurd w
body_refused limit end start kept now old new HttpFault.Coding parts h says is w = absurd w

-- what was found of all bytes that come is found where some of them were still to be taken
pub response_carried : (limit : ℕ) (start mid now : BufferState) (old m new : Option Tape) (result : Result (ℕ × ℕ) HttpFault) → Takes start mid old m
    → ResponseGives limit mid now m new result → ResponseGives limit start now old new result
response_carried limit start mid now old m new (Ok f) t g = (
  g.0,
  told_then old m new (λ o k. coming start o ≡ coming mid k) (λ k n. (r : ResponseRead) × IsResponseThen limit (coming mid k) r (coming now n) × StatusShows f.0 f.1 now.kept r)
      (λ o n. (r : ResponseRead) × IsResponseThen limit (coming start o) r (coming now n) × StatusShows f.0 f.1 now.kept r)
      (λ o k n e r. (r.0, subst (λ (bytes : List ℕ). IsResponseThen limit bytes r.0 (coming now n)) (sym e) r.1, r.2)) (flow start mid old m t) g.1,
)
response_carried limit start mid now old m new (Err fault) t g = fault_carried RefusesResponse IsUnfinishedResponse limit start mid old m new fault t g
