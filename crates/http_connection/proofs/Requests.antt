-- A request from its head and its body.
use Rattle.std.proofs.Common.{◌≡◌, ℕ, ◌≤◌, List, [], ◌∷◌, ◌++◌, length, take, drop, Option, Some, None, Result, Ok, Err, refl, sym, ap, subst, ◌∙◌, arith, inl, inr}
use Rattle.adx_io.specs.Streams.{Tape, WhereTold}
use Rattle.httparse.specs.Spans.{span_bytes}
use Rattle.httparse.specs.Grammar.{RequestHead}
use Rattle.http_connection.specs.BufferState.{BufferState, Passes, Takes, IsAtEnd}
use Rattle.http_connection.specs.HeadEnds.{HeadEndsAt, HasNoHeadYet}
use Rattle.http_grammar.specs.Requests as grammar
use Rattle.http_grammar.specs.Judged.{FailsRequest, FitsLimit}
use Rattle.http_grammar.specs.declared.fault.HttpFault.{HttpFault}
use Rattle.http_grammar.specs.declared.framing.Framing.{Framing}
use Rattle.http_grammar.specs.declared.parts.RequestParts.{RequestParts}
use Rattle.http_connection.specs.declared.chunks.TheConstants.{LINE_COUNT_LIMIT}
use Rattle.http_connection.specs.BodyForms.{body_of_request, IsBodyThen, FailsBody}
use Rattle.http_connection.specs.Steps.{HasGiven, IsOpenBody, coming, BodyGives, FitsBody}
use Rattle.http_connection.specs.Messages.{Request, IsRequestThen, RefusesRequest, IsUnfinishedRequest, FailsWithoutHead}
use Rattle.http_connection.specs.Found.{HasHead, HasRequestHead, HeadGives, FoundShows, FaultGives, RequestGives}
use Rattle.http_connection.specs.declared.conn.Found.{Found}
use Rattle.http_connection.proofs.Told.{told_map, told_then, told_same, flow, given}
use Rattle.http_connection.proofs.BodyParts.{keeping}
use Rattle.http_connection.proofs.Counts.{request_fields}
use Rattle.http_connection.proofs.Heads.{begins, few_lines, kept_parts, refused, fault_carried, never_head, cut_head, HasManyLines, many_lines}

-- a length within the limit is one that a body may have
pub request_fits : (limit : ℕ) (framing : Framing) → FitsLimit limit framing → FitsBody limit (body_of_request framing)
request_fits limit Framing.Unframed f = tt
request_fits limit Framing.Chunked f = tt
request_fits limit (Framing.Sized n) f = f

pub request_found : (limit end : ℕ) (start kept now : BufferState) (old new : Option Tape) (parts : RequestParts) (f : Found) → start.kept ≡ [] → (h : HasRequestHead limit start.pending end parts)
    → kept ≡ keeping start end → (body : BodyGives limit (body_of_request parts.framing) kept now old new (Ok tt))
    → f.verb ≡ parts.verb → f.target ≡ parts.target → f.keep ≡ parts.keep → f.head ≡ end
    → (f.head ≤ length now.kept) × WhereTold old new (λ o n. (r : Request) × IsRequestThen limit (coming start o) r (coming now n) × FoundShows f now.kept r)
request_found limit end start kept now old new parts f none h is body verb target keep head =
    let p = start.pending in
    let has = h.has in
    let says = h.says in
    let shape = kept_parts start now end body.0 none (HeadEndsAt.within (HasHead.ends has)) (body.1 ∙ ap (λ (b : BufferState). b.kept ++ body.0) is) in (
      subst (λ (n : ℕ). n ≤ length now.kept) (sym head) shape.2,
      told_map old new (λ o n. IsBodyThen limit (body_of_request parts.framing) (coming kept o) body.0 (coming now n))
          (λ o n. (r : Request) × IsRequestThen limit (coming start o) r (coming now n) × FoundShows f now.kept r)
          (λ o n b. (
            record { head = says.h; body = body.0 },
            record {
              head = take end p;
              behind = drop end p ++ o.left;
              framing = parts.framing;
              begins = begins p o.left end has;
              few = few_lines p o.left end has;
              reads = says.reads;
              sound = says.has.sound;
              body = subst (λ (s : BufferState). IsBodyThen limit (body_of_request parts.framing) (coming s o) body.0 (coming now n)) is b;
            },
            record {
              verb = verb ∙ says.has.verb;
              target = ap (λ e. span_bytes (take e now.kept) f.target) head ∙ ap (λ l. span_bytes l f.target) shape.0 ∙ ap (span_bytes (take end p)) target ∙ says.has.target;
              body = ap (λ e. drop e now.kept) head ∙ shape.1;
              keep = keep ∙ says.has.keep;
            },
          ))
          body.2,
    )

-- a head that is refused
pub head_refused : (limit end : ℕ) (start : BufferState) (old : Option Tape) (fault : HttpFault) → HasHead start.pending end
    → grammar.RefusesRequest LINE_COUNT_LIMIT limit (take end start.pending) fault → FaultGives RefusesRequest IsUnfinishedRequest limit start old old fault
head_refused limit end start old fault h (inl none) =
    let p = start.pending in
    refused RefusesRequest IsUnfinishedRequest limit start old old fault
    (told_same old (λ o n. RefusesRequest limit (coming start o) fault)
    (λ o. let b = begins p o.left end h in let few = few_lines p o.left end h in
    inr (take end p, drop end p ++ o.left, b, inr (inl (few, none.0, λ k reads. none.1 k reads (let l = request_fields b k reads in omega (arith, l, few)))))))
    (λ is. let e : HttpFault.BadHead ≡ HttpFault.ReadFault = sym none.0 ∙ is in absurd (cc))
head_refused limit end start old fault h (inr fails) =
    let p = start.pending in
    refused RefusesRequest IsUnfinishedRequest limit start old old fault
    (told_same old (λ o n. RefusesRequest limit (coming start o) fault)
    (λ o. inr (take end p, drop end p ++ o.left, begins p o.left end h, inr (inr (inl (few_lines p o.left end h, fails.0, fails.1, fails.2))))))
    (λ is. subst (FailsRequest limit (RequestHead.minor fails.0) (grammar.is_post fails.0) (grammar.pairs fails.0)) is fails.2)

-- where no head has ended yet there is no byte, or the front of a request
unfinished_head : (limit : ℕ) (bytes : List ℕ) → HasNoHeadYet bytes → IsUnfinishedRequest limit bytes
unfinished_head limit [] none = inl refl
unfinished_head limit (b ∷ bytes) none = inr (inl (HasNoHeadYet.none none, omega arith, HasNoHeadYet.short none))

-- no head was found
pub no_head : (limit : ℕ) (start mid : BufferState) (old new : Option Tape) (fault : HttpFault) → Takes start mid old new → HeadGives mid.pending (Err fault) → (fault ≡ HttpFault.Cut → IsAtEnd new)
    → FaultGives RefusesRequest IsUnfinishedRequest limit start old new fault
no_head limit start mid old new HttpFault.HeadTooLong t (inl never) end =
    told_map old new (λ o n. FailsWithoutHead (coming start o) HttpFault.HeadTooLong) (λ o n. RefusesRequest limit (coming start o) HttpFault.HeadTooLong) (λ o n f. inl f)
    (never_head start mid old new t never)
no_head limit start mid old new HttpFault.HeadTooLong t (inr many) end =
    told_map old new (λ o n. HasManyLines (coming start o)) (λ o n. RefusesRequest limit (coming start o) HttpFault.HeadTooLong) (λ o n m. inr (m.0, m.1, m.2, inl (m.3, refl)))
    (many_lines start mid old new many.0 many.1 t many.2 many.3)
no_head limit start mid old new HttpFault.Cut t g end =
    told_map old new (λ o n. FailsWithoutHead (coming start o) HttpFault.Cut) (λ o n. RefusesRequest limit (coming start o) HttpFault.Cut) (λ o n f. inl f)
    (cut_head start mid old new t g.0 g.1 (end refl))
no_head limit start mid old new HttpFault.ReadFault t g end = given start mid old new (IsUnfinishedRequest limit) t (unfinished_head limit mid.pending g)
no_head limit start mid old new HttpFault.BadHead t g end = absurd g
no_head limit start mid old new HttpFault.LengthRequired t g end = absurd g
no_head limit start mid old new HttpFault.BodyTooLong t g end = absurd g
no_head limit start mid old new HttpFault.BadChunk t g end = absurd g
no_head limit start mid old new HttpFault.Coding t g end = absurd g

-- a body that is refused
body_fault : (limit end : ℕ) (start kept : BufferState) (old new : Option Tape) (fault : HttpFault) (parts : RequestParts) → (h : HasRequestHead limit start.pending end parts)
    → kept ≡ keeping start end → WhereTold old new (λ o n. FailsBody limit (body_of_request parts.framing) (coming kept o) fault)
    → WhereTold old new (λ o n. RefusesRequest limit (coming start o) fault)
body_fault limit end start kept old new fault parts h is w =
    let p = start.pending in let says = h.says in
    told_map old new (λ o n. FailsBody limit (body_of_request parts.framing) (coming kept o) fault) (λ o n. RefusesRequest limit (coming start o) fault)
    (λ o n f. inr (
      take end p,
      drop end p ++ o.left,
      begins p o.left end h.has,
      inr (inr (inr (few_lines p o.left end h.has, says.h, says.reads, parts.framing, says.has.sound, subst (λ (s : BufferState). FailsBody limit (body_of_request parts.framing) (coming s o) fault) is f))),
    ))
    w

-- no request goes to the end of the bytes
open_request : (limit : ℕ) (framing : Framing) (bytes : List ℕ) → IsOpenBody limit (body_of_request framing) bytes → FailsBody limit (body_of_request framing) bytes HttpFault.Cut
open_request limit Framing.Unframed bytes b = b
open_request limit Framing.Chunked bytes b = b
open_request limit (Framing.Sized n) bytes b = b

-- the source failed within a body
body_unread : (limit end : ℕ) (start kept : BufferState) (old new : Option Tape) (parts : RequestParts) → (h : HasRequestHead limit start.pending end parts)
    → kept ≡ keeping start end → HasGiven kept old new (IsOpenBody limit (body_of_request parts.framing)) → HasGiven start old new (IsUnfinishedRequest limit)
body_unread limit end start kept old new parts h is w =
    let p = start.pending in let says = h.says in
    told_map old new (λ o n. (piece : List ℕ) × Passes piece o n × IsOpenBody limit (body_of_request parts.framing) (kept.pending ++ piece)) (λ o n. (piece : List ℕ) × Passes piece o n × IsUnfinishedRequest limit (start.pending ++ piece))
    (λ o n g. (
      g.0,
      g.1,
      inr (inr (
        take end p,
        drop end p ++ g.0,
        begins p g.0 end h.has,
        inr (inr (inr (
          few_lines p g.0 end h.has,
          says.h,
          says.reads,
          parts.framing,
          says.has.sound,
          open_request limit parts.framing (drop end p ++ g.0) (subst (λ (s : BufferState). IsOpenBody limit (body_of_request parts.framing) (s.pending ++ g.0)) is g.2),
        ))),
      )),
    ))
    w

pub body_refused : (limit end : ℕ) (start kept now : BufferState) (old new : Option Tape) (fault : HttpFault) (parts : RequestParts) → (h : HasRequestHead limit start.pending end parts)
    → kept ≡ keeping start end → BodyGives limit (body_of_request parts.framing) kept now old new (Err fault) → FaultGives RefusesRequest IsUnfinishedRequest limit start old new fault
body_refused limit end start kept now old new HttpFault.Cut parts h is w = body_fault limit end start kept old new HttpFault.Cut parts h is w
body_refused limit end start kept now old new HttpFault.BadChunk parts h is w = body_fault limit end start kept old new HttpFault.BadChunk parts h is w
body_refused limit end start kept now old new HttpFault.BodyTooLong parts h is w = body_fault limit end start kept old new HttpFault.BodyTooLong parts h is w
body_refused limit end start kept now old new HttpFault.ReadFault parts h is w = body_unread limit end start kept old new parts h is w
body_refused limit end start kept now old new HttpFault.BadHead parts h is w = absurd w
body_refused limit end start kept now old new HttpFault.HeadTooLong parts h is w = absurd w
body_refused limit end start kept now old new HttpFault.LengthRequired parts h is w = absurd w
body_refused limit end start kept now old new HttpFault.Coding parts h is w = absurd w

-- what was found of all bytes that come is found where some of them were still to be taken
pub request_carried : (limit : ℕ) (start mid now : BufferState) (old m new : Option Tape) (result : Result (Option Found) HttpFault) → Takes start mid old m
    → RequestGives limit mid now m new result → RequestGives limit start now old new result
request_carried limit start mid now old m new (Ok (Some f)) t g = (
  g.0,
  told_then old m new (λ o k. coming start o ≡ coming mid k) (λ k n. (r : Request) × IsRequestThen limit (coming mid k) r (coming now n) × FoundShows f now.kept r)
      (λ o n. (r : Request) × IsRequestThen limit (coming start o) r (coming now n) × FoundShows f now.kept r)
      (λ o k n e r. (r.0, subst (λ (bytes : List ℕ). IsRequestThen limit bytes r.0 (coming now n)) (sym e) r.1, r.2)) (flow start mid old m t) g.1,
)
request_carried limit start mid now old m new (Ok None) t g =
    told_then old m new (λ o k. coming start o ≡ coming mid k) (λ k n. (coming mid k ≡ []) × (coming now n ≡ [])) (λ o n. (coming start o ≡ []) × (coming now n ≡ []))
    (λ o k n e r. (e ∙ r.0, r.1)) (flow start mid old m t) g
request_carried limit start mid now old m new (Err fault) t g = fault_carried RefusesRequest IsUnfinishedRequest limit start mid old m new fault t g
