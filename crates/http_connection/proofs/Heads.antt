-- What the head at the front of the bytes at hand says of all bytes that come.
use Rattle.std.proofs.Common.{◌≡◌, ℕ, ◌+◌, ◌*◌, ◌<◌, ◌≤◌, List, [], ◌++◌, length, take, drop, Option, refl, sym, ap, subst, ◌∙◌, append-nil, arith, length-append}
use Rattle.std.proofs.lemmas.List.{length-take-le, take_at, drop_at}
use Rattle.adx_io.specs.Streams.{Tape, WhereTold}
use Rattle.http_connection.specs.BufferState.{BufferState, Takes, IsAtEnd}
use Rattle.http_connection.specs.declared.head.TheConstants.{HEAD_LIMIT}
use Rattle.http_connection.specs.HeadEnds.{BeginsWithHead, HeadEndsAt, NeverHasHead, HasNoHeadYet, HasNoHead}
use Rattle.http_grammar.specs.declared.fault.HttpFault.{HttpFault}
use Rattle.http_connection.specs.declared.chunks.TheConstants.{LINE_COUNT_LIMIT}
use Rattle.http_connection.specs.Steps.{coming}
use Rattle.http_connection.specs.declared.conn.TheConstants.{PIECE}
use Rattle.http_connection.specs.Messages.{FailsWithoutHead}
use Rattle.http_connection.specs.Found.{HasHead, FaultGives}
use Rattle.http_connection.proofs.Told.{told_map, told_then, told_end, flow, given_carried}
use Rattle.http_connection.proofs.BodyParts.{keeping, parts_of}

-- what begins the bytes at hand begins all that come
abbrev pub begins_at : (bytes p left : List ℕ) (end lines : ℕ) → (h : HeadEndsAt p end lines) → bytes ≡ p ++ left → BeginsWithHead bytes (take end p) (drop end p ++ left)
begins_at bytes p left end lines h is = let b = HeadEndsAt.begins h in record {
  before = b.before;
  first = b.first;
  lines = b.lines;
  last = b.last;
  empty = b.empty;
  full = b.full;
  ends = b.ends;
  head_is = b.head_is;
  short = b.short;
  bytes_are = is ∙ parts_of end p left;
}

abbrev pub begins : (p left : List ℕ) (end : ℕ) → (h : HasHead p end) → BeginsWithHead (p ++ left) (take end p) (drop end p ++ left)
begins p left end h = begins_at (p ++ left) p left end (HasHead.lines h) (HasHead.ends h) refl

pub few_lines : (p left : List ℕ) (end : ℕ) → (h : HasHead p end) → length (BeginsWithHead.lines (begins p left end h)) ≤ LINE_COUNT_LIMIT
few_lines p left end h = let c = HeadEndsAt.count (HasHead.ends h) in let f = HasHead.few h in omega (arith, c, f)

pub head_short : (p : List ℕ) (end lines : ℕ) → (h : HeadEndsAt p end lines) → end ≤ HEAD_LIMIT
head_short p end lines h = let s = BeginsWithHead.short (HeadEndsAt.begins h) in let l = length-take-le end p (HeadEndsAt.within h) in omega (arith, s, l)

-- the head that is kept, and the body after it
pub kept_parts : (start now : BufferState) (end : ℕ) (b : List ℕ) → start.kept ≡ [] → end ≤ length start.pending → now.kept ≡ (start.kept ++ take end start.pending) ++ b
    → (take end now.kept ≡ take end start.pending) × (drop end now.kept ≡ b) × (end ≤ length now.kept)
kept_parts start now end b none within is =
    let head = take end start.pending in
    let long : length head ≡ end = length-take-le end start.pending within in
    let all : now.kept ≡ head ++ b = is ∙ ap (λ k. (k ++ head) ++ b) none in
    let size = ap length all in
    (ap (take end) all ∙ take_at head b end long, ap (drop end) all ∙ drop_at head b end long, omega (arith, size, long, length-append head b))

-- a refusal, whatever the fault
pub refused : (refuses : ℕ → List ℕ → HttpFault → Type 0) (unfinished : ℕ → List ℕ → Type 0) (limit : ℕ) (before : BufferState) (old new : Option Tape) (fault : HttpFault) → WhereTold old new (λ o n. refuses limit (coming before o) fault)
    → (fault ≡ HttpFault.ReadFault → ⊥) → FaultGives refuses unfinished limit before old new fault
refused refuses unfinished limit before old new HttpFault.ReadFault w other = absurd (other refl)
refused refuses unfinished limit before old new HttpFault.BadHead w other = w
refused refuses unfinished limit before old new HttpFault.HeadTooLong w other = w
refused refuses unfinished limit before old new HttpFault.LengthRequired w other = w
refused refuses unfinished limit before old new HttpFault.BodyTooLong w other = w
refused refuses unfinished limit before old new HttpFault.BadChunk w other = w
refused refuses unfinished limit before old new HttpFault.Cut w other = w
refused refuses unfinished limit before old new HttpFault.Coding w other = w

-- what is refused of all bytes that come stays refused where some of them were still to be taken
carried : (refuses : ℕ → List ℕ → HttpFault → Type 0) (limit : ℕ) (start mid : BufferState) (old m new : Option Tape) (fault : HttpFault) → Takes start mid old m
    → WhereTold m new (λ k n. refuses limit (coming mid k) fault) → WhereTold old new (λ o n. refuses limit (coming start o) fault)
carried refuses limit start mid old m new fault t w =
    told_then old m new (λ o k. coming start o ≡ coming mid k) (λ k n. refuses limit (coming mid k) fault) (λ o n. refuses limit (coming start o) fault)
    (λ o k n e r. subst (λ (bytes : List ℕ). refuses limit bytes fault) (sym e) r) (flow start mid old m t) w

pub fault_carried : (refuses : ℕ → List ℕ → HttpFault → Type 0) (unfinished : ℕ → List ℕ → Type 0) (limit : ℕ) (start mid : BufferState) (old m new : Option Tape) (fault : HttpFault) → Takes start mid old m
    → FaultGives refuses unfinished limit mid m new fault → FaultGives refuses unfinished limit start old new fault
fault_carried refuses unfinished limit start mid old m new HttpFault.ReadFault t w = given_carried start mid old m new (unfinished limit) t w
fault_carried refuses unfinished limit start mid old m new HttpFault.BadHead t w = carried refuses limit start mid old m new HttpFault.BadHead t w
fault_carried refuses unfinished limit start mid old m new HttpFault.HeadTooLong t w = carried refuses limit start mid old m new HttpFault.HeadTooLong t w
fault_carried refuses unfinished limit start mid old m new HttpFault.LengthRequired t w = carried refuses limit start mid old m new HttpFault.LengthRequired t w
fault_carried refuses unfinished limit start mid old m new HttpFault.BodyTooLong t w = carried refuses limit start mid old m new HttpFault.BodyTooLong t w
fault_carried refuses unfinished limit start mid old m new HttpFault.BadChunk t w = carried refuses limit start mid old m new HttpFault.BadChunk t w
fault_carried refuses unfinished limit start mid old m new HttpFault.Cut t w = carried refuses limit start mid old m new HttpFault.Cut t w
fault_carried refuses unfinished limit start mid old m new HttpFault.Coding t w = carried refuses limit start mid old m new HttpFault.Coding t w

-- so many bytes hold no head, whatever follows
pub never_head : (start mid : BufferState) (old new : Option Tape) → Takes start mid old new → NeverHasHead mid.pending
    → WhereTold old new (λ o n. FailsWithoutHead (coming start o) HttpFault.HeadTooLong)
never_head start mid old new t never =
    told_map old new (λ o n. coming start o ≡ coming mid n) (λ o n. FailsWithoutHead (coming start o) HttpFault.HeadTooLong)
    (λ o n e. let l = NeverHasHead.long never in let k = ap length e in
    (subst HasNoHead (sym e) (NeverHasHead.never never n.left), omega (arith, l, k, length-append mid.pending n.left)))
    (flow start mid old new t)

-- a head of too many lines begins the bytes
abbrev pub HasManyLines : List ℕ → Type 0
HasManyLines bytes = (head behind : List ℕ) × (b : BeginsWithHead bytes head behind) × (LINE_COUNT_LIMIT < length (BeginsWithHead.lines b))

pub many_lines : (start mid : BufferState) (old new : Option Tape) (end lines : ℕ) → Takes start mid old new → (h : HeadEndsAt mid.pending end lines) → LINE_COUNT_LIMIT < lines
    → WhereTold old new (λ o n. HasManyLines (coming start o))
many_lines start mid old new end lines t h many =
    told_map old new (λ o n. coming start o ≡ coming mid n) (λ o n. HasManyLines (coming start o))
    (λ o n e. let c = HeadEndsAt.count h in (take end mid.pending, drop end mid.pending ++ n.left, begins_at (coming start o) mid.pending n.left end lines h e, omega (arith, c, many)))
    (flow start mid old new t)

-- the bytes end within a head
pub cut_head : (start mid : BufferState) (old new : Option Tape) → Takes start mid old new → HasNoHeadYet mid.pending → 0 < length mid.pending → IsAtEnd new
    → WhereTold old new (λ o n. FailsWithoutHead (coming start o) HttpFault.Cut)
cut_head start mid old new t none some end =
    told_end old new (λ o n. coming start o ≡ coming mid n) (λ o n. FailsWithoutHead (coming start o) HttpFault.Cut) end
    (λ o n last e.
    let all : coming start o ≡ mid.pending = e ∙ ap (λ l. mid.pending ++ l) last ∙ append-nil mid.pending in
    let k = ap length all in let s = HasNoHeadYet.short none in
    (subst HasNoHead (sym all) (HasNoHeadYet.none none), omega (arith, k, some), omega (arith, k, s)))
    (flow start mid old new t)

-- nothing comes
pub nothing_comes : (start mid : BufferState) (old new : Option Tape) → Takes start mid old new → mid.pending ≡ [] → IsAtEnd new
    → WhereTold old new (λ o n. (coming start o ≡ []) × (coming mid n ≡ []))
nothing_comes start mid old new t none end =
    told_end old new (λ o n. coming start o ≡ coming mid n) (λ o n. (coming start o ≡ []) × (coming mid n ≡ [])) end
    (λ o n last e. let all : coming mid n ≡ [] = ap (λ l. l ++ n.left) none ∙ last in (e ∙ all, all))
    (flow start mid old new t)

-- after a head there is room for any body
pub body_room : (start kept : BufferState) (end limit : ℕ) → start.kept ≡ [] → HasHead start.pending end → kept ≡ keeping start end → start.room ≡ 2 * HEAD_LIMIT + limit + PIECE → length kept.kept + limit + HEAD_LIMIT + 2 ≤ kept.room
body_room start kept end limit none h is room =
    let short = head_short start.pending end (HasHead.lines h) (HasHead.ends h) in
    let long = length-take-le end start.pending (HeadEndsAt.within (HasHead.ends h)) in
    let nothing = ap length none in
    let front : length kept.kept ≡ length (start.kept ++ take end start.pending) = ap (λ (b : BufferState). length b.kept) is in
    let same : kept.room ≡ start.room = ap (λ (b : BufferState). b.room) is in
    omega (arith, front, length-append start.kept (take end start.pending), long, nothing, short, same, room)

-- what lies in the head lies within its length
pub within_head : (p head : List ℕ) (end at : ℕ) → head ≡ take end p → HasHead p end → at ≤ length head → at ≤ end
within_head p head end at is h less = let l = ap length is in let k = length-take-le end p (HeadEndsAt.within (HasHead.ends h)) in omega (arith, l, k, less)
