-- The lines that were read are a trailer, or the front of one.
use Rattle.std.proofs.Common.{Some, [], ◌++◌, drop, refl, sym, subst, ◌∙◌, append-nil, arith, inl, inr}
use Rattle.http_connection.specs.Lines.{EndsAt}
use Rattle.http_connection.specs.declared.head.TheConstants.{HEAD_LIMIT}
use Rattle.http_connection.proofs.HeadWalk.{end_within}
use Rattle.http_connection.specs.Chunks.{IsBadTrailer, IsOpenTrailer}
use Rattle.http_connection.proofs.ChunkParts.{skipping}
use Rattle.http_connection.proofs.Trailers.{run_line, line_is, trailer_found, trailer_many, trailer_long, trailer_open}
use Rattle.http_connection.proofs.AtHand.{held, spent, still}
use Rattle.http_connection.proofs.whole_bodies.has_trailer.Goals as goal

pub returns-then-is_empty_to : goal.returns-then-is_empty_to
returns-then-is_empty_to c =
    let i = c.lines.invariant in
    let b = c.args.bytes.now in
    let end = c.in-At.end in
    let e : EndsAt c.lines.at HEAD_LIMIT b end = c.in-At.ensures in
    let empty = line_is c.lines.at HEAD_LIMIT end b b c.is_empty_to.result e c.is_empty_to.ensures refl in
    let found = (trailer_found c.lines.at c.lines.lines end (held b) (held b) (skipping (held b) end) (Some spent) (Some spent) (still b) i.run i.few e (empty ∙ c.if-is_empty_to.true) refl).1 in
    (found.0, drop end b ++ [], found.1, sym (append-nil b) ∙ found.2)

pub returns-then-lines-eq-LINE_COUNT_LIMIT : goal.returns-then-lines-eq-LINE_COUNT_LIMIT
returns-then-lines-eq-LINE_COUNT_LIMIT c =
    let i = c.lines.invariant in
    let b = c.args.bytes.now in
    let end = c.in-At.end in
    let e : EndsAt c.lines.at HEAD_LIMIT b end = c.in-At.ensures in
    let empty = line_is c.lines.at HEAD_LIMIT end b b c.is_empty_to.result e c.is_empty_to.ensures refl in
    inl (subst IsBadTrailer (append-nil b) (trailer_many c.lines.at c.lines.lines end (held b) (held b) (Some spent) (Some spent) (still b) i.run c.if-lines-eq-LINE_COUNT_LIMIT.true e (empty ∙ c.if-is_empty_to.false)))

pub lines-preserved : goal.lines-preserved
lines-preserved c =
    let i = c.lines.invariant in
    let b = c.args.bytes.now in
    let end = c.in-At.end in
    let e : EndsAt c.lines.at HEAD_LIMIT b end = c.in-At.ensures in
    let empty = line_is c.lines.at HEAD_LIMIT end b b c.is_empty_to.result e c.is_empty_to.ensures refl in
    let few = i.few in
    let other = c.if-lines-eq-LINE_COUNT_LIMIT.false in record {
      run = run_line c.lines.at c.lines.lines end b i.run e (empty ∙ c.if-is_empty_to.false);
      few = omega (arith, few, other);
      bounded = e.within;
      within = end_within c.lines.at HEAD_LIMIT end b e i.within;
    }

pub returns-in-TooLong : goal.returns-in-TooLong
returns-in-TooLong c =
    let i = c.lines.invariant in
    let b = c.args.bytes.now in
    inl (subst IsBadTrailer (append-nil b) (trailer_long c.lines.at c.lines.lines (held b) (held b) (Some spent) (Some spent) (still b) i.run c.in-TooLong.ensures))

pub returns-in-Open : goal.returns-in-Open
returns-in-Open c =
    let i = c.lines.invariant in
    let b = c.args.bytes.now in
    inr (subst IsOpenTrailer (append-nil b) (trailer_open c.lines.at c.lines.lines (held b) (held b) (Some spent) (Some spent) (still b) i.run i.few c.in-Open.ensures refl))
