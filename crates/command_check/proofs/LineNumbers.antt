-- A line's number is at most the number of bytes up to its end.
use Rattle.std.proofs.Common.{◌≡◌, inl, inr, ap, ℕ, ◌+◌, ◌≤◌, List, [], ◌∷◌, ◌++◌, drop, length, map, length-append, arith}
use Rattle.std.specs.List.{enumerate_from, flat_map}
use Rattle.std.proofs.lemmas.List.{length-map}
use Rattle.std.proofs.lemmas.List.Concat.{flat_map-cons}
use Rattle.std.proofs.lemmas.List.FromFn.{length-enumerate_from}
use Rattle.formats.specs.Parts.{ended}
use Rattle.bid_record.specs.Lines.{campaign_line, document as record_document, end_line, imp_line, lines as record_lines, rows_lines}
use Rattle.bid_record.specs.declared.record.Record.{Record}
use Rattle.dual_cert.specs.Refusals.{IsRefusal as RefusesCert}
use Rattle.dual_cert.specs.declared.fault.CertFault.{CertFault}
use Rattle.command_check.specs.Documents.{line_count}

-- each line has its newline
lines_few : (lines : List (List ℕ)) → length lines ≤ length (flat_map ended lines)
lines_few [] = omega arith
lines_few (line ∷ lines) =
    let cut = ap (λ (t : List ℕ). length t) (flat_map-cons ended line lines) in
    omega (arith, cut, length-append (ended line) (flat_map ended lines), length-append line (10 ∷ []), lines_few lines)

counted : (rec : Record) → length (record_lines rec) ≡ line_count rec
counted rec =
    let campaigns = map campaign_line (enumerate_from 0 rec.campaigns) in
    let imps = map imp_line (enumerate_from 0 rec.imps) in
    let rows : List (List ℕ) = rows_lines rec.format rec.day rec.campaigns rec.imps in
    let last : List (List ℕ) = end_line (length rec.imps) ∷ [] in
    omega (
      arith,
      length-append rows last,
      length-append campaigns imps,
      length-map (enumerate_from 0 rec.campaigns) campaign_line,
      length-map (enumerate_from 0 rec.imps) imp_line,
      length-enumerate_from 0 rec.campaigns,
      length-enumerate_from 0 rec.imps,
    )

cert_line_few : (rest : List ℕ) (m : ℕ) → RefusesCert rest (CertFault.Line m) → m ≤ length rest
cert_line_few rest m (inl fails) =
    let cut = ap (λ (t : List ℕ). length t) fails.document in
    omega (
      arith,
      cut,
      length-append (flat_map ended fails.lines) (ended fails.line ++ fails.rest),
      length-append (ended fails.line) fails.rest,
      length-append fails.line (10 ∷ []),
      lines_few fails.lines,
      fails.number,
    )
cert_line_few rest m (inr more) =
    let cut = ap (λ (t : List ℕ). length t) more.document in
    omega (arith, cut, length-append (flat_map ended more.lines) (more.byte ∷ more.rest), lines_few more.lines, more.number)

-- a line of a certificate that comes behind a record
pub line_few : (bytes rest : List ℕ) (rec : Record) (m : ℕ) → bytes ≡ record_document rec ++ rest → RefusesCert rest (CertFault.Line m) → line_count rec + m ≤ length bytes
line_few bytes rest rec m is refused =
    let cut = ap (λ (t : List ℕ). length t) is in
    omega (arith, cut, length-append (record_document rec) rest, lines_few (record_lines rec), counted rec, cert_line_few rest m refused)

-- a record's document is no longer than the bytes that it begins
pub start_within : (bytes : List ℕ) (rec : Record) (start : ℕ) → bytes ≡ record_document rec ++ drop start bytes → start ≡ length (record_document rec) → start ≤ length bytes
start_within bytes rec start is long =
    let cut = ap (λ (t : List ℕ). length t) is in
    omega (arith, cut, long, length-append (record_document rec) (drop start bytes))
