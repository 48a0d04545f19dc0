-- A document has one answer.
use Rattle.std.proofs.Common.{◌≡◌, ◌⊎◌, inl, inr, ℕ, ◌+◌, List, ◌++◌, length, refl, sym, ap, ap₂, ◌∙◌, subst}
use Rattle.std.proofs.Props.{props}
use mathlib.Core.HLevel.{is_prop→PathP}
use Rattle.adx_io.specs.declared.rest.Rest.{Rest}
use Rattle.bid_record.specs.Lines.{document as record_document}
use Rattle.bid_record.specs.Records.{IsSound}
use Rattle.bid_record.specs.Refusals.{AreSame}
use Rattle.bid_record.specs.declared.fault.RecordFault.{RecordFault}
use Rattle.bid_record.specs.declared.record.Record.{Record}
use Rattle.bid_record.proofs.ReadLines.{only_refused as record_stands, same_records}
use Rattle.command_runs.specs.declared.outcome.Outcome.{Outcome}
use Rattle.dual_cert.specs.Lines.{document as cert_document}
use Rattle.dual_cert.specs.Refusals.{IsRefusal as RefusesCert}
use Rattle.dual_cert.specs.declared.cert.Cert.{Cert}
use Rattle.dual_cert.specs.declared.fault.CertFault.{CertFault}
use Rattle.dual_cert.proofs.Documents.{only_found, only_refused as cert_stands}
use Rattle.command_check.specs.Answers.{fault_line, verdict_line}
use Rattle.command_check.specs.Checks.{HasOneAnswer, Judges, Refuses, outcome_of, past_limit}
use Rattle.command_check.specs.Documents.{BehindRecord, CertFailsAt, IsDocument, IsFault, line_count}
use Rattle.command_check.specs.declared.fault.DocumentFault.{DocumentFault}
use Rattle.command_check.proofs.CertFaults.{line_or_cut, one_cert_line}
use Rattle.command_check.proofs.RecordFaults.{RecordRefuses, one_record_fault}
use Rattle.command_check.proofs.Verdicts.{one_verdict}

-- ---- two documents

-- records that say the same are one: all else of them are proofs
same_record : (r s : Record) → AreSame r s → r ≡ s
same_record r s h = λ i. record {
  format = h.format i;
  day = h.day i;
  campaigns = h.campaigns i;
  imps = h.imps i;
  sound = is_prop→PathP (λ j. IsSound (h.format j) (h.day j) (h.campaigns j) (h.imps j)) (λ j. hlevel props) r.sound s.sound i;
}

one_document : (bytes : List ℕ) (r s : Record) (c d : Cert) → IsDocument bytes r c → IsDocument bytes s d → (r ≡ s) × (c ≡ d)
one_document bytes r s c d a b =
    let same = same_records r s (cert_document c) (cert_document d) (sym a.0 ∙ b.0) in
    (same_record r s same.0, only_found (cert_document c) c d (refl, a.1) b.1 same.1)

one_judgement : (r : Record) (c : Cert) (outcome other : Outcome) (out another : List ℕ) → Judges r c outcome out → Judges r c other another → (outcome ≡ other) × (out ≡ another)
one_judgement r c outcome other out another a b =
    let same = one_verdict r c a.verdict b.verdict a.rules b.rules in
    (a.ends ∙ ap outcome_of same ∙ sym b.ends, a.written ∙ ap verdict_line same ∙ sym b.written)

-- ---- a document and a fault

record_not : (bytes rest : List ℕ) (r : Record) (fault : DocumentFault) → bytes ≡ record_document r ++ rest → RecordRefuses bytes fault → ⊥
record_not bytes rest r DocumentFault.Cut is refused = cc (record_stands bytes r rest RecordFault.Cut refused r.sound is)
record_not bytes rest r DocumentFault.Long is refused = refused
record_not bytes rest r (DocumentFault.Line n) is refused = cc (record_stands bytes r rest (RecordFault.Line n) refused r.sound is)
record_not bytes rest r (DocumentFault.Order n) is refused = cc (record_stands bytes r rest (RecordFault.Order n) refused r.sound is)
record_not bytes rest r (DocumentFault.Campaign n) is refused = cc (record_stands bytes r rest (RecordFault.Campaign n) refused r.sound is)

-- what is said of bytes behind a record
abbrev CertRefuses : List ℕ → DocumentFault → Type 0
CertRefuses bytes DocumentFault.Cut = BehindRecord (λ rec rest. RefusesCert rest CertFault.Cut) bytes
CertRefuses bytes (DocumentFault.Line n) = BehindRecord (CertFailsAt n) bytes
CertRefuses bytes _ = ⊥

either : (bytes : List ℕ) (fault : DocumentFault) → IsFault bytes fault → RecordRefuses bytes fault ⊎ CertRefuses bytes fault
either bytes DocumentFault.Cut is = is
either bytes DocumentFault.Long is = absurd is
either bytes (DocumentFault.Line n) is = is
either bytes (DocumentFault.Order n) is = inl is
either bytes (DocumentFault.Campaign n) is = inl is

cert_not : (bytes : List ℕ) (r : Record) (c : Cert) (fault : DocumentFault) → IsDocument bytes r c → CertRefuses bytes fault → ⊥
cert_not bytes r c DocumentFault.Cut is (s, rest, cut, refused) =
    let same = same_records s r rest (cert_document c) (sym cut ∙ is.0) in
    cc (cert_stands rest c CertFault.Cut refused is.1 same.1)
cert_not bytes r c (DocumentFault.Line n) is (s, rest, cut, (m, refused, number)) =
    let same = same_records s r rest (cert_document c) (sym cut ∙ is.0) in
    cc (cert_stands rest c (CertFault.Line m) refused is.1 same.1)
cert_not bytes r c DocumentFault.Long is refused = refused
cert_not bytes r c (DocumentFault.Order n) is refused = refused
cert_not bytes r c (DocumentFault.Campaign n) is refused = refused

no_fault_of : (bytes : List ℕ) (r : Record) (c : Cert) (fault : DocumentFault) → IsDocument bytes r c → IsFault bytes fault → ⊥
no_fault_of bytes r c fault is faulty = elim (either bytes fault faulty) [
  | inl refused ↦ record_not bytes (cert_document c) r fault is.0 refused
  | inr refused ↦ cert_not bytes r c fault is refused
]

-- ---- two faults

behind_one : (bytes : List ℕ) (f g : DocumentFault) → RecordRefuses bytes f → CertRefuses bytes g → ⊥
behind_one bytes f DocumentFault.Cut a (r, rest, cut, refused) = record_not bytes rest r f cut a
behind_one bytes f (DocumentFault.Line n) a (r, rest, cut, refused) = record_not bytes rest r f cut a
behind_one bytes f DocumentFault.Long a b = b
behind_one bytes f (DocumentFault.Order n) a b = b
behind_one bytes f (DocumentFault.Campaign n) a b = b

same_rest : (bytes x y : List ℕ) (r s : Record) → bytes ≡ record_document r ++ x → bytes ≡ record_document s ++ y → (x ≡ y) × (line_count r ≡ line_count s)
same_rest bytes x y r s a b =
    let same = same_records r s x y (sym a ∙ b) in
    (same.1, ap₂ (λ (i j : ℕ). 3 + (i + j)) (ap (λ (t : _). length t) same.0.campaigns) (ap (λ (t : _). length t) same.0.imps))

one_cert_fault : (bytes : List ℕ) (f g : DocumentFault) → CertRefuses bytes f → CertRefuses bytes g → f ≡ g
one_cert_fault bytes DocumentFault.Long g a b = absurd a
one_cert_fault bytes (DocumentFault.Order n) g a b = absurd a
one_cert_fault bytes (DocumentFault.Campaign n) g a b = absurd a
one_cert_fault bytes DocumentFault.Cut DocumentFault.Cut a b = refl
one_cert_fault bytes DocumentFault.Cut (DocumentFault.Line m) (r, x, cut, refused) (s, y, cut', (k, refused', number)) =
    absurd (line_or_cut y k refused' (subst (λ (t : List ℕ). RefusesCert t CertFault.Cut) (same_rest bytes x y r s cut cut').0 refused))
one_cert_fault bytes DocumentFault.Cut DocumentFault.Long a b = absurd b
one_cert_fault bytes DocumentFault.Cut (DocumentFault.Order m) a b = absurd b
one_cert_fault bytes DocumentFault.Cut (DocumentFault.Campaign m) a b = absurd b
one_cert_fault bytes (DocumentFault.Line n) DocumentFault.Cut (r, x, cut, (k, refused, number)) (s, y, cut', refused') =
    absurd (line_or_cut y k (subst (λ (t : List ℕ). RefusesCert t (CertFault.Line k)) (same_rest bytes x y r s cut cut').0 refused) refused')
one_cert_fault bytes (DocumentFault.Line n) (DocumentFault.Line m) (r, x, cut, (k, refused, number)) (s, y, cut', (l, refused', number')) =
    let same = same_rest bytes x y r s cut cut' in
    let lines : k ≡ l = one_cert_line y k l (subst (λ (t : List ℕ). RefusesCert t (CertFault.Line k)) same.0 refused) refused' in
    ap (λ (i : ℕ). DocumentFault.Line i) (number ∙ ap₂ (λ (i j : ℕ). i + j) same.1 lines ∙ sym number')
one_cert_fault bytes (DocumentFault.Line n) DocumentFault.Long a b = absurd b
one_cert_fault bytes (DocumentFault.Line n) (DocumentFault.Order m) a b = absurd b
one_cert_fault bytes (DocumentFault.Line n) (DocumentFault.Campaign m) a b = absurd b

one_fault : (bytes : List ℕ) (f g : DocumentFault) → IsFault bytes f → IsFault bytes g → f ≡ g
one_fault bytes f g a b = by (either bytes f a) (either bytes g b)
  where
    by : RecordRefuses bytes f ⊎ CertRefuses bytes f → RecordRefuses bytes g ⊎ CertRefuses bytes g → f ≡ g
    by (inl x) (inl y) = one_record_fault bytes f g x y
    by (inl x) (inr y) = absurd (behind_one bytes f g x y)
    by (inr x) (inl y) = absurd (behind_one bytes g f y x)
    by (inr x) (inr y) = one_cert_fault bytes f g x y

one_refusal : (f g : DocumentFault) (outcome other : Outcome) (out another : List ℕ) → f ≡ g → Refuses f outcome out → Refuses g other another → (outcome ≡ other) × (out ≡ another)
one_refusal f g outcome other out another same a b = (a.0 ∙ sym b.0, a.1 ∙ ap fault_line same ∙ sym b.1)

-- ---- the clause

pub one_answer : HasOneAnswer
one_answer Rest.Whole bytes outcome other out another (inl (r, c, is, judges)) (inl (s, d, also, judges')) =
    let same = one_document bytes r s c d is also in
    one_judgement s d outcome other out another (subst (λ (x : Cert). Judges s x outcome out) same.1 (subst (λ (x : Record). Judges x c outcome out) same.0 judges)) judges'
one_answer Rest.Whole bytes outcome other out another (inl (r, c, is, judges)) (inr (f, faulty, refuses)) = absurd (no_fault_of bytes r c f is faulty)
one_answer Rest.Whole bytes outcome other out another (inr (f, faulty, refuses)) (inl (r, c, is, judges)) = absurd (no_fault_of bytes r c f is faulty)
one_answer Rest.Whole bytes outcome other out another (inr (f, faulty, refuses)) (inr (g, faulty', refuses')) = one_refusal f g outcome other out another (one_fault bytes f g faulty faulty') refuses refuses'
one_answer Rest.PastLimit bytes outcome other out another (inl (r, c, is, refuses)) (inl (s, d, also, refuses')) = one_refusal DocumentFault.Long DocumentFault.Long outcome other out another refl refuses refuses'
one_answer Rest.PastLimit bytes outcome other out another (inl (r, c, is, refuses)) (inr (f, faulty, refuses')) = absurd (no_fault_of bytes r c f is faulty)
one_answer Rest.PastLimit bytes outcome other out another (inr (f, faulty, refuses)) (inl (r, c, is, refuses')) = absurd (no_fault_of bytes r c f is faulty)
one_answer Rest.PastLimit bytes outcome other out another (inr (f, faulty, refuses)) (inr (g, faulty', refuses')) =
    one_refusal (past_limit f) (past_limit g) outcome other out another (ap past_limit (one_fault bytes f g faulty faulty')) refuses refuses'
