-- Which endings a check may have, and which exit statuses they have.
use Rattle.std.proofs.Common.{◌≡◌, inl, inr, refl, sym, ap, subst, ◌∙◌, arith, ℕ, ◌==◌, if◌then◌else◌, ◌≤◌, List, [], ◌++◌, append-nil, Option, Some, None, Result, Ok, Err}
use Rattle.std.proofs.lemmas.Option.{none-some, same_Some}
use Rattle.adx_io.specs.Streams.{Tape, Took}
use Rattle.adx_io.specs.declared.rest.Rest.{Rest}
use Rattle.adx_io.specs.declared.stop.Stop.{Stop}
use Rattle.bid_record.specs.declared.record.Record.{Record}
use Rattle.cert_check.specs.Verdicts.{IsBound, IsVerdict}
use Rattle.cert_check.specs.declared.verdict.Verdict.{Verdict}
use Rattle.command_runs.specs.Documents.{IsJudged, document}
use Rattle.command_runs.proofs.Documents.{stopped}
use Rattle.command_runs.specs.Meanings.{Wrote}
use Rattle.command_runs.specs.Statuses.{status_by}
use Rattle.command_runs.specs.Limits.{document_limit}
use Rattle.command_runs.specs.declared.outcome.Outcome.{Outcome}
use Rattle.command_runs.proofs.Told.{told_map, told_start}
use Rattle.dual_cert.specs.declared.cert.Cert.{Cert}
use Rattle.dual_cert.specs.Assignments.{earned}
use Rattle.command_check.specs.Answers.{accepted_line, verdict_line}
use Rattle.command_check.specs.Checks.{checks, outcome_of}
use Rattle.command_check.specs.Documents.{IsDocument}
use Rattle.command_check.specs.Runs.{AcceptsInput, ChecksInput, HasJudged, IsAccepted}

-- ---- each ending has a status of its own

abbrev ended_by : ℕ → Option (Result Outcome Stop)
ended_by status =
    if status == 0 then Some (Ok Outcome.Done)
    else if status == 3 then Some (Ok Outcome.Refused)
    else if status == 4 then Some (Err Stop.ReadFault)
    else if status == 5 then Some (Err Stop.WriteFault)
    else if status == 6 then Some (Ok Outcome.DiskFault)
    else if status == 7 then Some (Ok Outcome.NoHistory)
    else if status == 8 then Some (Ok Outcome.NotAccepted)
    else if status == 9 then Some (Ok Outcome.KeeperFault)
    else if status == 10 then Some (Ok Outcome.NotKept)
    else if status == 11 then Some (Ok Outcome.Pending)
    else if status == 12 then Some (Err Stop.OutOfMemory)
    else None

known : (ended : Result Outcome Stop) → ended_by (status_by ended) ≡ Some ended
known (Ok Outcome.Done) = refl
known (Ok Outcome.Refused) = refl
known (Ok Outcome.DiskFault) = refl
known (Ok Outcome.NoHistory) = refl
known (Ok Outcome.NotAccepted) = refl
known (Ok Outcome.KeeperFault) = refl
known (Ok Outcome.NotKept) = refl
known (Ok Outcome.Pending) = refl
known (Err Stop.ReadFault) = refl
known (Err Stop.WriteFault) = refl
known (Err Stop.OutOfMemory) = refl

by_status : (ended wanted : Result Outcome Stop) (status : ℕ) → status_by ended ≡ status → ended_by status ≡ Some wanted → ended ≡ wanted
by_status ended wanted status is by = same_Some ended wanted (sym (known ended) ∙ ap ended_by is ∙ by)

is_done : (ended : Result Outcome Stop) → status_by ended ≡ 0 → ended ≡ Ok Outcome.Done
is_done ended is = by_status ended (Ok Outcome.Done) 0 is refl

pub read_failed : (ended : Result Outcome Stop) → status_by ended ≡ 4 → ended ≡ Err Stop.ReadFault
read_failed ended is = by_status ended (Err Stop.ReadFault) 4 is refl

pub write_failed : (ended : Result Outcome Stop) → status_by ended ≡ 5 → ended ≡ Err Stop.WriteFault
write_failed ended is = by_status ended (Err Stop.WriteFault) 5 is refl

-- no ending has the status of words that are no command
pub never_two : (ended : Result Outcome Stop) → status_by ended ≡ 2 → ⊥
never_two ended is = none-some ended (sym (ap ended_by is) ∙ known ended)

-- ---- how a check ends

abbrev IsUsual : Outcome → Type 0
IsUsual Outcome.Done = Unit {0}
IsUsual Outcome.Refused = Unit {0}
IsUsual Outcome.NotAccepted = Unit {0}
IsUsual Outcome.DiskFault = ⊥
IsUsual Outcome.NoHistory = ⊥
IsUsual Outcome.KeeperFault = ⊥
IsUsual Outcome.NotKept = ⊥
IsUsual Outcome.Pending = ⊥

by_verdict : (verdict : Verdict) → IsUsual (outcome_of verdict)
by_verdict (Verdict.Accepted bound) = tt
by_verdict Verdict.Shape = tt
by_verdict (Verdict.Alpha campaign) = tt
by_verdict (Verdict.Broken impression offer) = tt
by_verdict (Verdict.Bound stated computed) = tt

usual : (rest : Rest) (bytes : List ℕ) (outcome : Outcome) (out : List ℕ) → checks rest bytes outcome out → IsUsual outcome
usual Rest.Whole bytes outcome out (inl (rec, cert, is, judges)) = subst IsUsual (sym judges.ends) (by_verdict judges.verdict)
usual Rest.Whole bytes outcome out (inr (fault, is, refuses)) = subst IsUsual (sym refuses.0) tt
usual Rest.PastLimit bytes outcome out (inl (rec, cert, is, refuses)) = subst IsUsual (sym refuses.0) tt
usual Rest.PastLimit bytes outcome out (inr (fault, is, refuses)) = subst IsUsual (sym refuses.0) tt

-- a check doesn't end by a disk
pub never_six : (ended : Result Outcome Stop) → HasJudged ended → status_by ended ≡ 6 → ⊥
never_six ended judged is = at_disk (subst HasJudged (by_status ended (Ok Outcome.DiskFault) 6 is refl) judged)
  where
    at_disk : HasJudged (Ok Outcome.DiskFault) → ⊥
    at_disk (rest, bytes, out, says) = usual rest bytes Outcome.DiskFault out says

-- and not by a keeper
pub never_nine : (ended : Result Outcome Stop) → HasJudged ended → status_by ended ≡ 9 → ⊥
never_nine ended judged is = at_keeper (subst HasJudged (by_status ended (Ok Outcome.KeeperFault) 9 is refl) judged)
  where
    at_keeper : HasJudged (Ok Outcome.KeeperFault) → ⊥
    at_keeper (rest, bytes, out, says) = usual rest bytes Outcome.KeeperFault out says

-- ---- an accepted certificate

accepted_by : (verdict : Verdict) (rec : Record) (cert : Cert) (input left out : List ℕ) (held held_now : Option (List ℕ)) → Outcome.Done ≡ outcome_of verdict → IsVerdict rec cert verdict → IsBound rec verdict → out ≡ verdict_line verdict
    → IsDocument input rec cert → left ≡ [] → Took held held_now out → IsAccepted input left held held_now
accepted_by (Verdict.Accepted bound) rec cert input left out held held_now ends rules small written is all took = record {
  rec = rec;
  cert = cert;
  spelled = is.0;
  all_read = all;
  bound = λ picks. subst (λ (b : ℕ). earned picks rec ≤ b) rules.1 (small picks);
  took = subst (Took held held_now) (written ∙ ap accepted_line rules.1) took;
}
accepted_by Verdict.Shape rec cert input left out held held_now ends rules small written is all took = absurd (cc ends)
accepted_by (Verdict.Alpha campaign) rec cert input left out held held_now ends rules small written is all took = absurd (cc ends)
accepted_by (Verdict.Broken impression offer) rec cert input left out held held_now ends rules small written is all took = absurd (cc ends)
accepted_by (Verdict.Bound stated computed) rec cert input left out held held_now ends rules small written is all took = absurd (cc ends)

accepted_of : (limit : ℕ) (input taken left out : List ℕ) (held held_now : Option (List ℕ)) → input ≡ taken ++ left → IsJudged limit checks Outcome.Done taken left out → Took held held_now out → IsAccepted input left held held_now
accepted_of limit input taken left out held held_now cut (inl (all, few, inl (rec, cert, is, judges))) took =
    let same : input ≡ taken = cut ∙ ap (λ (t : List ℕ). taken ++ t) all ∙ append-nil taken in
    accepted_by judges.verdict rec cert input left out held held_now judges.ends judges.rules judges.bound judges.written (same ∙ is.0, is.1) all took
accepted_of limit input taken left out held held_now cut (inl (all, few, inr (fault, is, refuses))) took = absurd (cc (refuses.0))
accepted_of limit input taken left out held held_now cut (inr (part, more, is, full, inl (rec, cert, document_is, refuses))) took = absurd (cc (refuses.0))
accepted_of limit input taken left out held held_now cut (inr (part, more, is, full, inr (fault, fault_is, refuses))) took = absurd (cc (refuses.0))

accepted_where : (limit : ℕ) (input left : List ℕ) (held held_now : Option (List ℕ)) → Wrote (document limit checks) input left held held_now (Ok Outcome.Done) → IsAccepted input left held held_now
accepted_where limit input left held held_now (taken, out, cut, ends, took) = accepted_of limit input taken left out held held_now cut ends took

-- a check with the status of an acceptance
pub accepted_input : (tape tape_now : Option Tape) (held held_now : Option (List ℕ)) (status : ℕ) → ChecksInput tape tape_now held held_now status → status ≡ 0 → AcceptsInput tape tape_now held held_now
accepted_input tape tape_now held held_now status checked is =
    let done : checked.ended ≡ Ok Outcome.Done = is_done checked.ended (sym checked.told ∙ is) in
    told_map tape tape_now (λ before now. Wrote (document document_limit checks) before.left now.left held held_now checked.ended) (λ before now. IsAccepted before.left now.left held held_now) checked.wrote
    (λ before now wrote. accepted_where document_limit before.left now.left held held_now (subst (Wrote (document document_limit checks) before.left now.left held held_now) done wrote))

-- memory was refused before anything was read
pub unbegun : (tape : Option Tape) (held : Option (List ℕ)) → ChecksInput tape tape held held 12
unbegun tape held = record {
  ended = Err Stop.OutOfMemory;
  told = refl;
  judged = tt;
  wrote = told_start tape (λ before now. Wrote (document document_limit checks) before.left now.left held held (Err Stop.OutOfMemory))
      (λ t. stopped document_limit checks held held Stop.OutOfMemory t.left [] t.left refl (omega arith) refl);
}
