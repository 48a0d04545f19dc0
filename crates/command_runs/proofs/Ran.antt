-- What a run over a talk is for its source and its sink.
use Rattle.std.proofs.Common.{◌≡◌, ℕ, List, [], Option, Result, Err, length, take, drop, refl, sym, ◌∙◌, subst, ◌≤◌, arith}
use Rattle.std.proofs.lemmas.List.{take-append-drop}
use Rattle.adx_io.specs.Lines.{tape_behind}
use Rattle.adx_io.specs.Streams.{Tape, Took, WhereTold}
use Rattle.adx_io.specs.Talk.{HasCauses, PutsSome, TalkState}
use Rattle.adx_io.specs.declared.stop.Stop.{Stop}
use Rattle.adx_io.proofs.Moved.{took_none}
use Rattle.command_runs.specs.declared.outcome.Outcome.{Outcome}
use Rattle.command_runs.specs.Meanings.{Meaning, TookPrefix, Wrote}
use Rattle.command_runs.specs.Runs.{HasRunCauses}
use Rattle.command_runs.proofs.Told.{told_start, unread_tape}

-- nothing was taken before a talk began
pub ran_over : (begun tape tape_now last : Option Tape) (held_begun held held_now held_last : Option (List ℕ)) (R : Option (List ℕ) → Option (List ℕ) → Tape → Tape → Type 0)
    → begun ≡ tape_behind [] tape → last ≡ tape_now → held_begun ≡ held → held_last ≡ held_now → WhereTold begun tape_now (R held_begun held_now) → WhereTold tape last (R held held_last)
ran_over begun tape tape_now last held_begun held held_now held_last R is now was holds ran =
    subst (λ t. WhereTold tape t (R held held_last)) (sym now)
    (subst (λ h. WhereTold tape tape_now (R held h)) (sym holds)
    (subst (λ h. WhereTold tape tape_now (R h held_now)) was
    (subst (λ t. WhereTold t tape_now (R held_begun held_now)) (is ∙ unread_tape tape) ran)))

-- the counts of a talk are those of its source and its sink
pub counted : (before now : TalkState) (result : Result Outcome Stop) (read read_now write write_now : ℕ)
    → before.read_faults ≡ read → now.read_faults ≡ read_now → before.write_faults ≡ write → now.write_faults ≡ write_now → HasCauses before now result → HasRunCauses read read_now write write_now result
counted before now result read read_now write write_now is is_now was was_now causes =
    rw (← is, ← is_now, ← was, ← was_now) (record {
      read_later = causes.read_later;
      write_later = causes.write_later;
      read_fault = causes.read_fault;
      write_fault = causes.write_fault;
      read_same = causes.read_same;
      write_same = causes.write_same;
    })

-- memory was refused before a talk began
pub unbegun_wrote : (m : Meaning) (tape : Option Tape) (held : Option (List ℕ)) → ((left : List ℕ) → m.breaks [] left [] []) → WhereTold tape tape (λ before now. Wrote m before.left now.left held held (Err Stop.OutOfMemory))
unbegun_wrote m tape held nothing = told_start tape _ (λ t. ([], [], [], [], [], refl, nothing t.left, refl, took_none held))

pub unbegun_counted : (read write : ℕ) → HasRunCauses read read write write (Err Stop.OutOfMemory)
unbegun_counted read write = record { read_later = omega arith; write_later = omega arith; read_fault = λ e. absurd (cc e); write_fault = λ e. absurd (cc e); read_same = λ e. refl; write_same = λ e. refl }

-- a put of a talk that failed took a front
pub some_taken : (before now : TalkState) → PutsSome before now → TookPrefix before.held now.held before.out
some_taken before now (n, small, took) = (take n before.out, drop n before.out, sym (take-append-drop n before.out), took)

pub front_taken : (held now : Option (List ℕ)) (out : List ℕ) → ((n : ℕ) × (n ≤ length out) × Took held now (take n out)) → TookPrefix held now out
front_taken held now out (n, small, took) = (take n out, drop n out, sym (take-append-drop n out), took)
