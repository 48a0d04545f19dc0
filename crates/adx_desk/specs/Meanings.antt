-- What a run over lines answers, from any history, by what each line means. This project's own.
use Rattle.std.specs.Prelude.{◌≡◌, ℕ, suc, List, [], ◌∷◌, ◌++◌, map, All, Option, Some, None}
use Rattle.answer_lines.specs.declared.faults.Fault.{Fault}
use Rattle.day_rules.specs.declared.answer.Answer.{Answer}
use Rattle.day_rules.specs.declared.entry.Entry.{Entry}
use Rattle.day_rules.specs.Replies.{Call, reply}
use Rattle.day_rules.specs.Runs.{Outcome, Turn, done, faulted, after_turn, run}
use Rattle.day_rules.specs.Terms.{Terms}
use Rattle.script_lines.specs.Meanings.{Meaning, calls, refused}
use Rattle.script_lines.specs.declared.refusal.Refusal.{Refusal}

-- how a format writes the answers of the day, from the history that a call leaves; the faults; and the refusals, by
-- the line's number and why
pub record Writing : Type 0 where
  pub answer : List Entry → Answer → List ℕ
  pub fault : Fault → List ℕ
  pub refusal : ℕ → Refusal → List ℕ

-- a call that was answered, and the fault by which it was given up, if it was
pub record Told : Type 0 where
  pub call : Call
  pub fault : Option Fault

-- a call without a fault is done
abbrev pub outcome_by : Option Fault → Outcome
outcome_by None = done
outcome_by (Some f) = faulted

-- the turn of a call that was answered
abbrev pub turn_of : Told → Turn
turn_of t = record { call = t.call; outcome = outcome_by t.fault }

-- the turns of these calls
abbrev pub turns_of : List Told → List Turn
turns_of told = map turn_of told

-- what a call is answered after a history: by the reply that the history gives it, or by its fault
abbrev pub answered_by : Writing → Terms → List Entry → Told → Option Fault → List ℕ
answered_by w terms history t None = w.answer (after_turn terms history (turn_of t)) (reply terms history t.call).answer
answered_by w terms history t (Some f) = w.fault f

-- what a call of a run is answered, by how it ended
abbrev pub call_answer : Writing → Terms → List Entry → Told → List ℕ
call_answer w terms history t = answered_by w terms history t t.fault

-- what a line is answered: its call, done or given up; or its refusal, which is no call
abbrev pub AnswersLine : Writing → Terms → ℕ → List Entry → Meaning → List Told → List ℕ → Type 0
AnswersLine w terms number history (calls c) told out =
    (t : Told) × (t.call ≡ c) × (told ≡ t ∷ []) × (out ≡ call_answer w terms history t)
AnswersLine w terms number history (refused why) told out = (told ≡ []) × (out ≡ w.refusal number why)

-- one line: its meaning, the calls that it makes after a history, and what it is answered
pub record IsLine (Means : List ℕ → Meaning → Type 0) (w : Writing) (terms : Terms) (number : ℕ) (history : List Entry)
    (line : List ℕ) (told : List Told) (out : List ℕ) : Type 0 where
  pub meaning : Meaning
  pub means : Means line meaning
  pub answered : AnswersLine w terms number history meaning told out

module _ (Means : List ℕ → Meaning → Type 0) (w : Writing) (terms : Terms) where
  -- what the lines are answered, one after another, from any history, with the calls that they make; the first
  -- of them has the number
  abbrev pub Answers : ℕ → List Entry → List (List ℕ) → List Told → List ℕ → Type 0
  Answers number history [] told out = (told ≡ []) × (out ≡ [])
  Answers number history (line ∷ lines) told out =
      (first rest : List Told) × (out_first out_rest : List ℕ)
      × IsLine Means w terms number history line first out_first
      × Answers (suc number) (run terms history (turns_of first)) lines rest out_rest
      × (told ≡ first ++ rest) × (out ≡ out_first ++ out_rest)

-- no call was given up
abbrev pub AreDone : List Told → Type 0
AreDone told = All (λ (t : Told). t.fault ≡ None) told
