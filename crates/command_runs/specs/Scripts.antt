-- A command that answers its input line by line. This project's own.
-- Example: three lines, and a sink that fails at the second answer: the answer to the first is there whole, a
-- front of the second's, and the third line wasn't answered. Of two lines of which the second passes the limit of
-- the input, with a sink that fails, the second wasn't answered.
use Rattle.std.specs.Prelude.{◌≡◌, ◌⊎◌, ℕ, suc, ◌+◌, ◌≤◌, List, [], ◌∷◌, ◌++◌, length, All, Option, Result, Ok, Err}
use Rattle.std.specs.List.{flat_map}
use Rattle.adx_io.specs.Lines.{HasNoNewline}
use Rattle.adx_io.specs.Streams.{Took}
use Rattle.adx_io.specs.Talk.{ended}
use Rattle.adx_io.specs.declared.stop.Stop.{Stop}
use Rattle.command_runs.specs.Firsts.{IsAhead}
use Rattle.command_runs.specs.Meanings.{Meaning, PutsEnd, TookPrefix}
use Rattle.command_runs.specs.declared.outcome.Outcome.{Outcome}

-- How lines are answered, by the state of what answers them and the line's number: what a line is answered, and the state
-- that it leaves; the state that it leaves where memory was refused before its answer was written; how the run ends
-- after the last line, by a last piece without a newline, which may be empty, and what is written then; and what is
-- written where the input passes its limit.
pub record Answering (A : Type 0) : Type 1 where
  pub answers : A → ℕ → List ℕ → List ℕ → A → Type 0
  pub gives_up : A → ℕ → List ℕ → A → Type 0
  pub closes : A → ℕ → List ℕ → Outcome → List ℕ → Type 0
  pub passes : ℕ → List ℕ

module _ {A : Type 0} (a : Answering A) where
  -- what lines are answered, each in the state that those before it left, and the state after the last
  abbrev pub Answers : A → ℕ → List (List ℕ) → List ℕ → A → Type 0
  Answers s number [] out now = (out ≡ []) × (now ≡ s)
  Answers s number (line ∷ lines) out now =
      (between : A) × (first rest : List ℕ) × a.answers s number line first between
      × Answers between (suc number) lines rest now × (out ≡ first ++ rest)

  -- the bytes are whole lines, which were answered so; the next line has the number
  pub record Answered (s : A) (first : ℕ) (bytes out : List ℕ) (now : A) (number : ℕ) : Type 0 where
    pub lines : List (List ℕ)
    pub split : bytes ≡ flat_map ended lines
    pub whole : All HasNoNewline lines
    pub answered : Answers s first lines out now
    pub numbered : number ≡ first + length lines

  -- after whole lines a last piece came, and the input ended or passed its limit, so this is written and the run ends so
  abbrev pub Closes : ℕ → A → ℕ → List ℕ → List ℕ → Outcome → List ℕ → List ℕ → List ℕ → Type 0
  Closes allowed now number bytes piece outcome taken left last =
      ((left ≡ []) × (taken ≡ bytes ++ piece) × (length taken ≤ allowed) × a.closes now number piece outcome last)
      ⊎ ((more : ℕ) × (taken ≡ (bytes ++ piece) ++ more ∷ []) × (length (bytes ++ piece) ≡ allowed)
      × (outcome ≡ Outcome.Refused) × (last ≡ a.passes number))

  -- What came after whole lines whose answers were all in the sink, where the run was cut short: no further line was
  -- answered; one further line was, and its answer was being put; one was taken, and memory was refused before its answer
  -- was written; or the end of the output was being put. The lines that were answered are within what may be read.
  abbrev pub CutShort : ℕ → (mid now : A) → ℕ → (bytes taken left last : List ℕ) → Type 0
  CutShort allowed mid now number bytes taken left last =
      ((piece : List ℕ) × HasNoNewline piece × (length (bytes ++ piece) ≤ allowed) × IsAhead (bytes ++ piece) taken
      × (now ≡ mid) × (last ≡ []))
      ⊎ (((line : List ℕ) × HasNoNewline line × (length (bytes ++ ended line) ≤ allowed) × IsAhead (bytes ++ ended line) taken
      × a.answers mid number line last now)
      ⊎ (((line : List ℕ) × HasNoNewline line × (length (bytes ++ ended line) ≤ allowed) × IsAhead (bytes ++ ended line) taken
      × a.gives_up mid number line now × (last ≡ []))
      ⊎ ((piece : List ℕ) × (outcome : Outcome) × HasNoNewline piece × (now ≡ mid)
      × Closes allowed now number bytes piece outcome taken left last)))

  -- What a command means that answers lines, from one state to another, the first line having this number and so many
  -- bytes being allowed.
  abbrev pub script : A → ℕ → ℕ → A → Meaning
  script s first allowed now = record {
    ends = λ outcome taken left out.
        (bytes piece put last : List ℕ) × (number : ℕ) × Answered s first bytes put now number × HasNoNewline piece
        × Closes allowed now number bytes piece outcome taken left last × (out ≡ put ++ last);
    awaits = λ taken out.
        (bytes piece : List ℕ) × (number : ℕ) × Answered s first bytes out now number × HasNoNewline piece
        × (taken ≡ bytes ++ piece) × (length taken ≤ allowed);
    breaks = λ taken left put last.
        (bytes : List ℕ) × (mid : A) × (number : ℕ) × Answered s first bytes put mid number
        × CutShort allowed mid now number bytes taken left last;
  }

-- What the steps of such a command do. Private clauses cite what follows.

-- a line of which this is known was answered, and its answer put; or a front of it was; or memory was refused, and nothing
-- was put
abbrev pub PutsAnswer : {A : Type 0} → Answering A → A → A → ℕ → (List ℕ → Type 0) → (held held_now : Option (List ℕ))
    → Result (Unit {0}) Stop → Type 0
PutsAnswer a s now number Known held held_now (Ok done) =
    (out : List ℕ) × ((line : List ℕ) → Known line → a.answers s number line out now) × Took held held_now out
PutsAnswer a s now number Known held held_now (Err Stop.ReadFault) = ⊥
PutsAnswer a s now number Known held held_now (Err Stop.WriteFault) =
    (out : List ℕ) × ((line : List ℕ) → Known line → a.answers s number line out now) × TookPrefix held held_now out
PutsAnswer a s now number Known held held_now (Err Stop.OutOfMemory) =
    ((line : List ℕ) → Known line → a.gives_up s number line now) × (held_now ≡ held)

-- what is written at the end was put, or a front of it; or memory was refused, and nothing was
abbrev pub PutsClosing : {A : Type 0} → Answering A → A → ℕ → (List ℕ → Type 0) → (held held_now : Option (List ℕ))
    → Result Outcome Stop → Type 0
PutsClosing a now number Known held held_now result =
    ((outcome : Outcome) × (out : List ℕ) × ((piece : List ℕ) → Known piece → a.closes now number piece outcome out)
    × PutsEnd outcome held held_now out result)
    ⊎ ((result ≡ Err Stop.OutOfMemory) × (held_now ≡ held))
