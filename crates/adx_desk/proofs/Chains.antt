-- Steps one after another: put together, and taken apart.
use Rattle.std.proofs.Common.{◌≡◌, List, [], ◌∷◌, ◌++◌, length, sym, ap, ◌∙◌}
use Rattle.std.proofs.lemmas.List.{append_assoc}
use Rattle.adx_desk.specs.Histories.{DeskTerms}
use Rattle.day_rules.specs.declared.entry.Entry.{Entry}
use Rattle.day_rules.specs.Legal.{IsLegal}
use Rattle.day_rules.specs.Runs.{IsCall, Turn, run}
use Rattle.day_rules.proofs.Running.{run_legal}
use Rattle.adx_desk.specs.Called.{Called, left_by, turn_of}
use Rattle.std.proofs.lemmas.List.Elements.{All-nil, All-cons}
use Rattle.adx_desk.specs.Laws.{EachBetween, OwnedRun}
use Rattle.adx_desk.specs.Steps.{AreSteps, Step, Way, alone, history_at, history_behind, looked, metered, shared, took, turns_of}

-- a history goes on by two ways one after another
abbrev pub GoOn : Way → Type 0
GoOn way = (h k l : List Entry) → way.goes h k → way.goes k l → way.goes h l

pub alone_on : GoOn alone
alone_on h k l first next = next ∙ first

pub shared_on : GoOn shared
shared_on h k l first next = (first.0 ++ next.0, sym (append_assoc h first.0 next.0) ∙ ap (λ (x : List Entry). x ++ next.0) first.1 ∙ next.1)

module _ (way : Way) (on : GoOn way) (terms : DeskTerms) where
  -- from an earlier history
  pub from_earlier : (h seen now : List Entry) (steps : List Step) → way.goes h seen → AreSteps way terms seen steps now → AreSteps way terms h steps now
  from_earlier h seen now [] goes are = on h seen now goes are
  from_earlier h seen now (s ∷ steps) goes are = (on h seen (history_at s) goes are.0, are.1, are.2)

  -- steps after steps
  pub steps_join : (seen mid now : List Entry) (first rest : List Step) → AreSteps way terms seen first mid → AreSteps way terms mid rest now → AreSteps way terms seen (first ++ rest) now
  steps_join seen mid now [] rest are more = from_earlier seen mid now rest are more
  steps_join seen mid now (s ∷ first) rest are more = (are.0, are.1, steps_join (history_behind terms.day s) mid now first rest are.2 more)

  -- what comes after some steps
  pub steps_behind : (seen now : List Entry) (front back : List Step) (before one : Step) → AreSteps way terms seen (front ++ before ∷ one ∷ back) now
      → way.goes (history_behind terms.day before) (history_at one) × AreSteps way terms (history_behind terms.day before) (one ∷ back) now
  steps_behind seen now [] back before one are = (are.2.0, are.2)
  steps_behind seen now (s ∷ front) back before one are = steps_behind (history_behind terms.day s) now front back before one are.2

pub each_between : EachBetween
each_between terms seen now front back before one behind are =
    let mid = steps_behind shared shared_on terms seen now front (behind ∷ back) before one are in
    (mid.0, mid.1.2.0)

-- the history now of an owned desk
pub owned_now : (terms : DeskTerms) (seen now : List Entry) (steps : List Step) → AreSteps alone terms seen steps now → now ≡ run terms.day seen (turns_of steps)
owned_now terms seen now [] are = are
owned_now terms seen now (took c ∷ steps) are =
    owned_now terms (history_behind terms.day (took c)) now steps are.2 ∙ ap (λ (h : List Entry). run terms.day (history_behind terms.day (took (record c { at = h }))) (turns_of steps)) are.0
owned_now terms seen now (looked h ∷ steps) are = owned_now terms h now steps are.2 ∙ ap (λ (x : List Entry). run terms.day x (turns_of steps)) are.0
owned_now terms seen now (metered h m ∷ steps) are = owned_now terms h now steps are.2 ∙ ap (λ (x : List Entry). run terms.day x (turns_of steps)) are.0

owned_at : (terms : DeskTerms) (seen now : List Entry) (front back : List Step) (one : Step) → AreSteps alone terms seen (front ++ one ∷ back) now → history_at one ≡ run terms.day seen (turns_of front)
owned_at terms seen now [] back one are = are.0
owned_at terms seen now (took c ∷ front) back one are =
    owned_at terms (history_behind terms.day (took c)) now front back one are.2 ∙ ap (λ (h : List Entry). run terms.day (history_behind terms.day (took (record c { at = h }))) (turns_of front)) are.0
owned_at terms seen now (looked h ∷ front) back one are = owned_at terms h now front back one are.2 ∙ ap (λ (x : List Entry). run terms.day x (turns_of front)) are.0
owned_at terms seen now (metered h m ∷ front) back one are = owned_at terms h now front back one are.2 ∙ ap (λ (x : List Entry). run terms.day x (turns_of front)) are.0

pub owned_run : OwnedRun
owned_run terms seen now front back one are = (owned_at terms seen now front back one are, owned_now terms seen now (front ++ one ∷ back) are)

-- what a call leaves is legal
pub legal_behind : (way : Way) (terms : DeskTerms) (seen now : List Entry) (c : Called) → AreSteps way terms seen (took c ∷ []) now → IsLegal terms.day (left_by terms.day c)
legal_behind way terms seen now c are =
    let P : Turn → Type 0 = λ t. IsCall (length terms.day.budgets) t.call in
    run_legal terms.day c.at (turn_of c ∷ []) are.1.legal (All-cons P (turn_of c) [] are.1.taken (All-nil P))
