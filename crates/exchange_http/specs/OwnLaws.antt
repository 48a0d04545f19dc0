-- Laws of the steps on a desk that nobody else calls. Private: only an impl cites this file.
use Rattle.std.proofs.Common.{◌≡◌, ℕ, ◌≤◌, List, [], ◌∷◌, ◌++◌, length, Option, Some, None, refl, sym, ap, ◌∙◌, subst, append_assoc, arith}
use Rattle.adx_desk.specs.Desks.{OnDisk}
use Rattle.adx_desk.specs.Histories.{DeskTerms}
use Rattle.day_journal.specs.declared.disk.Disk.{Ghosts}
use Rattle.day_rules.specs.declared.answer.Answer.{Answer}
use Rattle.day_rules.specs.declared.entry.Entry.{Entry}
use Rattle.day_rules.specs.Laws.{Arrival}
use Rattle.day_rules.specs.Legal.{IsLegal}
use Rattle.adx_desk.specs.Steps.{AreSteps, Step, alone, looked, metered, took}
use Rattle.adx_desk.specs.Together.{AreNoticed, noticed}
use Rattle.adx_desk.proofs.Chains.{from_earlier, alone_on, steps_join}
use Rattle.day_machine.specs.Batches.{AreApart}
use Rattle.day_machine.specs.declared.batch.TheConstants.{BATCH_LIMIT}
use Rattle.exchange_http.specs.Owned.{OwnLost, OwnRuns}
use Rattle.adx_desk.specs.Records.{RunsOn}
use Rattle.adx_desk.specs.Told.{told_all, told_as, told_by, told_of}
use Rattle.adx_desk.proofs.RunsCalls.{runs_legal, runs_none}
use Rattle.adx_desk.proofs.RunsJoined.{runs_join}
use Rattle.adx_desk.proofs.RunsTogether.{batch_given_up}
use Rattle.adx_desk.specs.Meanings.{Told}

-- the calls of steps after steps
told_append : (first rest : List Step) → told_of (first ++ rest) ≡ told_of first ++ told_of rest
told_append [] rest = refl
told_append (took c ∷ first) rest =
    ap (λ (l : List Told). told_as c c.ended ++ l) (told_append first rest)
    ∙ sym (append_assoc (told_as c c.ended) (told_of first) (told_of rest))
told_append (looked h ∷ first) rest = told_append first rest
told_append (metered h m ∷ first) rest = told_append first rest

-- and of notices with their outcomes
told_noticed : (at : List Entry) (x : Arrival) (o : Option Answer) (rest : List Step)
    → told_of (took (noticed at x o) ∷ rest) ≡ told_by x o ∷ told_of rest
told_noticed at x None rest = refl
told_noticed at x (Some answer) rest = refl

pub told_notices : (notices : List Arrival) (outcomes : List (Option Answer)) (steps : List Step)
    → AreNoticed notices outcomes steps → told_of steps ≡ told_all notices outcomes
told_notices [] [] steps are = ap told_of are
told_notices [] (o ∷ outcomes) steps are = absurd are
told_notices (x ∷ notices) [] steps are = absurd are
told_notices (x ∷ notices) (o ∷ outcomes) steps are =
    ap told_of are.2 ∙ told_noticed are.0 x o are.1 ∙ ap (λ (l : List Told). told_by x o ∷ l) (told_notices notices outcomes are.1 are.4)

as_many : (notices : List Arrival) (outcomes : List (Option Answer)) (steps : List Step)
    → AreNoticed notices outcomes steps → length outcomes ≡ length notices
as_many [] [] steps are = refl
as_many [] (o ∷ outcomes) steps are = absurd are
as_many (x ∷ notices) [] steps are = absurd are
as_many (x ∷ notices) (o ∷ outcomes) steps are = let rest = as_many notices outcomes are.1 are.4 in omega (arith, rest)

module _ {D : Type 0} (d : Ghosts D) where
  abbrev On : OnDisk D → OnDisk D → List Told → Type 0
  On = RunsOn d.faults d.may_leave d.moment d.left_since

  pub own_none : (old : OnDisk D)
      → ((c : List ℕ) → d.left_since old.disk (d.moment old.disk) c → d.may_leave old.disk c) → d.lasts old.disk old.disk
      → OwnRuns d old old []
  own_none old only_now lasts =
      record { along = refl; terms = refl; on_disk = λ legal. runs_none d.faults d.may_leave d.moment d.left_since old legal only_now; lasts = lasts }

  -- a legal history stays so
  legal_behind : (old mid : OnDisk D) (steps : List Step) → OwnRuns d old mid steps
      → IsLegal old.desk.terms.day old.desk.history → IsLegal mid.desk.terms.day mid.desk.history
  legal_behind old mid steps ran legal = runs_legal d.faults d.may_leave d.moment d.left_since old mid (told_of steps) (ran.on_disk legal)

  pub own_join : (lasts_on : (a b c : D) → d.lasts a b → d.lasts b c → d.lasts a c) (old mid new : OnDisk D)
      (first rest : List Step) → OwnRuns d old mid first → OwnRuns d mid new rest → OwnRuns d old new (first ++ rest)
  own_join lasts_on old mid new first rest a b = record {
    along = steps_join alone alone_on old.desk.terms old.desk.history mid.desk.history new.desk.history first rest a.along
        (subst (λ (t : DeskTerms). AreSteps alone t mid.desk.history rest new.desk.history) a.terms b.along);
    terms = b.terms ∙ a.terms;
    on_disk = λ legal.
        subst (On old new) (sym (told_append first rest))
        (runs_join d.faults d.may_leave d.moment d.left_since old mid new (told_of first) (told_of rest)
        (a.on_disk legal) (b.on_disk (legal_behind old mid first a legal)));
    lasts = lasts_on old.disk mid.disk new.disk a.lasts b.lasts;
  }

  pub own_retried : (lasts_on : (a b c : D) → d.lasts a b → d.lasts b c → d.lasts a c) (old mid new : OnDisk D)
      (notices : List Arrival) (outcomes : List (Option Answer)) (steps : List Step) → length notices ≤ BATCH_LIMIT
      → AreApart notices
      → OwnLost d old mid notices → AreNoticed notices outcomes steps → OwnRuns d mid new steps → OwnRuns d old new steps
  own_retried lasts_on old mid new notices outcomes steps few apart lost are ran = record {
    along = from_earlier alone alone_on old.desk.terms old.desk.history mid.desk.history new.desk.history steps same
        (subst (λ (t : DeskTerms). AreSteps alone t mid.desk.history steps new.desk.history) lost.serves.terms ran.along);
    terms = ran.terms ∙ lost.serves.terms;
    on_disk = λ legal.
        subst (On old new) (sym (told_notices notices outcomes steps are))
        (batch_given_up d.faults d.may_leave d.moment d.left_since old mid new notices outcomes few apart
        (as_many notices outcomes steps are) lost.unmoved lost.serves lost.fails
        (subst (On mid new) (told_notices notices outcomes steps are)
        (ran.on_disk (subst (λ (x : DeskTerms × List Entry). IsLegal x.0.day x.1) (λ i. (sym lost.serves.terms i, sym same i)) legal))));
    lasts = lasts_on old.disk mid.disk new.disk lost.lasts ran.lasts;
  }
    where
      same : mid.desk.history ≡ old.desk.history
      same = lost.serves.same
