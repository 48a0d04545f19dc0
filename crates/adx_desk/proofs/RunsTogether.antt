-- Notices that a desk answered together, or that the disk's fault made it answer one by one, are a run.
use Rattle.std.proofs.Common.{◌≡◌, ◌⊎◌, inl, inr, ℕ, zero, suc, ◌<◌, ◌≤◌, List, [], ◌∷◌, ◌++◌, map, length, Option, Some, None, Ok, Err, refl, sym, ap, ◌∙◌, subst, arith, append-nil}
use Rattle.day_journal.specs.Disks.{LeavesOnly}
use Rattle.adx_io.specs.Fakes.{counted}
use Rattle.day_machine.specs.Batches.{AreApart, answers_in_turn, entries_in_turn}
use Rattle.adx_desk.specs.Desks.{DeskKeeps, OnDisk}
use Rattle.adx_desk.specs.Endings.{FailsDisk, NoFault}
use Rattle.adx_desk.specs.Histories.{DeskTerms, WithAtMostOne}
use Rattle.adx_desk.specs.Serving.{ServesAll}
use Rattle.day_machine.specs.declared.batch.TheConstants.{BATCH_LIMIT}
use Rattle.adx_desk.specs.declared.fault.DeskFault.{DeskFault}
use Rattle.day_machine.proofs.InTurn.{arrivals_are}
use Rattle.day_journal.proofs.Moments.{joined, weaker}
use Rattle.day_rules.specs.declared.answer.Answer.{Answer}
use Rattle.day_rules.specs.declared.entry.Entry.{Entry}
use Rattle.day_rules.specs.Laws.{Arrival, after_arrival}
use Rattle.day_rules.specs.Legal.{IsLegal}
use Rattle.day_rules.specs.Terms.{Terms}
use Rattle.adx_desk.specs.Meanings.{Told}
use Rattle.adx_desk.specs.OnDisk.{history_after}
use Rattle.adx_desk.specs.Records.{CountsAmong, IsLeftInDoubt, IsRecordOfRun, MayBeInDoubtAt, MayBeLeftBy, RaisesAmong, RunsOn, StandsInRunFrom}
use Rattle.adx_desk.specs.Told.{told_all, told_by}
use Rattle.adx_desk.proofs.RunsCalls.{stands_first}
use Rattle.adx_desk.proofs.RunsCounts.{among_later, counted_some, counts_from, raises_before, raises_none, rises_within, same_count}
use Rattle.adx_desk.proofs.RunsRecords.{record_along}
use Rattle.adx_desk.proofs.RunsOutcomes.{counts_done, doubt_of_all, full_all, history_in_turn, raises_done, record_of_all, taken_all}

-- what may be in doubt after notices that were done together: nothing where they added an entry, else what was
left_together : (terms : Terms) (start : List Entry) (told : List Told) (tail entries : List Entry) (P : List Entry → Type 0) → history_after terms start told ≡ start ++ entries → P tail → (0 < length entries → (any : List Entry) → P any)
    → (next : List Entry) × MayBeLeftBy terms start told tail next × P next
left_together terms start told tail [] P at kept fresh = (tail, inr (inl (refl, at ∙ append-nil start)), kept)
left_together terms start told tail (e ∷ entries) P at kept fresh = ([], inl refl, fresh (omega arith) [])

-- what is in doubt after calls before which their own record was
left_of_record : (terms : Terms) (start : List Entry) (told : List Told) (tail entries next : List Entry) → (history_after terms start told ≡ start → IsLeftInDoubt terms start told entries) → MayBeLeftBy terms start told entries next → MayBeLeftBy terms start told tail next
left_of_record terms start told tail entries next doubt (inl none) = inl none
left_of_record terms start told tail entries next doubt (inr (inl (same, stays))) = inr (inr (subst (IsLeftInDoubt terms start told) (sym same) (doubt stays)))
left_of_record terms start told tail entries next doubt (inr (inr d)) = inr (inr d)

-- and what a crash leaves then
one_of_record : (terms : Terms) (start : List Entry) (told : List Told) (tail entries history es : List Entry) → IsRecordOfRun terms start told start entries → MayBeInDoubtAt terms start entries told history es → MayBeInDoubtAt terms start tail told history es
one_of_record terms start told tail entries history es r (inl none) = inl none
one_of_record terms start told tail entries history es r (inr (inl (is, at))) = inr (inr (record_along terms start told start history es at (subst (IsRecordOfRun terms start told start) (sym is) r)))
one_of_record terms start told tail entries history es r (inr (inr other)) = inr (inr other)

stands_of_record : (terms : DeskTerms) (start tail entries : List Entry) (told : List Told) (file : List ℕ) → IsRecordOfRun terms.day start told start entries → StandsInRunFrom terms start entries told file → StandsInRunFrom terms start tail told file
stands_of_record terms start tail entries told file r s =
    record { front = s.front; back = s.back; split = s.split; more = s.more; is = one_of_record terms.day start told tail entries (history_after terms.day start s.front) s.more r s.is; stands = s.stands }

-- the counts of notices that are asked one by one, after a record of them that failed
counts_behind : (a m b : ℕ) (calls : List Arrival) (outcomes : List (Option Answer)) → length outcomes ≡ length calls → (calls ≡ [] → m ≡ a) → a ≤ m
    → CountsAmong m (told_all calls outcomes) b → CountsAmong a (told_all calls outcomes) b
counts_behind a m b [] outcomes long none later counts = counts ∙ none refl
counts_behind a m b (x ∷ calls) [] long none later counts = absurd (omega (arith, long))
counts_behind a m b (x ∷ calls) (None ∷ outcomes) long none later counts = counts_from a m b (told_by x None) (told_all calls outcomes) tt later counts
counts_behind a m b (x ∷ calls) (Some answer ∷ outcomes) long none later counts = counts_from a m b (told_by x (Some answer)) (told_all calls outcomes) tt later counts

raises_behind : (a m b : ℕ) (calls : List Arrival) (outcomes : List (Option Answer)) → length outcomes ≡ length calls → (calls ≡ [] → m ≡ a) → m ≡ counted a
    → RaisesAmong m (told_all calls outcomes) b → RaisesAmong a (told_all calls outcomes) b
raises_behind a m b [] outcomes long none is raises = raises ∙ none refl
raises_behind a m b (x ∷ calls) [] long none is raises = absurd (omega (arith, long))
raises_behind a m b (x ∷ calls) (None ∷ outcomes) long none is raises =
    raises_before a b (suc zero) (told_by x None) (told_all calls outcomes) tt (subst (λ (n : ℕ). RaisesAmong n (told_by x None ∷ told_all calls outcomes) b) is raises)
raises_behind a m b (x ∷ calls) (Some answer ∷ outcomes) long none is raises =
    raises_before a b (suc zero) (told_by x (Some answer)) (told_all calls outcomes) tt (subst (λ (n : ℕ). RaisesAmong n (told_by x (Some answer) ∷ told_all calls outcomes) b) is raises)

module _ {D : Type 0} (faults : D → ℕ) (may_leave : D → List ℕ → Type 0) (moment : D → ℕ) (left_since : D → ℕ → List ℕ → Type 0) where
  -- notices that the desk answered together, by the clauses of `Desk::batch`
  pub batch_done : {T : Type 0} (old new : OnDisk D) (calls : List Arrival) (done : T) → IsLegal old.desk.terms.day old.desk.history → length calls ≤ BATCH_LIMIT → AreApart calls
      → ServesAll {T = T} may_leave moment left_since old new (entries_in_turn old.desk.history calls) (Ok done) → NoFault (faults old.disk) (faults new.disk) old.desk new.desk
      → RunsOn faults may_leave moment left_since old new (told_all calls (map Some (answers_in_turn old.desk.history calls)))
  batch_done old new calls done legal few apart s none =
      let d = old.desk.terms in
      let start = old.desk.history in
      let entries = entries_in_turn start calls in
      let answers = answers_in_turn start calls in
      let told = told_all calls (map Some answers) in record {
        terms = s.terms;
        since = s.since;
        legal = legal;
        taken = taken_all (length d.day.budgets) calls (map Some answers);
        history = grown ∙ (sym (arrivals_are start calls) ∙ sym (history_in_turn d.day start calls));
        counted = subst (λ (n : ℕ). CountsAmong (faults old.disk) told n) (sym none.disk) (counts_done (faults old.disk) calls answers);
        known = subst (λ (n : ℕ). RaisesAmong old.desk.faults told n) (sym none.desk) (raises_done old.desk.faults calls answers);
        passed = λ no_fault. none.disk;
        risen = λ other. absurd (other none.desk);
        full = full_all d start calls (map Some answers);
        keeps = λ tail kept.
            left_together d.day start told tail entries (DeskKeeps (may_leave new.disk) new.desk) (history_in_turn d.day start calls ∙ arrivals_are start calls)
            (s.done tail kept) (λ some any. s.acknowledged some tail any kept);
        any_moment = λ tail kept.
            weaker moment left_since old.disk new.disk (WithAtMostOne d start tail entries) (StandsInRunFrom d start tail told)
            (s.any_moment tail kept)
            (λ file at. stands_first d start tail told entries file (record_of_all d.day start calls (map Some answers) few apart (answers_long start calls)) at);
      }
    where
      grown : new.desk.history ≡ old.desk.history ++ entries_in_turn old.desk.history calls
      grown = s.history

      answers_long : (history : List Entry) (xs : List Arrival) → length (map Some (answers_in_turn history xs)) ≡ length xs
      answers_long history [] = refl
      answers_long history (x ∷ xs) = ap suc (answers_long (after_arrival history x) xs)

  -- notices whose record the disk's fault gave up, and that were then answered one by one
  pub batch_given_up : {T : Type 0} (old mid new : OnDisk D) (calls : List Arrival) (outcomes : List (Option Answer)) → length calls ≤ BATCH_LIMIT → AreApart calls → length outcomes ≡ length calls
      → (entries_in_turn old.desk.history calls ≡ [] → mid ≡ old)
      → ServesAll {T = T} may_leave moment left_since old mid (entries_in_turn old.desk.history calls) (Err DeskFault.DiskFault) → FailsDisk (faults old.disk) (faults mid.disk) old.desk mid.desk
      → RunsOn faults may_leave moment left_since mid new (told_all calls outcomes) → RunsOn faults may_leave moment left_since old new (told_all calls outcomes)
  batch_given_up old mid new calls outcomes few apart long unmoved s fails runs =
      let d = old.desk.terms in
      let start = old.desk.history in
      let told = told_all calls outcomes in record {
        terms = runs.terms ∙ s.terms;
        since = runs.since ∙ s.since;
        legal = along (λ (x : DeskTerms) (h : List Entry). IsLegal x.day h) runs.legal;
        taken = taken_all (length d.day.budgets) calls outcomes;
        history = runs.history ∙ (λ i. history_after (s.terms i).day (same i) told);
        counted = counts_behind (faults old.disk) (faults mid.disk) (faults new.disk) calls outcomes long (λ none. ap (λ (o : OnDisk _). faults o.disk) (still none)) fails.later runs.counted;
        known = raises_behind old.desk.faults mid.desk.faults new.desk.faults calls outcomes long (λ none. ap (λ (o : OnDisk _). o.desk.faults) (still none)) fails.counted runs.known;
        passed = λ none. absurd (counted_some old.desk.faults (sym fails.counted ∙ raises_none mid.desk.faults new.desk.faults told runs.known none));
        risen = λ other.
            rises_within (faults old.disk) (faults old.disk) (faults mid.disk) (faults new.disk) (same_count (faults old.disk)) fails.later fails.risen
            (among_later (faults mid.disk) (faults new.disk) told runs.counted);
        full = full_all d start calls outcomes;
        keeps = λ tail kept. left_either tail (s.doubted tail kept);
        any_moment = λ tail kept. moments_either tail kept (s.doubted tail kept);
      }
    where
      same : mid.desk.history ≡ old.desk.history
      same = s.same

      -- where no notice waits the desk isn't touched
      still : calls ≡ [] → mid ≡ old
      still none = unmoved (ap (λ (xs : List Arrival). entries_in_turn old.desk.history xs) none)

      along : (P : DeskTerms → List Entry → Type 0) → P mid.desk.terms mid.desk.history → P old.desk.terms old.desk.history
      along P p = subst (λ (x : DeskTerms × List Entry). P x.0 x.1) (λ i. (s.terms i, same i)) p

      left_either : (tail : List Entry) → DeskKeeps (may_leave mid.disk) mid.desk tail ⊎ DeskKeeps (may_leave mid.disk) mid.desk (entries_in_turn old.desk.history calls)
          → (next : List Entry) × MayBeLeftBy old.desk.terms.day old.desk.history (told_all calls outcomes) tail next × DeskKeeps (may_leave new.disk) new.desk next
      left_either tail (inl kept) =
          let left = runs.keeps tail kept in
          (left.0, along (λ (x : DeskTerms) (h : List Entry). MayBeLeftBy x.day h (told_all calls outcomes) tail left.0) left.1, left.2)
      left_either tail (inr doubted) =
          let left = runs.keeps (entries_in_turn old.desk.history calls) doubted in (
            left.0,
            left_of_record old.desk.terms.day old.desk.history (told_all calls outcomes) tail (entries_in_turn old.desk.history calls) left.0
                (doubt_of_all old.desk.terms.day old.desk.history calls outcomes few apart long (along (λ (x : DeskTerms) (h : List Entry). IsLegal x.day h) runs.legal))
                (along (λ (x : DeskTerms) (h : List Entry). MayBeLeftBy x.day h (told_all calls outcomes) (entries_in_turn old.desk.history calls) left.0) left.1),
            left.2,
          )

      moments_by : (tail between : List Entry) → DeskKeeps (may_leave old.disk) old.desk tail → DeskKeeps (may_leave mid.disk) mid.desk between
          → ((file : List ℕ) → StandsInRunFrom old.desk.terms old.desk.history between (told_all calls outcomes) file → StandsInRunFrom old.desk.terms old.desk.history tail (told_all calls outcomes) file)
          → LeavesOnly moment left_since old.disk new.disk (StandsInRunFrom old.desk.terms old.desk.history tail (told_all calls outcomes))
      moments_by tail between kept now stays =
          joined moment left_since old.disk mid.disk new.disk
          (WithAtMostOne old.desk.terms old.desk.history tail (entries_in_turn old.desk.history calls))
          (StandsInRunFrom old.desk.terms old.desk.history between (told_all calls outcomes))
          (StandsInRunFrom old.desk.terms old.desk.history tail (told_all calls outcomes))
          (s.any_moment tail kept)
          (along (λ (x : DeskTerms) (h : List Entry). LeavesOnly moment left_since mid.disk new.disk (StandsInRunFrom x h between (told_all calls outcomes))) (runs.any_moment between now))
          (λ c was. stands_first old.desk.terms old.desk.history tail (told_all calls outcomes) (entries_in_turn old.desk.history calls) c (record_of_all old.desk.terms.day old.desk.history calls outcomes few apart long) was)
          stays

      moments_either : (tail : List Entry) → DeskKeeps (may_leave old.disk) old.desk tail → DeskKeeps (may_leave mid.disk) mid.desk tail ⊎ DeskKeeps (may_leave mid.disk) mid.desk (entries_in_turn old.desk.history calls)
          → LeavesOnly moment left_since old.disk new.disk (StandsInRunFrom old.desk.terms old.desk.history tail (told_all calls outcomes))
      moments_either tail kept (inl now) = moments_by tail tail kept now (λ c stands. stands)
      moments_either tail kept (inr now) =
          moments_by tail (entries_in_turn old.desk.history calls) kept now
          (λ c stands. stands_of_record old.desk.terms old.desk.history tail (entries_in_turn old.desk.history calls) (told_all calls outcomes) c (record_of_all old.desk.terms.day old.desk.history calls outcomes few apart long) stands)
