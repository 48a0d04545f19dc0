-- Notices that are taken one by one, or together.
use Rattle.std.proofs.Common.{◌≡◌, ℕ, zero, suc, ◌+◌, ◌<◌, ◌≤◌, List, [], ◌∷◌, ◌++◌, map, length, take, Option, Some, None, IfSome, slice_get, refl, sym, ap, ◌∙◌, subst, arith, add-one}
use Rattle.std.proofs.lemmas.List.{take_all}
use Rattle.day_rules.specs.Laws.{Arrival, after_arrival}
use Rattle.day_rules.specs.declared.answer.Answer.{Answer}
use Rattle.day_rules.specs.declared.entry.Entry.{Entry}
use Rattle.day_machine.specs.Batches.{AreApart, BatchState, answers_in_turn}
use Rattle.day_machine.specs.declared.batch.TheConstants.{BATCH_LIMIT}
use Rattle.adx_desk.specs.DayDesks.{IsNoticed, RanTogether, Takes, fault_of_disk}
use Rattle.adx_desk.specs.Steps.{Step, took}
use Rattle.adx_desk.specs.Together.{AreNoticed, TakesNotices, call_by, noticed, took_in_turn}

-- one notice more
call_at : (calls : List Arrival) (i : ℕ) (x : Arrival) → Some x ≡ slice_get calls i → take i calls ++ x ∷ [] ≡ take (suc i) calls
call_at [] i x is = absurd (cc is)
call_at (y ∷ calls) zero x is = let same : x ≡ y = cc is in ap (λ (z : Arrival). z ∷ []) same
call_at (y ∷ calls) (suc i) x is = ap (λ (l : List Arrival). y ∷ l) (call_at calls i x is)

-- there is a notice at each place
pub no_call : (calls : List Arrival) (i : ℕ) → None ≡ slice_get calls i → i < length calls → ⊥
no_call [] i is within = omega (arith, within)
no_call (y ∷ calls) zero is within = cc is
no_call (y ∷ calls) (suc i) is within = no_call calls i is (omega (arith, within))

answers_long : (history : List Entry) (xs : List Arrival) → length (answers_in_turn history xs) ≡ length xs
answers_long history [] = refl
answers_long history (x ∷ xs) = ap suc (answers_long (after_arrival history x) xs)

-- what is taken of a batch that ran
batch_answers : (old new : BatchState) (history : List Entry) (items : List (Option Answer)) → new ≡ record old { answers = Some (answers_in_turn history old.calls) }
    → IfSome new.answers (λ (l : List Answer). length l ≡ length new.calls → items ≡ map Some l) → items ≡ map Some (answers_in_turn history old.calls)
batch_answers old new history items is taken =
    let ran : BatchState = record old { answers = Some (answers_in_turn history old.calls) } in
    let whole : length (answers_in_turn history old.calls) ≡ length old.calls → items ≡ map Some (answers_in_turn history old.calls) =
    subst (λ (b : BatchState). IfSome b.answers (λ (l : List Answer). length l ≡ length b.calls → items ≡ map Some l)) is taken in
    whole (answers_long history old.calls)

-- notices that were all done
pub in_turn : (history : List Entry) (calls : List Arrival) → AreNoticed calls (map Some (answers_in_turn history calls)) (took_in_turn history calls)
in_turn history [] = refl
in_turn history (x ∷ calls) = (history, took_in_turn (after_arrival history x) calls, refl, refl, in_turn (after_arrival history x) calls)

-- one notice after others
noticed_more : (done : List Arrival) (x : Arrival) (outcomes : List (Option Answer)) (o : Option Answer) (first rest : List Step) → AreNoticed done outcomes first → AreNoticed (x ∷ []) (o ∷ []) rest
    → AreNoticed (done ++ x ∷ []) (outcomes ++ o ∷ []) (first ++ rest)
noticed_more [] x [] o first rest are one = subst (λ (l : List Step). AreNoticed (x ∷ []) (o ∷ []) (l ++ rest)) (sym are) one
noticed_more [] x (p ∷ outcomes) o first rest are one = absurd are
noticed_more (y ∷ done) x [] o first rest are one = absurd are
noticed_more (y ∷ done) x (p ∷ outcomes) o first rest are one =
    (are.0, are.1 ++ rest, ap (λ (l : List Step). l ++ rest) are.2, are.3, noticed_more done x outcomes o are.1 rest are.4 one)

module _ {Y : Type 0} (runs : Y → Y → List Step → Type 0) where
  pub takes_none : (d : Y) (outcomes : List (Option Answer)) → runs d d [] → outcomes ≡ [] → TakesNotices runs d d [] outcomes
  takes_none d outcomes ran none = record { steps = []; are = subst (λ (l : List (Option Answer)). AreNoticed [] l []) (sym none) refl; ran = ran }

  pub takes_done : (old new : Y) (x : Arrival) (answer : Answer) → IsNoticed runs old new x answer → TakesNotices runs old new (x ∷ []) (Some answer ∷ [])
  takes_done old new x answer n = record { steps = took (noticed n.0 x (Some answer)) ∷ []; are = (n.0, [], refl, n.2, refl); ran = n.1 }

  pub takes_given_up : (old new : Y) (x : Arrival) → Takes runs old new (call_by x) fault_of_disk (λ _. Unit {0}) → TakesNotices runs old new (x ∷ []) (None ∷ [])
  takes_given_up old new x n = record { steps = took (noticed n.0 x None) ∷ []; are = (n.0, [], refl, tt, refl); ran = n.1 }

  pub takes_together : (old new : Y) (batch batch_now : BatchState) (items : List (Option Answer)) → RanTogether runs old new batch batch_now
      → IfSome batch_now.answers (λ (l : List Answer). length l ≡ length batch_now.calls → items ≡ map Some l) → TakesNotices runs old new batch.calls items
  takes_together old new batch batch_now items ran taken =
      subst (λ (l : List (Option Answer)). TakesNotices runs old new batch.calls l) (sym (batch_answers batch batch_now ran.0 items ran.2 taken))
      (record { steps = took_in_turn ran.0 batch.calls; are = in_turn ran.0 batch.calls; ran = ran.1 })

  -- after a batch that was given up
  pub takes_behind : (lost : Y → Y → List Arrival → Type 0)
      → ((a b c : Y) (notices : List Arrival) (outcomes : List (Option Answer)) (steps : List Step) → length notices ≤ BATCH_LIMIT → AreApart notices → lost a b notices → AreNoticed notices outcomes steps → runs b c steps → runs a c steps)
      → (old mid new : Y) (notices : List Arrival) (outcomes : List (Option Answer)) → length notices ≤ BATCH_LIMIT → AreApart notices → lost old mid notices → TakesNotices runs mid new notices outcomes → TakesNotices runs old new notices outcomes
  takes_behind lost retried old mid new notices outcomes few apart gave_up takes =
      record { steps = takes.steps; are = takes.are; ran = retried old mid new notices outcomes takes.steps few apart gave_up takes.are takes.ran }

  module _ (join : (a b c : Y) (first rest : List Step) → runs a b first → runs b c rest → runs a c (first ++ rest)) where
    takes_more : (old mid new : Y) (done : List Arrival) (x : Arrival) (outcomes : List (Option Answer)) (o : Option Answer) → TakesNotices runs old mid done outcomes → TakesNotices runs mid new (x ∷ []) (o ∷ [])
        → TakesNotices runs old new (done ++ x ∷ []) (outcomes ++ o ∷ [])
    takes_more old mid new done x outcomes o first one = record {
      steps = first.steps ++ one.steps;
      are = noticed_more done x outcomes o first.steps one.steps first.are one.are;
      ran = join old mid new first.steps one.steps first.ran one.ran;
    }

    -- one notice more was taken
    pub more_done : (old mid new : Y) (calls : List Arrival) (i : ℕ) (x : Arrival) (outcomes : List (Option Answer)) (o : Option Answer) → Some x ≡ slice_get calls i
        → TakesNotices runs old mid (take i calls) outcomes → TakesNotices runs mid new (x ∷ []) (o ∷ []) → TakesNotices runs old new (take (i + 1) calls) (outcomes ++ o ∷ [])
    more_done old mid new calls i x outcomes o is first one =
        subst (λ (l : List Arrival). TakesNotices runs old new l (outcomes ++ o ∷ [])) (call_at calls i x is ∙ ap (λ (n : ℕ). take n calls) (sym (add-one i)))
        (takes_more old mid new (take i calls) x outcomes o first one)

  pub all_done : (old new : Y) (calls : List Arrival) (i : ℕ) (outcomes : List (Option Answer)) → length calls ≤ i → TakesNotices runs old new (take i calls) outcomes → TakesNotices runs old new calls outcomes
  all_done old new calls i outcomes whole takes = subst (λ (l : List Arrival). TakesNotices runs old new l outcomes) (take_all i calls whole) takes
