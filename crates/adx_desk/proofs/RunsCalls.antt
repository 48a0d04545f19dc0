-- No call of a desk, and one call, are runs.
use Rattle.std.proofs.Common.{◌≡◌, ◌≢◌, ⊎_elim, inl, inr, ℕ, zero, List, [], ◌∷◌, ◌++◌, length, Option, Some, None, refl, sym, ap, ◌∙◌, subst, append-nil, if◌then◌else◌}
use Rattle.std.proofs.lemmas.List.Elements.{All-nil, All-cons}
use Rattle.adx_io.specs.Streams.{Rises}
use Rattle.adx_desk.specs.Desks.{OnDisk}
use Rattle.day_machine.specs.Batches.{added_by}
use Rattle.adx_desk.specs.Histories.{DeskTerms, WithAtMostOne, WithOrWithout}
use Rattle.adx_desk.proofs.Keeping.{keeps_histories}
use Rattle.answer_lines.specs.declared.faults.Fault.{Fault}
use Rattle.day_journal.proofs.Moments.{started, weaker}
use Rattle.day_rules.specs.declared.entry.Entry.{Entry}
use Rattle.day_rules.specs.Legal.{IsLegal}
use Rattle.day_rules.specs.Replies.{reply, with_entry}
use Rattle.day_rules.specs.Runs.{IsCall, Turn, after_turn, is_done}
use Rattle.day_rules.specs.Terms.{Terms}
use Rattle.day_rules.proofs.Running.{run_legal}
use Rattle.adx_desk.specs.Answering.{MayBeLeft, ServesCall, faults_after}
use Rattle.day_rules.specs.RunBooks.{HasBooks}
use Rattle.adx_desk.specs.Meanings.{Told, outcome_by, turn_of, turns_of}
use Rattle.adx_desk.specs.OnDisk.{CountsOne, FullEach, FullOnly, history_after, record_of}
use Rattle.day_rules.proofs.RunBooks.{run_books}
use Rattle.adx_desk.proofs.DeskRuns.{split_more}
use Rattle.adx_desk.specs.Records.{IsLeftInDoubt, IsRecordOfRun, MayBeLeftBy, RunsOn, StandsInRunFrom, count_after}
use Rattle.adx_desk.proofs.RunsCounts.{counted_some}
use Rattle.adx_desk.proofs.RunsRecords.{if_any, record_along}

-- no list has a place in an empty one
pub no_place : {X : Type 0} (front : List X) (one : X) (back : List X) → [] ≡ front ++ one ∷ back → ⊥
no_place [] one back is = cc is
no_place (a ∷ front) one back is = cc is

-- a file that represents the history, or it and what is in doubt, is within no call
stands_still : (terms : DeskTerms) (start tail : List Entry) (file : List ℕ) → WithOrWithout terms start tail file → StandsInRunFrom terms start tail [] file
stands_still terms start tail file stands = record { front = []; back = []; split = refl; more = tail; is = inr (inl (refl, refl)); stands = stands }

-- one that represents it alone, with what was in doubt, or with a record of the run
pub stands_first : (terms : DeskTerms) (start tail : List Entry) (told : List Told) (entries : List Entry) (file : List ℕ) → IsRecordOfRun terms.day start told start entries → WithAtMostOne terms start tail entries file → StandsInRunFrom terms start tail told file
stands_first terms start tail told entries file r (inl alone) = record { front = []; back = told; split = refl; more = []; is = inl refl; stands = inl alone }
stands_first terms start tail told entries file r (inr (inl with_tail)) = record { front = []; back = told; split = refl; more = tail; is = inr (inl (refl, refl)); stands = inr with_tail }
stands_first terms start tail told entries file r (inr (inr with_new)) = record { front = []; back = told; split = refl; more = entries; is = inr (inr r); stands = inr with_new }

-- the counts of one call
same_after : (fault : Option Fault) (n : ℕ) → faults_after fault n ≡ count_after fault n
same_after None n = refl
same_after (Some Fault.Disk) n = refl
same_after (Some (Fault.JournalFull size)) n = refl

call_passed : (fault : Option Fault) (before now a b : ℕ) → CountsOne a fault b → now ≡ faults_after fault before → now ≡ 0 → b ≡ a
call_passed None before now a b one is none = one
call_passed (Some Fault.Disk) before now a b one is none = absurd (counted_some before (sym is ∙ none))
call_passed (Some (Fault.JournalFull size)) before now a b one is none = one

call_risen : (fault : Option Fault) (before now a b : ℕ) → CountsOne a fault b → now ≡ faults_after fault before → now ≢ before → Rises a b
call_risen None before now a b one is other = absurd (other is)
call_risen (Some Fault.Disk) before now a b one is other = one.1
call_risen (Some (Fault.JournalFull size)) before now a b one is other = absurd (other is)

-- one call is answered that the journal is full only where it may be
full_one : (terms : DeskTerms) (start : List Entry) (t : Told) → FullOnly terms start (reply terms.day start t.call).entry t.fault → FullEach terms start (t ∷ [])
full_one terms start t full front one back split =
    ⊎_elim (λ last. subst (λ (p : List Told × Told). FullOnly terms (history_after terms.day start p.0) (reply terms.day (history_after terms.day start p.0) p.1.call).entry p.1.fault) (λ i. (sym last.0 i, sym last.1 i)) full)
    (λ among. absurd (no_place front one among.0 among.1))
    (split_more [] t front one back split)

-- a call without an entry, and one that was given up, leave the history
same_done : (terms : Terms) (start : List Entry) (t : Told) → t.fault ≡ None → (reply terms start t.call).entry ≡ None → after_turn terms start (turn_of t) ≡ start
same_done terms start t done none =
    ap (λ (f : Option Fault). with_entry start (if is_done (outcome_by f) then (reply terms start t.call).entry else None)) done
    ∙ ap (with_entry start) none

same_given_up : (terms : Terms) (start : List Entry) (t : Told) (f : Fault) → t.fault ≡ Some f → after_turn terms start (turn_of t) ≡ start
same_given_up terms start t f is = ap (λ (x : Option Fault). with_entry start (if is_done (outcome_by x) then (reply terms start t.call).entry else None)) is

-- the record of one call is one of its run
pub record_of_one : (terms : Terms) (start : List Entry) (t : Told) → IsRecordOfRun terms start (t ∷ []) start (record_of terms start t.call)
record_of_one terms start t = record {
  front = [];
  group = t ∷ [];
  back = [];
  split = refl;
  share = inl (t.call, refl);
  at = refl;
  is = sym (append-nil (record_of terms start t.call));
}

-- what may be in doubt after a call
left_done : (terms : Terms) (start : List Entry) (t : Told) (tail next : List Entry) (entry : Option Entry) → t.fault ≡ None → (reply terms start t.call).entry ≡ entry → MayBeLeft None (added_by entry) tail next → MayBeLeftBy terms start (t ∷ []) tail next
left_done terms start t tail next None done is left = inr (inl (left, same_done terms start t done is))
left_done terms start t tail next (Some e) done is left = inl left

-- the record of a call that the disk's fault gave up
doubt_of_one : (terms : Terms) (start : List Entry) (t : Told) → t.fault ≡ Some Fault.Disk → IsLeftInDoubt terms start (t ∷ []) (record_of terms start t.call)
unfolding record_of_one
doubt_of_one terms start t is =
    let now = after_turn terms start (turn_of t) in record {
      record_is = record_along terms start (t ∷ []) start now (record_of terms start t.call) (same_given_up terms start t Fault.Disk is) (record_of_one terms start t);
      by_disk = (if_any (t.fault ≡ Some Fault.Disk) (reply terms now t.call).entry is, tt);
    }

left_by : (terms : Terms) (start : List Entry) (t : Told) (tail next : List Entry) (fault : Option Fault) → t.fault ≡ fault → MayBeLeft fault (record_of terms start t.call) tail next → MayBeLeftBy terms start (t ∷ []) tail next
left_by terms start t tail next None is left = left_done terms start t tail next (reply terms start t.call).entry is refl left
left_by terms start t tail next (Some Fault.Disk) is (inl left) = inr (inl (left, same_given_up terms start t Fault.Disk is))
left_by terms start t tail next (Some Fault.Disk) is (inr left) =
    inr (inr (subst (IsLeftInDoubt terms start (t ∷ [])) (sym left) (doubt_of_one terms start t is)))
left_by terms start t tail next (Some (Fault.JournalFull size)) is left = inr (inl (left, same_given_up terms start t (Fault.JournalFull size) is))

module _ {D : Type 0} (faults : D → ℕ) (may_leave : D → List ℕ → Type 0) (moment : D → ℕ) (left_since : D → ℕ → List ℕ → Type 0) where
  -- no call
  pub runs_none : (old : OnDisk D) → IsLegal old.desk.terms.day old.desk.history → ((c : List ℕ) → left_since old.disk (moment old.disk) c → may_leave old.disk c) → RunsOn faults may_leave moment left_since old old []
  runs_none old legal only_now = record {
    terms = refl;
    since = refl;
    legal = legal;
    taken = All-nil (λ (turn : Turn). IsCall (length old.desk.terms.day.budgets) turn.call);
    history = refl;
    counted = refl;
    known = refl;
    passed = λ none. refl;
    risen = λ other. absurd (other refl);
    full = λ front one back split. absurd (no_place front one back split);
    keeps = λ tail kept. (tail, inr (inl (refl, refl)), kept);
    any_moment = λ tail kept.
        started moment left_since old.disk (StandsInRunFrom old.desk.terms old.desk.history tail [])
        (λ c left. stands_still old.desk.terms old.desk.history tail c (keeps_histories (may_leave old.disk) old.desk tail kept c (only_now c left)));
  }

  -- one call
  pub runs_call : (old new : OnDisk D) (t : Told) → IsLegal old.desk.terms.day old.desk.history → new.since ≡ old.since → ServesCall faults may_leave moment left_since old new t → RunsOn faults may_leave moment left_since old new (t ∷ [])
  runs_call old new t legal since c =
      let d = old.desk.terms in
      let start = old.desk.history in record {
        terms = c.terms;
        since = since;
        legal = legal;
        taken = All-cons (λ (turn : Turn). IsCall (length d.day.budgets) turn.call) (turn_of t) [] c.taken (All-nil (λ (turn : Turn). IsCall (length d.day.budgets) turn.call));
        history = c.history;
        counted = (faults old.disk, faults new.disk, inl refl, c.counted, refl);
        known = (zero, inl refl, c.known ∙ same_after t.fault old.desk.faults);
        passed = call_passed t.fault old.desk.faults new.desk.faults (faults old.disk) (faults new.disk) c.counted c.known;
        risen = call_risen t.fault old.desk.faults new.desk.faults (faults old.disk) (faults new.disk) c.counted c.known;
        full = full_one d start t c.full;
        keeps = λ tail kept.
            let left = c.keeps tail kept in
            (left.0, left_by d.day start t tail left.0 t.fault refl left.1, left.2);
        any_moment = λ tail kept.
            weaker moment left_since old.disk new.disk
            (WithAtMostOne d start tail (record_of d.day start t.call))
            (StandsInRunFrom d start tail (t ∷ []))
            (c.any_moment tail kept)
            (λ file at. stands_first d start tail (t ∷ []) (record_of d.day start t.call) file (record_of_one d.day start t) at);
      }

  -- the history after a run is legal, and its books are those of the calls
  pub runs_legal : (old new : OnDisk D) (told : List Told) → RunsOn faults may_leave moment left_since old new told → IsLegal new.desk.terms.day new.desk.history
  runs_legal old new told runs =
      subst (λ (x : DeskTerms × List Entry). IsLegal x.0.day x.1) (λ i. (sym runs.terms i, sym runs.history i))
      (run_legal old.desk.terms.day old.desk.history (turns_of told) runs.legal runs.taken)

  pub runs_books : (old new : OnDisk D) (told : List Told) → RunsOn faults may_leave moment left_since old new told → HasBooks old.desk.terms.day old.desk.history (turns_of told) new.desk.history
  runs_books old new told runs = run_books old.desk.terms.day old.desk.history (turns_of told) new.desk.history runs.legal runs.taken runs.history
