-- What a turn at the turnstile makes of a pass, as a call of the desk tells it.
use Rattle.std.proofs.Common.{◌≡◌, ℕ, List, [], ◌∷◌, ◌++◌, Option, Some, None, refl, sym, ◌∙◌, ap, subst, length, append-nil}
use Rattle.std.specs.Prelude.{IsSome, IsSomeAnd, IfErr, IfOk, OnErr, OnOk, Result, Ok, Err, ⊤}
use Rattle.day_machine.specs.Batches.{BatchState}
use Rattle.shared_desk.specs.declared.batching.RanTogether.{RanTogether}
use Rattle.day_rules.specs.declared.answer.Answer.{Answer}
use Rattle.day_rules.specs.declared.entry.Entry.{Entry}
use Rattle.day_rules.specs.declared.ask.Ask.{Ask}
use Rattle.day_rules.specs.DayState.{IsDay}
use Rattle.day_rules.specs.Replies.{with_entry}
use Rattle.adx_desk.specs.Asked.{ask_for}
use Rattle.adx_desk.specs.declared.done.Done.{Done}
use Rattle.adx_desk.specs.declared.fault.DeskFault.{DeskFault}
use Rattle.adx_desk.specs.declared.shared.OpenedWith.{OpenedWith}
use Rattle.adx_desk.specs.declared.turn.Call.{Call}
use Rattle.adx_desk.specs.declared.turn.Turn.{Turn}
use Rattle.adx_desk.specs.Shared.{IsTurnAt, terms_in}
use Rattle.turnstile.specs.Turns.{AreRight, HasRisen, added_by, one_or_none, placed}
use Rattle.turnstile.specs.Passes.{IsTurn, PassView}
use Rattle.shared_desk.specs.declared.ran.Ran.{Ran}
use Rattle.shared_desk.specs.Callers.{AnswersBatch, FailsBatch, Passed, answer_in, entry_of, raised_by, turn_at, turns_in_turn}
use Rattle.shared_desk.specs.Jobs.{EndsBatch, RanAt, RanTogetherAt, fault_in, raised_together, raised_where_ran, turn_of, turn_where_ran, turns_by, turns_together}

abbrev some_or : {A : Type 0} → A → Option A → A
some_or d None = d
some_or d (Some x) = x

pub some_same : {A : Type 0} (x y : A) → Some x ≡ Some y → x ≡ y
some_same x y e = ap (some_or x) e

behind : (before : List Entry) (entry : Option Entry) → with_entry before entry ≡ before ++ (one_or_none entry_of entry ++ [])
behind before None = sym (append-nil before)
behind before (Some e) = refl

pub some_there : {A : Type 0} (P : A → Type 0) (o : Option A) → IsSomeAnd o P → IsSome o
some_there P None h = absurd h
some_there P (Some x) h = refl

module _ {J : Type 0} (ran : J → OpenedWith → List Entry → J → Type 0) (notes : J → List Turn) (risen : J → ℕ) (j k : J) (p q : PassView Entry OpenedWith Turn) (opened : OpenedWith) where
  -- the job ran on what the desk was opened with
  pub ran_on_opened : p.fixed ≡ Some opened → (t : IsTurn entry_of ran notes risen j k p q) → ran j opened t.before k
  ran_on_opened is t = subst (λ (f : OpenedWith). ran j f t.before k) (some_same t.fixed opened (sym t.fixed_is ∙ is)) t.ran_on

  pub passed_turn : (t : IsTurn entry_of ran notes risen j k p q) (ts : List Turn) (n : ℕ) → notes k ≡ ts → risen k ≡ n
      → AreRight entry_of (IsTurnAt (terms_in opened)) t.before ts → IsDay (terms_in opened).day q.seen → Passed opened t.before ts n p q
  passed_turn t ts n these raised right legal = record {
    answered = record {
      begins = t.begins;
      no_shorter = t.no_shorter;
      right = right;
      seen = subst (λ (l : List Turn). q.seen ≡ t.before ++ added_by entry_of l) these t.seen;
      legal = legal;
      known = t.known;
      no_fewer = t.no_fewer;
      counted = subst (λ (m : ℕ). HasRisen m p.faults q.faults) raised t.counted;
    };
    turns_are = subst (λ (l : List Turn). q.turns ≡ p.turns ++ placed entry_of (length t.before) l) these t.turns;
    same = t.same;
  }

  -- the turn of one call
  pub passed_call : {D : Type 0} (call : Call) (found : Option (Ran D)) (t : IsTurn entry_of ran notes risen j k p q) → notes k ≡ turn_where_ran call found → risen k ≡ raised_where_ran found
      → (at : RanAt opened t.before call found) → IsDay (terms_in opened).day q.seen → Passed opened t.before (turn_at (terms_in opened) t.before call at.ran.ended ∷ []) (raised_by at.ran.ended) p q
  passed_call {D} call found t these raised at legal =
      let same : turn_of call at.ran ≡ turn_at (terms_in opened) t.before call at.ran.ended = λ i. turn_at (at.terms i) (at.history i) call at.ran.ended in
      passed_turn t (turn_at (terms_in opened) t.before call at.ran.ended ∷ []) (raised_by at.ran.ended)
      (these ∙ ap (turn_where_ran call) at.is ∙ ap (λ (x : Turn). x ∷ []) same)
      (raised ∙ ap raised_where_ran at.is)
      (subst (λ (x : Turn). IsTurnAt (terms_in opened) t.before x) same at.right, record {})
      legal

  -- the turns of a batch
  pub passed_batch : {D : Type 0} (found : Option (RanTogether D)) (t : IsTurn entry_of ran notes risen j k p q) (old new : BatchState) → notes k ≡ turns_together new.calls found → risen k ≡ raised_together found
      → (at : RanTogetherAt opened t.before old new found) → IsDay (terms_in opened).day q.seen → (ended : Result ⊤ DeskFault) → at.ran.ended ≡ ended
      → OnOk ended (AnswersBatch opened old new p q) × OnErr ended (FailsBatch opened p q) × OnErr ended (new ≡ old) × IfErr ended (λ fault. fault ≡ DeskFault.DiskFault)
  passed_batch {D} found t old new these raised at legal (Ok done) e =
      let ends : EndsBatch t.before old new (Ok done) = subst (λ (r : Result ⊤ DeskFault). EndsBatch t.before old new r) e at.ends in (
        (
          t.before,
          passed_turn t (turns_in_turn (terms_in opened) t.before old.calls) 0
              (these ∙ ap (turns_together new.calls) at.is ∙ (λ i. turns_by (at.history i) (at.terms i) (ends.answers i).calls (e i)))
              (raised ∙ ap raised_together at.is ∙ ap fault_in e)
              (subst (λ (r : Result ⊤ DeskFault). AreRight entry_of (IsTurnAt (terms_in opened)) t.before (turns_by t.before (terms_in opened) old.calls r)) e at.right)
              legal,
          ends.answers,
        ),
        record {},
        record {},
        record {},
      )
  passed_batch {D} found t old new these raised at legal (Err fault) e =
      let ends : EndsBatch t.before old new (Err fault) = subst (λ (r : Result ⊤ DeskFault). EndsBatch t.before old new r) e at.ends in (
        record {},
        (
          t.before,
          passed_turn t [] 1
              (these ∙ ap (turns_together new.calls) at.is ∙ (λ i. turns_by (at.history i) (at.terms i) (ends.waits i).calls (e i)))
              (raised ∙ ap raised_together at.is ∙ ap fault_in e)
              (record {})
              legal,
        ),
        ends.waits,
        ends.cause,
      )

  -- the copy of a done ask is that of the ask that stands in what is seen then
  pub asked_there : {D : Type 0} (t : IsTurn entry_of ran notes risen j k p q) (wanted : Ask) (found : Option (Ran D)) (call : Call) → notes k ≡ turn_where_ran call found
      → (at : RanAt opened t.before call found) (copy : Option Ask) → IfOk at.ran.ended (λ answer. copy ≡ ask_for (with_entry t.before (turn_of call at.ran).entry) answer)
      → (result : Result Done DeskFault) → at.ran.ended ≡ answer_in result → IfOk result (λ d. d.ask ≡ copy) → IfOk result (λ d. d.ask ≡ ask_for q.seen d.answer)
  asked_there {D} t wanted found call these at copy is (Ok d) e same =
      let seen : q.seen ≡ with_entry t.before (turn_of call at.ran).entry = t.seen ∙ ap (λ (l : List Turn). t.before ++ added_by entry_of l) (these ∙ ap (turn_where_ran call) at.is) ∙ sym (behind t.before (turn_of call at.ran).entry) in
      same ∙ subst (λ (r : Result Answer DeskFault). IfOk r (λ answer. copy ≡ ask_for (with_entry t.before (turn_of call at.ran).entry) answer)) e is ∙ ap (λ (h : List Entry). ask_for h d.answer) (sym seen)
  asked_there {D} t wanted found call these at copy is (Err fault) e same = record {}
