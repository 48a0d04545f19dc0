-- A request for bids on the desk: its tick and its ask, done or given up.
use Rattle.std.proofs.Common.{◌≡◌, inl, inr, ℕ, List, [], ◌∷◌, length, Option, Some, None, option_map, Result, Ok, Err, IfSome, OnErr, Bor, refl, sym, ap, ◌∙◌, subst}
use Rattle.adx_desk.specs.Histories.{DeskTerms}
use Rattle.adx_desk.specs.Lines.{told_as}
use Rattle.adx_desk.specs.Rosters.{desk_terms}
use Rattle.adx_desk.specs.declared.done.Done.{Done}
use Rattle.adx_desk.specs.declared.fault.DeskFault.{DeskFault}
use Rattle.adx_desk.proofs.Rosters.{as_many_budgets, roster_terms}
use Rattle.answer_lines.specs.Answers.{ask_told}
use Rattle.answer_lines.specs.declared.faults.Fault.{Fault}
use Rattle.day_rules.specs.declared.answer.Answer.{Answer}
use Rattle.day_rules.specs.declared.ask.Ask.{Ask}
use Rattle.day_rules.specs.declared.entry.Entry.{Entry}
use Rattle.day_rules.specs.Asks.{IsWellFormed}
use Rattle.day_rules.specs.Legal.{IsLegal}
use Rattle.day_rules.specs.Replies.{Call, ask, set_budget, tick, ask_reply, budget_reply, with_entry}
use Rattle.day_rules.specs.Entries.{BudgetChange}
use Rattle.day_rules.specs.Terms.{AreTerms}
use Rattle.deal_floor.specs.declared.roster.Roster.{Roster}
use Rattle.adx_desk.specs.Called.{Called, Ended, was_done, was_given_up}
use Rattle.adx_desk.specs.DayDesks.{IsAsked, IsChanged, IsDoneAt, Takes, ended_as, ended_by, fault_of_disk}
use Rattle.adx_desk.specs.Steps.{AreSteps, Step, Way, took}
use Rattle.adx_desk.proofs.Chains.{legal_behind}
use Rattle.fan_out.specs.declared.answer.BidderAnswer.{BidderAnswer}
use Rattle.rtb_request.specs.declared.bid_request.BidRequest.{BidRequest}
use Rattle.adx_desk.proofs.ToldAnswers.{change_about, same_ask}
use Rattle.exchange_messages.proofs.Numbers.{lent_fits, told_fits}
use Rattle.exchange_messages.specs.Replies.{Reply, fault_reply, tick_fault_reply}
use Rattle.exchange_messages.specs.Selling.{MayBeTold}
use Rattle.exchange_messages.specs.Turns.{AnswerReplies, CallReplies, ask_by}
use Rattle.exchange_messages.specs.Asking.{AsksAt, LeavesCall, StopsAt, TakesCall}
use Rattle.exchange_messages.proofs.Requested.{JoinsSteps}

-- an ask is formed for the desk that was opened with the roster
pub formed_here : (terms : DeskTerms) (r : Roster) (a : Ask) → terms ≡ desk_terms r → IsWellFormed (length r.campaigns) a → IsWellFormed (length terms.day.budgets) a
formed_here terms r a opened formed = subst (λ n. IsWellFormed n a) (sym (as_many_budgets terms r (length r.campaigns) opened refl)) formed

-- what holds where an error is answered, by what is known there
pub err_on : {T E : Type 0} (r : Result T E) (P Q : Type 0) → (P → Q) → OnErr r P → OnErr r Q
err_on (Ok x) P Q f h = tt
err_on (Err e) P Q f h = f h

-- the reply to an ask that was done is by the ask that the history keeps
done_replied : (r : Roster) (terms : DeskTerms) (at : List Entry) (a : Ask) (done : Done) (said : Reply) → terms ≡ desk_terms r → IsDoneAt terms.day a done at → AnswerReplies r done.answer done.ask said
    → CallReplies r (record { at = at; call = ask a; ended = was_done }) said
done_replied r terms at a done said opened is replied =
    let given = (ask_reply terms.day at a).answer in
    let next = with_entry at (ask_reply terms.day at a).entry in
    let by_history : AnswerReplies r done.answer (ask_told next done.answer) said = subst (λ (o : Option Ask). AnswerReplies r done.answer o said) (is.copy ∙ same_ask next done.answer) replied in
    let by_answer : AnswerReplies r given (ask_told next given) said = subst (λ (x : Answer). AnswerReplies r x (ask_told next x) said) is.answer by_history in
    subst (λ (t : DeskTerms). AnswerReplies r (ask_reply t.day at a).answer (ask_told (with_entry at (ask_reply t.day at a).entry) (ask_reply t.day at a).answer) said) opened by_answer

-- the reply to a change of a budget that was done
change_replied : (r : Roster) (terms : DeskTerms) (at : List Entry) (x : BudgetChange) (answer : Answer) (said : Reply) → terms ≡ desk_terms r → answer ≡ (budget_reply terms.day at x).answer
    → AnswerReplies r answer None said → CallReplies r (record { at = at; call = set_budget x; ended = was_done }) said
change_replied r terms at x answer said opened is replied =
    let given = (budget_reply terms.day at x).answer in
    let next = with_entry at (budget_reply terms.day at x).entry in
    let by_history : AnswerReplies r answer (ask_told next answer) said = subst (λ (o : Option Ask). AnswerReplies r answer o said) (change_about terms.day at next x answer is refl) replied in
    let by_answer : AnswerReplies r given (ask_told next given) said = subst (λ (y : Answer). AnswerReplies r y (ask_told next y) said) is by_history in
    subst (λ (t : DeskTerms). AnswerReplies r (budget_reply t.day at x).answer (ask_told (with_entry at (budget_reply t.day at x).entry) (budget_reply t.day at x).answer) said) opened by_answer

module _ {Y : Type 0} (runs : Y → Y → List Step → Type 0) (r : Roster) where
  -- the copy of an ask that was done may be answered
  pub done_fits : (way : Way) (seen : Y → List Entry) (terms : DeskTerms) (old new : Y) (a : Ask) (done : Done) (lent : Option (Bor Ask))
      → ((steps : List Step) → runs old new steps → AreSteps way terms (seen old) steps (seen new)) → terms ≡ desk_terms r → IsAsked terms.day runs old new a done → option_map (λ x. x.now) lent ≡ done.ask → IfSome lent (λ a. MayBeTold a.now)
  done_fits way seen terms old new a done lent along opened (at, ran, is) shown =
      let next = with_entry at (ask_reply terms.day at a).entry in
      let c : Called = record { at = at; call = ask a; ended = was_done } in
      let legal : IsLegal terms.day next = legal_behind way terms (seen old) (seen new) c (along (took c ∷ []) ran) in
      lent_fits lent
      (λ x at. told_fits terms.day next done.answer x (subst (λ (t : DeskTerms). AreTerms t.day) (sym opened) (roster_terms r)) legal (sym (is.copy ∙ same_ask next done.answer) ∙ sym shown ∙ at))

  pub ask_taken : (terms : DeskTerms) (old new : Y) (a : Ask) (done : Done) (said : Reply) → terms ≡ desk_terms r → IsAsked terms.day runs old new a done → AnswerReplies r done.answer done.ask said → TakesCall runs old new r (ask a) said
  ask_taken terms old new a done said opened (at, ran, is) replied =
      record { called = record { at = at; call = ask a; ended = was_done }; is = refl; ran = ran; replied = done_replied r terms at a done said opened is replied }

  pub call_left : {P : List Entry → Type 0} (old new : Y) (call : Call) (ended : Ended) → Takes runs old new call ended P → LeavesCall runs old new call
  call_left old new call ended (at, ran, is) = (record { at = at; call = call; ended = ended }, refl, ran)

  -- one that was given up by a fault that its reply says
  pub fault_taken : (old new : Y) (call : Call) (fault : DeskFault) (told : Fault) (said : Reply) → told_as fault ≡ Some told → Takes runs old new call (ended_by fault) (λ at. Unit {0}) → said ≡ fault_reply told → TakesCall runs old new r call said
  fault_taken old new call fault told said is (at, ran, any) replied = record {
    called = record { at = at; call = call; ended = was_given_up told };
    is = refl;
    ran = subst (λ (o : Option Fault). runs old new (took (record { at = at; call = call; ended = ended_as o }) ∷ [])) is ran;
    replied = replied;
  }

  -- a change of a budget that was done: its answer is about no ask
  pub change_taken : (terms : DeskTerms) (old new : Y) (x : BudgetChange) (answer : Answer) (said : Reply) → terms ≡ desk_terms r → IsChanged runs old new terms.day x answer → AnswerReplies r answer None said
      → TakesCall runs old new r (set_budget x) said
  change_taken terms old new x answer said opened (at, ran, is) replied =
      record { called = record { at = at; call = set_budget x; ended = was_done }; is = refl; ran = ran; replied = change_replied r terms at x answer said opened is replied }

  module _ (join : JoinsSteps runs) (IsMoment : ℕ → Type 0) (asked : BidRequest) (answers : List BidderAnswer) where
    -- after a tick that was done the ask was taken
    pub asked_ticked : {P : List Entry → Type 0} (old mid new : Y) (now : ℕ) (a : Ask) (said : Reply) → IsMoment now → a ≡ ask_by r asked answers now → Takes runs old mid (tick now) was_done P → TakesCall runs mid new r (ask a) said
        → AsksAt runs old new r IsMoment asked answers said
    asked_ticked old mid new now a said is_moment is (at, ran, any) taken =
        let ticked : Called = record { at = at; call = tick now; ended = was_done } in record {
          steps = took ticked ∷ took taken.called ∷ [];
          now = now;
          moment_is = is_moment;
          ticked = ticked;
          ticks = refl;
          behind = (taken.called, taken.is ∙ ap ask is, refl, taken.replied);
          ran = join old mid new (took ticked ∷ []) (took taken.called ∷ []) ran taken.ran;
        }

    pub stopped_ticked : {P : List Entry → Type 0} (old mid new : Y) (now : ℕ) (a : Ask) → IsMoment now → a ≡ ask_by r asked answers now → Takes runs old mid (tick now) was_done P → LeavesCall runs mid new (ask a) → StopsAt runs old new r IsMoment asked answers
    stopped_ticked old mid new now a is_moment is (at, ran, any) (c, call_is, ask_ran) =
        let ticked : Called = record { at = at; call = tick now; ended = was_done } in record {
          steps = took ticked ∷ took c ∷ [];
          now = now;
          moment_is = is_moment;
          ticked = ticked;
          ticks = refl;
          calls = inr (refl, c, call_is ∙ ap ask is, refl);
          ran = join old mid new (took ticked ∷ []) (took c ∷ []) ran ask_ran;
        }

    -- a tick that the disk's fault gave up
    pub asked_unticked : {P : List Entry → Type 0} (old new : Y) (now : ℕ) (said : Reply) → IsMoment now → Takes runs old new (tick now) fault_of_disk P → said ≡ tick_fault_reply → AsksAt runs old new r IsMoment asked answers said
    asked_unticked old new now said is_moment (at, ran, any) replied =
        let ticked : Called = record { at = at; call = tick now; ended = fault_of_disk } in
        record { steps = took ticked ∷ []; now = now; moment_is = is_moment; ticked = ticked; ticks = refl; behind = (refl, replied); ran = ran }

    pub stopped_unticked : {P : List Entry → Type 0} (old new : Y) (now : ℕ) → IsMoment now → Takes runs old new (tick now) fault_of_disk P → StopsAt runs old new r IsMoment asked answers
    stopped_unticked old new now is_moment (at, ran, any) =
        let ticked : Called = record { at = at; call = tick now; ended = fault_of_disk } in
        record { steps = took ticked ∷ []; now = now; moment_is = is_moment; ticked = ticked; ticks = refl; calls = inl refl; ran = ran }
