-- The ask that the answer to a call is about, in the history that the call leaves.
use Rattle.std.proofs.Common.{◌≡◌, List, ℕ, Option, None, Result, Ok, Err, OnErr, refl, sym, ap, ◌∙◌}
use Rattle.adx_desk.specs.Asked.{ask_for}
use Rattle.answer_lines.specs.Answers.{ask_told}
use Rattle.answer_lines.proofs.OfNoAsk.{change_of_none, notice_of_none, tick_of_none}
use Rattle.day_rules.specs.declared.answer.Answer.{Answer}
use Rattle.day_rules.specs.declared.ask.Ask.{Ask}
use Rattle.day_rules.specs.declared.entry.Entry.{Entry}
use Rattle.day_rules.specs.Entries.{BudgetChange}
use Rattle.day_rules.specs.Replies.{notice, set_budget, tick, reply, with_entry}
use Rattle.day_rules.specs.Terms.{Terms}

-- the ask that the desk copies for an answer is the one that the answer is about
pub same_ask : (history : List Entry) (answer : Answer) → ask_for history answer ≡ ask_told history answer
same_ask history (Answer.Awarded entry) = refl
same_ask history (Answer.NoSale entry) = refl
same_ask history (Answer.Repeat entry) = refl
same_ask history Answer.Counted = refl
same_ask history (Answer.Conflict kept) = refl
same_ask history Answer.Unknown = refl
same_ask history (Answer.Ticked ended) = refl
same_ask history (Answer.Reused kept given) = refl
same_ask history (Answer.DayFull which count) = refl
same_ask history Answer.Budgeted = refl
same_ask history (Answer.BudgetReused kept) = refl
same_ask history (Answer.Late last) = refl
same_ask history (Answer.BelowCommitted committed) = refl
same_ask history Answer.NoCampaign = refl

-- the ask that an answer to a notice is about, in the history that it leaves: none
pub notice_about : (terms : Terms) (history next : List Entry) (kind : _) (auction : List ℕ) (n : ℕ) (answer : Answer)
    → answer ≡ (reply terms history (notice kind auction n)).answer → next ≡ with_entry history (reply terms history (notice kind auction n)).entry → None ≡ ask_told next answer
notice_about terms history next kind auction n answer is after =
    sym (ap (λ h. ask_told h answer) after ∙ ap (ask_told (with_entry history (reply terms history (notice kind auction n)).entry)) is ∙ notice_of_none history kind auction n)

-- to a tick: none
pub tick_about : (terms : Terms) (history next : List Entry) (now : ℕ) (answer : Answer)
    → answer ≡ (reply terms history (tick now)).answer → next ≡ with_entry history (reply terms history (tick now)).entry → None ≡ ask_told next answer
tick_about terms history next now answer is after =
    sym (ap (λ h. ask_told h answer) after ∙ ap (ask_told (with_entry history (reply terms history (tick now)).entry)) is ∙ tick_of_none history now)

-- to a change of a budget: none
pub change_about : (terms : Terms) (history next : List Entry) (x : BudgetChange) (answer : Answer)
    → answer ≡ (reply terms history (set_budget x)).answer → next ≡ with_entry history (reply terms history (set_budget x)).entry → None ≡ ask_told next answer
change_about terms history next x answer is after =
    sym (ap (λ h. ask_told h answer) after ∙ ap (ask_told (with_entry history (reply terms history (set_budget x)).entry)) is ∙ change_of_none terms history x)

-- to an ask: the one that the desk copied
pub ask_about : (next : List Entry) (answer : Answer) (copied : Option Ask) → copied ≡ ask_for next answer → copied ≡ ask_told next answer
ask_about next answer copied is = is ∙ same_ask next answer

-- what holds where an error is answered holds of each answer
pub on_err : {T E : Type 0} (r : Result T E) (P : Type 0) → P → OnErr r P
on_err (Ok x) P p = tt
on_err (Err e) P p = p
