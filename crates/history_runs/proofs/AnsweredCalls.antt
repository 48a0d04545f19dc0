-- A call of the desk that was answered, and its line.
use Rattle.std.proofs.Common.{◌≡◌, List, ℕ, ◌++◌, Option, None, Some, refl, ap, ◌∙◌}
use Rattle.adx_io.specs.Talk.{ended}
use Rattle.adx_desk.specs.Desks.{OnDisk}
use Rattle.answer_lines.specs.Answers.{answer_line, ask_told, fault_line}
use Rattle.answer_lines.specs.declared.faults.Fault.{Fault}
use Rattle.day_rules.specs.declared.answer.Answer.{Answer}
use Rattle.day_rules.specs.declared.ask.Ask.{Ask}
use Rattle.day_rules.specs.declared.entry.Entry.{Entry}
use Rattle.day_rules.specs.Replies.{Call, reply, with_entry}
use Rattle.day_rules.specs.Terms.{Terms}
use Rattle.deal_floor.specs.declared.campaign.Campaign.{Campaign}
use Rattle.history_runs.specs.Answering.{AnswersCall}
use Rattle.adx_desk.specs.Answering.{ServesCall}
use Rattle.adx_desk.specs.Meanings.{call_answer}
use Rattle.history_runs.specs.Output.{writing}

-- the line of a call that was done, by the ask that was told with its answer
line_done : (campaigns : List Campaign) (terms : Terms) (history next : List Entry) (call : Call) (answer : Answer) (told : Option Ask)
    → answer ≡ (reply terms history call).answer → next ≡ with_entry history (reply terms history call).entry → told ≡ ask_told next answer
    → ended (answer_line campaigns answer told) ≡ call_answer (writing campaigns) terms history (record { call = call; fault = None })
line_done campaigns terms history next call answer told is after about =
    ap (λ a. ended (answer_line campaigns answer a)) about
    ∙ ap (λ h. ended (answer_line campaigns answer (ask_told h answer))) after
    ∙ ap (λ a. ended (answer_line campaigns a (ask_told (with_entry history (reply terms history call).entry) a))) is

-- a call that was done, with its line behind what was written
pub answered_done : {D : Type 0} (faults : D → ℕ) (may_leave : D → List ℕ → Type 0) (moment : D → ℕ) (left_since : D → ℕ → List ℕ → Type 0) (campaigns : List Campaign) (old new : OnDisk D) (call : Call) (answer : Answer) (told : Option Ask) (out_old out_new : List ℕ)
    → ServesCall faults may_leave moment left_since old new (record { call = call; fault = None })
    → answer ≡ (reply old.desk.terms.day old.desk.history call).answer → told ≡ ask_told new.desk.history answer → out_new ≡ out_old ++ ended (answer_line campaigns answer told)
    → AnswersCall faults may_leave moment left_since campaigns old new call out_old out_new
answered_done faults may_leave moment left_since campaigns old new call answer told out_old out_new serves is about written = record {
  told = record { call = call; fault = None };
  same = refl;
  serves = serves;
  written = written ∙ ap (λ l. out_old ++ l) (line_done campaigns old.desk.terms.day old.desk.history new.desk.history call answer told is serves.history about);
}

-- a call that was given up, with the line of its fault
pub answered_fault : {D : Type 0} (faults : D → ℕ) (may_leave : D → List ℕ → Type 0) (moment : D → ℕ) (left_since : D → ℕ → List ℕ → Type 0) (campaigns : List Campaign) (old new : OnDisk D) (call : Call) (fault : Fault) (out_old out_new : List ℕ)
    → ServesCall faults may_leave moment left_since old new (record { call = call; fault = Some fault }) → out_new ≡ out_old ++ ended (fault_line fault)
    → AnswersCall faults may_leave moment left_since campaigns old new call out_old out_new
answered_fault faults may_leave moment left_since campaigns old new call fault out_old out_new serves written = record {
  told = record { call = call; fault = Some fault };
  same = refl;
  serves = serves;
  written = written;
}
