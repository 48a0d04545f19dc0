-- The reply to a notice by its outcome: the day's answer, or None where the disk's fault gave the notice up. This project's
-- own.
use Rattle.std.specs.Prelude.{[], Option, Some, None}
use Rattle.answer_lines.specs.Answers.{answer_line, conflict_line}
use Rattle.answer_lines.specs.declared.faults.Fault.{Fault}
use Rattle.day_rules.specs.declared.answer.Answer.{Answer}
use Rattle.exchange_messages.specs.Replies.{Reply, fault_reply, no_content, with_status}

-- The reply is that of a call which is about no ask. No notice is answered that an id or a change's number was reused, that
-- a change comes too late or below the committed money, or that the day is full: such an answer has its status, and no body.
-- Example: a bill of an award that was lost gives 409 with the line of a conflict.
abbrev pub outcome_reply : Option Answer → Reply
outcome_reply None = fault_reply Fault.Disk
outcome_reply (Some (Answer.Awarded place)) = no_content
outcome_reply (Some (Answer.NoSale place)) = no_content
outcome_reply (Some Answer.Counted) = no_content
outcome_reply (Some (Answer.Repeat place)) = no_content
outcome_reply (Some (Answer.Conflict kept)) = with_status 409 (conflict_line kept)
outcome_reply (Some Answer.Unknown) = with_status 404 (answer_line [] Answer.Unknown None)
outcome_reply (Some (Answer.Ticked ended)) = no_content
outcome_reply (Some (Answer.Reused kept given)) = with_status 409 []
outcome_reply (Some (Answer.DayFull which count)) = with_status 503 []
outcome_reply (Some Answer.Budgeted) = no_content
outcome_reply (Some (Answer.BudgetReused kept)) = with_status 409 []
outcome_reply (Some (Answer.Late last)) = with_status 409 []
outcome_reply (Some (Answer.BelowCommitted committed)) = with_status 409 []
outcome_reply (Some Answer.NoCampaign) = with_status 404 (answer_line [] Answer.NoCampaign None)
