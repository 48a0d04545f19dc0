-- The notices so far were planned.
use Rattle.std.proofs.Common.{◌≡◌, ◌+◌, ◌*◌, ◌≤◌, All, length, take, vec_capacity}
use Rattle.day_entries.specs.Entries.{Fits, entries_bytes}
use Rattle.day_machine.specs.declared.batch.TheConstants.{BATCH_LIMIT}
use Rattle.day_machine.specs.declared.held.TheConstants.{NOTICE_ROOM}
use Rattle.day_machine.proofs.InTurn.{answers_now, entries_now}
use Rattle.day_machine.proofs.waiting.plan_all.Given as goal

abbrev pub invariant-loop-call : goal.invariant-loop-call
invariant-loop-call l = record {
  answers : l.answers.items ≡ answers_now l.day.history (take l.call-index l.calls);
  memory : BATCH_LIMIT ≤ vec_capacity l.answers;
  payload : l.frame.payload ≡ entries_bytes l.format (entries_now l.day.history (take l.call-index l.calls));
  fits : All (Fits l.format) (entries_now l.day.history (take l.call-index l.calls));
  few : length l.frame.payload ≤ 11 * l.call-index;
  room : NOTICE_ROOM ≤ l.frame.spare + length l.frame.payload;
}
