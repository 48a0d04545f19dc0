-- The first of the notices were taken.
use Rattle.std.proofs.Common.{◌≡◌, length, take, vec_capacity}
use Rattle.adx_desk.specs.Together.{TakesNotices}
use Rattle.adx_desk.proofs.outcomes.take_one_by_one.Given as goal

abbrev pub invariant-loop-i : goal.invariant-loop-i
invariant-loop-i g l = record {
  takes : TakesNotices g.Y.DayDesk.runs l.initial.desk l.desk (take l.i l.batch.calls) l.outcomes.items;
  long : length l.outcomes.items ≡ l.i;
  room : vec_capacity l.outcomes ≡ vec_capacity l.initial.outcomes;
  place : g.Y.DayDesk.place l.desk ≡ g.Y.DayDesk.place l.initial.desk;
}
