use Rattle.std.proofs.Common.{◌≡◌, ◌+◌, ◌≤◌, ◌++◌, length}
use Rattle.std.specs.List.{range_with_len}
use Rattle.served_record.specs.Steps.{awards_for}
use Rattle.served_record.proofs.award_list.sell.Given as goal

abbrev pub invariant-loop-imp : goal.invariant-loop-imp
invariant-loop-imp l = record {
  awards : l.awards.awards ≡ l.initial.awards.awards ++ awards_for l.place l.ask (range_with_len 0 l.imp);
  few : length l.awards.awards ≤ length l.initial.awards.awards + l.imp;
}
