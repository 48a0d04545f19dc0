use Rattle.std.proofs.Common.{◌≡◌}
use Rattle.notice_book.specs.AwardList.{due_count, expired_by}
use Rattle.served_record.proofs.award_list.expire.Given as goal

abbrev pub invariant-loop : goal.invariant-loop
invariant-loop l = expired_by l.now l.awards.awards ≡ expired_by l.now l.initial.awards.awards

abbrev pub decreases-loop : goal.decreases-loop
decreases-loop l = due_count l.now l.awards.awards
