use Rattle.std.proofs.Common.{◌≡◌, take}
use Rattle.day_rules.specs.Books.{awards_of}
use Rattle.served_record.proofs.award_list.awards_in.Given as goal

abbrev pub invariant-loop-place : goal.invariant-loop-place
invariant-loop-place l = l.awards.awards ≡ awards_of (take l.place l.entries)
