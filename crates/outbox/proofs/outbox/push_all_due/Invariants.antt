use Rattle.std.proofs.Common.{◌≡◌, ◌++◌, take}
use Rattle.std.specs.List.{flat_map}
use Rattle.outbox.specs.declared.post.TheConstants.{OPPORTUNITY_EXPIRED}
use Rattle.outbox.specs.Rows.{row_loss}
use Rattle.outbox.specs.Steps.{post_in}
use Rattle.outbox.proofs.outbox.push_all_due.Given as goal

abbrev pub invariant-loop-n : goal.invariant-loop-n
invariant-loop-n l = l.out.items ≡ l.initial.out.items ++ flat_map (post_in (row_loss l.place OPPORTUNITY_EXPIRED) l.kept) (take l.n-index l.due)
