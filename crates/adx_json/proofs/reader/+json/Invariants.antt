use Rattle.std.proofs.Common.{◌≡◌, ◌+◌, ◌*◌, length}
use Rattle.adx_json.proofs.PendingParts.{ItemsPending, MembersPending}
use Rattle.adx_json.proofs.reader.+json.Given as goal

abbrev pub decreases-value_at : goal.decreases-value_at
decreases-value_at l = 4 * l.levels

abbrev pub decreases-element_at : goal.decreases-element_at
decreases-element_at l = 4 * l.levels + 1

abbrev pub decreases-member_at : goal.decreases-member_at
decreases-member_at l = 4 * l.levels + 2

abbrev pub decreases-items_at : goal.decreases-items_at
decreases-items_at l = 4 * l.levels + 3

abbrev pub decreases-members_at : goal.decreases-members_at
decreases-members_at l = 4 * l.levels + 3

abbrev pub invariant-items_at-items : goal.invariant-items_at-items
invariant-items_at-items l =
    ItemsPending l.levels l.bytes l.fn.pending.items.items l.pending.items.items l.left
    × (l.pending.members.items ≡ l.fn.pending.members.items)
    × (l.begun ≡ length l.fn.pending.items.items)

abbrev pub decreases-items_at-items : goal.decreases-items_at-items
decreases-items_at-items l = length l.left

abbrev pub invariant-members_at-members : goal.invariant-members_at-members
invariant-members_at-members l =
    MembersPending l.levels l.bytes l.fn.pending.members.items l.pending.members.items l.left
    × (l.pending.items.items ≡ l.fn.pending.items.items)
    × (l.begun ≡ length l.fn.pending.members.items)

abbrev pub decreases-members_at-members : goal.decreases-members_at-members
decreases-members_at-members l = length l.left
