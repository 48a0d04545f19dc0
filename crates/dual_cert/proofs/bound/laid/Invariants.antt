use Rattle.std.proofs.Common.{◌≡◌, ℕ, ◌*◌, ◌^◌, ◌≤◌, take, get_or}
use Rattle.std.specs.List.{sum_by, enumerate_from}
use Rattle.bid_record.specs.declared.rows.CampaignRow.{CampaignRow}
use Rattle.dual_cert.proofs.bound.laid.Given as goal

abbrev pub invariant-loop-i : goal.invariant-loop-i
invariant-loop-i l = record {
  value : l.total ≡ sum_by (λ (p : ℕ × CampaignRow). get_or l.alphas p.0 0 * p.1.budget.0) (take l.i (enumerate_from 0 l.campaigns));
  small : l.total ≤ l.i * 10 ^ 24;
}
