use Rattle.std.proofs.Common.{◌≡◌, ◌<◌, ◌≤◌, ◌*◌, ◌^◌, ℕ, vec_len, get_or, take}
use Rattle.command_archive.specs.Rows.{is_billed, is_committed, money_of}
use Rattle.command_archive.proofs.money.moneys_of.Given as goal

abbrev pub invariant-loop-row : goal.invariant-loop-row
invariant-loop-row l = record {
  committed_len : vec_len l.committed ≡ l.campaigns;
  committed_value : (k : ℕ) → k < l.campaigns → get_or l.committed.items k 0 ≡ money_of is_committed (take l.row-index l.imps) k;
  committed_few : (k : ℕ) → k < l.campaigns → get_or l.committed.items k 0 ≤ l.row-index * 10 ^ 12;
  billed_len : vec_len l.billed ≡ l.campaigns;
  billed_value : (k : ℕ) → k < l.campaigns → get_or l.billed.items k 0 ≡ money_of is_billed (take l.row-index l.imps) k;
  billed_few : (k : ℕ) → k < l.campaigns → get_or l.billed.items k 0 ≤ l.row-index * 10 ^ 12;
}
