use Rattle.std.proofs.Common.{◌≡◌, ◌<◌, ℕ, vec_len, get_or}
use Rattle.bid_record.specs.declared.rows.CampaignRow.{CampaignRow}
use Rattle.day_close.specs.Closing.{row_alpha}
use Rattle.day_close.proofs.alphas.from_moneys.Given as goal

abbrev pub invariant-loop-i : goal.invariant-loop-i
invariant-loop-i l = record {
  len : vec_len l.alphas ≡ l.i;
  value : (k : ℕ) (row : CampaignRow) → k < l.i → get_or l.alphas.items k 0 ≡ row_alpha (get_or l.campaigns k row) (get_or l.moneys k 0);
}
