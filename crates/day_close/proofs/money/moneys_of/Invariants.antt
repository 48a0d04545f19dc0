use Rattle.std.proofs.Common.{◌≡◌, ◌<◌, ℕ, vec_len, get_or, take}
use Rattle.day_close.specs.Closing.{money_in}
use Rattle.day_close.proofs.money.moneys_of.Given as goal

abbrev pub invariant-loop-row : goal.invariant-loop-row
invariant-loop-row l = record {
  len : vec_len l.moneys ≡ l.campaigns;
  value : (k : ℕ) → k < l.campaigns → get_or l.moneys.items k 0 ≡ money_in (take l.row-index l.imps) k;
}
