-- The parts, one by one.
use Rattle.std.proofs.Common.{rules, arith}
use Rattle.std.proofs.lemmas.Grind.{common_steps}
use Rattle.deal_floor.proofs.roster_reader.roster_with.Goals as goal

pub returns : goal.returns
returns c = record {
  day = first_of (search rules, grind (arith, common_steps));
  base = first_of (search rules, grind (arith, common_steps));
  now = first_of (search rules, grind (arith, common_steps));
  bidders = first_of (search rules, grind (arith, common_steps));
  campaigns = first_of (search rules, grind (arith, common_steps));
  replies = first_of (search rules, grind (arith, common_steps));
  limits = first_of (search rules, grind (arith, common_steps));
  digest = first_of (search rules, grind (arith, common_steps));
}
