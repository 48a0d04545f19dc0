-- What a bid says, row by row.
use Rattle.std.proofs.Common.{rules, arith}
use Rattle.std.proofs.lemmas.Grind.{common_steps}
use Rattle.rtb_response.proofs.bid_reader.bid_of.Goals as goal

pub returns : goal.returns
returns c = (first_of (search rules, grind (arith, common_steps)), (first_of (search rules, grind (arith, common_steps)), (first_of (search rules, grind (arith, common_steps)), (first_of (search rules, grind (arith, common_steps)), (first_of (search rules, grind (arith, common_steps)), (first_of (search rules, grind (arith, common_steps)), (first_of (search rules, grind (arith, common_steps)), (first_of (search rules, grind (arith, common_steps)), (first_of (search rules, grind (arith, common_steps)), (first_of (search rules, grind (arith, common_steps)), (first_of (search rules, grind (arith, common_steps)), (first_of (search rules, grind (arith, common_steps)), (first_of (search rules, grind (arith, common_steps)), (first_of (search rules, grind (arith, common_steps)), tt))))))))))))))
