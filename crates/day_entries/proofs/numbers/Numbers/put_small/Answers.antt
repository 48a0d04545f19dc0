use Rattle.std.proofs.Common.{arith, ap, length}
use Rattle.std.proofs.lemmas.List.{length-append}
use Rattle.formats.specs.Numbers.{groups_bytes}
use Rattle.formats.proofs.Lengths.{few_small}
use Rattle.day_entries.proofs.numbers.Numbers.put_small.Goals as goal

pub returns-in-Grouped-clause-few : goal.returns-in-Grouped-clause-few
returns-in-Grouped-clause-few c = omega (arith, few_small c.from.result (omega (arith, c.from.ensures, c.ranges.number.fits)), ap length c.push_groups.ensures, c.from.ensures, length-append c.args.out.now.items (groups_bytes 10 c.from.result))
