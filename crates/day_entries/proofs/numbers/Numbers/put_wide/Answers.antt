use Rattle.std.proofs.Common.{arith, ap, length}
use Rattle.std.proofs.lemmas.List.{length-append}
use Rattle.formats.specs.Numbers.{groups_bytes}
use Rattle.formats.proofs.Lengths.{few_wide}
use Rattle.day_entries.proofs.numbers.Numbers.put_wide.Goals as goal

pub returns-in-Grouped-clause-few : goal.returns-in-Grouped-clause-few
returns-in-Grouped-clause-few c = omega (arith, few_wide c.args.number c.ranges.number.fits, ap length c.push_groups.ensures, length-append c.args.out.now.items (groups_bytes 10 c.args.number))
