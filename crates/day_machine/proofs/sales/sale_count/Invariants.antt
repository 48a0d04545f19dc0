use Rattle.std.proofs.Common.{◌≡◌, length, map}
use Rattle.std.specs.List.{flat_map, range_with_len}
use Rattle.day_rules.specs.Books.{awarded_offers, sale_of}
use Rattle.day_machine.proofs.sales.sale_count.Given as goal

abbrev pub invariant-loop-imp : goal.invariant-loop-imp
invariant-loop-imp l = l.count ≡ length (flat_map (λ imp. map (sale_of l.ask) (awarded_offers l.ask.offers imp)) (range_with_len 0 l.imp))
