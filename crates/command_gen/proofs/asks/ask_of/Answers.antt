-- A number in decimal has the length of an id.
use Rattle.std.proofs.Common.{◌≡◌, ◌<◌, ◌^◌, ℕ, List, decimal, length, ap, arith}
use Rattle.std.proofs.lemmas.Fmt.{decimal_nonempty, length-decimal-le}
use Rattle.command_gen.proofs.asks.ask_of.Goals as goal

pub id_of-requires : goal.id_of-requires
id_of-requires c =
    let n = c.args.number in
    let fits : n < 2 ^ 64 = c.ranges.number.fits in
    let within : n < 10 ^ 20 = omega (arith, fits) in
    let is : length c.args.id.now ≡ length (decimal n) = ap (λ (l : List ℕ). length l) c.requires in
    let some = decimal_nonempty n fits in
    let few = length-decimal-le 20 n (omega arith) within fits in
    (omega (arith, is, some), omega (arith, is, few))
