use Rattle.std.proofs.Common.{◌+◌, ◌-◌, ◌%◌, refl, arith}
use Rattle.std.proofs.lemmas.Simd.{zip2_splat}
use Rattle.adx_units.specs.Unescaped.{is_stop}
use Rattle.adx_units.proofs.Lanes.{hit, at_most, from_splat, either, masked}
use Rattle.adx_units.proofs.unescaped.stops.Goals as goal

pub returns : goal.returns
returns c =
    let v = c.args.bytes in
    let long = c.fits-bytes.0 in
    masked _ is_stop v _ (omega arith) c.fits-bytes.1 (either _ _ v (either _ _ v (zip2_splat hit v 16 34 long) (zip2_splat hit v 16 92 long)) (from_splat at_most _ 96 16 v long (zip2_splat (λ a b. (a + (256 - b)) % 256) v 16 32 long))) refl
