use Rattle.std.proofs.Common.{refl, arith}
use Rattle.adx_units.specs.Ascii.{is_above_ascii}
use Rattle.adx_units.proofs.Lanes.{at_most, masked, from_splat_alone}
use Rattle.adx_units.proofs.ascii.above.Goals as goal

pub returns : goal.returns
returns c =
    let v = c.args.bytes in
    masked _ is_above_ascii v _ (omega arith) c.fits-bytes.1 (from_splat_alone at_most 128 16 v c.fits-bytes.0) refl
