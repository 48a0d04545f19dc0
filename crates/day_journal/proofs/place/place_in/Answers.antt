use Rattle.std.proofs.Common.{rules, ◌<◌, ℕ, get_or, arith}
use Rattle.day_journal.proofs.Reading.{opens_place, sized_place}
use Rattle.day_journal.proofs.place.place_in.Goals as goal

pub returns : goal.returns
returns c =
    let bytes = c.args.bytes.now in
    let n = c.from_le_bytes.result in
    let fit : (i : ℕ) → get_or bytes i 0 < 256 = λ i. let h = c.type_inv.bytes i in h.fits in
    let h = c.from_le_bytes.ensures in
    sized_place bytes n c.sized.result c.sized.ensures (omega arith) (omega arith) (opens_place bytes n (omega arith) (search rules) fit h)
