-- What a call says of its value, carried on.
use Rattle.std.proofs.Common.{Result, Ok, Err}
use Rattle.std.specs.Prelude.{IfOk}

pub map_ok : {T E : Type 0} (r : Result T E) (P Q : T → Type 0) → ((t : T) → P t → Q t) → IfOk r P → IfOk r Q
map_ok (Ok t) P Q f h = f t h
map_ok (Err e) P Q f h = h
