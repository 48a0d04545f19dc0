-- What a sink took of what was to be put.
use Rattle.std.proofs.Common.{ℕ, List, take, drop, Option, Err, sym}
use Rattle.std.proofs.lemmas.List.{take-append-drop}
use Rattle.adx_io.specs.Streams.{TakesAll}
use Rattle.adx_io.specs.declared.failed.Failed.{Failed}
use Rattle.command_runs.specs.Meanings.{TookPrefix}

-- a call that failed put a front
pub front_taken : (old new : Option (List ℕ)) (bytes : List ℕ) (e : Failed) → TakesAll old new bytes (Err e) → TookPrefix old new bytes
front_taken old new bytes e (n, small, took) = (take n bytes, drop n bytes, sym (take-append-drop n bytes), took)
