-- What was found of each name, or is still to come.
use Rattle.std.proofs.Common.{◌≡◌, length}
use Rattle.form_urlencoded.specs.Parse.{raw_pairs_left}
use Rattle.adx_http.specs.Targets.{raw_value_of}
use Rattle.adx_http.proofs.Sought.{sought}
use Rattle.adx_http.proofs.target.raw_values.Given as goal

abbrev pub invariant-pairs : goal.invariant-pairs
invariant-pairs l =
    (raw_value_of l.fn.one l.fn.query ≡ sought l.fn.one l.first (raw_pairs_left l.pairs))
    × (raw_value_of l.fn.other l.fn.query ≡ sought l.fn.other l.second (raw_pairs_left l.pairs))

abbrev pub decreases-pairs : goal.decreases-pairs
decreases-pairs l = length (raw_pairs_left l.pairs)
