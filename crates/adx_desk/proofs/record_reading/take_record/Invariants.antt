-- The entries so far were added.
use Rattle.std.proofs.Common.{◌≡◌, length}
use Rattle.adx_desk.specs.Loading.{BehindFront}
use Rattle.adx_desk.proofs.record_reading.take_record.Given as goal

abbrev pub invariant-entries : goal.invariant-entries
invariant-entries l = record {
  terms : l.day.terms ≡ l.fn.day.terms;
  behind : BehindFront l.fn.format l.fn.day.terms l.fn.day.history l.day.history l.fn.payload l.rest;
}

abbrev pub decreases-entries : goal.decreases-entries
decreases-entries l = length l.rest
