-- The laws are in `Meant`.
use Rattle.exchange_http.proofs.Meant.{has_meaning, one_meaning}
use Rattle.exchange_http.proofs.laws.has_meaning.Goals as goal

pub returns-clause-some : goal.returns-clause-some
returns-clause-some c = has_meaning

pub returns-clause-one : goal.returns-clause-one
returns-clause-one c = one_meaning
