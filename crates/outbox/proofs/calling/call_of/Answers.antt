use Rattle.outbox.proofs.Called.{valid_call}
use Rattle.outbox.proofs.calling.call_of.Goals as goal

pub returns-in-Ok-clause-valid : goal.returns-in-Ok-clause-valid
returns-in-Ok-clause-valid c = valid_call c.args.url.now _ c.call_in.result c.in-Ok.ensures c.call_in.ensures.valid
