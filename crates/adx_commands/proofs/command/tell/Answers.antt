-- The text, or a front of it.
use Rattle.std.proofs.Common.{inl, inr, refl}
use Rattle.history_runs.proofs.PutLines.{front_taken}
use Rattle.adx_commands.proofs.command.tell.Goals as goal

pub returns-in-Err-clause-tells : goal.returns-in-Err-clause-tells
returns-in-Err-clause-tells g c = inr (inl (refl, front_taken (g.K.Sink.held c.args.sink.now) (g.K.Sink.held c.put_all.new.sink) c.args.text.now c.in-Err.field-0 (rw c.as_bytes.ensures.value at c.in-Err.ensures.taken)))
