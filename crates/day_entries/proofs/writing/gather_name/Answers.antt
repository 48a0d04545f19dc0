use Rattle.day_entries.proofs.Steps.{adds_name, put_as}
use Rattle.day_entries.proofs.writing.gather_name.Goals as goal

pub returns-clause-ok : goal.returns-clause-ok
returns-clause-ok c = adds_name c.args.numbers _ _ c.args.id.now (put_as c.args.id.now c.as_bytes.ensures.value c.in_ok-gather_text.ensures.ok) c.as_bytes.ensures.sized
