-- Words in plain spelling are read as what they ask for.
use Rattle.std.proofs.lemmas.Result.{IfOk-weaker}
use Rattle.command_words.proofs.Rows.{plain_only}
use Rattle.command_words.proofs.reading.command_of.Goals as goal

pub returns-clause-plain : goal.returns-clause-plain
returns-clause-plain c = IfOk-weaker c.parsed.result _ _ (λ read h. plain_only c.args.words.now read h) c.parsed.ensures.read
