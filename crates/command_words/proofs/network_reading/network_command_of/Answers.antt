-- Words in plain spelling are read as what they ask for.
use Rattle.std.proofs.lemmas.Result.{IfOk-weaker}
use Rattle.command_words.proofs.NetworkRows.{network_only}
use Rattle.command_words.proofs.network_reading.network_command_of.Goals as goal

pub returns-clause-plain : goal.returns-clause-plain
returns-clause-plain c = IfOk-weaker c.network_parsed.result _ _ (λ read h. network_only c.args.words.now read h) c.network_parsed.ensures.read
