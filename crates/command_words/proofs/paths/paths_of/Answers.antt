-- The options of words in plain spelling of a command over the network: nothing else was read of them.
use Rattle.std.proofs.Common.{◌∙◌, sym, ap}
use Rattle.std.proofs.lemmas.Result.{IfOk-weaker}
use Rattle.command_words.specs.Paths.{network_paths_of}
use Rattle.command_words.proofs.NetworkRows.{network_only, no_command_read}
use Rattle.command_words.proofs.paths.paths_of.Goals as goal

pub returns-in-Some-clause-network : goal.returns-in-Some-clause-network
returns-in-Some-clause-network c = λ command plain.
    absurd (cc (sym c.in-Some.is ∙ no_command_read c.args.words.now c.in_ok-command.field-0 c.in_ok-command.ensures.other command plain))

pub returns-in-None-clause-network : goal.returns-in-None-clause-network
returns-in-None-clause-network c =
    IfOk-weaker c.network_paths_read.result _ _
    (λ paths read command plain. read.2 ∙ ap network_paths_of (network_only c.args.words.now read.0 read.1 command plain))
    c.network_paths_read.ensures
