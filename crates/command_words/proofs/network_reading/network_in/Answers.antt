-- The subcommand that was met, by its word.
use Rattle.std.proofs.Common.{◌∙◌, ap, sym}
use Rattle.std.proofs.lemmas.Result.{IfOk-weaker}
use Rattle.clap.specs.Matches.{found_of}
use Rattle.clap.specs.Walk.{rows_of}
use Rattle.command_words.specs.NetworkTaken.{network_found}
use Rattle.command_words.proofs.Rows.{met}
use Rattle.command_words.proofs.network_reading.network_in.Goals as goal

pub returns-in-Some-clause-read : goal.returns-in-Some-clause-read
returns-in-Some-clause-read c =
    let is = met c.args.matches.now c.in-Some.word.now (rows_of (found_of c.in-Some.found.now)) c.in-Some.ensures.name c.in-Some.ensures.rows in
    IfOk-weaker c.network_named.result _ _ (λ read reads. reads ∙ sym (ap network_found is)) c.network_named.ensures.read
