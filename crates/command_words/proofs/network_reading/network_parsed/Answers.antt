-- What a parse of the program comes to.
use Rattle.std.proofs.Common.{◌≡◌, ◌∙◌, ap, true}
use Rattle.std.proofs.lemmas.Result.{IfOk-weaker}
use Rattle.clap.specs.Faults.{is_simple_and_free}
use Rattle.clap.specs.Simple.{app_of, is_simple, subcommand_rows_of}
use Rattle.clap.specs.Walk.{texts}
use Rattle.command_words.specs.Taken.{turned_round}
use Rattle.command_words.proofs.NetworkRows.{network_fault, network_matches}
use Rattle.command_words.proofs.Rows.{both_ok, program_has_matches, program_is_simple}
use Rattle.command_words.proofs.network_reading.network_parsed.Goals as goal

pub returns-in-Ok-clause-read : goal.returns-in-Ok-clause-read
returns-in-Ok-clause-read c =
    let app = app_of c.in_ok-program.program in
    let same : texts c.as_slice.result.now ≡ turned_round c.args.words.now = ap texts c.as_slice.ensures.value ∙ c.in_ok-texts.ensures in
    let simple : is_simple_and_free app ≡ true = ap is_simple_and_free c.in_ok-program.ensures ∙ program_is_simple in
    let has_matches : is_simple app ≡ true = ap is_simple c.in_ok-program.ensures ∙ program_has_matches in
    IfOk-weaker c.network_in.result _ _
    (λ read reads. network_matches app (texts c.as_slice.result.now) c.args.words.now (subcommand_rows_of c.in-Ok.matches) read c.in_ok-program.ensures same (c.in-Ok.ensures.kinds simple)
    (c.in-Ok.ensures.matches has_matches).1 reads)
    c.network_in.ensures.read

pub returns-clause-read : goal.returns-clause-read
returns-clause-read c =
    let app = app_of c.in_ok-program.program in
    let same : texts c.as_slice.result.now ≡ turned_round c.args.words.now = ap texts c.as_slice.ensures.value ∙ c.in_ok-texts.ensures in
    let simple : is_simple_and_free app ≡ true = ap is_simple_and_free c.in_ok-program.ensures ∙ program_is_simple in
    both_ok c.refused.result _ _ _
    (λ read reads other. network_fault app (texts c.as_slice.result.now) c.args.words.now c.in-Err.error read c.in_ok-program.ensures same (c.in-Err.ensures.kinds simple)
    (λ memory. other (c.kind.ensures ∙ memory)) reads)
    c.refused.ensures.none c.refused.ensures.memory
