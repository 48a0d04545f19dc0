-- The rows of the table are the commands.
use Rattle.std.proofs.Common.{string_bytes}
use Rattle.command_words.proofs.HelpTexts.{lines_text, written_so}
use Rattle.command_words.proofs.help.push_commands.Goals as goal

pub returns : goal.returns
returns c =
    written_so c.push_lines.result (string_bytes c.args.out.now) (string_bytes c.push_lines.new.out) _ _ (lines_text c.rows.result.now c.rows.ensures) c.push_lines.ensures
