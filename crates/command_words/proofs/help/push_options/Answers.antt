-- The options as the definitions have them.
use Rattle.std.proofs.Common.{string_bytes}
use Rattle.command_words.proofs.HelpTexts.{choices_text, written_so}
use Rattle.command_words.proofs.help.push_options.Goals as goal

pub returns : goal.returns
returns c =
    written_so c.push_choices.result (string_bytes c.args.out.now) (string_bytes c.push_choices.new.out) _ _ (choices_text c.args.row.now.1.now) c.push_choices.ensures
