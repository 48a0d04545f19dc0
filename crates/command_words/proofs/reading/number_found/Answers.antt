-- The number of the text that was found.
use Rattle.std.proofs.Common.{◌∙◌, ap}
use Rattle.command_words.specs.Meanings.{number_of}
use Rattle.command_words.proofs.reading.number_found.Goals as goal

pub returns-clause-value : goal.returns-clause-value
returns-clause-value c = c.number_in.ensures.value ∙ ap (number_of c.args.most) c.found_text.ensures
