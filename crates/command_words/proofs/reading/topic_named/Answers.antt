-- The topic by the place of the word's row.
use Rattle.std.proofs.Common.{◌∙◌, Some, None, sym}
use Rattle.command_words.proofs.HelpTexts.{topic_of_place}
use Rattle.command_words.proofs.reading.topic_named.Goals as goal

pub returns-in-Some : goal.returns-in-Some
returns-in-Some c = topic_of_place c.rows.result.now c.args.word.now c.rows.ensures (Some c.in-Some.place) (sym c.in-Some.is ∙ c.place_of.ensures)

pub returns-in-None : goal.returns-in-None
returns-in-None c = topic_of_place c.rows.result.now c.args.word.now c.rows.ensures None (sym c.in-None.is ∙ c.place_of.ensures)
