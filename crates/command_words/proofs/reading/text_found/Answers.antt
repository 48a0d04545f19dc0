-- The text that was found.
use Rattle.std.proofs.Common.{◌∙◌}
use Rattle.std.proofs.lemmas.Result.{IfOk-weaker}
use Rattle.command_words.proofs.reading.text_found.Goals as goal

pub returns : goal.returns
returns c = IfOk-weaker c.owned.result _ _ (λ text is. is ∙ c.found_text.ensures) c.owned.ensures
