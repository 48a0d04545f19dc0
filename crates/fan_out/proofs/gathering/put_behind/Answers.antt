use Rattle.std.proofs.Common.{◌∙◌, ap, Some}
use Rattle.fan_out.proofs.gathering.put_behind.Goals as goal

pub returns-in-Ok-push : goal.returns-in-Ok-push
returns-in-Ok-push c = (c.in-Ok.answers, c.in-Some-Ok.answer, c.in-Ok.is, c.in-Some-Ok.is ∙ ap Some c.in-Some-Ok.field-0-is, c.in-Ok-push.ensures.items)
