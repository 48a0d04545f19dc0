-- What stands at the place.
use Rattle.std.proofs.Common.{Some, None, refl, sym}
use Rattle.std.proofs.lemmas.Option.{slice_get_past, slice_get_read}
use Rattle.command_words.specs.Meanings.{helps}
use Rattle.command_words.specs.Rows.{help_in}
use Rattle.command_words.proofs.HelpTexts.{placed}
use Rattle.command_words.proofs.help.help_at.Goals as goal

pub returns-in-Some : goal.returns-in-Some
returns-in-Some c =
    let found = c.in-Some.ensures.lookup in
    placed help_in c.helps.result.now helps c.args.place (Some c.in-Some.help.now) c.helps.ensures (sym (slice_get_read c.helps.result.now _ c.args.place c.in-Some.help.now refl found.3.0 found.1))

pub returns-in-None : goal.returns-in-None
returns-in-None c = placed help_in c.helps.result.now helps c.args.place None c.helps.ensures (sym (slice_get_past c.helps.result.now c.args.place c.in-None.ensures.lookup.3))
