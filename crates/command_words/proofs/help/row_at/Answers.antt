-- What stands at the place.
use Rattle.std.proofs.Common.{Some, None, refl, sym}
use Rattle.std.proofs.lemmas.Option.{slice_get_past, slice_get_read}
use Rattle.command_words.specs.Meanings.{commands}
use Rattle.command_words.specs.Rows.{row_in}
use Rattle.command_words.proofs.HelpTexts.{placed}
use Rattle.command_words.proofs.help.row_at.Goals as goal

pub returns-in-Some : goal.returns-in-Some
returns-in-Some c =
    let found = c.in-Some.ensures.lookup in
    placed row_in c.rows.result.now commands c.args.place (Some c.in-Some.row.now) c.rows.ensures (sym (slice_get_read c.rows.result.now _ c.args.place c.in-Some.row.now refl found.3.0 found.1))

pub returns-in-None : goal.returns-in-None
returns-in-None c = placed row_in c.rows.result.now commands c.args.place None c.rows.ensures (sym (slice_get_past c.rows.result.now c.args.place c.in-None.ensures.lookup.3))
