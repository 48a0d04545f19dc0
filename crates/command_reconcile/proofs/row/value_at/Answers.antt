-- The value of the member there, if there is one.
use Rattle.std.proofs.Common.{refl, sym}
use Rattle.std.proofs.lemmas.Option.{slice_get_past, slice_get_read}
use Rattle.command_reconcile.proofs.RowTrees.{value_found, value_none}
use Rattle.command_reconcile.proofs.row.value_at.Goals as goal

pub returns-in-Some : goal.returns-in-Some
returns-in-Some c =
    let found = c.in-Some.ensures.lookup in
    value_found c.args.members.now c.args.place c.in-Some.member.now _ (sym (slice_get_read c.args.members.now _ c.args.place c.in-Some.member.now refl found.3.0 found.1)) c.value_of.ensures

pub returns-in-None : goal.returns-in-None
returns-in-None c = value_none c.args.members.now c.args.place (sym (slice_get_past c.args.members.now c.args.place c.in-None.ensures.lookup.3))
