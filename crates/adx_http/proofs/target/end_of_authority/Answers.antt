-- The place of the first byte that passes, or the length.
use Rattle.std.proofs.Common.{sym, ◌∙◌}
use Rattle.adx_http.specs.Targets.{is_end}
use Rattle.adx_http.proofs.Places.{place_some, place_none}
use Rattle.adx_http.proofs.target.end_of_authority.Goals as goal

pub returns-in-Some : goal.returns-in-Some
returns-in-Some c = let found = place_some is_end c.args.bytes.now c.in-Some.place (sym c.slash_or_mark_in.ensures ∙ c.in-Some.is) in record { place = found.0; within = found.1 }

pub returns-in-None-clause-place : goal.returns-in-None-clause-place
returns-in-None-clause-place c = place_none is_end c.args.bytes.now (sym c.slash_or_mark_in.ensures ∙ c.in-None.is)
