-- The place of the first byte that passes, or the length.
use Rattle.std.proofs.Common.{sym, ◌∙◌}
use Rattle.adx_http.specs.Targets.{is_question_mark}
use Rattle.adx_http.proofs.Places.{place_some, place_none}
use Rattle.adx_http.proofs.target.end_of_path.Goals as goal

pub returns-in-Some : goal.returns-in-Some
returns-in-Some c = let found = place_some is_question_mark c.args.bytes.now c.in-Some.place (sym c.mark_in.ensures ∙ c.in-Some.is) in record { place = found.0; within = found.1 }

pub returns-in-None-clause-place : goal.returns-in-None-clause-place
returns-in-None-clause-place c = place_none is_question_mark c.args.bytes.now (sym c.mark_in.ensures ∙ c.in-None.is)
