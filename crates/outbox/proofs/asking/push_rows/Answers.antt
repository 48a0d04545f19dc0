use Rattle.std.proofs.Common.{◌++◌, List, ap, ◌∙◌, arith}
use Rattle.std.proofs.lemmas.List.{take_all}
use Rattle.adx_units.specs.declared.offer.Offer.{Offer}
use Rattle.allocator_core.specs.Choice.{no_offer}
use Rattle.outbox.proofs.Walks.{rows_of_first, rows_one_more}
use Rattle.outbox.proofs.asking.push_rows.Goals as goal

pub loop-place-preserved : goal.loop-place-preserved
loop-place-preserved c =
    rows_one_more c.args.ask.now c.args.imp c.loop-place.place c.as_slice-offers.result.now no_offer c.args.out.now.items c.loop-place.out.items c.push_row.new.out.items (omega arith) c.loop-place.invariant c.in_ok-push_row.ensures

pub returns : goal.returns
returns c =
    c.loop-place.invariant
    ∙ ap (λ (os : List Offer). c.args.out.now.items ++ rows_of_first c.args.ask.now c.args.imp os) (take_all c.loop-place.place c.as_slice-offers.result.now (omega arith) ∙ c.as_slice-offers.ensures)
