use Rattle.std.proofs.Common.{sym, ◌∙◌, arith}
use Rattle.bid_record.proofs.ImpReads.{row_unread, row_fails, row_too_long, row_misplaced, row_kept}
use Rattle.bid_record.proofs.row_lines.imp_row.Goals as goal

pub returns-in_default : goal.returns-in_default
returns-in_default c = row_unread c.args.name c.args.bytes.now c.in_default.ensures

pub returns-in-Err : goal.returns-in-Err
returns-in-Err c = row_fails c.in-Err.misfit c.args.name c.args.bytes.now (c.in-Some.ending.chosen, c.in-Some.ending.end, c.in-Some.ending.rest.now) c.in-Some.ensures c.in-Err.ensures

pub returns-then-offers-from : goal.returns-then-offers-from
returns-then-offers-from c = row_too_long c.args.name c.args.bytes.now (c.in-Some.ending.chosen, c.in-Some.ending.end, c.in-Some.ending.rest.now) c.args.campaigns c.in-Ok.offers c.in-Some.ensures c.in-Ok.ensures (omega (arith, c.from.ensures, c.if-offers-from.true))

pub returns-then-not-has_places : goal.returns-then-not-has_places
returns-then-not-has_places c = row_misplaced c.args.name c.args.bytes.now (c.in-Some.ending.chosen, c.in-Some.ending.end, c.in-Some.ending.rest.now) c.args.campaigns c.in-Ok.offers c.in-Some.ensures c.in-Ok.ensures (omega (arith, c.from.ensures, c.if-offers-from.false)) (sym c.has_places.ensures ∙ c.if-not-has_places.true)

pub returns : goal.returns
returns c = row_kept c.args.name c.args.bytes.now (c.in-Some.ending.chosen, c.in-Some.ending.end, c.in-Some.ending.rest.now) c.args.campaigns c.in-Ok.offers c.from-2.result c.narrowed.result c.in-Some.ensures c.in-Ok.ensures (omega (arith, c.from.ensures, c.if-offers-from.false)) (sym c.has_places.ensures ∙ c.if-not-has_places.false) c.from-2.ensures c.narrowed.ensures
