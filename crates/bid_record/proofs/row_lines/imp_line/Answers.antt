use Rattle.std.proofs.Common.{refl}
use Rattle.bid_record.proofs.ImpReads.{line_unworded, line_unnumbered, line_unnamed, line_fails, line_from_row}
use Rattle.bid_record.proofs.row_lines.imp_line.Goals as goal

pub returns-in_default : goal.returns-in_default
returns-in_default c = line_unworded c.args.format c.args.line.now c.in_default.ensures

pub returns-in_default-number_part : goal.returns-in_default-number_part
returns-in_default-number_part c = line_unnumbered c.args.format c.args.line.now c.in-Some.rest.now c.in-Some.ensures c.in_default-number_part.ensures

pub returns-in-Err : goal.returns-in-Err
returns-in-Err c = line_unnamed c.in-Err.misfit c.args.format c.args.line.now c.in-Some.rest.now c.in-Some-number_part.rest.now c.in-Some-number_part.index c.in-Some.ensures c.in-Some-number_part.ensures c.in-Err.ensures

pub returns-in-Ok-imp_row : goal.returns-in-Ok-imp_row
returns-in-Ok-imp_row c = line_from_row c.args.format c.args.campaigns c.args.line.now c.in-Some.rest.now c.in-Some-number_part.rest.now c.in-Ok.found.1.now c.in-Some-number_part.index c.in-Ok.found.0 (record { index = c.in-Some-number_part.index; row = c.in-Ok-imp_row.row }) c.in-Some.ensures c.in-Some-number_part.ensures c.in-Ok.ensures refl c.in-Ok-imp_row.ensures

pub returns-in-Err-imp_row : goal.returns-in-Err-imp_row
returns-in-Err-imp_row c = line_fails c.in-Err-imp_row.misfit c.args.format c.args.line.now c.in-Some.rest.now c.in-Some-number_part.rest.now c.in-Ok.found.1.now c.in-Some-number_part.index c.in-Ok.found.0 c.in-Some.ensures c.in-Some-number_part.ensures c.in-Ok.ensures c.in-Err-imp_row.ensures
