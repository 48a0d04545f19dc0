use Rattle.std.proofs.Common.{List, ap, arith, length, length-append, ◌++◌, [], ◌∙◌}
use Rattle.std.specs.List.{cons_option}
use Rattle.notice_book.specs.declared.award.Award.{Award}
use Rattle.served_record.proofs.Awards.{few_sold, sold_one}
use Rattle.served_record.proofs.award_list.sell.Goals as goal

pub put-requires : goal.put-requires
put-requires c =
    omega (arith, c.loop-imp.invariant.few, c.requires.few, c.len-imp-end.ensures, c.loop-imp-test.true)

pub loop-imp-preserved : goal.loop-imp-preserved
loop-imp-preserved c =
    let after = c.in_ok-put.ensures ∙ ap (λ o. c.loop-imp.awards.awards ++ cons_option o []) c.award_for.ensures in
    record {
      awards = sold_one c.args.place c.args.ask.now c.loop-imp.imp c.args.awards.now.awards c.loop-imp.awards.awards c.put.new.awards.awards c.loop-imp.invariant.awards after;
      few = omega (arith, ap (λ (ws : List Award). length ws) c.in_ok-put.ensures, length-append c.loop-imp.awards.awards (cons_option c.award_for.result []), few_sold c.award_for.result, c.loop-imp.invariant.few);
    }
