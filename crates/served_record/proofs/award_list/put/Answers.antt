use Rattle.std.proofs.Common.{Option, [], ap, sym, ◌++◌, ◌∙◌}
use Rattle.std.specs.List.{cons_option}
use Rattle.std.proofs.lemmas.List.{append-nil}
use Rattle.notice_book.specs.declared.award.Award.{Award}
use Rattle.served_record.proofs.award_list.put.Goals as goal

pub returns-in-None : goal.returns-in-None
returns-in-None c =
    sym (ap (λ (o : Option Award). c.args.awards.now.awards ++ cons_option o []) c.in-None.is ∙ append-nil c.args.awards.now.awards)
