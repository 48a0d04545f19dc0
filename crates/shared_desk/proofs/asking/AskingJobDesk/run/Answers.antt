-- By what the ask made of the desk.
use Rattle.std.proofs.Common.{◌∙◌, refl, sym}
use Rattle.shared_desk.proofs.Passing.{some_same}
use Rattle.shared_desk.proofs.Running.{as_wanted, asked_at}
use Rattle.shared_desk.proofs.asking.AskingJobDesk.run.Goals as goal

pub returns-clause-items : goal.returns-clause-items
returns-clause-items g c =
    let same = some_same c.unwrap-ask.result c.args.self.now.wanted.value (sym c.unwrap-ask.ensures ∙ (c.take.ensures.value ∙ c.requires.0)) in
    let both = as_wanted c.args.desk.now c.asked-ran.new.desk c.unwrap-ask.result c.args.self.now.wanted.value c.asked-ran.result.1 c.asked-ran.result.0 same c.asked-ran.ensures.made c.asked-ran.ensures.copy in
    both.0.run.items

pub returns-clause-few : goal.returns-clause-few
returns-clause-few g c =
    let same = some_same c.unwrap-ask.result c.args.self.now.wanted.value (sym c.unwrap-ask.ensures ∙ (c.take.ensures.value ∙ c.requires.0)) in
    let both = as_wanted c.args.desk.now c.asked-ran.new.desk c.unwrap-ask.result c.args.self.now.wanted.value c.asked-ran.result.1 c.asked-ran.result.0 same c.asked-ran.ensures.made c.asked-ran.ensures.copy in
    both.0.run.few

pub returns-clause-fixed : goal.returns-clause-fixed
returns-clause-fixed g c = c.asked-ran.ensures.made.run.fixed

pub returns-clause-no_fewer : goal.returns-clause-no_fewer
returns-clause-no_fewer g c = c.asked-ran.ensures.made.run.no_fewer

pub returns-clause-one_at_most : goal.returns-clause-one_at_most
returns-clause-one_at_most g c = c.asked-ran.ensures.made.run.one_at_most

pub returns-clause-right : goal.returns-clause-right
returns-clause-right g c =
    let same = some_same c.unwrap-ask.result c.args.self.now.wanted.value (sym c.unwrap-ask.ensures ∙ (c.take.ensures.value ∙ c.requires.0)) in
    let both = as_wanted c.args.desk.now c.asked-ran.new.desk c.unwrap-ask.result c.args.self.now.wanted.value c.asked-ran.result.1 c.asked-ran.result.0 same c.asked-ran.ensures.made c.asked-ran.ensures.copy in
    both.0.run.right

pub returns-clause-noted : goal.returns-clause-noted
returns-clause-noted g c =
    let same = some_same c.unwrap-ask.result c.args.self.now.wanted.value (sym c.unwrap-ask.ensures ∙ (c.take.ensures.value ∙ c.requires.0)) in
    let both = as_wanted c.args.desk.now c.asked-ran.new.desk c.unwrap-ask.result c.args.self.now.wanted.value c.asked-ran.result.1 c.asked-ran.result.0 same c.asked-ran.ensures.made c.asked-ran.ensures.copy in
    both.0.run.noted

pub returns-clause-counted : goal.returns-clause-counted
returns-clause-counted g c = c.asked-ran.ensures.made.run.counted

pub returns-clause-ran : goal.returns-clause-ran
returns-clause-ran g c =
    let same = some_same c.unwrap-ask.result c.args.self.now.wanted.value (sym c.unwrap-ask.ensures ∙ (c.take.ensures.value ∙ c.requires.0)) in
    (refl, asked_at c.args.desk.now c.asked-ran.new.desk c.unwrap-ask.result c.args.self.now.wanted.value c.asked-ran.result.1 c.asked-ran.result.0 same c.asked-ran.ensures.made c.asked-ran.ensures.copy)
