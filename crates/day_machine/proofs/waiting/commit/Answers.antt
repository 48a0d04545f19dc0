-- The entry of a notice that counts.
use Rattle.std.proofs.Common.{◌≡◌, List, Bool, true, false, Option, Some, ◌∙◌, ap, sym, subst}
use Rattle.std.specs.Prelude.{IfSome}
use Rattle.day_rules.specs.declared.answer.Answer.{Answer}
use Rattle.day_rules.specs.declared.entry.Entry.{Entry}
use Rattle.day_rules.specs.Laws.{arrival_reply}
use Rattle.day_rules.specs.Legal.{MayFollow}
use Rattle.day_rules.specs.Terms.{Terms}
use Rattle.day_rules.proofs.Following.{notice_follows}
use Rattle.day_machine.specs.Answered.{entry_if, is_counted}
use Rattle.day_machine.proofs.InTurn.{behind_counted}
use Rattle.day_machine.proofs.NoticeEntries.{counted_entry}
use Rattle.day_machine.proofs.waiting.commit.Goals as goal

pub open_behind-left-requires-clause-follows : goal.open_behind-left-requires-clause-follows
open_behind-left-requires-clause-follows c =
    let h : List Entry = c.args.day.now.history in
    let x = c.args.call.now in
    let counts : is_counted (arrival_reply h x).answer ≡ true = sym (ap (λ (a : Answer). is_counted a) c.requires.answer) ∙ (sym c.is_counted.ensures ∙ c.if-is_counted.true) in
    let is : (arrival_reply h x).entry ≡ Some c.entry-entry.result = sym (counted_entry h x.kind x.auction x.award) ∙ (ap (λ (b : Bool). entry_if b x.kind x.award) counts ∙ ap (λ (e : Entry). Some e) (sym c.entry-entry.ensures.value)) in
    let follows : MayFollow c.args.day.now.terms h c.entry-entry.result = subst (λ (o : Option Entry). IfSome o (MayFollow c.args.day.now.terms h)) is (notice_follows c.args.day.now.terms h x.kind x.auction x.award) in
    subst (λ (t : Terms). MayFollow t c.day.result.now.history c.entry-entry.result) (sym c.day.ensures.terms) (subst (λ (l : List Entry). MayFollow c.args.day.now.terms l c.entry-entry.result) (sym c.day.ensures.history) follows)

pub returns-else-is_counted-clause-history : goal.returns-else-is_counted-clause-history
returns-else-is_counted-clause-history c =
    let h : List Entry = c.args.day.now.history in
    let x = c.args.call.now in
    let none : is_counted (arrival_reply h x).answer ≡ false = sym (ap (λ (a : Answer). is_counted a) c.requires.answer) ∙ (sym c.is_counted.ensures ∙ c.if-is_counted.false) in
    sym (behind_counted h x false none)
