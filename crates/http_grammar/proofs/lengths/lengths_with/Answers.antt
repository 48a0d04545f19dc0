-- A length that means another number, or one after an unsound one, makes the lengths unsound.
use Rattle.std.proofs.Common.{◌∷◌, [], cond, sym, ◌∙◌, subst}
use Rattle.std.proofs.lemmas.Bool.{false≢true}
use Rattle.http_grammar.specs.Fields.{IsLength}
use Rattle.http_grammar.specs.Found.{AreLengths}
use Rattle.http_grammar.proofs.Digits.{other_number, all_parts}
use Rattle.http_grammar.proofs.lengths.lengths_with.Goals as goal

pub returns-in-Same-2-clause-after : goal.returns-in-Same-2-clause-after
returns-in-Same-2-clause-after c = λ values so n all.
    let before = subst (λ f. AreLengths f values) c.in-Same.is so in
    absurd (false≢true (sym c.if-same_number.false ∙ c.same_number.ensures.1 (other_number c.in-Same.first.now c.args.value.now values n before.0 before.1 (rw c.if-not-is_one.false at all))))

pub returns-in-Unsound-clause-after : goal.returns-in-Unsound-clause-after
returns-in-Unsound-clause-after c = λ values so n all.
    let before = subst (λ f. AreLengths f values) c.in-Unsound.is so in
    before n (all_parts (IsLength n) values (cond c.args.is_one (c.args.value.now ∷ []) []) all).0
