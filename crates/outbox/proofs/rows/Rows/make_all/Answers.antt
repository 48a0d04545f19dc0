use Rattle.std.proofs.Common.{◌≡◌, ◌+◌, ◌++◌, ◌∷◌, [], ℕ, List, length, length-append, sym, ap, ◌∙◌, subst, arith, append-nil, append_assoc}
use Rattle.outbox.specs.declared.row.Row.{Row}
use Rattle.outbox.specs.Keeping.{IsMade, IsMadeAt}
use Rattle.outbox.proofs.Changes.{made_more, made_none}
use Rattle.outbox.proofs.rows.Rows.make_all.Goals as goal

pub rows-init : goal.rows-init
rows-init c = ([], append-nil c.args.made.items, made_none (c.args.first + length c.args.made.items) c.args.self.now)

pub rows-preserved : goal.rows-preserved
rows-preserved c =
    let rs : List Row = c.rows.invariant.0 in
    let left : List Row = c.pop.new.self.items in
    let popped : c.rows.left.items ≡ left ++ c.in-Some.row ∷ [] = c.in-Some.ensures.items in
    let long : c.args.first + length c.rows.left.items ≡ c.args.first + length left + 1 = omega (arith, ap (λ (t : List Row). length t) popped, length-append left (c.in-Some.row ∷ [])) in
    let at : c.args.first + length c.as_slice.result.now ≡ c.args.first + length left = ap (λ (t : List Row). c.args.first + length t) c.as_slice.ensures.value in (
      c.in-Some.row ∷ rs,
      sym (append_assoc left (c.in-Some.row ∷ []) rs) ∙ (ap (λ (t : List Row). t ++ rs) (sym popped) ∙ c.rows.invariant.1),
      made_more (c.args.first + length left) c.in-Some.row rs c.args.self.now c.rows.self c.make_one.new.self
          (subst (λ (n : ℕ). IsMade n rs c.args.self.now c.rows.self) long c.rows.invariant.2)
          (subst (λ (n : ℕ). IsMadeAt n c.in-Some.row c.rows.self c.make_one.new.self) at c.in_ok-make_one.ensures.made),
    )
