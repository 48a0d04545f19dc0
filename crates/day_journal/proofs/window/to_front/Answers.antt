use Rattle.std.proofs.Common.{◌≡◌, ◌≤◌, ◌-◌, ℕ, List, length, take, drop, sym, ◌∙◌, ap, arith, length-drop}
use Rattle.std.proofs.lemmas.List.{drop-take}
use Rattle.std.proofs.lemmas.List.Edits.{take-paste}
use Rattle.std.specs.List.{copy_within}
use Rattle.day_journal.proofs.window.to_front.Goals as goal

front : (old new : List ℕ) (a e : ℕ) → a ≤ e → e ≤ length old → new ≡ copy_within old a e 0 → take (e - a) new ≡ drop a (take e old)
front old new a e le within is =
    let n : ℕ = e - a in
    ap (take n) is ∙ ap (λ (k : ℕ). take k (copy_within old a e 0)) (omega arith) ∙ take-paste old 0 (drop a old) n (omega arith) (omega (arith, length-drop a old, within)) ∙ sym (drop-take a n old) ∙ ap (λ (k : ℕ). drop a (take k old)) (omega (arith, le))

pub returns-clause-front : goal.returns-clause-front
returns-clause-front c = front c.args.chunk.now c.copy_within.new.self c.args.start c.args.end c.requires.order c.requires.within c.copy_within.ensures.after
