use Rattle.std.proofs.Common.{◌≡◌, ◌+◌, ◌-◌, ◌≤◌, ℕ, List, length, take, drop, sym, ◌∙◌, ap, subst, arith}
use Rattle.std.proofs.lemmas.List.{with_items_is, length-take-le}
use Rattle.std.specs.Vec.{with_items}
use Rattle.day_journal.specs.Openings.{IsWindow, HasPlace, ReadsOn, WindowState}
use Rattle.day_journal.specs.declared.window.TheConstants.{CHUNK}
use Rattle.day_journal.proofs.Reading.{filled}
use Rattle.day_journal.proofs.window.Window.fill.Goals as goal

pub returns-clause-shown : goal.returns-clause-shown
returns-clause-shown g c file told w =
    let s = c.self.inside in
    let first = c.to_front.new.chunk in
    let second = c.read_behind.new.out in
    let len = s.end - s.start in
    let n = c.in_ok-count.count in
    let was : IsWindow file (record { at = s.at; bytes = drop s.start (take s.end s.chunk.items) }) = subst (λ (v : WindowState). IsWindow file v) (sym c.self.view_is) w in
    let size_first : length first ≡ CHUNK = omega (arith, c.to_front.ensures.len, c.deref_mut.ensures.len, c.self.invariant.2) in
    let items_first : (with_items s.chunk first).items ≡ first = with_items_is s.chunk first (omega (arith, size_first, c.self.invariant.2)) in
    let olds : c.deref_mut-2.result.now ≡ first = c.deref_mut-2.ensures.value ∙ items_first in
    let size_second : length second ≡ CHUNK = omega (arith, c.read_behind.ensures.len, ap length olds, size_first) in
    let items_second : (with_items (with_items s.chunk first) second).items ≡ second = with_items_is (with_items s.chunk first) second (omega (arith, size_second, c.self.invariant.2)) in
    let front : take len first ≡ drop s.start (take s.end s.chunk.items) = c.to_front.ensures.front ∙ ap (λ (l : List ℕ). drop s.start (take s.end l)) c.deref_mut.ensures.value in
    let reads : ReadsOn file s.at len first n second = λ short within before. c.in_ok-count.ensures.shown file told short within (ap (take len) olds ∙ before) in
    subst (λ (l : List ℕ). HasPlace file (record { at = s.at; bytes = take (len + n) l })) (sym items_second)
    (filled file s.at len n (drop s.start (take s.end s.chunk.items)) first second was (length_bytes s.start s.end s.chunk.items first front c.self.invariant.0 (omega (arith, size_first, c.self.invariant.1, c.self.invariant.2))) front reads size_second (omega (arith, c.if-self-ge5.false)) (omega (arith, c.in_ok-count.ensures.count, size_second)))
  where
    length_bytes : (start end : ℕ) (items first : List ℕ) → take (end - start) first ≡ drop start (take end items) → start ≤ end → end - start ≤ length first → length (drop start (take end items)) ≡ end - start
    length_bytes start end items first front le within = ap length (sym front) ∙ length-take-le (end - start) first within
