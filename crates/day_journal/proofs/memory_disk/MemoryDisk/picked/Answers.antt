-- What is picked of the changes that are left is what is picked of all.
use Rattle.std.proofs.Common.{◌≡◌, ◌≤◌, ◌+◌, ◌∷◌, ℕ, List, Bool, get_or, drop, arith, ap, sym, ◌∙◌, length}
use Rattle.std.proofs.lemmas.List.{drop_more, drop_all}
use Rattle.day_journal.specs.declared.memory_disk.Change.{Change}
use Rattle.day_journal.specs.MemoryDisks.{picked, image_of, MemoryDiskState}
use Rattle.day_journal.proofs.memory_disk.MemoryDisk.picked.Goals as goal

begins : (picks : List Bool) (fill : ℕ) (d : MemoryDiskState) (read image : List ℕ) (changes : List Change) → read ≡ d.start → image ≡ d.start → changes ≡ d.changes → picked picks fill 0 read image changes ≡ image_of picks fill d
begins picks fill d read image changes a b e = cc

ends : (picks : List Bool) (fill number : ℕ) (read image : List ℕ) (changes : List Change) (i : ℕ) → length changes ≤ i → picked picks fill number read image (drop i changes) ≡ image
ends picks fill number read image changes i past = ap (picked picks fill number read image) (drop_all i changes past)

pub loop-change-init : goal.loop-change-init
loop-change-init c = record {
  number = omega arith;
  same = begins c.args.pick.now c.args.fill c.args.self.now c.in_ok-from_slice.field-0.items c.in_ok-from_slice-2.field-0.items c.deref-change-items.result.now
      (c.in_ok-from_slice.ensures.items ∙ c.deref.ensures.value ∙ ap (λ (d : MemoryDiskState). d.start) c.self.view_is)
      (c.in_ok-from_slice-2.ensures.items ∙ c.deref-2.ensures.value ∙ ap (λ (d : MemoryDiskState). d.start) c.self.view_is)
      (c.deref-change-items.ensures.value ∙ ap (λ (d : MemoryDiskState). d.changes) c.self.view_is);
}

pub follow-requires : goal.follow-requires
follow-requires c = let h = c.loop-change.invariant.number in omega arith

pub loop-change-preserved : goal.loop-change-preserved
loop-change-preserved c =
    let i = c.loop-change.change-index in
    let xs = c.deref-change-items.result.now in
    let x = c.change-item.result in
    let now = c.loop-change.developing in
    let more : drop i xs ≡ get_or xs i x ∷ drop (i + 1) xs = drop_more xs i x c.loop-change-test.true in
    let split : drop i xs ≡ x ∷ drop (i + 1) xs = more ∙ ap (λ (y : Change). y ∷ drop (i + 1) xs) (sym c.change-item.is) in
    record {
      number = omega (arith, c.loop-change.invariant.number, c.follow.ensures.number);
      same = sym (c.in_ok-follow.ensures.same (drop (i + 1) xs))
          ∙ ap (λ (l : List Change). picked c.args.pick.now c.args.fill now.number now.read.items now.image.items l) (sym split)
          ∙ c.loop-change.invariant.same;
    }

pub returns : goal.returns
returns c = let now = c.loop-change.developing in
    sym (ends c.args.pick.now c.args.fill now.number now.read.items now.image.items c.deref-change-items.result.now c.loop-change.change-index c.loop-change-test.false) ∙ c.loop-change.invariant.same
