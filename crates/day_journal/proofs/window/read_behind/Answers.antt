use Rattle.std.proofs.Common.{◌≡◌, ◌+◌, ◌-◌, ◌≤◌, ◌++◌, ℕ, List, length, take, refl, sym, ◌∙◌, ap, arith, length-take, length-drop}
use Rattle.std.proofs.lemmas.List.{append-nil, drop_all}
use Rattle.std.proofs.lemmas.List.Edits.{paste_all}
use Rattle.std.proofs.lemmas.Slice.{put_mid-paste}
use borrow.Rule.Slice.PartMut.{put_mid}
use Rattle.day_journal.specs.Disks.{Shows}
use Rattle.day_journal.proofs.Reading.{reads_more, some_of}
use Rattle.day_journal.proofs.window.read_behind.Goals as goal

behind : (len : ℕ) (old piece : List ℕ) → len ≤ length old → length piece ≡ length old - len → put_mid len (length old - len) old piece ≡ take len old ++ piece
behind len old piece le size =
    let k : ℕ = length old - len in
    put_mid-paste len k old piece piece k refl refl (sym size) ∙ paste_all old len piece k (sym size)
    ∙ ap (λ (l : List ℕ). take len old ++ (piece ++ l)) (drop_all (len + k) old (omega arith)) ∙ ap (λ (l : List ℕ). take len old ++ l) (append-nil piece)

pub returns-clause-shown : goal.returns-clause-shown
returns-clause-shown g c file told =
    let place = c.saturating_add-place.result in
    let old = c.args.out.now in
    let piece = c.read.new.out in
    let shows = some_of (λ (f : List ℕ). Shows f place c.in_ok-count.count piece) (g.D.Disk.reads c.args.disk.now) file told c.in_ok-count.ensures.shown in
    let size : length piece ≡ length old - c.args.len = omega (arith, c.read.auto.out, length-drop {A = ℕ}, length-take {A = ℕ}) in
    reads_more file c.args.at c.args.len c.in_ok-count.count place old (put_mid c.args.len (length old - c.args.len) old piece) piece (behind c.args.len old piece c.requires size) c.requires (omega (arith, c.saturating_add-place.ensures)) shows
