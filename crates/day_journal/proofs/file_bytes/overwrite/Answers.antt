-- A piece over zeros and bytes that are there is the file with the piece at its place.
use Rattle.std.proofs.Common.{◌≡◌, ◌+◌, ◌++◌, List, ℕ, length, take, drop, rules, ap, ◌∙◌, arith}
use Rattle.std.proofs.lemmas.List.{take_at}
use Rattle.day_journal.specs.Disks.{written, reaching}
use Rattle.day_journal.proofs.MemoryDisks.{written_grown}
use Rattle.day_journal.proofs.file_bytes.overwrite.Goals as goal

pub returns-clause-ok : goal.returns-clause-ok
returns-clause-ok c =
    let piece = c.args.piece.now in
    let x = c.put_within.new.bytes in
    let len : length x ≡ c.grow.new.bytes.len = search (rules, arith) in
    let place : c.in_ok-at.at ≡ c.args.at = search (rules, arith) in
    let end : c.in_ok-end.end ≡ c.in_ok-at.at + length piece = search (rules, arith) in
    let grown : c.deref_mut.result.now ≡ reaching (c.in_ok-at.at + length piece) c.args.bytes.now.items = c.deref_mut.ensures.value ∙ c.in_ok-grow.ensures.ok ∙ ap (λ (n : ℕ). reaching n c.args.bytes.now.items) end in
    let is = c.put_within.ensures.bytes ∙ ap (λ (l : List ℕ). take c.in_ok-at.at l ++ piece ++ drop (c.in_ok-at.at + length piece) l) grown in
    take_at x (drop (length x) c.grow.new.bytes.items) c.grow.new.bytes.len len ∙ is ∙ written_grown c.in_ok-at.at piece c.args.bytes.now.items ∙ ap (λ (n : ℕ). written n piece c.args.bytes.now.items) place
