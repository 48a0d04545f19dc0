-- The white space at both ends is passed over.
use Rattle.std.proofs.Common.{◌≡◌, ℕ, List, length, reverse, slice_range, sym, ap, ◌∙◌, arith}
use Rattle.std.proofs.lemmas.List.{reverse-reverse, take_all}
use Rattle.std.proofs.Math.Nat.{sub-zero}
use Rattle.httparse.specs.Grammar.{skip_ows, trim_ows}
use Rattle.httparse.proofs.TrimLemmas.{skip_ows_yes, skip_ows_no, slice_first, slice_last, slice_empty}
use Rattle.http_grammar.proofs.words.trimmed.Goals.{then-loop-start-test+else-is_blank, else-loop-start-test, then-loop-end-test+else-is_blank-2, else-loop-end-test}
use Rattle.http_grammar.proofs.words.trimmed.Goals as goal

pub loop-start-preserved : goal.loop-start-preserved
loop-start-preserved c = (
  omega arith,
  omega arith,
  c.loop-start.invariant.2 ∙ skip_ows_yes (slice_first _ _ _ c.loop-start-test.true (omega arith)) c.if-is_blank.ensures,
)

pub loop-end-init : goal.loop-end-init
unfolding trim_ows
loop-end-init c =
    let bytes = c.args.bytes.now in
    let here = slice_range bytes c.loop-start.start (length bytes) in
    let stays : skip_ows here ≡ here =
    elim c.loop-start-test.branch [
      | then-loop-start-test+else-is_blank w ↦
          let first = slice_first bytes _ _ w.loop-start-test.true (omega arith) in
          skip_ows_no first w.if-is_blank.ensures
      | else-loop-start-test w ↦
          let empty = slice_empty bytes c.loop-start.start (length bytes) (omega arith) (omega arith) in
          ap skip_ows empty ∙ sym empty
    ] in (
      omega arith,
      omega arith,
      ap (λ (t : List ℕ). reverse (skip_ows (reverse t))) (c.loop-start.invariant.2 ∙ stays),
    )

pub loop-end-preserved : goal.loop-end-preserved
loop-end-preserved c =
    let last = slice_last c.args.bytes.now _ _ c.loop-end-test.true (omega arith) in (
      omega arith,
      omega arith,
      c.loop-end.invariant.2 ∙ ap reverse (skip_ows_yes last c.if-is_blank-2.ensures),
    )

pub returns : goal.returns
returns c =
    let bytes = c.args.bytes.now in
    let whole : slice_range bytes 0 (length bytes) ≡ bytes = rw sub-zero (take_all (length bytes) bytes (omega arith)) in
    let here = slice_range bytes c.loop-start.start c.loop-end.end in
    let stays : reverse (skip_ows (reverse here)) ≡ here =
    elim c.loop-end-test.branch [
      | then-loop-end-test+else-is_blank-2 w ↦
          let last = slice_last bytes _ _ w.loop-end-test.true (omega arith) in
          ap reverse (skip_ows_no last w.if-is_blank-2.ensures) ∙ reverse-reverse _
      | else-loop-end-test w ↦
          let empty = slice_empty bytes c.loop-start.start c.loop-end.end (omega arith) (omega arith) in
          ap (λ (t : List ℕ). reverse (skip_ows (reverse t))) empty ∙ sym empty
    ] in
    sym (ap trim_ows (sym whole) ∙ c.loop-end.invariant.2 ∙ stays)
