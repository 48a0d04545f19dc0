-- What came of a document, by what was read of it and what was put.
use Rattle.std.proofs.Common.{◌≡◌, inl, inr, ℕ, ◌≤◌, List, [], ◌∷◌, ◌++◌, length, Option, Result, Ok, Err, refl, sym, ap, ◌∙◌, subst, arith, append_assoc, length-append}
use Rattle.adx_io.specs.Lines.{tape_behind}
use Rattle.adx_io.specs.Rest.{ReadsRest, Within}
use Rattle.adx_io.specs.Streams.{Tape, WhereTold}
use Rattle.adx_io.specs.declared.rest.Rest.{Rest}
use Rattle.adx_io.specs.declared.stop.Stop.{Stop}
use Rattle.adx_io.proofs.Moved.{took_none}
use Rattle.command_runs.specs.Documents.{IsJudged, Judging, document}
use Rattle.command_runs.specs.Meanings.{PutsEnd, Wrote}
use Rattle.command_runs.specs.declared.outcome.Outcome.{Outcome}
use Rattle.command_runs.proofs.Told.{told_map, unread_tape}

-- a talk that isn't ahead of its source
pub told_unread : (pending : List ℕ) (tape now : Option Tape) (R : Tape → Tape → Type 0) → pending ≡ [] → WhereTold tape now R → WhereTold (tape_behind pending tape) now R
told_unread pending tape now R none told =
    subst (λ p. WhereTold (tape_behind p tape) now R) (sym none) (subst (λ t. WhereTold t now R) (sym (unread_tape tape)) told)

module _ (limit : ℕ) (judges : Judging) (held held_now : Option (List ℕ)) where
  small : (bytes : List ℕ) → Within limit [] bytes → length bytes ≤ limit
  small bytes within = subst (λ b. length b ≤ limit) (sym within.1) within.2

  -- what was taken, and is judged
  judged : (rest : Rest) (bytes out : List ℕ) (outcome : Outcome) (old new : Tape) → ReadsRest limit [] bytes (Ok rest) old new → Within limit [] bytes → judges rest bytes outcome out
      → (taken : List ℕ) × (old.left ≡ taken ++ new.left) × IsJudged limit judges outcome taken new.left out
  judged Rest.Whole bytes out outcome old new reads within so = (bytes, reads.0.2 ∙ ap (λ b. b ++ new.left) (sym reads.0.1), inl (reads.1, small bytes within, so))
  judged Rest.PastLimit bytes out outcome old new reads within so = (
    bytes ++ reads.1 ∷ [],
    reads.2.2 ∙ ap (λ b. b ++ reads.0.left) (sym reads.2.1) ∙ ap (λ l. bytes ++ l) reads.4 ∙ sym (append_assoc bytes (reads.1 ∷ []) new.left),
    inr (bytes, reads.1, refl, omega (arith, reads.3), so),
  )

  -- what was put of what was said
  pub put_wrote : (input taken left out : List ℕ) (outcome : Outcome) (result : Result Outcome Stop) → input ≡ taken ++ left → IsJudged limit judges outcome taken left out → PutsEnd outcome held held_now out result → Wrote (document limit judges) input left held held_now result
  put_wrote input taken left out outcome (Ok ended) is so (wanted, took) = (taken, out, is, subst (λ o. IsJudged limit judges o taken left out) (sym wanted) so, took)
  put_wrote input taken left out outcome (Err Stop.ReadFault) is so puts = absurd puts
  put_wrote input taken left out outcome (Err Stop.WriteFault) is so (front, back, split, took) = (taken, [], out, front, back, is, (refl, inl (outcome, so)), split, took)
  put_wrote input taken left out outcome (Err Stop.OutOfMemory) is so (front, back, split, took) = (taken, [], out, front, back, is, (refl, inl (outcome, so)), split, took)

  pub told_judged : (pending bytes out : List ℕ) (rest : Rest) (outcome : Outcome) (tape now : Option Tape) (result : Result Outcome Stop) → pending ≡ [] → WhereTold tape now (ReadsRest limit [] bytes (Ok rest)) → Within limit [] bytes → judges rest bytes outcome out
      → PutsEnd outcome held held_now out result → WhereTold (tape_behind pending tape) now (λ x y. Wrote (document limit judges) x.left y.left held held_now result)
  told_judged pending bytes out rest outcome tape now result none reads within so puts =
      told_unread pending tape now _ none (told_map tape now (ReadsRest limit [] bytes (Ok rest)) _ reads (λ x y r.
      let j = judged rest bytes out outcome x y r within so in
      put_wrote x.left j.0 y.left out outcome result j.1 j.2 puts))

  -- the run stopped, and nothing was put
  pub stopped : (stop : Stop) (input taken left : List ℕ) → input ≡ taken ++ left → length taken ≤ limit → held_now ≡ held → Wrote (document limit judges) input left held held_now (Err stop)
  stopped Stop.ReadFault input taken left is few same = (taken, [], is, (few, refl), same ∙ took_none held)
  stopped Stop.WriteFault input taken left is few same = (taken, [], [], [], [], is, (refl, inr (refl, omega (arith, few))), refl, same ∙ took_none held)
  stopped Stop.OutOfMemory input taken left is few same = (taken, [], [], [], [], is, (refl, inr (refl, omega (arith, few))), refl, same ∙ took_none held)

  pub told_stopped : (stop : Stop) (pending bytes : List ℕ) (tape now : Option Tape) → pending ≡ [] → WhereTold tape now (ReadsRest limit [] bytes (Err stop)) → Within limit [] bytes → held_now ≡ held
      → WhereTold (tape_behind pending tape) now (λ x y. Wrote (document limit judges) x.left y.left held held_now (Err stop))
  told_stopped stop pending bytes tape now none reads within same =
      told_unread pending tape now _ none (told_map tape now (ReadsRest limit [] bytes (Err stop)) _ reads (λ x y r.
      stopped stop x.left bytes y.left (r.2 ∙ ap (λ b. b ++ y.left) (sym r.1)) (small bytes within) same))

  -- memory was refused after the document
  unjudged : (rest : Rest) (bytes : List ℕ) (old new : Tape) → ReadsRest limit [] bytes (Ok rest) old new → Within limit [] bytes → held_now ≡ held → Wrote (document limit judges) old.left new.left held held_now (Err Stop.OutOfMemory)
  unjudged Rest.Whole bytes old new reads within same = (bytes, [], [], [], [], reads.0.2 ∙ ap (λ b. b ++ new.left) (sym reads.0.1), (refl, inr (refl, omega (arith, small bytes within))), refl, same ∙ took_none held)
  unjudged Rest.PastLimit bytes old new reads within same = (
    bytes ++ reads.1 ∷ [],
    [],
    [],
    [],
    [],
    reads.2.2 ∙ ap (λ b. b ++ reads.0.left) (sym reads.2.1) ∙ ap (λ l. bytes ++ l) reads.4 ∙ sym (append_assoc bytes (reads.1 ∷ []) new.left),
    (refl, inr (refl, omega (arith, small bytes within, length-append bytes (reads.1 ∷ [])))),
    refl,
    same ∙ took_none held,
  )

  pub told_unjudged : (rest : Rest) (pending bytes : List ℕ) (tape now : Option Tape) → pending ≡ [] → WhereTold tape now (ReadsRest limit [] bytes (Ok rest)) → Within limit [] bytes → held_now ≡ held
      → WhereTold (tape_behind pending tape) now (λ x y. Wrote (document limit judges) x.left y.left held held_now (Err Stop.OutOfMemory))
  told_unjudged rest pending bytes tape now none reads within same =
      told_unread pending tape now _ none (told_map tape now (ReadsRest limit [] bytes (Ok rest)) _ reads (λ x y r. unjudged rest bytes x y r within same))
