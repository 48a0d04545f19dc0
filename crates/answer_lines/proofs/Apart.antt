-- The line of a fault is that of no answer: its first two letters are others.
use Rattle.std.proofs.Common.{◌≡◌, ℕ, ◌+◌, ◌*◌, List, [], get_or, refl, sym, ap, ◌∙◌, arith}
use Rattle.answer_lines.specs.declared.faults.Fault.{Fault}
use Rattle.answer_lines.specs.Answers.{fault_line}

-- the first two letters of the answer's name, as one number
abbrev mark : List ℕ → ℕ
mark line = 256 * get_or line 11 0 + get_or line 12 0

apart : (line : List ℕ) (n : ℕ) → mark line ≡ n → (n ≡ 25705 → ⊥) → (n ≡ 27247 → ⊥) → (fault : Fault) → line ≡ fault_line fault → ⊥
apart line n is no_disk no_full Fault.Disk e = no_disk (sym is ∙ ap mark e)
apart line n is no_disk no_full (Fault.JournalFull size) e = no_full (sym is ∙ ap mark e)

none_apart : (fault : Fault) → [] ≡ fault_line fault → ⊥
none_apart fault e = apart [] 0 refl (λ o. absurd (omega (arith, o))) (λ o. absurd (omega (arith, o))) fault e
