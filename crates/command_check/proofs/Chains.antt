-- Three pieces written one behind the other.
use Rattle.std.proofs.Common.{◌≡◌, ℕ, List, ◌++◌, ap, ◌∙◌, append_assoc}

pub three : (start a b c first second now : List ℕ) → first ≡ start ++ a → second ≡ first ++ b → now ≡ second ++ c → now ≡ start ++ ((a ++ b) ++ c)
three start a b c first second now is_a is_b is_c =
    is_c ∙ ap (λ (t : List ℕ). t ++ c) (is_b ∙ ap (λ (t : List ℕ). t ++ b) is_a) ∙ ap (λ (t : List ℕ). t ++ c) (append_assoc start a b) ∙ append_assoc start (a ++ b) c
