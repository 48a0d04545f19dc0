-- Several pieces written one after the other.
use Rattle.std.proofs.Common.{◌≡◌, ℕ, List, ◌++◌, ap, ◌∙◌, append_assoc}

-- what was written, and one piece more
pub and_then : (start front piece mid now : List ℕ) → now ≡ mid ++ piece → mid ≡ start ++ front → now ≡ start ++ (front ++ piece)
and_then start front piece mid now more so_far = more ∙ ap (λ b. b ++ piece) so_far ∙ append_assoc start front piece
