-- Formats whose spellings have no newline.
use Rattle.std.proofs.Common.{ℕ, List, [], ◌∷◌, inl, inr, ◌≢◌}
use Rattle.std.proofs.lemmas.List.Elements.{All-nil, All-cons}
use Rattle.formats.specs.Parts.{IsOneLine}
use Rattle.formats.proofs.OneLines.{one_line_join}
use Rattle.formats.specs.Formats.{Format, behind, ended_by, ◌⊗◌, worded}

abbrev pub IsPlain : {X : Type 0} → Format X → Type 0
IsPlain f = (x : _) → f.Fits x → IsOneLine (f.write x)

module _ {X : Type 0} (f : Format X) where
  pub behind-plain : (word : List ℕ) → IsOneLine word → IsPlain f → IsPlain (behind word f)
  behind-plain word one plain x fits = one_line_join word (f.write x) one (plain x fits)

  pub ended_by-plain : (b : ℕ) → b ≢ 10 → IsPlain f → IsPlain (ended_by b f)
  ended_by-plain b other plain x fits = one_line_join (f.write x) (b ∷ []) (plain x fits) (All-cons (λ n. n ≢ 10) b [] other (All-nil (λ n. n ≢ 10)))

module _ {X Y : Type 0} (f : Format X) (g : Format Y) where
  pub pair-plain : IsPlain f → IsPlain g → IsPlain (f ⊗ g)
  pair-plain pf pg p fits = one_line_join (f.write p.0) (g.write p.1) (pf p.0 fits.0) (pg p.1 fits.1)

  pub worded-plain : (word : List ℕ) → IsOneLine word → IsPlain f → IsPlain g → IsPlain (worded word f g)
  worded-plain word one pf pg (inl x) fits = one_line_join word (f.write x) one (pf x fits)
  worded-plain word one pf pg (inr y) fits = pg y fits
