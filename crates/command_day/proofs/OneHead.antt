-- The first line of an input has one head, or is refused in one way.
use Rattle.std.proofs.Common.{◌≡◌, ◌⊎◌, inl, inr, ℕ, ◌+◌, ◌-◌, ◌<◌, ◌≤◌, List, [], ◌∷◌, ◌++◌, length, refl, sym, ap, ◌∙◌, append_assoc, append-nil, length-append, arith, subst}
use Rattle.adx_io.specs.Lines.{HasNoNewline}
use Rattle.adx_io.specs.Talk.{ended}
use Rattle.command_runs.specs.Firsts.{AfterHead, Heads, IsRefused}
use Rattle.command_runs.specs.declared.first.NoLine.{NoLine}
use Rattle.command_runs.specs.Limits.{line_limit}
use Rattle.history_runs.proofs.FirstLines.{first_longer, first_same, no_first, rest_same}

module _ {H : Type 0} (heads : Heads H) (limit : ℕ) (longer : line_limit < limit)
    (one_head : (line : List ℕ) (h other : H) → heads.tells line h → heads.tells line other → h ≡ other)
    (one_refusal : (line out whole : List ℕ) → heads.refuses line out → heads.refuses line whole → out ≡ whole)
    (not_both : (line : List ℕ) (h : H) (out : List ℕ) → heads.tells line h → heads.refuses line out → ⊥) where
  -- the input begins with a line of a head
  abbrev pub Told : List ℕ → H → List ℕ → List ℕ → Type 0
  Told input h line rest = HasNoNewline line × (length line ≤ line_limit) × heads.tells line h × (input ≡ line ++ 10 ∷ rest)

  -- the input's first line is refused: as it is, as a cut one, or as a long one
  abbrev pub Refused : List ℕ → List ℕ → Type 0
  Refused input out =
      ((line rest : List ℕ) × HasNoNewline line × (length line ≤ line_limit) × heads.refuses line out × (input ≡ line ++ 10 ∷ rest))
      ⊎ ((HasNoNewline input × (length input ≤ line_limit) × (out ≡ heads.lacks NoLine.Cut))
      ⊎ ((front rest : List ℕ) × HasNoNewline front × (line_limit < length front) × (input ≡ front ++ rest) × (out ≡ heads.lacks NoLine.Long)))

  newline : (line more : List ℕ) → ended line ++ more ≡ line ++ 10 ∷ more
  newline line more = append_assoc line (10 ∷ []) more

  pub refused_as : (taken left out : List ℕ) → IsRefused heads limit taken left out → Refused (taken ++ left) out
  refused_as taken left out (inl (line, none, short, refuses, (ahead, few, is))) =
      inl (line, ahead ++ left, none, short, refuses, ap (λ t. t ++ left) is ∙ append_assoc (ended line) ahead left ∙ newline line (ahead ++ left))
  refused_as taken left out (inr (NoLine.Cut, (none, short, within, nothing), said)) =
      let same : taken ++ left ≡ taken = ap (λ l. taken ++ l) nothing ∙ append-nil taken in
      inr (inl (subst HasNoNewline (sym same) none, subst (λ l. length l ≤ line_limit) (sym same) short, said))
  refused_as taken left out (inr (NoLine.Long, inl (line, none, long, (ahead, few, is)), said)) =
      inr (inr (line, 10 ∷ (ahead ++ left), none, long, ap (λ t. t ++ left) is ∙ append_assoc (ended line) ahead left ∙ newline line (ahead ++ left), said))
  refused_as taken left out (inr (NoLine.Long, inr (inl (none, long, within, nothing)), said)) = inr (inr (taken, left, none, long, refl, said))
  refused_as taken left out (inr (NoLine.Long, inr (inr (line, more, none, long, is)), said)) =
      inr (inr (line, more ∷ left, none, omega (arith, longer, long), ap (λ t. t ++ left) is ∙ append_assoc line (more ∷ []) left, said))

  -- refused in one way
  pub refused_same : (input out whole : List ℕ) → Refused input out → Refused input whole → out ≡ whole
  refused_same input out whole (inl (line, rest, none, short, refuses, is)) (inl (line', rest', none', short', refuses', is')) =
      one_refusal line out whole refuses (subst (λ l. heads.refuses l whole) (sym (first_same line line' rest rest' none none' (sym is ∙ is'))) refuses')
  refused_same input out whole (inl (line, rest, none, short, refuses, is)) (inr (inl (none', short', said'))) = absurd (no_first input line rest none' is)
  refused_same input out whole (inl (line, rest, none, short, refuses, is)) (inr (inr (front, back, none', long', is', said'))) =
      absurd (omega (arith, short, long', first_longer front line rest back none' (sym is ∙ is')))
  refused_same input out whole (inr (inl (none, short, said))) (inl (line', rest', none', short', refuses', is')) = absurd (no_first input line' rest' none is')
  refused_same input out whole (inr (inl (none, short, said))) (inr (inl (none', short', said'))) = said ∙ sym said'
  refused_same input out whole (inr (inl (none, short, said))) (inr (inr (front, back, none', long', is', said'))) =
      absurd (omega (arith, short, long', ap length is', length-append front back))
  refused_same input out whole (inr (inr (front, back, none, long, is, said))) (inl (line', rest', none', short', refuses', is')) =
      absurd (omega (arith, short', long, first_longer front line' rest' back none (sym is' ∙ is)))
  refused_same input out whole (inr (inr (front, back, none, long, is, said))) (inr (inl (none', short', said'))) =
      absurd (omega (arith, short', long, ap length is, length-append front back))
  refused_same input out whole (inr (inr (front, back, none, long, is, said))) (inr (inr (front', back', none', long', is', said'))) = said ∙ sym said'

  -- a head isn't refused
  pub told_not_refused : (input : List ℕ) (h : H) (line rest out : List ℕ) → Told input h line rest → Refused input out → ⊥
  told_not_refused input h line rest out (none, short, tells, is) (inl (line', rest', none', short', refuses', is')) =
      not_both line h out tells (subst (λ l. heads.refuses l out) (sym (first_same line line' rest rest' none none' (sym is ∙ is'))) refuses')
  told_not_refused input h line rest out (none, short, tells, is) (inr (inl (none', short', said'))) = no_first input line rest none' is
  told_not_refused input h line rest out (none, short, tells, is) (inr (inr (front, back, none', long', is', said'))) =
      omega (arith, short, long', first_longer front line rest back none' (sym is ∙ is'))

  -- one head, and one rest
  pub told_same : (input : List ℕ) (h other : H) (line line' rest rest' : List ℕ) → Told input h line rest → Told input other line' rest' → (h ≡ other) × (line ≡ line') × (rest ≡ rest')
  told_same input h other line line' rest rest' (none, short, tells, is) (none', short', tells', is') =
      let same = first_same line line' rest rest' none none' (sym is ∙ is') in
      (one_head line h other tells (subst (λ l. heads.tells l other) (sym same) tells'), same, rest_same line line' rest rest' none none' (sym is ∙ is'))

  -- what comes after a head
  pub told_as : (h : H) (Holds : ℕ → List ℕ → Type 0) (taken left : List ℕ) → AfterHead heads limit h Holds taken → (line more : List ℕ) × Told (taken ++ left) h line (more ++ left) × Holds (limit - length (ended line)) more
  told_as h Holds taken left (line, more, none, short, tells, is, holds) =
      (line, more, (none, short, tells, ap (λ t. t ++ left) is ∙ append_assoc (ended line) more left ∙ newline line (more ++ left)), holds)
