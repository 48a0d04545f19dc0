-- UTF-8 byte by byte is UTF-8 character by character.
use Rattle.std.proofs.Common.{◌≡◌, ℕ, ◌+◌, ◌-◌, ◌*◌, ◌/◌, ◌%◌, ◌<◌, ◌≤◌, ◌⊎◌, inl, inr, List, [], ◌∷◌, ◌++◌, true, false, Option, Some, None, refl, sym, ap, ap₂, ◌∙◌, subst, arith, ltb, eqb}
use Rattle.std.proofs.lemmas.Bool.{cond-true, cond-false, cond_both, lt-ltb, le-ltb, le-leb, ltb-true, leb-true, eqb-true, eqb-false, ne_eqb, and_parts, and_from, cases_lt}
use Rattle.std.proofs.lemmas.Bool.Decides.{nat_tests}
use Rattle.std.proofs.lemmas.Str.{encode_ascii, IsUtf8-encode, IsUtf8-append, IsUtf8-nil}
use Rattle.std.specs.Char.{IsScalar, encode_utf8}
use Rattle.std.specs.Str.{IsUtf8, all_scalars, encode_utf8_all}
use Rattle.adx_json.specs.Machine.{utf8_step, after_lead, is_within, tail_low, tail_high, tail_next, behind_lead}
use Rattle.adx_json.specs.declared.utf8.Tail.{Tail}
use Rattle.adx_json.specs.declared.utf8.Tail.TheVariants.{One, Two, Three, BehindE0, BehindEd, BehindF0, BehindF4}

-- one byte after another
abbrev pub utf8_run : Option Tail → List ℕ → Option (Option Tail)
utf8_run t [] = Some t
utf8_run t (b ∷ bs) = elim (utf8_step t b) [ Some next ↦ utf8_run next bs | None ↦ None ]

-- where a byte leads, the run goes on
pub runs_on : (t next : Option Tail) (b : ℕ) (bs : List ℕ) → utf8_step t b ≡ Some next → utf8_run t (b ∷ bs) ≡ utf8_run next bs
runs_on t next b bs e = ap (λ (o : Option (Option Tail)). elim o as (λ _. Option (Option Tail)) [ Some n ↦ utf8_run n bs | None ↦ None ]) e

within : (low high b : ℕ) → low ≤ b → b ≤ high → is_within low high b ≡ true
within low high b l h = and_from _ _ (le-leb low b l) (le-leb b high h)

pub within_parts : (low high b : ℕ) → is_within low high b ≡ true → (low ≤ b) × (b ≤ high)
within_parts low high b e =
    let parts = and_parts _ _ e in
    (leb-true low b parts.0, leb-true b high parts.1)

not_within : (low high b : ℕ) → (b < low) ⊎ (high < b) → is_within low high b ≡ false
not_within low high b out = grind (arith, nat_tests)

ascii_step : (b : ℕ) → b < 128 → utf8_step None b ≡ Some None
ascii_step b h = cond-true _ _ _ (lt-ltb b 128 h)

lead_step : (b : ℕ) (t : Tail) → 128 ≤ b → after_lead b ≡ Some t → utf8_step None b ≡ Some (Some t)
lead_step b t h e = cond-false _ _ _ (le-ltb b 128 h) ∙ ap behind_lead e

tail_step : (t : Tail) (b : ℕ) → tail_low t ≤ b → b ≤ tail_high t → utf8_step (Some t) b ≡ Some (tail_next t)
tail_step t b l h = cond-true _ _ _ (within _ _ b l h)

-- the first bytes of characters
lead_two : (b : ℕ) → 194 ≤ b → b ≤ 223 → after_lead b ≡ Some One
lead_two b l h = cond-true _ _ _ (within 194 223 b l h)

lead_three : (b : ℕ) → 225 ≤ b → b ≤ 239 → (b ≡ 237 → ⊥) → after_lead b ≡ Some Two
lead_three b l h n =
    cond-false _ _ _ (not_within 194 223 b (inr (omega arith)))
    ∙ cond-false _ _ _ (ne_eqb b 224 (λ e. omega arith))
    ∙ cond-false _ _ _ (ne_eqb b 237 n)
    ∙ cond-true _ _ _ (within 225 239 b l h)

lead_four : (b : ℕ) → 241 ≤ b → b ≤ 243 → after_lead b ≡ Some Three
lead_four b l h =
    cond-false _ _ _ (not_within 194 223 b (inr (omega arith)))
    ∙ cond-false _ _ _ (ne_eqb b 224 (λ e. omega arith))
    ∙ cond-false _ _ _ (ne_eqb b 237 (λ e. omega arith))
    ∙ cond-false _ _ _ (not_within 225 239 b (inr (omega arith)))
    ∙ cond-false _ _ _ (ne_eqb b 240 (λ e. omega arith))
    ∙ cond-true _ _ _ (within 241 243 b l h)

-- a character's bytes by its bits
pub two_bytes : (p q : ℕ) → q < 64 → 2 ≤ p → p < 32 → encode_utf8 (64 * p + q) ≡ (192 + p) ∷ (128 + q) ∷ []
unfolding encode_utf8
two_bytes p q hq low high =
    let c : ℕ = 64 * p + q in
    let d : c / 64 ≡ p = omega arith in
    let m : c % 64 ≡ q = omega arith in
    cond-false _ _ _ (le-ltb c 128 (omega arith)) ∙ cond-true _ _ _ (lt-ltb c 2048 (omega arith)) ∙ ap₂ (λ (x y : ℕ). (192 + x) ∷ (128 + y) ∷ []) d m

pub three_bytes : (p q r : ℕ) → q < 64 → r < 64 → p < 16 → 2048 ≤ 4096 * p + 64 * q + r → encode_utf8 (4096 * p + 64 * q + r) ≡ (224 + p) ∷ (128 + q) ∷ (128 + r) ∷ []
unfolding encode_utf8
three_bytes p q r hq hr hp low =
    let c : ℕ = 4096 * p + 64 * q + r in
    let d : c / 4096 ≡ p = omega arith in
    let e : (c / 64) % 64 ≡ q = omega arith in
    let m : c % 64 ≡ r = omega arith in
    cond-false _ _ _ (le-ltb c 128 (omega arith)) ∙ cond-false _ _ _ (le-ltb c 2048 low) ∙ cond-true _ _ _ (lt-ltb c 65536 (omega arith)) ∙ rw (d, e, m) refl

pub four_bytes : (p q r s : ℕ) → q < 64 → r < 64 → s < 64 → p < 8 → 65536 ≤ 262144 * p + 4096 * q + 64 * r + s → encode_utf8 (262144 * p + 4096 * q + 64 * r + s) ≡ (240 + p) ∷ (128 + q) ∷ (128 + r) ∷ (128 + s) ∷ []
unfolding encode_utf8
four_bytes p q r s hq hr hs hp low =
    let c : ℕ = 262144 * p + 4096 * q + 64 * r + s in
    let d : c / 262144 ≡ p = omega arith in
    let e : (c / 4096) % 64 ≡ q = omega arith in
    let f : (c / 64) % 64 ≡ r = omega arith in
    let m : c % 64 ≡ s = omega arith in
    cond-false _ _ _ (le-ltb c 128 (omega arith)) ∙ cond-false _ _ _ (le-ltb c 2048 (omega arith)) ∙ cond-false _ _ _ (le-ltb c 65536 low) ∙ rw (d, e, f, m) refl

scalar_of : (c : ℕ) → (c < 55296) ⊎ ((57344 ≤ c) × (c < 1114112)) → IsScalar c
scalar_of c h = grind (arith, nat_tests)

one_more : (c : ℕ) (bytes rest : List ℕ) → IsScalar c → encode_utf8 c ≡ bytes → IsUtf8 rest → IsUtf8 (bytes ++ rest)
one_more c bytes rest s e u = IsUtf8-append bytes rest (subst IsUtf8 e (IsUtf8-encode c s)) u

same_pair : (a b c d : ℕ) → a ≡ c → b ≡ d → ◌≡◌ {A = List ℕ} (a ∷ b ∷ []) (c ∷ d ∷ [])
same_pair a b c d e f = cc

same_three : (a b x c d y : ℕ) → a ≡ c → b ≡ d → x ≡ y → ◌≡◌ {A = List ℕ} (a ∷ b ∷ x ∷ []) (c ∷ d ∷ y ∷ [])
same_three a b x c d y e f g = cc

same_four : (a b x z c d y w : ℕ) → a ≡ c → b ≡ d → x ≡ y → z ≡ w → ◌≡◌ {A = List ℕ} (a ∷ b ∷ x ∷ z ∷ []) (c ∷ d ∷ y ∷ w ∷ [])
same_four a b x z c d y w e f g h = cc

pub utf8_two : (a x : ℕ) (rest : List ℕ) → 194 ≤ a → a ≤ 223 → 128 ≤ x → x ≤ 191 → IsUtf8 rest → IsUtf8 (a ∷ x ∷ rest)
utf8_two a x rest la ha lx hx u =
    let p : ℕ = a - 192 in
    let q : ℕ = x - 128 in
    one_more (64 * p + q) (a ∷ x ∷ []) rest (scalar_of (64 * p + q) (inl (omega arith))) (two_bytes p q (omega arith) (omega arith) (omega arith) ∙ same_pair _ _ _ _ (omega arith) (omega arith)) u

-- the second byte leaves out what one byte fewer would do for, and surrogates
abbrev pub FitsThree : ℕ → ℕ → Type 0
FitsThree a x = ((a ≡ 224) × (160 ≤ x)) ⊎ (((225 ≤ a) × (a < 237)) ⊎ (((a ≡ 237) × (x ≤ 159)) ⊎ ((238 ≤ a) × (a ≤ 239))))

three_low : (a p q r x : ℕ) → FitsThree a x → a ≡ 224 + p → x ≡ 128 + q → 2048 ≤ 4096 * p + 64 * q + r
three_low a p q r x h e f = omega arith

three_scalar : (a p q r x : ℕ) → FitsThree a x → q < 64 → r < 64 → a ≡ 224 + p → x ≡ 128 + q → (4096 * p + 64 * q + r < 55296) ⊎ ((57344 ≤ 4096 * p + 64 * q + r) × (4096 * p + 64 * q + r < 1114112))
three_scalar a p q r x (inl h) hq hr e f = inl (omega arith)
three_scalar a p q r x (inr (inl h)) hq hr e f = inl (omega arith)
three_scalar a p q r x (inr (inr (inl h))) hq hr e f = inl (omega arith)
three_scalar a p q r x (inr (inr (inr h))) hq hr e f = inr (omega arith, omega arith)

pub utf8_three : (a x y : ℕ) (rest : List ℕ) → FitsThree a x → 128 ≤ x → x ≤ 191 → 128 ≤ y → y ≤ 191 → IsUtf8 rest → IsUtf8 (a ∷ x ∷ y ∷ rest)
utf8_three a x y rest fits lx hx ly hy u =
    let la : 224 ≤ a = omega arith in
    let ha : a ≤ 239 = omega arith in
    let p : ℕ = a - 224 in
    let q : ℕ = x - 128 in
    let r : ℕ = y - 128 in
    let ea : a ≡ 224 + p = omega arith in
    let ex : x ≡ 128 + q = omega arith in
    one_more (4096 * p + 64 * q + r) (a ∷ x ∷ y ∷ []) rest (scalar_of (4096 * p + 64 * q + r) (three_scalar a p q r x fits (omega arith) (omega arith) ea ex)) (three_bytes p q r (omega arith) (omega arith) (omega arith) (three_low a p q r x fits ea ex) ∙ same_three _ _ _ _ _ _ (omega arith) (omega arith) (omega arith)) u

abbrev pub FitsFour : ℕ → ℕ → Type 0
FitsFour a x = ((a ≡ 240) × (144 ≤ x)) ⊎ (((241 ≤ a) × (a ≤ 243)) ⊎ ((a ≡ 244) × (x ≤ 143)))

four_range : (a p q r s x : ℕ) → FitsFour a x → q < 64 → r < 64 → s < 64 → a ≡ 240 + p → x ≡ 128 + q → (65536 ≤ 262144 * p + 4096 * q + 64 * r + s) × (262144 * p + 4096 * q + 64 * r + s < 1114112)
four_range a p q r s x (inl h) hq hr hs e f = (omega arith, omega arith)
four_range a p q r s x (inr (inl h)) hq hr hs e f = (omega arith, omega arith)
four_range a p q r s x (inr (inr h)) hq hr hs e f = (omega arith, omega arith)

pub utf8_four : (a x y z : ℕ) (rest : List ℕ) → FitsFour a x → 128 ≤ x → x ≤ 191 → 128 ≤ y → y ≤ 191 → 128 ≤ z → z ≤ 191 → IsUtf8 rest → IsUtf8 (a ∷ x ∷ y ∷ z ∷ rest)
utf8_four a x y z rest fits lx hx ly hy lz hz u =
    let la : 240 ≤ a = omega arith in
    let ha : a ≤ 244 = omega arith in
    let p : ℕ = a - 240 in
    let q : ℕ = x - 128 in
    let r : ℕ = y - 128 in
    let s : ℕ = z - 128 in
    let range = four_range a p q r s x fits (omega arith) (omega arith) (omega arith) (omega arith) (omega arith) in
    one_more (262144 * p + 4096 * q + 64 * r + s) (a ∷ x ∷ y ∷ z ∷ []) rest (scalar_of (262144 * p + 4096 * q + 64 * r + s) (inr (omega (arith, range.0), range.1))) (four_bytes p q r s (omega arith) (omega arith) (omega arith) (omega arith) range.0 ∙ same_four _ _ _ _ _ _ _ _ (omega arith) (omega arith) (omega arith) (omega arith)) u

-- what follows a character's bytes so far
abbrev pub EndsChar : Option Tail → List ℕ → Type 0
EndsChar None bs = IsUtf8 bs
EndsChar (Some One) bs = (x : ℕ) × (rest : List ℕ) × (bs ≡ x ∷ rest) × (128 ≤ x) × (x ≤ 191) × IsUtf8 rest
EndsChar (Some Two) bs = (x y : ℕ) × (rest : List ℕ) × (bs ≡ x ∷ y ∷ rest) × (128 ≤ x) × (x ≤ 191) × (128 ≤ y) × (y ≤ 191) × IsUtf8 rest
EndsChar (Some Three) bs = (x y z : ℕ) × (rest : List ℕ) × (bs ≡ x ∷ y ∷ z ∷ rest) × (128 ≤ x) × (x ≤ 191) × (128 ≤ y) × (y ≤ 191) × (128 ≤ z) × (z ≤ 191) × IsUtf8 rest
EndsChar (Some BehindE0) bs = (x y : ℕ) × (rest : List ℕ) × (bs ≡ x ∷ y ∷ rest) × (160 ≤ x) × (x ≤ 191) × (128 ≤ y) × (y ≤ 191) × IsUtf8 rest
EndsChar (Some BehindEd) bs = (x y : ℕ) × (rest : List ℕ) × (bs ≡ x ∷ y ∷ rest) × (128 ≤ x) × (x ≤ 159) × (128 ≤ y) × (y ≤ 191) × IsUtf8 rest
EndsChar (Some BehindF0) bs = (x y z : ℕ) × (rest : List ℕ) × (bs ≡ x ∷ y ∷ z ∷ rest) × (144 ≤ x) × (x ≤ 191) × (128 ≤ y) × (y ≤ 191) × (128 ≤ z) × (z ≤ 191) × IsUtf8 rest
EndsChar (Some BehindF4) bs = (x y z : ℕ) × (rest : List ℕ) × (bs ≡ x ∷ y ∷ z ∷ rest) × (128 ≤ x) × (x ≤ 143) × (128 ≤ y) × (y ≤ 191) × (128 ≤ z) × (z ≤ 191) × IsUtf8 rest

pub tail_ends : (t : Tail) (b : ℕ) (bs : List ℕ) → tail_low t ≤ b → b ≤ tail_high t → EndsChar (tail_next t) bs → EndsChar (Some t) (b ∷ bs)
tail_ends One b bs l h u = (b, bs, refl, l, h, u)
tail_ends Two b bs l h e = (b, e.0, e.1, ap (λ r. b ∷ r) e.2, l, h, e.3, e.4, e.5)
tail_ends Three b bs l h e = (b, e.0, e.1, e.2, ap (λ r. b ∷ r) e.3, l, h, e.4, e.5, e.6, e.7, e.8)
tail_ends BehindE0 b bs l h e = (b, e.0, e.1, ap (λ r. b ∷ r) e.2, l, h, e.3, e.4, e.5)
tail_ends BehindEd b bs l h e = (b, e.0, e.1, ap (λ r. b ∷ r) e.2, l, h, e.3, e.4, e.5)
tail_ends BehindF0 b bs l h e = (b, e.0, e.1, e.2, ap (λ r. b ∷ r) e.3, l, h, e.4, e.5, e.6, e.7, e.8)
tail_ends BehindF4 b bs l h e = (b, e.0, e.1, e.2, ap (λ r. b ∷ r) e.3, l, h, e.4, e.5, e.6, e.7, e.8)

abbrev LeadEnds : ℕ → List ℕ → Option Tail → Type 0
LeadEnds b bs None = Unit {0}
LeadEnds b bs (Some t) = EndsChar (Some t) bs → IsUtf8 (b ∷ bs)

lead_ends : (b : ℕ) (bs : List ℕ) → LeadEnds b bs (after_lead b)
lead_ends b bs =
    cond_both (is_within 194 223 b) _ _ (LeadEnds b bs) (λ w e.
    let k = within_parts 194 223 b w in
    subst IsUtf8 (ap (λ r. b ∷ r) (sym e.2)) (utf8_two b e.0 e.1 k.0 k.1 e.3 e.4 e.5))
    (λ n1. cond_both (eqb b 224) _ _ (LeadEnds b bs) (λ w e.
    subst IsUtf8 (ap (λ r. b ∷ r) (sym e.3)) (utf8_three b e.0 e.1 e.2 (inl (eqb-true b 224 w, e.4)) (omega (arith, e.4)) e.5 e.6 e.7 e.8))
    (λ n2. cond_both (eqb b 237) _ _ (LeadEnds b bs) (λ w e.
    subst IsUtf8 (ap (λ r. b ∷ r) (sym e.3)) (utf8_three b e.0 e.1 e.2 (inr (inr (inl (eqb-true b 237 w, e.5)))) e.4 (omega (arith, e.5)) e.6 e.7 e.8))
    (λ n3. cond_both (is_within 225 239 b) _ _ (LeadEnds b bs) (λ w e.
    let k = within_parts 225 239 b w in
    let n : b ≡ 237 → ⊥ = eqb-false b 237 n3 in
    subst IsUtf8 (ap (λ r. b ∷ r) (sym e.3)) (utf8_three b e.0 e.1 e.2 (plain_three b e.0 k.0 k.1 n (cases_lt b 237)) e.4 e.5 e.6 e.7 e.8))
    (λ n4. cond_both (eqb b 240) _ _ (LeadEnds b bs) (λ w e.
    subst IsUtf8 (ap (λ r. b ∷ r) (sym e.4)) (utf8_four b e.0 e.1 e.2 e.3 (inl (eqb-true b 240 w, e.5)) (omega (arith, e.5)) e.6 e.7 e.8 e.9 e.10 e.11))
    (λ n5. cond_both (is_within 241 243 b) _ _ (LeadEnds b bs) (λ w e.
    let k = within_parts 241 243 b w in
    subst IsUtf8 (ap (λ r. b ∷ r) (sym e.4)) (utf8_four b e.0 e.1 e.2 e.3 (inr (inl (k.0, k.1))) e.5 e.6 e.7 e.8 e.9 e.10 e.11))
    (λ n6. cond_both (eqb b 244) _ _ (LeadEnds b bs) (λ w e.
    subst IsUtf8 (ap (λ r. b ∷ r) (sym e.4)) (utf8_four b e.0 e.1 e.2 e.3 (inr (inr (eqb-true b 244 w, e.6))) e.5 (omega (arith, e.6)) e.7 e.8 e.9 e.10 e.11))
    (λ n7. tt)))))))
  where
    plain_three : (b x : ℕ) → 225 ≤ b → b ≤ 239 → (b ≡ 237 → ⊥) → (b < 237) ⊎ (237 ≤ b) → FitsThree b x
    plain_three b x l h n (inl k) = inr (inl (l, k))
    plain_three b x l h n (inr k) = inr (inr (inr (omega arith, h)))

ascii_ends : (b : ℕ) (bs : List ℕ) → b < 128 → IsUtf8 bs → IsUtf8 (b ∷ bs)
ascii_ends b bs low u = one_more b (b ∷ []) bs (scalar_of b (inl (omega arith))) (encode_ascii b low) u

abbrev StepEnds : Option Tail → ℕ → List ℕ → Option (Option Tail) → Type 0
StepEnds t b bs None = Unit {0}
StepEnds t b bs (Some next) = EndsChar next bs → EndsChar t (b ∷ bs)

lead_step_ends : (b : ℕ) (bs : List ℕ) (o : Option Tail) → LeadEnds b bs o → StepEnds None b bs (behind_lead o)
lead_step_ends b bs None h = tt
lead_step_ends b bs (Some t) h = h

step_ends : (t : Option Tail) (b : ℕ) (bs : List ℕ) → StepEnds t b bs (utf8_step t b)
step_ends None b bs =
    cond_both (ltb b 128) _ _ (StepEnds None b bs) (λ w u. ascii_ends b bs (ltb-true b 128 w) u) (λ w. lead_step_ends b bs (after_lead b) (lead_ends b bs))
step_ends (Some t) b bs =
    cond_both (is_within (tail_low t) (tail_high t) b) _ _ (StepEnds (Some t) b bs) (λ w e. let k = within_parts _ _ b w in tail_ends t b bs k.0 k.1 e) (λ w. tt)

-- where one byte leads, what ends a character after it ends one before it
pub ends_before : (t next : Option Tail) (b : ℕ) (bs : List ℕ) → utf8_step t b ≡ Some next → EndsChar next bs → EndsChar t (b ∷ bs)
ends_before t next b bs e h = let f = subst (StepEnds t b bs) e (step_ends t b bs) in f h

run_at : (t : Option Tail) (b : ℕ) (bs : List ℕ) (o : Option (Option Tail)) → utf8_step t b ≡ o → ((next : Option Tail) → utf8_run next bs ≡ Some None → EndsChar next bs) → elim o as (λ _. Option (Option Tail)) [ Some n ↦ utf8_run n bs | None ↦ None ] ≡ Some None → EndsChar t (b ∷ bs)
run_at t b bs None e later h = cc
run_at t b bs (Some next) e later h = ends_before t next b bs e (later next h)

some_none : (t : Option Tail) → Some t ≡ Some None → None ≡ t
some_none t e = cc

-- bytes that a run ends after whole characters of are UTF-8
pub run_utf8 : (t : Option Tail) (bs : List ℕ) → utf8_run t bs ≡ Some None → EndsChar t bs
run_utf8 t [] h = subst (λ s. EndsChar s []) (some_none t h) IsUtf8-nil
run_utf8 t (b ∷ bs) h = run_at t b bs (utf8_step t b) refl (λ next k. run_utf8 next bs k) h

-- the run over a character
two_run : (a x : ℕ) (rest : List ℕ) → 194 ≤ a → a ≤ 223 → 128 ≤ x → x ≤ 191 → utf8_run None (a ∷ x ∷ rest) ≡ utf8_run None rest
two_run a x rest la ha lx hx =
    runs_on None (Some One) a (x ∷ rest) (lead_step a One (omega arith) (lead_two a la ha)) ∙ runs_on (Some One) None x rest (tail_step One x lx hx)

three_run : (a x y : ℕ) (t : Tail) (rest : List ℕ) → 128 ≤ a → after_lead a ≡ Some t → tail_next t ≡ Some One → tail_low t ≤ x → x ≤ tail_high t → 128 ≤ y → y ≤ 191 → utf8_run None (a ∷ x ∷ y ∷ rest) ≡ utf8_run None rest
three_run a x y t rest la lead next lx hx ly hy =
    runs_on None (Some t) a (x ∷ y ∷ rest) (lead_step a t la lead) ∙ runs_on (Some t) (Some One) x (y ∷ rest) (tail_step t x lx hx ∙ ap (λ o. Some o) next) ∙ runs_on (Some One) None y rest (tail_step One y ly hy)

four_run : (a x y z : ℕ) (t : Tail) (rest : List ℕ) → 128 ≤ a → after_lead a ≡ Some t → tail_next t ≡ Some Two → tail_low t ≤ x → x ≤ tail_high t → 128 ≤ y → y ≤ 191 → 128 ≤ z → z ≤ 191 → utf8_run None (a ∷ x ∷ y ∷ z ∷ rest) ≡ utf8_run None rest
four_run a x y z t rest la lead next lx hx ly hy lz hz =
    runs_on None (Some t) a (x ∷ y ∷ z ∷ rest) (lead_step a t la lead) ∙ runs_on (Some t) (Some Two) x (y ∷ z ∷ rest) (tail_step t x lx hx ∙ ap (λ o. Some o) next) ∙ runs_on (Some Two) (Some One) y (z ∷ rest) (tail_step Two y ly hy) ∙ runs_on (Some One) None z rest (tail_step One z lz hz)

lead_is : (a b : ℕ) (o : Option Tail) → a ≡ b → after_lead b ≡ o → after_lead a ≡ o
lead_is a b o e h = ap after_lead e ∙ h

fits_three_run : (a x y : ℕ) (rest : List ℕ) → FitsThree a x → 128 ≤ x → x ≤ 191 → 128 ≤ y → y ≤ 191 → utf8_run None (a ∷ x ∷ y ∷ rest) ≡ utf8_run None rest
fits_three_run a x y rest (inl h) lx hx ly hy = three_run a x y BehindE0 rest (omega (arith, h.0)) (lead_is a 224 _ h.0 refl) refl h.1 hx ly hy
fits_three_run a x y rest (inr (inl h)) lx hx ly hy = three_run a x y Two rest (omega (arith, h.0)) (lead_three a h.0 (omega (arith, h.1)) (λ e. omega (arith, h.1))) refl lx hx ly hy
fits_three_run a x y rest (inr (inr (inl h))) lx hx ly hy = three_run a x y BehindEd rest (omega (arith, h.0)) (lead_is a 237 _ h.0 refl) refl lx h.1 ly hy
fits_three_run a x y rest (inr (inr (inr h))) lx hx ly hy = three_run a x y Two rest (omega (arith, h.0)) (lead_three a (omega (arith, h.0)) h.1 (λ e. omega (arith, h.0))) refl lx hx ly hy

fits_four_run : (a x y z : ℕ) (rest : List ℕ) → FitsFour a x → 128 ≤ x → x ≤ 191 → 128 ≤ y → y ≤ 191 → 128 ≤ z → z ≤ 191 → utf8_run None (a ∷ x ∷ y ∷ z ∷ rest) ≡ utf8_run None rest
fits_four_run a x y z rest (inl h) lx hx ly hy lz hz = four_run a x y z BehindF0 rest (omega (arith, h.0)) (lead_is a 240 _ h.0 refl) refl h.1 hx ly hy lz hz
fits_four_run a x y z rest (inr (inl h)) lx hx ly hy lz hz = four_run a x y z Three rest (omega (arith, h.0)) (lead_four a h.0 h.1) refl lx hx ly hy lz hz
fits_four_run a x y z rest (inr (inr h)) lx hx ly hy lz hz = four_run a x y z BehindF4 rest (omega (arith, h.0)) (lead_is a 244 _ h.0 refl) refl lx h.1 ly hy lz hz

three_fits : (c : ℕ) → 2048 ≤ c → c < 65536 → (c < 55296) ⊎ ((57344 ≤ c) × (c < 1114112)) → (c < 4096) ⊎ (4096 ≤ c) → (c < 53248) ⊎ (53248 ≤ c) → FitsThree (224 + c / 4096) (128 + (c / 64) % 64)
three_fits c low high ok (inl k) m = inl (omega arith, omega arith)
three_fits c low high ok (inr k) (inl m) = inr (inl (omega arith, omega arith))
three_fits c low high (inl s) (inr k) (inr m) = inr (inr (inl (omega arith, omega arith)))
three_fits c low high (inr s) (inr k) (inr m) = inr (inr (inr (omega arith, omega arith)))

four_fits : (c : ℕ) → 65536 ≤ c → c < 1114112 → (c < 262144) ⊎ (262144 ≤ c) → (c < 1048576) ⊎ (1048576 ≤ c) → FitsFour (240 + c / 262144) (128 + (c / 4096) % 64)
four_fits c low high (inl k) m = inl (omega arith, omega arith)
four_fits c low high (inr k) (inl m) = inr (inl (omega arith, omega arith))
four_fits c low high (inr k) (inr m) = inr (inr (omega arith, omega arith))

scalar_range : (c : ℕ) → IsScalar c → (c < 55296) ⊎ ((57344 ≤ c) × (c < 1114112))
scalar_range c h = grind (arith, nat_tests)

char_run : (c : ℕ) (rest : List ℕ) → IsScalar c → (c < 128) ⊎ (128 ≤ c) → (c < 2048) ⊎ (2048 ≤ c) → (c < 65536) ⊎ (65536 ≤ c) → utf8_run None (encode_utf8 c ++ rest) ≡ utf8_run None rest
char_run c rest s (inl k) m n =
    ap (λ (bs : List ℕ). utf8_run None (bs ++ rest)) (encode_ascii c k) ∙ runs_on None None c rest (ascii_step c k)
char_run c rest s (inr k) (inl m) n =
    let e : 64 * (c / 64) + c % 64 ≡ c = omega arith in
    ap (λ (bs : List ℕ). utf8_run None (bs ++ rest)) (ap encode_utf8 (sym e) ∙ two_bytes (c / 64) (c % 64) (omega arith) (omega arith) (omega arith))
    ∙ two_run (192 + c / 64) (128 + c % 64) rest (omega arith) (omega arith) (omega arith) (omega arith)
char_run c rest s (inr k) (inr m) (inl n) =
    let e : 4096 * (c / 4096) + 64 * ((c / 64) % 64) + c % 64 ≡ c = omega arith in
    let low : 2048 ≤ 4096 * (c / 4096) + 64 * ((c / 64) % 64) + c % 64 = omega arith in
    ap (λ (bs : List ℕ). utf8_run None (bs ++ rest)) (ap encode_utf8 (sym e) ∙ three_bytes (c / 4096) ((c / 64) % 64) (c % 64) (omega arith) (omega arith) (omega arith) low)
    ∙ fits_three_run (224 + c / 4096) (128 + (c / 64) % 64) (128 + c % 64) rest (three_fits c m n (scalar_range c s) (cases_lt c 4096) (cases_lt c 53248)) (omega arith) (omega arith) (omega arith) (omega arith)
char_run c rest s (inr k) (inr m) (inr n) =
    let range = scalar_range c s in
    let high : c < 1114112 = omega arith in
    let e : 262144 * (c / 262144) + 4096 * ((c / 4096) % 64) + 64 * ((c / 64) % 64) + c % 64 ≡ c = omega arith in
    let low : 65536 ≤ 262144 * (c / 262144) + 4096 * ((c / 4096) % 64) + 64 * ((c / 64) % 64) + c % 64 = omega arith in
    ap (λ (bs : List ℕ). utf8_run None (bs ++ rest)) (ap encode_utf8 (sym e) ∙ four_bytes (c / 262144) ((c / 4096) % 64) ((c / 64) % 64) (c % 64) (omega arith) (omega arith) (omega arith) (omega arith) low)
    ∙ fits_four_run (240 + c / 262144) (128 + (c / 4096) % 64) (128 + (c / 64) % 64) (128 + c % 64) rest (four_fits c n high (cases_lt c 262144) (cases_lt c 1048576)) (omega arith) (omega arith) (omega arith) (omega arith) (omega arith) (omega arith)

chars_run : (cs : List ℕ) → all_scalars cs ≡ true → utf8_run None (encode_utf8_all cs) ≡ Some None
chars_run [] s = refl
chars_run (c ∷ cs) s =
    let parts = and_parts _ _ s in
    char_run c (encode_utf8_all cs) parts.0 (cases_lt c 128) (cases_lt c 2048) (cases_lt c 65536) ∙ chars_run cs parts.1

-- UTF-8 is read to its end, after a whole character
pub utf8_runs : (bs : List ℕ) → IsUtf8 bs → utf8_run None bs ≡ Some None
utf8_runs bs u = ap (utf8_run None) (sym u.1.1) ∙ chars_run u.0 u.1.0
