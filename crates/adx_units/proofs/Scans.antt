-- What the parts of a number's text are, of its bytes read from the front.
use Rattle.std.proofs.Common.{◌≡◌, inl, inr, ℕ, suc, ◌+◌, ◌≤◌, List, [], ◌∷◌, ◌++◌, Bool, true, false, not, ◌||◌, ◌&&◌, cond, eqb, nat_le, length, take, drop, refl, sym, ap, ap₂, ◌∙◌, subst, arith, append-nil, append_assoc}
use Rattle.std.proofs.Math.Numerals.{one-add}
use Rattle.std.specs.List.{list_all, list_any, prefix_len, position_or_len, before_first, after_first}
use Rattle.std.proofs.lemmas.List.Folds.{list_any-append, list_all-append}
use Rattle.std.proofs.lemmas.Bool.{and_parts, and_from, and_left, and_right, or_parts, leb-true, ne_eqb, eqb-true}
use Rattle.adx_units.specs.Number.{is_digit, is_digits, is_whole, is_decimal, is_number, is_point, is_exponent_mark, has_minus, without_minus, without_sign, decimal_part, exponent_part, whole_digits, fraction_digits, begins_with}
use Rattle.adx_units.specs.Scans.{Stops, IsFraction, HasNoFraction, IsExponent, HasNoExponent}

-- the bytes at the front that pass
passes_at : (p : ℕ → Bool) (x : ℕ) (xs : List ℕ) (n : ℕ) (b : Bool) → p x ≡ b → list_all p (take n xs) ≡ true → list_all p (take (cond b (1 + n) 0) (x ∷ xs)) ≡ true
passes_at p x xs n true e h = subst (λ k. list_all p (take k (x ∷ xs)) ≡ true) (sym (one-add n)) (and_from _ _ e h)
passes_at p x xs n false e h = refl

pub front_passes : (p : ℕ → Bool) (xs : List ℕ) → list_all p (take (prefix_len p xs) xs) ≡ true
front_passes p [] = refl
front_passes p (x ∷ xs) = passes_at p x xs (prefix_len p xs) (p x) refl (front_passes p xs)

stops_at : (p : ℕ → Bool) (x : ℕ) (xs : List ℕ) (n : ℕ) (b : Bool) → p x ≡ b → Stops p (drop n xs) → Stops p (drop (cond b (1 + n) 0) (x ∷ xs))
stops_at p x xs n true e h = subst (λ k. Stops p (drop k (x ∷ xs))) (sym (one-add n)) h
stops_at p x xs n false e h = e

pub front_stops : (p : ℕ → Bool) (xs : List ℕ) → Stops p (drop (prefix_len p xs) xs)
front_stops p [] = tt
front_stops p (x ∷ xs) = stops_at p x xs (prefix_len p xs) (p x) refl (front_stops p xs)

-- what comes before the first byte that passes, and what after it
before_on : (p : ℕ → Bool) (x : ℕ) (xs : List ℕ) → p x ≡ false → before_first p (x ∷ xs) ≡ x ∷ before_first p xs
before_on p x xs h =
    ap (λ (b : Bool). take (cond (not b) (1 + position_or_len p xs) 0) (x ∷ xs)) h ∙ ap (λ n. take n (x ∷ xs)) (one-add (position_or_len p xs))

before_at : (p : ℕ → Bool) (x : ℕ) (xs : List ℕ) → p x ≡ true → before_first p (x ∷ xs) ≡ []
before_at p x xs h = ap (λ (b : Bool). take (cond (not b) (1 + position_or_len p xs) 0) (x ∷ xs)) h

after_on : (p : ℕ → Bool) (x : ℕ) (xs : List ℕ) → p x ≡ false → after_first p (x ∷ xs) ≡ after_first p xs
after_on p x xs h =
    let n = position_or_len p xs in
    let more : 1 + n + 1 ≡ suc (n + 1) = omega arith in
    ap (λ (b : Bool). drop (cond (not b) (1 + n) 0 + 1) (x ∷ xs)) h ∙ ap (λ k. drop k (x ∷ xs)) more

after_at : (p : ℕ → Bool) (x : ℕ) (xs : List ℕ) → p x ≡ true → after_first p (x ∷ xs) ≡ xs
after_at p x xs h = ap (λ (b : Bool). drop (cond (not b) (1 + position_or_len p xs) 0 + 1) (x ∷ xs)) h

-- the same after bytes of which none passes
before_front : (p : ℕ → Bool) (w b : List ℕ) → list_any p w ≡ false → before_first p (w ++ b) ≡ w ++ before_first p b
before_front p [] b h = refl
before_front p (x ∷ w) b h =
    let both = or_parts (p x) (list_any p w) h in
    before_on p x (w ++ b) both.0 ∙ ap (λ l. x ∷ l) (before_front p w b both.1)

after_front : (p : ℕ → Bool) (w b : List ℕ) → list_any p w ≡ false → after_first p (w ++ b) ≡ after_first p b
after_front p [] b h = refl
after_front p (x ∷ w) b h =
    let both = or_parts (p x) (list_any p w) h in
    after_on p x (w ++ b) both.0 ∙ after_front p w b both.1

any_front : (p : ℕ → Bool) (w b : List ℕ) → list_any p w ≡ false → list_any p (w ++ b) ≡ list_any p b
any_front p w b h = list_any-append p w b ∙ ap (λ c. c || list_any p b) h

-- what comes before the first byte that passes begins as the list does, or is empty
before_begins_at : (p q : ℕ → Bool) (x : ℕ) (xs : List ℕ) (c : Bool) → p x ≡ c → q x ≡ false → Stops q (before_first p (x ∷ xs))
before_begins_at p q x xs true e h = subst (Stops q) (sym (before_at p x xs e)) tt
before_begins_at p q x xs false e h = subst (Stops q) (sym (before_on p x xs e)) h

before_begins : (p q : ℕ → Bool) (xs : List ℕ) → Stops q xs → Stops q (before_first p xs)
before_begins p q [] h = tt
before_begins p q (x ∷ xs) h = before_begins_at p q x xs (p x) refl h

-- digits are neither points nor exponent's marks
digit_range : (b : ℕ) → is_digit b ≡ true → (48 ≤ b) × (b ≤ 57)
digit_range b h =
    let both = and_parts (nat_le 48 b) (nat_le b 57) h in
    (leb-true 48 b both.0, leb-true b 57 both.1)

digit_no_point : (b : ℕ) → is_digit b ≡ true → is_point b ≡ false
digit_no_point b h = let r = digit_range b h in ne_eqb b 46 (λ e. absurd (omega (arith, r.0, e)))

digit_no_mark : (b : ℕ) → is_digit b ≡ true → is_exponent_mark b ≡ false
digit_no_mark b h =
    let r = digit_range b h in
    ap₂ (λ c d. c || d) (ne_eqb b 101 (λ e. absurd (omega (arith, r.1, e)))) (ne_eqb b 69 (λ e. absurd (omega (arith, r.1, e))))

digits_pass_none : (p : ℕ → Bool) → ((b : ℕ) → is_digit b ≡ true → p b ≡ false) → (w : List ℕ) → list_all is_digit w ≡ true → list_any p w ≡ false
digits_pass_none p other [] h = refl
digits_pass_none p other (x ∷ w) h =
    let both = and_parts (is_digit x) (list_all is_digit w) h in
    ap₂ (λ a b. a || b) (other x both.0) (digits_pass_none p other w both.1)

no_point : (w : List ℕ) → list_all is_digit w ≡ true → list_any is_point w ≡ false
no_point w h = digits_pass_none is_point digit_no_point w h

no_mark : (w : List ℕ) → list_all is_digit w ≡ true → list_any is_exponent_mark w ≡ false
no_mark w h = digits_pass_none is_exponent_mark digit_no_mark w h

-- a byte that is no digit among others
digits_stop : (w : List ℕ) (y : ℕ) (ys : List ℕ) → is_digit y ≡ false → is_digits (w ++ y ∷ ys) ≡ false
digits_stop w y ys h =
    and_right (nat_le 1 (length (w ++ y ∷ ys))) (list_all is_digit (w ++ y ∷ ys))
    (list_all-append is_digit w (y ∷ ys) ∙ and_right (list_all is_digit w) (is_digit y && list_all is_digit ys) (and_left (is_digit y) (list_all is_digit ys) h))

digits_none : (s : List ℕ) → Stops is_digit s → is_digits s ≡ false
digits_none [] h = refl
digits_none (y ∷ ys) h = digits_stop [] y ys h

whole_stop : (w : List ℕ) (y : ℕ) (ys : List ℕ) → is_digit y ≡ false → is_whole (w ++ y ∷ ys) ≡ false
whole_stop w y ys h =
    and_left (is_digits (w ++ y ∷ ys)) (eqb (length (w ++ y ∷ ys)) 1 || not (begins_with 48 (w ++ y ∷ ys))) (digits_stop w y ys h)

whole_or : (w q : List ℕ) → Stops is_digit q → is_whole w ≡ false → is_whole (w ++ q) ≡ false
whole_or w [] h lacks = ap is_whole (append-nil w) ∙ lacks
whole_or w (y ∷ ys) h lacks = whole_stop w y ys h

-- a number's text without its minus
abbrev exponent_stands : List ℕ → Bool
exponent_stands u = not (list_any is_exponent_mark u) || is_digits (without_sign (after_first is_exponent_mark u))

abbrev is_unsigned : List ℕ → Bool
is_unsigned u = is_decimal (before_first is_exponent_mark u) && exponent_stands u

minus_no_mark : (x : ℕ) → eqb x 45 ≡ true → is_exponent_mark x ≡ false
minus_no_mark x e = ap is_exponent_mark (eqb-true x 45 e)

decimal_at : (x : ℕ) (xs : List ℕ) (c m : Bool) → eqb x 45 ≡ c → is_exponent_mark x ≡ m → without_minus (before_first is_exponent_mark (x ∷ xs)) ≡ before_first is_exponent_mark (cond c xs (x ∷ xs))
decimal_at x xs true m e h =
    ap without_minus (before_on is_exponent_mark x xs (minus_no_mark x e)) ∙ ap (λ (b : Bool). cond b (before_first is_exponent_mark xs) (x ∷ before_first is_exponent_mark xs)) e
decimal_at x xs false true e h = ap without_minus (before_at is_exponent_mark x xs h) ∙ sym (before_at is_exponent_mark x xs h)
decimal_at x xs false false e h =
    ap without_minus (before_on is_exponent_mark x xs h) ∙ ap (λ (b : Bool). cond b (before_first is_exponent_mark xs) (x ∷ before_first is_exponent_mark xs)) e
    ∙ sym (before_on is_exponent_mark x xs h)

decimal_is : (t : List ℕ) → decimal_part t ≡ before_first is_exponent_mark (without_minus t)
decimal_is [] = refl
decimal_is (x ∷ xs) = decimal_at x xs (eqb x 45) (is_exponent_mark x) refl refl

exponent_at : (x : ℕ) (xs : List ℕ) (c : Bool) → eqb x 45 ≡ c → after_first is_exponent_mark (x ∷ xs) ≡ after_first is_exponent_mark (cond c xs (x ∷ xs))
exponent_at x xs true e = after_on is_exponent_mark x xs (minus_no_mark x e)
exponent_at x xs false e = refl

exponent_is : (t : List ℕ) → exponent_part t ≡ after_first is_exponent_mark (without_minus t)
exponent_is [] = refl
exponent_is (x ∷ xs) = exponent_at x xs (eqb x 45) refl

any_at : (x : ℕ) (xs : List ℕ) (c : Bool) → eqb x 45 ≡ c → list_any is_exponent_mark (x ∷ xs) ≡ list_any is_exponent_mark (cond c xs (x ∷ xs))
any_at x xs true e = ap (λ (b : Bool). b || list_any is_exponent_mark xs) (minus_no_mark x e)
any_at x xs false e = refl

any_is : (t : List ℕ) → list_any is_exponent_mark t ≡ list_any is_exponent_mark (without_minus t)
any_is [] = refl
any_is (x ∷ xs) = any_at x xs (eqb x 45) refl

number_is : (t : List ℕ) → is_number t ≡ is_unsigned (without_minus t)
number_is t =
    ap₂ (λ (d : List ℕ) (b : Bool). is_decimal d && b) (decimal_is t)
    (ap₂ (λ (b : Bool) (l : List ℕ). not b || is_digits (without_sign l)) (any_is t) (exponent_is t))

-- no whole digits
pub no_whole : (t w b : List ℕ) → without_minus t ≡ w ++ b → list_all is_digit w ≡ true → Stops is_digit b → is_whole w ≡ false → is_number t ≡ false
no_whole t w b u digits stops none =
    let q = before_first is_exponent_mark b in
    let front : before_first is_exponent_mark (without_minus t) ≡ w ++ q = ap (before_first is_exponent_mark) u ∙ before_front is_exponent_mark w b (no_mark w digits) in
    let whole : is_whole (before_first is_point (w ++ q)) ≡ false =
    ap is_whole (before_front is_point w q (no_point w digits))
    ∙ whole_or w (before_first is_point q) (before_begins is_point is_digit q (before_begins is_exponent_mark is_digit b stops)) none in
    number_is t ∙ and_left (is_decimal (before_first is_exponent_mark (without_minus t))) (exponent_stands (without_minus t))
    (ap is_decimal front ∙ and_left (is_whole (before_first is_point (w ++ q))) (not (list_any is_point (w ++ q)) || is_digits (after_first is_point (w ++ q))) whole)

-- what comes after a point that comes after digits is no fraction
point_then : (w s : List ℕ) → list_all is_digit w ≡ true → is_digits s ≡ false → is_decimal (w ++ 46 ∷ s) ≡ false
point_then w s digits none =
    and_right (is_whole (before_first is_point (w ++ 46 ∷ s))) (not (list_any is_point (w ++ 46 ∷ s)) || is_digits (after_first is_point (w ++ 46 ∷ s)))
    (ap₂ (λ (b : Bool) (l : List ℕ). not b || is_digits l) (any_front is_point w (46 ∷ s) (no_point w digits)) (after_front is_point w (46 ∷ s) (no_point w digits) ∙ after_at is_point 46 s refl) ∙ none)

-- no digits after the point
pub no_fraction : (t w b : List ℕ) → without_minus t ≡ w ++ b → list_all is_digit w ≡ true → HasNoFraction b → is_number t ≡ false
no_fraction t w b u digits h =
    let s = before_first is_exponent_mark h.0 in
    let front : before_first is_exponent_mark (without_minus t) ≡ w ++ 46 ∷ s =
    ap (before_first is_exponent_mark) (u ∙ ap (λ l. w ++ l) h.1) ∙ before_front is_exponent_mark w (46 ∷ h.0) (no_mark w digits)
    ∙ ap (λ l. w ++ l) (before_on is_exponent_mark 46 h.0 refl) in
    number_is t ∙ and_left (is_decimal (before_first is_exponent_mark (without_minus t))) (exponent_stands (without_minus t))
    (ap is_decimal front ∙ point_then w s digits (digits_none s (before_begins is_exponent_mark is_digit h.0 h.2)))

-- an exponent without digits after bytes without a mark
no_digits : (t v x : List ℕ) (m : ℕ) → without_minus t ≡ v ++ m ∷ x → list_any is_exponent_mark v ≡ false → is_exponent_mark m ≡ true → is_digits (without_sign x) ≡ false → is_number t ≡ false
no_digits t v x m u none mark lacks =
    let any : list_any is_exponent_mark (without_minus t) ≡ true =
    ap (list_any is_exponent_mark) u ∙ any_front is_exponent_mark v (m ∷ x) none ∙ ap (λ (b : Bool). b || list_any is_exponent_mark x) mark in
    let behind : after_first is_exponent_mark (without_minus t) ≡ x =
    ap (after_first is_exponent_mark) u ∙ after_front is_exponent_mark v (m ∷ x) none ∙ after_at is_exponent_mark m x mark in
    number_is t ∙ and_right (is_decimal (before_first is_exponent_mark (without_minus t))) (exponent_stands (without_minus t))
    (ap₂ (λ (b : Bool) (l : List ℕ). not b || is_digits (without_sign l)) any behind ∙ lacks)

-- a byte that is no mark after bytes without a mark
no_decimal : (t v x : List ℕ) (m : ℕ) → without_minus t ≡ v ++ m ∷ x → list_any is_exponent_mark v ≡ false → is_exponent_mark m ≡ false → ((s : List ℕ) → is_decimal (v ++ m ∷ s) ≡ false) → is_number t ≡ false
no_decimal t v x m u none mark lacks =
    let front : before_first is_exponent_mark (without_minus t) ≡ v ++ m ∷ before_first is_exponent_mark x =
    ap (before_first is_exponent_mark) u ∙ before_front is_exponent_mark v (m ∷ x) none ∙ ap (λ l. v ++ l) (before_on is_exponent_mark m x mark) in
    number_is t ∙ and_left (is_decimal (before_first is_exponent_mark (without_minus t))) (exponent_stands (without_minus t))
    (ap is_decimal front ∙ lacks (before_first is_exponent_mark x))

whole_no_decimal : (w : List ℕ) (m : ℕ) → list_all is_digit w ≡ true → is_digit m ≡ false → is_point m ≡ false → (s : List ℕ) → is_decimal (w ++ m ∷ s) ≡ false
whole_no_decimal w m digits none other s =
    and_left (is_whole (before_first is_point (w ++ m ∷ s))) (not (list_any is_point (w ++ m ∷ s)) || is_digits (after_first is_point (w ++ m ∷ s)))
    (ap is_whole (before_front is_point w (m ∷ s) (no_point w digits) ∙ ap (λ l. w ++ l) (before_on is_point m s other)) ∙ whole_stop w m (before_first is_point s) none)

fraction_no_decimal : (w f : List ℕ) (m : ℕ) → list_all is_digit w ≡ true → is_digit m ≡ false → (s : List ℕ) → is_decimal ((w ++ 46 ∷ f) ++ m ∷ s) ≡ false
fraction_no_decimal w f m digits none s =
    ap is_decimal (append_assoc w (46 ∷ f) (m ∷ s)) ∙ point_then w (f ++ m ∷ s) digits (digits_stop f m s none)

-- a whole number with a fraction has no mark
fraction_no_mark : (w f : List ℕ) → list_all is_digit w ≡ true → list_all is_digit f ≡ true → list_any is_exponent_mark (w ++ 46 ∷ f) ≡ false
fraction_no_mark w f digits more = any_front is_exponent_mark w (46 ∷ f) (no_mark w digits) ∙ no_mark f more

with_fraction : (t w b f r : List ℕ) → without_minus t ≡ w ++ b → b ≡ 46 ∷ f ++ r → without_minus t ≡ (w ++ 46 ∷ f) ++ r
with_fraction t w b f r u e = u ∙ ap (λ l. w ++ l) e ∙ sym (append_assoc w (46 ∷ f) r)

pub no_exponent : (t w b f r : List ℕ) → without_minus t ≡ w ++ b → list_all is_digit w ≡ true → IsFraction b f r → HasNoExponent r → is_number t ≡ false
no_exponent t w b f r u digits (all, stops, inl (none, same, other)) (m, x, r_is, inr (mark, lacks)) =
    no_digits t w x m (u ∙ ap (λ l. w ++ l) (same ∙ r_is)) (no_mark w digits) mark lacks
no_exponent t w b f r u digits (all, stops, inl (none, same, other)) (m, x, r_is, inl mark) =
    no_decimal t w x m (u ∙ ap (λ l. w ++ l) (same ∙ r_is)) (no_mark w digits) mark
    (whole_no_decimal w m digits (subst (Stops is_digit) r_is stops) (subst (Stops is_point) r_is other))
no_exponent t w b f r u digits (all, stops, inr (some, split)) (m, x, r_is, inr (mark, lacks)) =
    no_digits t (w ++ 46 ∷ f) x m (with_fraction t w b f r u split ∙ ap (λ l. (w ++ 46 ∷ f) ++ l) r_is) (fraction_no_mark w f digits all) mark lacks
no_exponent t w b f r u digits (all, stops, inr (some, split)) (m, x, r_is, inl mark) =
    no_decimal t (w ++ 46 ∷ f) x m (with_fraction t w b f r u split ∙ ap (λ l. (w ++ 46 ∷ f) ++ l) r_is) (fraction_no_mark w f digits all) mark
    (fraction_no_decimal w f m digits (subst (Stops is_digit) r_is stops))

-- the parts of a number before its exponent, and its exponent
abbrev AreParts : List ℕ → List ℕ → List ℕ → List ℕ → Bool → Type 0
AreParts t w f e lowers =
    (is_number t ≡ true) × (w ≡ whole_digits t) × (f ≡ fraction_digits t) × (e ≡ without_sign (exponent_part t)) × (lowers ≡ has_minus (exponent_part t))

exponent_parts : (v r e : List ℕ) (lowers : Bool) → list_any is_exponent_mark v ≡ false → IsExponent r e lowers → (before_first is_exponent_mark (v ++ r) ≡ v) × (exponent_stands (v ++ r) ≡ true) × (e ≡ without_sign (after_first is_exponent_mark (v ++ r))) × (lowers ≡ has_minus (after_first is_exponent_mark (v ++ r)))
exponent_parts v r e lowers none (inl (end, lacks, up)) =
    let after : after_first is_exponent_mark (v ++ r) ≡ [] = after_front is_exponent_mark v r none ∙ ap (after_first is_exponent_mark) end in
    let any : list_any is_exponent_mark (v ++ r) ≡ false = any_front is_exponent_mark v r none ∙ ap (list_any is_exponent_mark) end in (
      before_front is_exponent_mark v r none ∙ ap (λ l. v ++ before_first is_exponent_mark l) end ∙ append-nil v,
      ap (λ (b : Bool). not b || is_digits (without_sign (after_first is_exponent_mark (v ++ r)))) any,
      lacks ∙ sym (ap without_sign after),
      up ∙ sym (ap has_minus after),
    )
exponent_parts v r e lowers none (inr (m, x, split, mark, digits, is, low)) =
    let after : after_first is_exponent_mark (v ++ r) ≡ x = after_front is_exponent_mark v r none ∙ ap (after_first is_exponent_mark) split ∙ after_at is_exponent_mark m x mark in
    let any : list_any is_exponent_mark (v ++ r) ≡ true =
    any_front is_exponent_mark v r none ∙ ap (list_any is_exponent_mark) split ∙ ap (λ (b : Bool). b || list_any is_exponent_mark x) mark in (
      before_front is_exponent_mark v r none ∙ ap (λ l. v ++ before_first is_exponent_mark l) split ∙ ap (λ l. v ++ l) (before_at is_exponent_mark m x mark) ∙ append-nil v,
      ap₂ (λ (b : Bool) (l : List ℕ). not b || is_digits (without_sign l)) any after ∙ digits,
      is ∙ sym (ap without_sign after),
      low ∙ sym (ap has_minus after),
    )

-- of a text whose part before the exponent this is
parts_from : (t v r w f e : List ℕ) (lowers : Bool) → without_minus t ≡ v ++ r → list_any is_exponent_mark v ≡ false → IsExponent r e lowers → is_decimal v ≡ true → w ≡ before_first is_point v → f ≡ after_first is_point v → AreParts t w f e lowers
parts_from t v r w f e lowers u none h decimal whole fraction =
    let x = exponent_parts v r e lowers none h in
    let v_is : decimal_part t ≡ v = decimal_is t ∙ ap (before_first is_exponent_mark) u ∙ x.0 in
    let behind : exponent_part t ≡ after_first is_exponent_mark (v ++ r) = exponent_is t ∙ ap (after_first is_exponent_mark) u in (
      number_is t ∙ and_from (is_decimal (before_first is_exponent_mark (without_minus t))) (exponent_stands (without_minus t))
          (ap is_decimal (ap (before_first is_exponent_mark) u ∙ x.0) ∙ decimal) (ap exponent_stands u ∙ x.1),
      whole ∙ sym (ap (before_first is_point) v_is),
      fraction ∙ sym (ap (after_first is_point) v_is),
      x.2 ∙ sym (ap without_sign behind),
      x.3 ∙ sym (ap has_minus behind),
    )

whole_is_decimal : (w : List ℕ) → list_all is_digit w ≡ true → is_whole w ≡ true → (is_decimal w ≡ true) × (w ≡ before_first is_point w) × ([] ≡ after_first is_point w)
whole_is_decimal w digits whole =
    let front : before_first is_point w ≡ w =
    ap (before_first is_point) (sym (append-nil w)) ∙ before_front is_point w [] (no_point w digits) ∙ append-nil w in
    let behind : after_first is_point w ≡ [] = ap (after_first is_point) (sym (append-nil w)) ∙ after_front is_point w [] (no_point w digits) in (
      and_from (is_whole (before_first is_point w)) (not (list_any is_point w) || is_digits (after_first is_point w)) (ap is_whole front ∙ whole)
          (ap (λ (b : Bool). not b || is_digits (after_first is_point w)) (no_point w digits)),
      sym front,
      sym behind,
    )

fraction_is_decimal : (w f : List ℕ) → list_all is_digit w ≡ true → is_whole w ≡ true → is_digits f ≡ true → (is_decimal (w ++ 46 ∷ f) ≡ true) × (w ≡ before_first is_point (w ++ 46 ∷ f)) × (f ≡ after_first is_point (w ++ 46 ∷ f))
fraction_is_decimal w f digits whole some =
    let front : before_first is_point (w ++ 46 ∷ f) ≡ w =
    before_front is_point w (46 ∷ f) (no_point w digits) ∙ ap (λ l. w ++ l) (before_at is_point 46 f refl) ∙ append-nil w in
    let behind : after_first is_point (w ++ 46 ∷ f) ≡ f = after_front is_point w (46 ∷ f) (no_point w digits) ∙ after_at is_point 46 f refl in (
      and_from (is_whole (before_first is_point (w ++ 46 ∷ f))) (not (list_any is_point (w ++ 46 ∷ f)) || is_digits (after_first is_point (w ++ 46 ∷ f))) (ap is_whole front ∙ whole)
          (ap₂ (λ (b : Bool) (l : List ℕ). not b || is_digits l) (any_front is_point w (46 ∷ f) (no_point w digits)) behind ∙ some),
      sym front,
      sym behind,
    )

pub parts_are : (t w b f r e : List ℕ) (lowers : Bool) → without_minus t ≡ w ++ b → list_all is_digit w ≡ true → is_whole w ≡ true → IsFraction b f r → IsExponent r e lowers → AreParts t w f e lowers
parts_are t w b f r e lowers u digits whole (all, stops, inl (none, same, other)) h =
    let d = whole_is_decimal w digits whole in
    parts_from t w r w f e lowers (u ∙ ap (λ l. w ++ l) same) (no_mark w digits) h d.0 d.1 (none ∙ d.2)
parts_are t w b f r e lowers u digits whole (all, stops, inr (some, split)) h =
    let d = fraction_is_decimal w f digits whole some in
    parts_from t (w ++ 46 ∷ f) r w f e lowers (with_fraction t w b f r u split) (fraction_no_mark w f digits all) h d.0 d.1 d.2
