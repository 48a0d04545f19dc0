-- The first line of an input is one.
use Rattle.std.proofs.Common.{◌≡◌, ◌≢◌, ℕ, ◌≤◌, List, [], ◌∷◌, ◌++◌, length, refl, sym, ap, ◌∙◌, arith, zero-le}
use Rattle.std.proofs.lemmas.List.Elements.{All-head, All-tail}
use Rattle.adx_io.specs.Lines.{HasNoNewline}

-- heads and tails of equal lists
heads : (a b : ℕ) (xs ys : List ℕ) → a ∷ xs ≡ b ∷ ys → a ≡ b
heads a b xs ys e = cc

tails : (a b : ℕ) (xs ys : List ℕ) → a ∷ xs ≡ b ∷ ys → xs ≡ ys
tails a b xs ys e = cc

-- a line ends no earlier than a front without a newline
pub first_longer : (front line rest behind : List ℕ) → HasNoNewline front → line ++ 10 ∷ rest ≡ front ++ behind → length front ≤ length line
first_longer [] line rest behind none e = zero-le
first_longer (b ∷ front) [] rest behind none e = absurd (All-head (λ x. x ≢ 10) b front none (sym (heads 10 b rest (front ++ behind) e)))
first_longer (b ∷ front) (a ∷ line) rest behind none e =
    let shorter = first_longer front line rest behind (All-tail (λ x. x ≢ 10) b front none) (tails a b (line ++ 10 ∷ rest) (front ++ behind) e) in
    omega (arith, shorter)

-- two first lines are one
pub first_same : (line other rest behind : List ℕ) → HasNoNewline line → HasNoNewline other → line ++ 10 ∷ rest ≡ other ++ 10 ∷ behind → line ≡ other
first_same [] [] rest behind none none' e = refl
first_same [] (b ∷ other) rest behind none none' e = absurd (All-head (λ x. x ≢ 10) b other none' (sym (heads 10 b rest (other ++ 10 ∷ behind) e)))
first_same (a ∷ line) [] rest behind none none' e = absurd (All-head (λ x. x ≢ 10) a line none (heads a 10 (line ++ 10 ∷ rest) behind e))
first_same (a ∷ line) (b ∷ other) rest behind none none' e =
    let head = heads a b (line ++ 10 ∷ rest) (other ++ 10 ∷ behind) e in
    let tail = first_same line other rest behind (All-tail (λ x. x ≢ 10) a line none) (All-tail (λ x. x ≢ 10) b other none') (tails a b (line ++ 10 ∷ rest) (other ++ 10 ∷ behind) e) in
    ap (λ x. x ∷ line) head ∙ ap (λ xs. b ∷ xs) tail

-- what stands behind them is the same
pub rest_same : (line other rest behind : List ℕ) → HasNoNewline line → HasNoNewline other → line ++ 10 ∷ rest ≡ other ++ 10 ∷ behind → rest ≡ behind
rest_same [] [] rest behind none none' e = tails 10 10 rest behind e
rest_same [] (b ∷ other) rest behind none none' e = absurd (All-head (λ x. x ≢ 10) b other none' (sym (heads 10 b rest (other ++ 10 ∷ behind) e)))
rest_same (a ∷ line) [] rest behind none none' e = absurd (All-head (λ x. x ≢ 10) a line none (heads a 10 (line ++ 10 ∷ rest) behind e))
rest_same (a ∷ line) (b ∷ other) rest behind none none' e =
    rest_same line other rest behind (All-tail (λ x. x ≢ 10) a line none) (All-tail (λ x. x ≢ 10) b other none') (tails a b (line ++ 10 ∷ rest) (other ++ 10 ∷ behind) e)

-- a text without a newline has no first line
pub no_first : (text line rest : List ℕ) → HasNoNewline text → text ≡ line ++ 10 ∷ rest → ⊥
no_first [] [] rest none e = cc
no_first [] (a ∷ line) rest none e = cc
no_first (b ∷ text) [] rest none e = All-head (λ x. x ≢ 10) b text none (heads b 10 text rest e)
no_first (b ∷ text) (a ∷ line) rest none e = no_first text line rest (All-tail (λ x. x ≢ 10) b text none) (tails b a text (line ++ 10 ∷ rest) e)
