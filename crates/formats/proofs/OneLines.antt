-- Bytes without a newline.
use Rattle.std.proofs.Common.{◌≡◌, ◌≢◌, ℕ, zero, suc, ◌+◌, ◌/◌, ◌%◌, List, [], ◌∷◌, ◌++◌, Bool, true, false, not, cond, eqb, ltb, sym, ◌∙◌, arith}
use Rattle.std.specs.List.{list_all}
use Rattle.std.specs.Fmt.{digits, digits_onto, digit_glyph, decimal}
use Rattle.std.proofs.lemmas.Bool.{and_parts, not-true, eq-eqb, false≢true}
use Rattle.std.proofs.lemmas.List.Elements.{All-nil, All-cons, All-append}
use Rattle.formats.specs.Parts.{IsOneLine, part}

abbrev pub is_fine : ℕ → Bool
is_fine b = not (eqb b 10)

fine : (b : ℕ) → is_fine b ≡ true → b ≢ 10
fine b h e = false≢true (sym (not-true (eqb b 10) h) ∙ eq-eqb b 10 e)

pub one_line : (bytes : List ℕ) → list_all is_fine bytes ≡ true → IsOneLine bytes
one_line [] h = All-nil (λ b. b ≢ 10)
one_line (b ∷ bytes) h =
    let both = and_parts (is_fine b) (list_all is_fine bytes) h in
    All-cons (λ n. n ≢ 10) b bytes (fine b both.0) (one_line bytes both.1)

pub one_line_join : (a b : List ℕ) → IsOneLine a → IsOneLine b → IsOneLine (a ++ b)
one_line_join a b ha hb = All-append (λ n. n ≢ 10) a b ha hb

pub one_line_after : (b : ℕ) (bytes : List ℕ) → b ≢ 10 → IsOneLine bytes → IsOneLine (b ∷ bytes)
one_line_after b bytes h hs = All-cons (λ n. n ≢ 10) b bytes h hs

pub one_line_part : (bytes : List ℕ) → IsOneLine bytes → IsOneLine (part bytes)
one_line_part bytes h = one_line_after 32 bytes (λ e. absurd (omega arith)) h

glyph : (d : ℕ) (b : Bool) → cond b (48 + d) (87 + d) ≢ 10
glyph d true e = absurd (omega arith)
glyph d false e = absurd (omega arith)

either : (a b : List ℕ) (t : Bool) → IsOneLine a → IsOneLine b → IsOneLine (cond t a b)
either a b true ha hb = ha
either a b false ha hb = hb

onto : (k n : ℕ) (acc : List ℕ) → IsOneLine acc → IsOneLine (digits_onto k 10 false n acc)
onto zero n acc h = h
onto (suc k) n acc h =
    let more : List ℕ = digit_glyph false (n % 10) ∷ acc in
    let one : IsOneLine more = one_line_after (digit_glyph false (n % 10)) acc (glyph (n % 10) (ltb (n % 10) 10)) h in
    either more (digits_onto k 10 false (n / 10) more) (eqb (n / 10) 0) one (onto k (n / 10) more one)

pub one_line_decimal : (n : ℕ) → IsOneLine (decimal n)
unfolding digits
one_line_decimal n = onto 64 n [] (All-nil (λ b. b ≢ 10))
