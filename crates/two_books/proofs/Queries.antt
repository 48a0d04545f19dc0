-- What a notice's query is read as.
use Rattle.std.proofs.Common.{◌≡◌, ◌≢◌, ℕ, ◌<◌, List, [], ◌∷◌, ◌++◌, ◌==◌, ◌||◌, ◌&&◌, nat_le, All, refl, ap, ap₂, ◌∙◌, arith, Bool, true, false, Option, Some, None}
use Rattle.std.specs.Prelude.{find, option_map, codes, IsUtf8}
use Rattle.std.specs.Str.{bytes_eq}
use Rattle.std.specs.Str.Lossy.{utf8_lossy}
use Rattle.std.proofs.lemmas.Str.{utf8_lossy-IsUtf8, IsUtf8-from_ascii}
use Rattle.std.proofs.lemmas.Str.Ascii.{IsAscii-from_all}
use Rattle.std.proofs.lemmas.Bool.Decides.{nat_tests}
use Rattle.std.proofs.lemmas.List.Elements.{All-nil, All-cons, All-weaker}
use Rattle.percent_encoding.proofs.PercentLemmas.{IsByte}
use Rattle.form_urlencoded.specs.Form.{raw_pairs, split_pair, IsPlain}
use Rattle.form_urlencoded.proofs.FormLemmas.{split_once_before_at, split_once_after_at, decode_plain}
use Rattle.adx_http.specs.Targets.{decoded, has_name}
use Rattle.two_books.specs.OwnNotices.{escaped}
use Rattle.two_books.proofs.PairsRead.{pair_then, pair_last}
use Rattle.two_books.proofs.Escapes.{IsWritten, no_ampersand, no_plus, decoded_again}

-- a pair named by one letter
abbrev pub pair : ℕ → List ℕ → List ℕ
pair name value = name ∷ 61 ∷ value

letter_apart : (name : ℕ) → IsWritten name → name ≢ 61
letter_apart name h e = grind (arith, nat_tests)

equals_apart : (b : ℕ) → b ≡ 61 → b ≢ 38
equals_apart b is e = absurd (omega arith)

pub pair_plain : (name : ℕ) (value : List ℕ) → IsWritten name → All IsWritten value → All (λ b. b ≢ 38) (pair name value)
pair_plain name value h all =
    All-cons (λ b. b ≢ 38) name (61 ∷ value) (no_ampersand name h) (All-cons (λ b. b ≢ 38) 61 value (equals_apart 61 refl) (All-weaker IsWritten (λ b. b ≢ 38) no_ampersand value all))

pub pair_split : (name : ℕ) (value : List ℕ) → IsWritten name → split_pair (pair name value) ≡ (name ∷ [], value)
pair_split name value h =
    let one = All-cons (λ b. b ≢ 61) name [] (letter_apart name h) (All-nil (λ b. b ≢ 61)) in
    ap₂ (λ x y. (x, y)) (split_once_before_at 61 (name ∷ []) value one) (split_once_after_at 61 (name ∷ []) value one)

-- the pairs of a query of two and of three
pub two_pairs : (x y : ℕ) (u v : List ℕ) → IsWritten x → IsWritten y → All IsWritten u → All IsWritten v
    → raw_pairs (pair x u ++ 38 ∷ pair y v) ≡ (x ∷ [], u) ∷ (y ∷ [], v) ∷ []
two_pairs x y u v hx hy hu hv =
    pair_then (pair x u) (pair y v) (pair_plain x u hx hu) (omega arith)
    ∙ ap₂ (λ p ps. p ∷ ps) (pair_split x u hx) (pair_last (pair y v) (pair_plain y v hy hv) (omega arith) ∙ ap (λ p. p ∷ []) (pair_split y v hy))

pub three_pairs : (x y z : ℕ) (u v w : List ℕ) → IsWritten x → IsWritten y → IsWritten z → All IsWritten u → All IsWritten v → All IsWritten w
    → raw_pairs (pair x u ++ 38 ∷ (pair y v ++ 38 ∷ pair z w)) ≡ (x ∷ [], u) ∷ (y ∷ [], v) ∷ (z ∷ [], w) ∷ []
three_pairs x y z u v w hx hy hz hu hv hw =
    pair_then (pair x u) (pair y v ++ 38 ∷ pair z w) (pair_plain x u hx hu) (omega arith)
    ∙ ap₂ (λ p ps. p ∷ ps) (pair_split x u hx) (two_pairs y z v w hy hz hv hw)

written_plain : (b : ℕ) → IsWritten b → b ≢ 37 → IsPlain b
written_plain b h other = (no_plus b h, other)

-- a letter is read as itself
plain_letter : (name : ℕ) → IsWritten name → name ≢ 37 → decoded (name ∷ []) ≡ name ∷ []
plain_letter name h other =
    ap utf8_lossy (decode_plain (name ∷ []) (All-cons IsPlain name [] (written_plain name h other) (All-nil IsPlain)))
    ∙ utf8_lossy-IsUtf8 (name ∷ []) (IsUtf8-from_ascii (name ∷ []) (IsAscii-from_all (name ∷ []) (All-cons (λ b. b < 128) name [] (grind (arith, nat_tests)) (All-nil (λ b. b < 128)))))

pub letter_b : (name v : List ℕ) → has_name name (98 ∷ [], v) ≡ bytes_eq (98 ∷ []) name
letter_b name v = ap (λ t. bytes_eq t name) (plain_letter 98 refl (λ e. absurd (omega arith)))

pub letter_a : (name v : List ℕ) → has_name name (97 ∷ [], v) ≡ bytes_eq (97 ∷ []) name
letter_a name v = ap (λ t. bytes_eq t name) (plain_letter 97 refl (λ e. absurd (omega arith)))

pub letter_p : (name v : List ℕ) → has_name name (112 ∷ [], v) ≡ bytes_eq (112 ∷ []) name
letter_p name v = ap (λ t. bytes_eq t name) (plain_letter 112 refl (λ e. absurd (omega arith)))

-- text that is escaped is read as it was, and so is plain text
pub escaped_text_read : (t : List ℕ) → All IsByte t → IsUtf8 t → decoded (escaped t) ≡ t
escaped_text_read t bytes text = ap utf8_lossy (decoded_again t bytes) ∙ utf8_lossy-IsUtf8 t text

-- the value of a pair that comes first, and of one after another
pub value_first : (name : List ℕ) (p : List ℕ × List ℕ) (more : List (List ℕ × List ℕ)) → has_name name p ≡ true
    → option_map (λ (x : List ℕ × List ℕ). decoded x.1) (find (has_name name) (p ∷ more)) ≡ Some (decoded p.1)
value_first name p more named = rw named refl

pub value_later : (name : List ℕ) (p : List ℕ × List ℕ) (more : List (List ℕ × List ℕ)) → has_name name p ≡ false
    → option_map (λ (x : List ℕ × List ℕ). decoded x.1) (find (has_name name) (p ∷ more)) ≡ option_map (λ (x : List ℕ × List ℕ). decoded x.1) (find (has_name name) more)
value_later name p more other = rw other refl

abbrev read : List ℕ → List (List ℕ × List ℕ) → Option (List ℕ)
read name ps = option_map (λ (x : List ℕ × List ℕ). decoded x.1) (find (has_name name) ps)

-- the three values of a query of three pairs, and of two
pub reads_three : (u v w : List ℕ)
    → (read (codes "a") ((97 ∷ [], u) ∷ (98 ∷ [], v) ∷ (112 ∷ [], w) ∷ []) ≡ Some (decoded u))
    × ((read (codes "b") ((97 ∷ [], u) ∷ (98 ∷ [], v) ∷ (112 ∷ [], w) ∷ []) ≡ Some (decoded v))
    × (read (codes "p") ((97 ∷ [], u) ∷ (98 ∷ [], v) ∷ (112 ∷ [], w) ∷ []) ≡ Some (decoded w)))
reads_three u v w =
    let a : List (List ℕ × List ℕ) = (98 ∷ [], v) ∷ (112 ∷ [], w) ∷ [] in
    let b : List (List ℕ × List ℕ) = (112 ∷ [], w) ∷ [] in
    let c : List (List ℕ × List ℕ) = [] in (
      value_first (codes "a") (97 ∷ [], u) a (letter_a (codes "a") u),
      (
        value_later (codes "b") (97 ∷ [], u) a (letter_a (codes "b") u) ∙ value_first (codes "b") (98 ∷ [], v) b (letter_b (codes "b") v),
        value_later (codes "p") (97 ∷ [], u) a (letter_a (codes "p") u) ∙ value_later (codes "p") (98 ∷ [], v) b (letter_b (codes "p") v) ∙ value_first (codes "p") (112 ∷ [], w) c (letter_p (codes "p") w),
      ),
    )

pub reads_two : (u v : List ℕ)
    → (read (codes "a") ((97 ∷ [], u) ∷ (98 ∷ [], v) ∷ []) ≡ Some (decoded u))
    × ((read (codes "b") ((97 ∷ [], u) ∷ (98 ∷ [], v) ∷ []) ≡ Some (decoded v))
    × (read (codes "p") ((97 ∷ [], u) ∷ (98 ∷ [], v) ∷ []) ≡ None))
reads_two u v =
    let a : List (List ℕ × List ℕ) = (98 ∷ [], v) ∷ [] in
    let b : List (List ℕ × List ℕ) = [] in (
      value_first (codes "a") (97 ∷ [], u) a (letter_a (codes "a") u),
      (
        value_later (codes "b") (97 ∷ [], u) a (letter_a (codes "b") u) ∙ value_first (codes "b") (98 ∷ [], v) b (letter_b (codes "b") v),
        value_later (codes "p") (97 ∷ [], u) a (letter_a (codes "p") u) ∙ value_later (codes "p") (98 ∷ [], v) b (letter_b (codes "p") v),
      ),
    )

-- an id of a bid: digits and a dash
abbrev pub is_id_byte : ℕ → Bool
is_id_byte b = (nat_le 48 b && nat_le b 57) || b == 45

pub id_byte_written : (b : ℕ) → is_id_byte b ≡ true → IsWritten b
id_byte_written b h = grind (arith, nat_tests)

id_byte_plain : (b : ℕ) → is_id_byte b ≡ true → IsPlain b
id_byte_plain b h = (no_plus b (id_byte_written b h), λ e. grind (arith, nat_tests))

id_byte_ascii : (b : ℕ) → is_id_byte b ≡ true → b < 128
id_byte_ascii b h = grind (arith, nat_tests)

pub id_read : (id : List ℕ) → All (λ b. is_id_byte b ≡ true) id → decoded id ≡ id
id_read id all =
    ap utf8_lossy (decode_plain id (All-weaker (λ b. is_id_byte b ≡ true) IsPlain id_byte_plain id all))
    ∙ utf8_lossy-IsUtf8 id (IsUtf8-from_ascii id (IsAscii-from_all id (All-weaker (λ b. is_id_byte b ≡ true) (λ b. b < 128) id_byte_ascii id all)))
