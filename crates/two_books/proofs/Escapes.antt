-- What is escaped in a query is read as it was.
use Rattle.std.proofs.Common.{◌≡◌, ◌≢◌, ⊎_elim, ℕ, ◌<◌, List, [], ◌∷◌, ◌++◌, ◌==◌, ◌||◌, ◌&&◌, nat_le, All, refl, sym, ap, subst, ◌∙◌, arith, Bool, true}
use Rattle.std.proofs.lemmas.Bool.{cases_Bool, cond-true, cond-false}
use Rattle.std.proofs.lemmas.Bool.Decides.{nat_tests}
use Rattle.std.proofs.lemmas.List.Elements.{All-nil, All-cons, All-head, All-tail, All-append, All-weaker}
use Rattle.percent_encoding.specs.Percent.{percent_encode_byte, percent_decode}
use Rattle.percent_encoding.proofs.PercentLemmas.{IsByte, IsEscapeByte, All-percent_encode_byte, percent_decode-nil, percent_decode_not_percent, percent_decode-percent_encode_byte}
use Rattle.form_urlencoded.specs.Form.{decode}
use Rattle.form_urlencoded.proofs.FormLemmas.{map-plus_to_space}
use Rattle.notice_macros.specs.Escaped.{is_unreserved, url_byte}
use Rattle.two_books.specs.OwnNotices.{escaped}

-- a byte that an escaped text, an id of a bid or a price may hold: a letter, a digit, or one of `-._~%`
abbrev pub is_written : ℕ → Bool
is_written b =
    (nat_le 48 b && nat_le b 57) || (nat_le 65 b && nat_le b 90) || (nat_le 97 b && nat_le b 122) || b == 45 || b == 46 || b == 95 || b == 126 || b == 37

abbrev pub IsWritten : ℕ → Type 0
IsWritten b = is_written b ≡ true

unreserved_written : (b : ℕ) → is_unreserved b ≡ true → IsWritten b
unreserved_written b h = grind (arith, nat_tests)

unreserved_plain : (b : ℕ) → is_unreserved b ≡ true → b ≢ 37
unreserved_plain b h e = grind (arith, nat_tests)

escape_written : (b : ℕ) → IsEscapeByte b → IsWritten b
escape_written b h = grind (arith, nat_tests)

byte_written : (b : ℕ) → All IsWritten (url_byte b)
byte_written b =
    ⊎_elim
    (λ e. subst (All IsWritten) (sym (cond-true (is_unreserved b) (b ∷ []) (percent_encode_byte b) e)) (All-cons IsWritten b [] (unreserved_written b e) (All-nil IsWritten)))
    (λ e. subst (All IsWritten) (sym (cond-false (is_unreserved b) (b ∷ []) (percent_encode_byte b) e)) (All-weaker IsEscapeByte IsWritten escape_written (percent_encode_byte b) (All-percent_encode_byte b)))
    (cases_Bool (is_unreserved b))

pub written : (t : List ℕ) → All IsWritten (escaped t)
written [] = All-nil IsWritten
written (b ∷ t) = All-append IsWritten (url_byte b) (escaped t) (byte_written b) (written t)

pub no_plus : (b : ℕ) → IsWritten b → b ≢ 43
no_plus b h e = grind (arith, nat_tests)

pub no_ampersand : (b : ℕ) → IsWritten b → b ≢ 38
no_ampersand b h e = grind (arith, nat_tests)

byte_decoded : (b : ℕ) (rest : List ℕ) → b < 256 → percent_decode (url_byte b ++ rest) ≡ b ∷ percent_decode rest
byte_decoded b rest small =
    ⊎_elim
    (λ e. ap (λ x. percent_decode (x ++ rest)) (cond-true (is_unreserved b) (b ∷ []) (percent_encode_byte b) e) ∙ percent_decode_not_percent b rest (unreserved_plain b e))
    (λ e. ap (λ x. percent_decode (x ++ rest)) (cond-false (is_unreserved b) (b ∷ []) (percent_encode_byte b) e) ∙ percent_decode-percent_encode_byte b rest small)
    (cases_Bool (is_unreserved b))

all_decoded : (t : List ℕ) → All IsByte t → percent_decode (escaped t) ≡ t
all_decoded [] bytes = percent_decode-nil
all_decoded (b ∷ t) bytes =
    ap percent_decode refl ∙ byte_decoded b (escaped t) (All-head IsByte b t bytes) ∙ ap (λ x. b ∷ x) (all_decoded t (All-tail IsByte b t bytes))

pub decoded_again : (t : List ℕ) → All IsByte t → decode (escaped t) ≡ t
decoded_again t bytes =
    ap percent_decode (map-plus_to_space (escaped t) (All-weaker IsWritten (λ b. b ≢ 43) no_plus (escaped t) (written t)))
    ∙ all_decoded t bytes
