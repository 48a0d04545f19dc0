-- The digits of a digest are text.
use Rattle.std.proofs.Common.{rules, sym, subst, ℕ, List, [], ◌∷◌, ◌≡◌, Bool, true, ◌&&◌, nat_lt, refl}
use Rattle.std.proofs.lemmas.Bool.{and_parts, ltb-true}
use Rattle.std.specs.Str.{IsAscii}
use Rattle.std.proofs.lemmas.Str.{IsUtf8-from_ascii}
use Rattle.std.proofs.lemmas.Str.Ascii.{IsAscii-nil, IsAscii-cons}
use Rattle.hex.specs.Hex.{lower_digits}
use Rattle.hex.proofs.HexLemmas.{IsAscii-encode_with}
use Rattle.answer_lines.proofs.answers.push_digest.Goals as goal

abbrev are_small : List ℕ → Bool
are_small [] = true
are_small (b ∷ bs) = nat_lt b 128 && are_small bs

small : (bs : List ℕ) → are_small bs ≡ true → IsAscii bs
small [] h = IsAscii-nil
small (b ∷ bs) h = let parts = and_parts (nat_lt b 128) (are_small bs) h in IsAscii-cons b bs (ltb-true b 128 parts.0) (small bs parts.1)

pub unwrap-requires : goal.unwrap-requires
unwrap-requires c =
    let ascii : IsAscii c.encode_to_slice.new.output = subst IsAscii (sym c.in-Ok.ensures.written) (IsAscii-encode_with lower_digits c.as_slice.result.now (small lower_digits refl)) in
    search (rules, IsUtf8-from_ascii, ascii)
