-- A name in its compact spelling: what is read is spelled so, and what is spelled so is read.
use Rattle.std.proofs.Common.{◌≡◌, ◌≢◌, ℕ, zero, suc, ◌+◌, ◌*◌, ◌-◌, ◌/◌, ◌%◌, ◌<◌, ◌≤◌, ◌⊎◌, inl, inr, List, [], ◌∷◌, ◌++◌, length, drop, Bool, true, false, cond, not, ◌&&◌, ◌||◌, eqb, ltb, leb, Option, Some, None, refl, sym, ap, ap₂, ◌∙◌, subst, arith, append_assoc, length-append}
use Rattle.std.specs.List.{list_all, flat_map}
use Rattle.std.specs.Str.{IsUtf8, is_utf8}
use Rattle.std.proofs.lemmas.Str.{IsUtf8-from_is_utf8, is_utf8-from_IsUtf8}
use Rattle.bid_record.specs.declared.fault.Misfit.{Misfit}
use Rattle.bid_record.specs.declared.fault.Misfit.TheVariants.{Form, Memory}
use Rattle.std.proofs.lemmas.Bool.{and_parts, and_from, or_parts, or_cases, not-true, ne_eqb, eqb-true, ltb-true, lt-ltb, ltb-false, leb-true, le-leb, cases_eq, cases_lt, lt-leb, agree_below_at, false≢true}
use Rattle.std.proofs.lemmas.Option.{none-some, same_Some}
use Rattle.std.proofs.lemmas.List.Concat.{flat_map-cons}
use Rattle.adx_units.specs.Number.{begins_with}
use Rattle.adx_units.specs.JsonTexts.{is_bare}
use Rattle.adx_units.specs.JsonTexts.{hex_digit, control_escape, escape, text_spelling}
use Rattle.adx_units.proofs.Bare.{bare_text}
use Rattle.formats.specs.Parts.{◌>>=◌, behind_byte, part}
use Rattle.formats.proofs.PartLaws.{bind_some, tested_some, byte_takes}
use Rattle.bid_record.specs.Records.{IsName}
use Rattle.bid_record.specs.Texts.{Fails, hex_value, is_nameless, control_of, marked, two_digits_at, control_at, escaped_at, spelled_at, body_at, is_name, named_of, name_body_at, name_at}

-- a body's byte is spelled so
pub record IsSpelled (b : ℕ) (bytes rest : List ℕ) : Type 0 where
  pub read : spelled_at bytes ≡ Some (b, rest)
  pub open_still : begins_with 34 bytes ≡ false

plain_spelled : (b : ℕ) (rest : List ℕ) → eqb b 34 ≡ false → eqb b 92 ≡ false → ltb b 32 ≡ false → IsSpelled b (b ∷ rest) rest
unfolding spelled_at
plain_spelled b rest quote backslash low = record { read = rw (backslash, quote, low) refl; open_still = quote }

nameless_test : ℕ → Bool
nameless_test b = not (is_nameless b) || (ltb (hex_value (hex_digit (b / 16))) 2 && ltb (hex_value (hex_digit (b % 16))) 16 && eqb (16 * hex_value (hex_digit (b / 16)) + hex_value (hex_digit (b % 16))) b)

nameless_parts : (b : ℕ) → b < 32 → is_nameless b ≡ true → (ltb (hex_value (hex_digit (b / 16))) 2 ≡ true) × (ltb (hex_value (hex_digit (b % 16))) 16 ≡ true) × (16 * hex_value (hex_digit (b / 16)) + hex_value (hex_digit (b % 16)) ≡ b)
unfolding nameless_test
nameless_parts b low named =
    let all : nameless_test b ≡ true = agree_below_at nameless_test (λ _. true) 32 b refl low in
    elim (or_cases (not (is_nameless b)) (ltb (hex_value (hex_digit (b / 16))) 2 && ltb (hex_value (hex_digit (b % 16))) 16 && eqb (16 * hex_value (hex_digit (b / 16)) + hex_value (hex_digit (b % 16))) b) all) [
      | inl plain ↦ absurd (false≢true (sym (not-true (is_nameless b) plain) ∙ named))
      | inr back ↦
          let outer = and_parts (ltb (hex_value (hex_digit (b / 16))) 2 && ltb (hex_value (hex_digit (b % 16))) 16) (eqb (16 * hex_value (hex_digit (b / 16)) + hex_value (hex_digit (b % 16))) b) back in
          let inner = and_parts (ltb (hex_value (hex_digit (b / 16))) 2) (ltb (hex_value (hex_digit (b % 16))) 16) outer.0 in
          (inner.0, inner.1, eqb-true (16 * hex_value (hex_digit (b / 16)) + hex_value (hex_digit (b % 16))) b outer.1)
    ]

-- what no byte but a control byte without a letter is
pub record IsOther (b : ℕ) : Type 0 where
  pub quote : eqb b 34 ≡ false
  pub backslash : eqb b 92 ≡ false
  pub e8 : eqb b 8 ≡ false
  pub e9 : eqb b 9 ≡ false
  pub e10 : eqb b 10 ≡ false
  pub e12 : eqb b 12 ≡ false
  pub e13 : eqb b 13 ≡ false

other_nameless : (b : ℕ) → IsOther b → ltb b 32 ≡ true → is_nameless b ≡ true
other_nameless b o low = rw (low, o.e8, o.e9, o.e10, o.e12, o.e13) refl

pub control_spelling : (b : ℕ) → IsOther b → ltb b 32 ≡ true → escape b ≡ control_escape b
control_spelling b o low = rw (o.quote, o.backslash, o.e8, o.e9, o.e10, o.e12, o.e13, low) refl

pub plain_spelling : (b : ℕ) → IsOther b → ltb b 32 ≡ false → escape b ≡ b ∷ []
plain_spelling b o high = rw (o.quote, o.backslash, o.e8, o.e9, o.e10, o.e12, o.e13, high) refl

control_read : (b : ℕ) → ltb b 32 ≡ true → is_nameless b ≡ true → control_of (hex_digit (b / 16)) (hex_digit (b % 16)) ≡ Some b
control_read b low named =
    let parts = nameless_parts b (ltb-true b 32 low) named in
    rw (parts.0, parts.1, parts.2, named) refl

control_spelled : (b : ℕ) (rest : List ℕ) → IsOther b → ltb b 32 ≡ true → IsSpelled b (control_escape b ++ rest) rest
unfolding spelled_at escaped_at control_at two_digits_at
control_spelled b rest o low = record { read = rw (control_read b low (other_nameless b o low)) refl; open_still = refl }

either_spelled : (b : ℕ) (rest : List ℕ) (t : Bool) → IsOther b → ltb b 32 ≡ t → IsSpelled b (escape b ++ rest) rest
either_spelled b rest true o e = subst (λ (s : List ℕ). IsSpelled b (s ++ rest) rest) (sym (control_spelling b o e)) (control_spelled b rest o e)
either_spelled b rest false o e = subst (λ (s : List ℕ). IsSpelled b (s ++ rest) rest) (sym (plain_spelling b o e)) (plain_spelled b rest o.quote o.backslash e)

at_byte : (b c : ℕ) (rest : List ℕ) → b ≡ c → IsSpelled c (escape c ++ rest) rest → IsSpelled b (escape b ++ rest) rest
at_byte b c rest e h = subst (λ (n : ℕ). IsSpelled n (escape n ++ rest) rest) (sym e) h

-- each byte is read from its spelling
pub byte_again : (b : ℕ) (rest : List ℕ) → IsSpelled b (escape b ++ rest) rest
unfolding spelled_at escaped_at
byte_again b rest =
    elim (cases_eq b 34) [
      | inl e ↦ at_byte b 34 rest e (record { read = refl; open_still = refl })
      | inr n34 ↦ elim (cases_eq b 92) [
        | inl e ↦ at_byte b 92 rest e (record { read = refl; open_still = refl })
        | inr n92 ↦ elim (cases_eq b 8) [
          | inl e ↦ at_byte b 8 rest e (record { read = refl; open_still = refl })
          | inr n8 ↦ elim (cases_eq b 9) [
            | inl e ↦ at_byte b 9 rest e (record { read = refl; open_still = refl })
            | inr n9 ↦ elim (cases_eq b 10) [
              | inl e ↦ at_byte b 10 rest e (record { read = refl; open_still = refl })
              | inr n10 ↦ elim (cases_eq b 12) [
                | inl e ↦ at_byte b 12 rest e (record { read = refl; open_still = refl })
                | inr n12 ↦ elim (cases_eq b 13) [
                  | inl e ↦ at_byte b 13 rest e (record { read = refl; open_still = refl })
                  | inr n13 ↦
                      let o : IsOther b = record { quote = ne_eqb b 34 n34; backslash = ne_eqb b 92 n92; e8 = ne_eqb b 8 n8; e9 = ne_eqb b 9 n9; e10 = ne_eqb b 10 n10; e12 = ne_eqb b 12 n12; e13 = ne_eqb b 13 n13 } in
                      either_spelled b rest (ltb b 32) o refl
                ]
              ]
            ]
          ]
        ]
      ]
    ]

-- the way a test went
chosen : {A : Type 0} (t : Bool) (o p : Option A) (y : A) → cond t o p ≡ Some y → ((t ≡ true) × (o ≡ Some y)) ⊎ ((t ≡ false) × (p ≡ Some y))
chosen true o p y h = inl (refl, h)
chosen false o p y h = inr (refl, h)

is_mark : ℕ → ℕ → Type 0
is_mark c b = escape b ≡ 92 ∷ c ∷ []

mark_at : (c m b v : ℕ) → eqb c m ≡ true → Some v ≡ Some b → escape v ≡ 92 ∷ m ∷ [] → escape b ≡ 92 ∷ c ∷ []
mark_at c m b v t e spelled =
    let same : c ≡ m = eqb-true c m t in
    let value : v ≡ b = same_Some v b e in
    ap escape (sym value) ∙ spelled ∙ ap (λ (n : ℕ). 92 ∷ n ∷ []) (sym same)

marked_takes : (c b : ℕ) → marked c ≡ Some b → escape b ≡ 92 ∷ c ∷ []
marked_takes c b h =
    elim (chosen (eqb c 34) (Some 34) _ b h) [
      | inl x ↦ mark_at c 34 b 34 x.0 x.1 refl
      | inr x34 ↦ elim (chosen (eqb c 92) (Some 92) _ b x34.1) [
        | inl x ↦ mark_at c 92 b 92 x.0 x.1 refl
        | inr x92 ↦ elim (chosen (eqb c 98) (Some 8) _ b x92.1) [
          | inl x ↦ mark_at c 98 b 8 x.0 x.1 refl
          | inr x98 ↦ elim (chosen (eqb c 116) (Some 9) _ b x98.1) [
            | inl x ↦ mark_at c 116 b 9 x.0 x.1 refl
            | inr x116 ↦ elim (chosen (eqb c 110) (Some 10) _ b x116.1) [
              | inl x ↦ mark_at c 110 b 10 x.0 x.1 refl
              | inr x110 ↦ elim (chosen (eqb c 102) (Some 12) _ b x110.1) [
                | inl x ↦ mark_at c 102 b 12 x.0 x.1 refl
                | inr x102 ↦ elim (chosen (eqb c 114) (Some 13) None b x102.1) [
                  | inl x ↦ mark_at c 114 b 13 x.0 x.1 refl
                  | inr x ↦ absurd (none-some b x.1)
                ]
              ]
            ]
          ]
        ]
      ]
    ]

digit_test : ℕ → Bool
digit_test c = not (ltb (hex_value c) 16) || eqb (hex_digit (hex_value c)) c

pub and_no : (b : Bool) → (b && false) ≡ false
and_no true = refl
and_no false = refl

value_high : (c : ℕ) → 103 ≤ c → hex_value c ≡ 16
value_high c h =
    let decimal : leb c 57 ≡ false = lt-leb c 57 (omega arith) in
    let letter : leb c 102 ≡ false = lt-leb c 102 (omega arith) in
    rw (decimal, letter, and_no (leb 48 c), and_no (leb 97 c)) refl

digit_back : (c : ℕ) → ltb (hex_value c) 16 ≡ true → hex_digit (hex_value c) ≡ c
unfolding digit_test
digit_back c h =
    elim (cases_lt c 103) [
      | inl low ↦
          let all : digit_test c ≡ true = agree_below_at digit_test (λ _. true) 103 c refl low in
          elim (or_cases (not (ltb (hex_value c) 16)) (eqb (hex_digit (hex_value c)) c) all) [
            | inl none ↦ absurd (false≢true (sym (not-true (ltb (hex_value c) 16) none) ∙ h))
            | inr back ↦ eqb-true (hex_digit (hex_value c)) c back
          ]
      | inr high ↦ absurd (false≢true (sym (ap (λ (n : ℕ). ltb n 16) (value_high c high)) ∙ h))
    ]

nameless_other : (b : ℕ) → is_nameless b ≡ true → IsOther b × (ltb b 32 ≡ true)
nameless_other b h =
    let outer = and_parts (ltb b 32) (not (eqb b 8 || eqb b 9 || eqb b 10 || eqb b 12 || eqb b 13)) h in
    let low : b < 32 = ltb-true b 32 outer.0 in
    let a = or_parts (eqb b 8 || eqb b 9 || eqb b 10 || eqb b 12) (eqb b 13) (not-true (eqb b 8 || eqb b 9 || eqb b 10 || eqb b 12 || eqb b 13) outer.1) in
    let c = or_parts (eqb b 8 || eqb b 9 || eqb b 10) (eqb b 12) a.0 in
    let d = or_parts (eqb b 8 || eqb b 9) (eqb b 10) c.0 in
    let e = or_parts (eqb b 8) (eqb b 9) d.0 in
    (record { quote = ne_eqb b 34 (λ x. absurd (omega arith)); backslash = ne_eqb b 92 (λ x. absurd (omega arith)); e8 = e.0; e9 = e.1; e10 = d.1; e12 = c.1; e13 = a.1 }, outer.0)

control_takes : (high low b : ℕ) → control_of high low ≡ Some b → escape b ≡ 92 ∷ 117 ∷ 48 ∷ 48 ∷ high ∷ low ∷ []
control_takes high low b h =
    let v = 16 * hex_value high + hex_value low in
    let t = tested_some (ltb (hex_value high) 2 && ltb (hex_value low) 16 && is_nameless v) (Some v) b h in
    let outer = and_parts (ltb (hex_value high) 2 && ltb (hex_value low) 16) (is_nameless v) t.0 in
    let inner = and_parts (ltb (hex_value high) 2) (ltb (hex_value low) 16) outer.0 in
    let is : v ≡ b = same_Some v b t.1 in
    let top : hex_value high < 2 = ltb-true (hex_value high) 2 inner.0 in
    let bottom : hex_value low < 16 = ltb-true (hex_value low) 16 inner.1 in
    let quotient : b / 16 ≡ hex_value high = omega arith in
    let remainder : b % 16 ≡ hex_value low = omega arith in
    let first : hex_digit (b / 16) ≡ high = ap hex_digit quotient ∙ digit_back high (lt-ltb (hex_value high) 16 (omega arith)) in
    let second : hex_digit (b % 16) ≡ low = ap hex_digit remainder ∙ digit_back low inner.1 in
    let other = nameless_other b (subst (λ (n : ℕ). is_nameless n ≡ true) is outer.1) in
    control_spelling b other.0 other.1 ∙ ap₂ (λ (x y : ℕ). 92 ∷ 117 ∷ 48 ∷ 48 ∷ x ∷ y ∷ []) first second

pair_parts : (b c : ℕ) (r s : List ℕ) → ◌≡◌ {A = Option (ℕ × List ℕ)} (Some (b, r)) (Some (c, s)) → (b ≡ c) × (r ≡ s)
pair_parts b c r s h = (ap (λ (p : ℕ × List ℕ). p.0) (same_Some (b, r) (c, s) h), ap (λ (p : ℕ × List ℕ). p.1) (same_Some (b, r) (c, s) h))

two_digits_takes : (bytes : List ℕ) (b : ℕ) (rest : List ℕ) → two_digits_at bytes ≡ Some (b, rest) → 92 ∷ 117 ∷ 48 ∷ 48 ∷ bytes ≡ escape b ++ rest
unfolding two_digits_at
two_digits_takes [] b rest h = absurd (none-some (b, rest) h)
two_digits_takes (high ∷ []) b rest h = absurd (none-some (b, rest) h)
two_digits_takes (high ∷ low ∷ after) b rest h =
    let found = bind_some (control_of high low) (λ x. Some (x, after)) (b, rest) h in
    let parts = pair_parts found.0 b after rest found.2 in
    let spelled = control_takes high low found.0 found.1 in
    ap (λ (r : List ℕ). 92 ∷ 117 ∷ 48 ∷ 48 ∷ high ∷ low ∷ r) parts.1 ∙ ap (λ (s : List ℕ). s ++ rest) (sym spelled ∙ ap escape parts.0)

control_at_takes : (bytes : List ℕ) (b : ℕ) (rest : List ℕ) → control_at bytes ≡ Some (b, rest) → 92 ∷ 117 ∷ bytes ≡ escape b ++ rest
unfolding control_at
control_at_takes bytes b rest h =
    let first = bind_some (behind_byte 48 bytes) (λ x. behind_byte 48 x >>= two_digits_at) (b, rest) h in
    let second = bind_some (behind_byte 48 first.0) two_digits_at (b, rest) first.2 in
    let one = byte_takes 48 bytes first.0 first.1 in
    let two = byte_takes 48 first.0 second.0 second.1 in
    ap (λ (r : List ℕ). 92 ∷ 117 ∷ r) (one ∙ ap (λ (r : List ℕ). 48 ∷ r) two) ∙ two_digits_takes second.0 b rest second.2

escaped_takes : (bytes : List ℕ) (b : ℕ) (rest : List ℕ) → escaped_at bytes ≡ Some (b, rest) → 92 ∷ bytes ≡ escape b ++ rest
unfolding escaped_at
escaped_takes [] b rest h = absurd (none-some (b, rest) h)
escaped_takes (c ∷ cs) b rest h =
    elim (chosen (eqb c 117) (control_at cs) (marked c >>= λ x. Some (x, cs)) (b, rest) h) [
      | inl x ↦
          let same : c ≡ 117 = eqb-true c 117 x.0 in
          ap (λ (n : ℕ). 92 ∷ n ∷ cs) same ∙ control_at_takes cs b rest x.1
      | inr x ↦
          let found = bind_some (marked c) (λ y. Some (y, cs)) (b, rest) x.1 in
          let parts = pair_parts found.0 b cs rest found.2 in
          let spelled = marked_takes c found.0 found.1 in
          ap (λ (r : List ℕ). 92 ∷ c ∷ r) parts.1 ∙ ap (λ (s : List ℕ). s ++ rest) (sym spelled ∙ ap escape parts.0)
    ]

bare_spelling : (b : ℕ) → eqb b 92 ≡ false → (eqb b 34 || ltb b 32) ≡ false → escape b ≡ b ∷ []
bare_spelling b backslash marks =
    let parts = or_parts (eqb b 34) (ltb b 32) marks in
    let high : 32 ≤ b = ltb-false b 32 parts.1 in
    plain_spelling b (record { quote = parts.0; backslash = backslash; e8 = ne_eqb b 8 (λ x. absurd (omega arith)); e9 = ne_eqb b 9 (λ x. absurd (omega arith)); e10 = ne_eqb b 10 (λ x. absurd (omega arith)); e12 = ne_eqb b 12 (λ x. absurd (omega arith)); e13 = ne_eqb b 13 (λ x. absurd (omega arith)) }) parts.1

pub byte_spelled : (bytes : List ℕ) (b : ℕ) (rest : List ℕ) → spelled_at bytes ≡ Some (b, rest) → bytes ≡ escape b ++ rest
unfolding spelled_at
byte_spelled [] b rest h = absurd (none-some (b, rest) h)
byte_spelled (c ∷ cs) b rest h =
    elim (chosen (eqb c 92) (escaped_at cs) (cond (eqb c 34 || ltb c 32) None (Some (c, cs))) (b, rest) h) [
      | inl x ↦
          let same : c ≡ 92 = eqb-true c 92 x.0 in
          ap (λ (n : ℕ). n ∷ cs) same ∙ escaped_takes cs b rest x.1
      | inr x ↦ elim (chosen (eqb c 34 || ltb c 32) None (Some (c, cs)) (b, rest) x.1) [
        | inl y ↦ absurd (none-some (b, rest) y.1)
        | inr y ↦
            let parts = pair_parts c b cs rest y.1 in
            ap (λ (r : List ℕ). c ∷ r) parts.1 ∙ ap (λ (s : List ℕ). s ++ rest) (sym (bare_spelling c x.0 y.0) ∙ ap escape parts.0)
      ]
    ]

starts : (c : ℕ) (bytes : List ℕ) → begins_with c bytes ≡ true → bytes ≡ c ∷ drop 1 bytes
starts c [] h = absurd (false≢true h)
starts c (b ∷ bytes) h = ap (λ (n : ℕ). n ∷ bytes) (eqb-true b c h)

-- a body up to its quotation mark
pub body_takes : (n : ℕ) (bytes text rest : List ℕ) → body_at n bytes ≡ Some (text, rest) → bytes ≡ flat_map escape text ++ 34 ∷ rest
unfolding body_at
body_takes zero bytes text rest h = absurd (none-some (text, rest) h)
body_takes (suc n) bytes text rest h =
    elim (chosen (begins_with 34 bytes) (Some ([], drop 1 bytes)) (spelled_at bytes >>= λ b. body_at n b.1 >>= λ more. Some (b.0 ∷ more.0, more.1)) (text, rest) h) [
      | inl x ↦
          let parts = same_Some ([], drop 1 bytes) (text, rest) x.1 in
          let none : [] ≡ text = ap (λ (p : List ℕ × List ℕ). p.0) parts in
          let after : drop 1 bytes ≡ rest = ap (λ (p : List ℕ × List ℕ). p.1) parts in
          starts 34 bytes x.0 ∙ ap (λ (r : List ℕ). 34 ∷ r) after ∙ ap (λ (t : List ℕ). flat_map escape t ++ 34 ∷ rest) none
      | inr x ↦
          let first = bind_some (spelled_at bytes) (λ b. body_at n b.1 >>= λ more. Some (b.0 ∷ more.0, more.1)) (text, rest) x.1 in
          let more = bind_some (body_at n first.0.1) (λ m. Some (first.0.0 ∷ m.0, m.1)) (text, rest) first.2 in
          let parts = same_Some (first.0.0 ∷ more.0.0, more.0.1) (text, rest) more.2 in
          let whole : first.0.0 ∷ more.0.0 ≡ text = ap (λ (p : List ℕ × List ℕ). p.0) parts in
          let after : more.0.1 ≡ rest = ap (λ (p : List ℕ × List ℕ). p.1) parts in
          let front = byte_spelled bytes first.0.0 first.0.1 first.1 in
          let later = body_takes n first.0.1 more.0.0 more.0.1 more.1 in
          let all : bytes ≡ flat_map escape (first.0.0 ∷ more.0.0) ++ 34 ∷ more.0.1 =
          front ∙ ap (λ (r : List ℕ). escape first.0.0 ++ r) later ∙ sym (append_assoc (escape first.0.0) (flat_map escape more.0.0) (34 ∷ more.0.1)) ∙ ap (λ (s : List ℕ). s ++ 34 ∷ more.0.1) (sym (flat_map-cons escape first.0.0 more.0.0)) in
          all ∙ ap₂ (λ (t r : List ℕ). flat_map escape t ++ 34 ∷ r) whole after
    ]

pub body_again : (n : ℕ) (text rest : List ℕ) → length text < n → body_at n (flat_map escape text ++ 34 ∷ rest) ≡ Some (text, rest)
unfolding body_at
body_again zero text rest h = absurd (omega arith)
body_again (suc n) [] rest h = refl
body_again (suc n) (b ∷ text) rest h =
    let whole : flat_map escape (b ∷ text) ++ 34 ∷ rest ≡ escape b ++ (flat_map escape text ++ 34 ∷ rest) = ap (λ (s : List ℕ). s ++ 34 ∷ rest) (flat_map-cons escape b text) ∙ append_assoc (escape b) (flat_map escape text) (34 ∷ rest) in
    let one = byte_again b (flat_map escape text ++ 34 ∷ rest) in
    let later = body_again n text rest (omega arith) in
    ap (body_at (suc n)) whole ∙ rw (one.open_still, one.read, later) refl

-- a body in which no byte is escaped
pub bare_body : (n : ℕ) (run rest : List ℕ) → list_all is_bare run ≡ true → length run < n → body_at n (run ++ 34 ∷ rest) ≡ Some (run, rest)
bare_body n run rest bare h = ap (λ (s : List ℕ). body_at n (s ++ 34 ∷ rest)) (sym (bare_text run bare)) ∙ body_again n run rest h

pub name_is : (name : List ℕ) → is_name name ≡ true → IsName name
name_is name h =
    let outer = and_parts (is_utf8 name && leb 1 (length name)) (leb (length name) 128) h in
    let inner = and_parts (is_utf8 name) (leb 1 (length name)) outer.0 in
    record { utf8 = inner.0; some_byte = leb-true 1 (length name) inner.1; short = leb-true (length name) 128 outer.1 }

pub is_name_of : (name : List ℕ) → IsName name → is_name name ≡ true
is_name_of name h = and_from (is_utf8 name && leb 1 (length name)) (leb (length name) 128) (and_from (is_utf8 name) (leb 1 (length name)) h.utf8 (le-leb 1 (length name) h.some_byte)) (le-leb (length name) 128 h.short)

named_is : (bytes name : List ℕ) → named_of bytes ≡ Some name → (bytes ≡ name) × IsName name
unfolding named_of
named_is bytes name h =
    let t = tested_some (is_name bytes) (Some bytes) name h in
    let same = same_Some bytes name t.1 in
    (same, name_is name (subst (λ (s : List ℕ). is_name s ≡ true) same t.0))

named_again : (name : List ℕ) → IsName name → named_of name ≡ Some name
unfolding named_of
named_again name h = rw (is_name_of name h) refl

nothing_spelled : (b : ℕ) (s rest : List ℕ) → IsSpelled b (s ++ rest) rest → s ≡ [] → rest ≡ [] → ⊥
unfolding spelled_at
nothing_spelled b s rest h e none =
    let empty : s ++ rest ≡ [] = ap₂ (λ (x y : List ℕ). x ++ y) e none in
    none-some (b, rest) (sym (ap spelled_at empty) ∙ h.read)

some_of : (s : List ℕ) → (s ≡ [] → ⊥) → 1 ≤ length s
some_of [] h = absurd (h refl)
some_of (x ∷ s) h = omega arith

pub spelling_some : (b : ℕ) → 1 ≤ length (escape b)
spelling_some b = some_of (escape b) (λ e. nothing_spelled b (escape b) [] (byte_again b []) e refl)

longer : (text rest : List ℕ) → length text < length (flat_map escape text ++ 34 ∷ rest)
longer [] rest = omega arith
longer (b ∷ text) rest =
    let whole : flat_map escape (b ∷ text) ++ 34 ∷ rest ≡ escape b ++ (flat_map escape text ++ 34 ∷ rest) = ap (λ (s : List ℕ). s ++ 34 ∷ rest) (flat_map-cons escape b text) ∙ append_assoc (escape b) (flat_map escape text) (34 ∷ rest) in
    let len = ap (λ (s : List ℕ). length s) whole ∙ length-append (escape b) (flat_map escape text ++ 34 ∷ rest) in
    let some = spelling_some b in
    let more = longer text rest in
    omega (arith, len, some, more)

pub name_body_takes : (bytes name rest : List ℕ) → name_body_at bytes ≡ Some (name, rest) → (bytes ≡ flat_map escape name ++ 34 ∷ rest) × IsName name
unfolding name_body_at
name_body_takes bytes name rest h =
    let body = bind_some (body_at (length bytes) bytes) (λ b. named_of b.0 >>= λ m. Some (m, b.1)) (name, rest) h in
    let named = bind_some (named_of body.0.0) (λ m. Some (m, body.0.1)) (name, rest) body.2 in
    let parts = same_Some (named.0, body.0.1) (name, rest) named.2 in
    let is = named_is body.0.0 named.0 named.1 in
    let one : named.0 ≡ name = ap (λ (p : List ℕ × List ℕ). p.0) parts in
    let after : body.0.1 ≡ rest = ap (λ (p : List ℕ × List ℕ). p.1) parts in
    (body_takes (length bytes) bytes body.0.0 body.0.1 body.1 ∙ ap₂ (λ (t r : List ℕ). flat_map escape t ++ 34 ∷ r) (is.0 ∙ one) after, subst IsName one is.1)

pub name_body_again : (name rest : List ℕ) → IsName name → name_body_at (flat_map escape name ++ 34 ∷ rest) ≡ Some (name, rest)
unfolding name_body_at
name_body_again name rest h =
    let body = body_again (length (flat_map escape name ++ 34 ∷ rest)) name rest (longer name rest) in
    rw (body, named_again name h) refl

-- a name behind a space
pub name_takes : (bytes name rest : List ℕ) → name_at bytes ≡ Some (name, rest) → (bytes ≡ part (text_spelling name) ++ rest) × IsName name
unfolding name_at
name_takes bytes name rest h =
    let a = bind_some (behind_byte 32 bytes) (λ x. behind_byte 34 x >>= name_body_at) (name, rest) h in
    let b = bind_some (behind_byte 34 a.0) name_body_at (name, rest) a.2 in
    let one = byte_takes 32 bytes a.0 a.1 in
    let two = byte_takes 34 a.0 b.0 b.1 in
    let body = name_body_takes b.0 name rest b.2 in
    (one ∙ ap (λ (r : List ℕ). 32 ∷ r) (two ∙ ap (λ (r : List ℕ). 34 ∷ r) (body.0 ∙ sym (append_assoc (flat_map escape name) (34 ∷ []) rest))), body.1)

pub name_again : (name rest : List ℕ) → IsName name → name_at (part (text_spelling name) ++ rest) ≡ Some (name, rest)
unfolding name_at
name_again name rest h = ap name_body_at (append_assoc (flat_map escape name) (34 ∷ []) rest) ∙ name_body_again name rest h

-- the bytes that the reader takes as they stand
pub bare_name_found : (bytes run rest name : List ℕ) → bytes ≡ run ++ 34 ∷ rest → list_all is_bare run ≡ true → named_of run ≡ Some name → name_body_at bytes ≡ Some (name, rest)
unfolding name_body_at
bare_name_found bytes run rest name whole bare named =
    let len : length bytes ≡ length run + suc (length rest) = ap (λ (s : List ℕ). length s) whole ∙ length-append run (34 ∷ rest) in
    let body = ap (body_at (length bytes)) whole ∙ bare_body (length bytes) run rest bare (omega (arith, len)) in
    rw (body, named) refl

bare_name_none : (bytes run rest : List ℕ) → bytes ≡ run ++ 34 ∷ rest → list_all is_bare run ≡ true → named_of run ≡ None → name_body_at bytes ≡ None
unfolding name_body_at
bare_name_none bytes run rest whole bare named =
    let len : length bytes ≡ length run + suc (length rest) = ap (λ (s : List ℕ). length s) whole ∙ length-append run (34 ∷ rest) in
    let body = ap (body_at (length bytes)) whole ∙ bare_body (length bytes) run rest bare (omega (arith, len)) in
    rw (body, named) refl

pub bare_name_fails : (misfit : Misfit) (bytes run rest : List ℕ) → bytes ≡ run ++ 34 ∷ rest → list_all is_bare run ≡ true → Fails misfit (named_of run) → Fails misfit (name_body_at bytes)
bare_name_fails Form bytes run rest whole bare h = bare_name_none bytes run rest whole bare h
bare_name_fails Memory bytes run rest whole bare h = tt

-- bytes that are a name or not
pub named_none : (bytes : List ℕ) → (IsUtf8 bytes → ⊥) → named_of bytes ≡ None
unfolding named_of
named_none bytes h =
    let test : is_utf8 bytes ≡ false = elim (is_utf8 bytes) as (λ (b : Bool). is_utf8 bytes ≡ b → is_utf8 bytes ≡ false) [
      | true ↦ λ e. absurd (h (IsUtf8-from_is_utf8 bytes e))
      | false ↦ λ e. e
    ] refl in
    rw test refl

pub named_some : (bytes : List ℕ) → IsUtf8 bytes → 1 ≤ length bytes → length bytes ≤ 128 → named_of bytes ≡ Some bytes
named_some bytes u low high = named_again bytes (record { utf8 = is_utf8-from_IsUtf8 bytes u; some_byte = low; short = high })
