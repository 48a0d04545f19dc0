-- A number that is read byte by byte.
use Rattle.std.proofs.Common.{◌≡◌, ℕ, zero, suc, ◌<◌, List, [], ◌∷◌, ◌++◌, ◌-◌, length, take, drop, true, false, Some, refl, sym, ap, ◌∙◌, subst, arith, append_assoc, append-nil, length-append}
use Rattle.std.specs.Str.{IsAscii}
use Rattle.std.proofs.lemmas.Str.{IsAscii-append}
use Rattle.std.proofs.lemmas.Bool.{cond-false}
use Rattle.adx_json.specs.Machine.{Frame, in_number, stop_of, next_numeral, may_end, moves, stuck, at_end}
use Rattle.adx_json.specs.Scan.{accepts, EndsNumber, Scanned}
use Rattle.adx_json.specs.Found.{FoundNumber}
use Rattle.adx_json.specs.declared.fault.Stop.TheVariants.{Syntax}
use Rattle.adx_json.specs.declared.number.Numeral.{Numeral}
use Rattle.adx_json.specs.declared.number.Numeral.TheVariants.{Start}
use Rattle.adx_json.proofs.NumberTexts.{from, number_is}
use Rattle.adx_json.proofs.Leads.{numeral_plain, PlainIf}
use Rattle.adx_json.proofs.Stops.{stop_step, numeral_step, stop_ended, stop_end, unended_step}

-- the number has come as far as n by some bytes
pub record ScannedSoFar (bytes : List ℕ) (n : Numeral) (left : List ℕ) : Type 0 where
  pub number : List ℕ
  pub whole : bytes ≡ number ++ left
  pub accepted : (more : List ℕ) → accepts Start (number ++ more) ≡ accepts n more
  pub ascii : IsAscii number
  pub goes : (fs : List Frame) → stop_of 64 (in_number Start) fs bytes ≡ stop_of 64 (in_number n) fs left

ascii_nil : IsAscii []
ascii_nil i = omega arith

ascii_cons : (b : ℕ) (bs : List ℕ) → b < 128 → IsAscii bs → IsAscii (b ∷ bs)
ascii_cons b bs low h zero = low
ascii_cons b bs low h (suc i) = h i

plain_of : (b : ℕ) (n k : Numeral) → next_numeral n b ≡ Some k → b < 128
plain_of b n k e = (subst (PlainIf b) e (numeral_plain n b)).1

pub scan_more : (bytes : List ℕ) (n k : Numeral) (left : List ℕ) (b : ℕ) (rest : List ℕ) → ScannedSoFar bytes n left → left ≡ b ∷ rest → next_numeral n b ≡ Some k → ScannedSoFar bytes k rest
scan_more bytes n k left b rest s first e = record {
  number = s.number ++ b ∷ [];
  whole = s.whole ∙ ap (λ x. s.number ++ x) first ∙ sym (append_assoc s.number (b ∷ []) rest);
  accepted = λ more. ap (accepts Start) (append_assoc s.number (b ∷ []) more) ∙ s.accepted (b ∷ more) ∙ ap (λ o. from o more) e;
  ascii = IsAscii-append s.number (b ∷ []) s.ascii (ascii_cons b [] (plain_of b n k e) ascii_nil);
  goes = λ fs. s.goes fs ∙ ap (stop_of 64 (in_number n) fs) first ∙ stop_step 64 (in_number n) fs b rest (moves (in_number k) fs) (numeral_step 64 fs n k b e);
}

ends_none : (n : Numeral) (left : List ℕ) → length left ≡ 0 → EndsNumber n left
ends_none n [] h = tt
ends_none n (b ∷ left) h = absurd (omega arith)

-- a number that may end is found
pub scan_found : (bytes : List ℕ) (n : Numeral) (rest : List ℕ) (s : Scanned bytes n rest) → may_end n ≡ true → FoundNumber bytes s.number rest
scan_found bytes n rest s may = record {
  is = sym (number_is s.number) ∙ ap (accepts Start) (sym (append-nil s.number)) ∙ s.accepted [] ∙ may;
  whole = s.whole;
  goes = λ fs. s.goes fs ∙ stop_ended 64 fs n rest may s.ends;
}

unended_end : (fs : List Frame) (n : Numeral) → may_end n ≡ false → at_end (in_number n) fs ≡ Some (Syntax 0)
unfolding at_end
unended_end [] n may = cond-false _ _ _ may
unended_end (f ∷ fs) n may = refl

unended_stop : (fs : List Frame) (n : Numeral) (rest : List ℕ) → may_end n ≡ false → EndsNumber n rest → stop_of 64 (in_number n) fs rest ≡ Some (Syntax (length rest))
unended_stop fs n [] may e = stop_end 64 (in_number n) fs ∙ unended_end fs n may
unended_stop fs n (b ∷ rest) may e = stop_step 64 (in_number n) fs b rest stuck (unended_step 64 fs n b may e)

-- a number that may not end stops where it can't go on
pub scan_refused : (bytes : List ℕ) (n : Numeral) (rest : List ℕ) → Scanned bytes n rest → may_end n ≡ false → (fs : List Frame) → stop_of 64 (in_number Start) fs bytes ≡ Some (Syntax (length rest))
scan_refused bytes n rest s may fs = s.goes fs ∙ unended_stop fs n rest may s.ends

take_front : (front rest : List ℕ) → take (length front) (front ++ rest) ≡ front
take_front [] rest = refl
take_front (b ∷ front) rest = ap (λ x. b ∷ x) (take_front front rest)

drop_front : (front rest : List ℕ) → drop (length front) (front ++ rest) ≡ rest
drop_front [] rest = refl
drop_front (b ∷ front) rest = drop_front front rest

-- the cut before what is left
pub cut_before : (bytes front rest : List ℕ) (k : ℕ) → bytes ≡ front ++ rest → k ≡ length bytes - length rest → (take k bytes ≡ front) × (drop k bytes ≡ rest)
cut_before bytes front rest k e h =
    let same : k ≡ length front = h ∙ ap (λ x. length x - length rest) e ∙ omega (arith, length-append front rest) in
    (ap (λ x. take x bytes) same ∙ ap (take (length front)) e ∙ take_front front rest, ap (λ x. drop x bytes) same ∙ ap (drop (length front)) e ∙ drop_front front rest)
