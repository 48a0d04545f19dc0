-- The parts of a text that is read.
use Rattle.std.proofs.Common.{◌≡◌, ℕ, suc, ◌+◌, ◌*◌, ◌<◌, List, [], ◌∷◌, ◌++◌, length, Bool, true, false, cond, Option, Some, None, Result, Err, refl, sym, ap, ◌∙◌, subst, arith, eqb, ltb, leb, append_assoc, append-nil}
use Rattle.std.proofs.lemmas.Bool.{cond-true, cond-false, and_from, ne_eqb}
use Rattle.std.proofs.lemmas.Bool.Decides.{nat_tests}
use Rattle.std.specs.Option.{IfSome}
use Rattle.std.specs.Result.{IfErr}
use Rattle.std.specs.List.{list_all, flat_map, AllByRecursion}
use Rattle.std.specs.Str.{IsUtf8}
use Rattle.std.specs.Char.Utf16.{is_high_surrogate}
use Rattle.adx_units.specs.JsonTexts.{is_bare}
use Rattle.adx_units.specs.Scans.{Stops}
use Rattle.adx_json.specs.Grammar.{Piece, short, unit, IsPiece, piece_bytes, is_short, is_hex, short_value, unit_text, unpaired, waits, decoded}
use Rattle.adx_json.specs.Machine.{Frame, characters, escaped, digits, Role, in_text, moves, stuck, step, stop_of, at_end, within_fault, Tells, behind_digit, behind_text}
use Rattle.adx_json.specs.declared.utf8.Tail.{Tail}
use Rattle.adx_json.specs.declared.fault.Stop.{Stop}
use Rattle.adx_json.specs.declared.fault.Stop.TheVariants.{Syntax, Utf8}
use Rattle.adx_json.specs.Found.{FoundDigit, FoundUnit, FoundEscape, FoundText, AddsRun, run_pieces}
use Rattle.adx_json.proofs.Stops.{stop_step, stop_end, stop_pieces, closing_step, backslash_step, short_step, unit_step, hex_step}

-- a fault that a `?` hands on
pub handed : {T : Type 0} (r : Result T Stop) (y e : Stop) (P : Stop → Type 0) → r ≡ Err y → y ≡ e → P e → IfErr r P
handed r y e P a b h = rw a (subst P (sym b) h)

pub tells_same : (e : Stop) (o p : Option Stop) → o ≡ p → Tells e p → Tells e o
tells_same e o p same h = subst (Tells e) (sym same) h

tells_cond : (t : Bool) (left : ℕ) → Tells (cond t (Utf8 left) (Syntax left)) (Some (cond t (Utf8 left) (Syntax left)))
tells_cond true left = refl
tells_cond false left = refl

pub tells_within : (e : Stop) (left b : ℕ) (o : Option Stop) → e ≡ within_fault escaped left b → o ≡ Some (within_fault escaped left b) → Tells e o
tells_within e left b o same h = subst (λ x. Tells x o) (sym same) (subst (Tells (within_fault escaped left b)) (sym h) (tells_cond (leb 128 b) left))

-- at the end of the bytes
digits_end : (role : Role) (fs : List Frame) (k : ℕ) → at_end (in_text role (digits k)) fs ≡ Some (Syntax 0)
unfolding at_end
digits_end role fs k = refl

escaped_end : (role : Role) (fs : List Frame) → at_end (in_text role escaped) fs ≡ Some (Syntax 0)
unfolding at_end
escaped_end role fs = refl

text_end : (role : Role) (fs : List Frame) → at_end (in_text role (characters None)) fs ≡ Some (Syntax 0)
unfolding at_end
text_end role fs = refl

tail_end : (role : Role) (fs : List Frame) (t : Tail) → at_end (in_text role (characters (Some t))) fs ≡ Some (Utf8 0)
unfolding at_end
tail_end role fs t = refl

empty_of : (bytes : List ℕ) → length bytes ≡ 0 → bytes ≡ []
empty_of [] e = refl
empty_of (b ∷ bytes) e = absurd (omega arith)

pub digits_empty : (role : Role) (fs : List Frame) (k : ℕ) (bytes : List ℕ) → length bytes ≡ 0 → stop_of 64 (in_text role (digits k)) fs bytes ≡ Some (Syntax 0)
digits_empty role fs k bytes e = ap (stop_of 64 (in_text role (digits k)) fs) (empty_of bytes e) ∙ stop_end 64 (in_text role (digits k)) fs ∙ digits_end role fs k

pub escaped_empty : (role : Role) (fs : List Frame) (bytes : List ℕ) → length bytes ≡ 0 → stop_of 64 (in_text role escaped) fs bytes ≡ Some (Syntax 0)
escaped_empty role fs bytes e = ap (stop_of 64 (in_text role escaped) fs) (empty_of bytes e) ∙ stop_end 64 (in_text role escaped) fs ∙ escaped_end role fs

pub text_empty : (role : Role) (fs : List Frame) (bytes : List ℕ) → length bytes ≡ 0 → stop_of 64 (in_text role (characters None)) fs bytes ≡ Some (Syntax 0)
text_empty role fs bytes e = ap (stop_of 64 (in_text role (characters None)) fs) (empty_of bytes e) ∙ stop_end 64 (in_text role (characters None)) fs ∙ text_end role fs

-- bytes that can't come
hex_stuck : (role : Role) (fs : List Frame) (k b : ℕ) → is_hex b ≡ false → step 64 (in_text role (digits k)) fs b ≡ stuck
unfolding step
hex_stuck role fs k b h = cond-false _ _ _ h

pub digit_refused : (role : Role) (fs : List Frame) (k : ℕ) (e : Stop) (bytes : List ℕ) (b : ℕ) (rest : List ℕ) → bytes ≡ b ∷ rest → is_hex b ≡ false → e ≡ within_fault escaped (length bytes) b → Tells e (stop_of 64 (in_text role (digits k)) fs bytes)
digit_refused role fs k e bytes b rest first h same =
    tells_within e (length bytes) b (stop_of 64 (in_text role (digits k)) fs bytes) same (
    ap (stop_of 64 (in_text role (digits k)) fs) first ∙ stop_step 64 (in_text role (digits k)) fs b rest stuck (hex_stuck role fs k b h) ∙ ap (λ n. Some (within_fault escaped n b)) (sym (ap length first))
    )

short_stuck : (role : Role) (fs : List Frame) (b : ℕ) → is_short b ≡ false → eqb b 117 ≡ false → step 64 (in_text role escaped) fs b ≡ stuck
unfolding step
short_stuck role fs b h n = cond-false _ _ _ h ∙ cond-false _ _ _ n

pub escape_refused : (role : Role) (fs : List Frame) (e : Stop) (bytes : List ℕ) (b : ℕ) (rest : List ℕ) → bytes ≡ b ∷ rest → is_short b ≡ false → eqb b 117 ≡ false → e ≡ within_fault escaped (length bytes) b → Tells e (stop_of 64 (in_text role escaped) fs bytes)
escape_refused role fs e bytes b rest first h n same =
    tells_within e (length bytes) b (stop_of 64 (in_text role escaped) fs bytes) same (
    ap (stop_of 64 (in_text role escaped) fs) first ∙ stop_step 64 (in_text role escaped) fs b rest stuck (short_stuck role fs b h n) ∙ ap (λ n. Some (within_fault escaped n b)) (sym (ap length first))
    )

control_stuck : (role : Role) (fs : List Frame) (b : ℕ) → eqb b 34 ≡ false → eqb b 92 ≡ false → ltb b 32 ≡ true → step 64 (in_text role (characters None)) fs b ≡ stuck
unfolding step
control_stuck role fs b q s c = cond-false _ _ _ q ∙ cond-false _ _ _ s ∙ cond-true _ _ _ c

narrow_fault : (b left : ℕ) → leb 128 b ≡ false → cond (leb 128 b) (Utf8 left) (Syntax left) ≡ Syntax left
narrow_fault b left h = cond-false _ _ _ h

pub control_refused : (role : Role) (fs : List Frame) (bytes : List ℕ) (b : ℕ) (rest : List ℕ) → bytes ≡ b ∷ rest → eqb b 34 ≡ false → eqb b 92 ≡ false → ltb b 32 ≡ true → leb 128 b ≡ false → stop_of 64 (in_text role (characters None)) fs bytes ≡ Some (Syntax (length bytes))
control_refused role fs bytes b rest first q s c n =
    ap (stop_of 64 (in_text role (characters None)) fs) first
    ∙ stop_step 64 (in_text role (characters None)) fs b rest stuck (control_stuck role fs b q s c)
    ∙ ap (λ e. Some e) (narrow_fault b (suc (length rest)) n)
    ∙ ap (λ n. Some (Syntax n)) (sym (ap length first))

-- digits that were found
pub digit_goes : (bytes : List ℕ) (v : ℕ) (rest : List ℕ) → FoundDigit bytes v rest → (role : Role) (fs : List Frame) (k : ℕ) → stop_of 64 (in_text role (digits k)) fs bytes ≡ stop_of 64 (in_text role (behind_digit k)) fs rest
digit_goes bytes v rest d role fs k = ap (stop_of 64 (in_text role (digits k)) fs) d.whole ∙ stop_step 64 (in_text role (digits k)) fs d.digit rest (moves (in_text role (behind_digit k)) fs) (hex_step 64 role fs k d.digit d.is)

pub four_found : (bytes r1 r2 r3 rest : List ℕ) (a b c d : ℕ) → FoundDigit bytes a r1 → FoundDigit r1 b r2 → FoundDigit r2 c r3 → FoundDigit r3 d rest → FoundUnit bytes (4096 * a + 256 * b + 16 * c + d) rest
four_found bytes r1 r2 r3 rest a b c d p q r s = record {
  a = p.digit;
  b = q.digit;
  c = r.digit;
  d = s.digit;
  whole = p.whole ∙ ap (λ x. p.digit ∷ x) (q.whole ∙ ap (λ x. q.digit ∷ x) (r.whole ∙ ap (λ x. r.digit ∷ x) s.whole));
  is = and_from _ _ (and_from _ _ (and_from _ _ p.is q.is) r.is) s.is;
  means = rw (p.means, q.means, r.means, s.means) refl;
  goes = λ role fs. digit_goes bytes a r1 p role fs 3 ∙ digit_goes r1 b r2 q role fs 2 ∙ digit_goes r2 c r3 r role fs 1 ∙ digit_goes r3 d rest s role fs 0;
}

-- escapes that were found
pub short_found : (bytes : List ℕ) (b u : ℕ) (rest : List ℕ) → bytes ≡ b ∷ rest → is_short b ≡ true → u ≡ short_value b → FoundEscape bytes u rest
short_found bytes b u rest first h e = record {
  piece = short b;
  is = h;
  whole = ap (λ x. 92 ∷ x) first;
  means = λ waiting more. ap (λ v. unit_text waiting v ++ decoded (waits v) more) (sym e);
  goes = λ role fs. ap (stop_of 64 (in_text role escaped) fs) first ∙ stop_step 64 (in_text role escaped) fs b rest (moves (in_text role (characters None)) fs) (short_step 64 role fs b h);
}

pub unit_found : (bytes behind : List ℕ) (u : ℕ) (rest : List ℕ) → bytes ≡ 117 ∷ behind → FoundUnit behind u rest → FoundEscape bytes u rest
unit_found bytes behind u rest first f = record {
  piece = unit f.a f.b f.c f.d;
  is = f.is;
  whole = ap (λ x. 92 ∷ x) (first ∙ ap (λ x. 117 ∷ x) f.whole);
  means = λ waiting more. ap (λ v. unit_text waiting v ++ decoded (waits v) more) (sym f.means);
  goes = λ role fs. unit_goes bytes behind first role fs ∙ f.goes role fs;
}
  where
    unit_goes : (bytes behind : List ℕ) → bytes ≡ 117 ∷ behind → (role : Role) (fs : List Frame) → stop_of 64 (in_text role escaped) fs bytes ≡ stop_of 64 (in_text role (digits 3)) fs behind
    unit_goes bytes behind first role fs = ap (stop_of 64 (in_text role escaped) fs) first ∙ stop_step 64 (in_text role escaped) fs 117 behind (moves (in_text role (digits 3)) fs) (unit_step 64 role fs)

pub unit_refused : (e : Stop) (bytes behind : List ℕ) (role : Role) (fs : List Frame) → bytes ≡ 117 ∷ behind → Tells e (stop_of 64 (in_text role (digits 3)) fs behind) → Tells e (stop_of 64 (in_text role escaped) fs bytes)
unit_refused e bytes behind role fs first h =
    tells_same e _ _ (ap (stop_of 64 (in_text role escaped) fs) first ∙ stop_step 64 (in_text role escaped) fs 117 behind (moves (in_text role (digits 3)) fs) (unit_step 64 role fs)) h

-- a run that is put
pub run_none : (waiting : Option ℕ) (bytes before : List ℕ) → length bytes ≡ 0 → AddsRun waiting bytes before waiting before
run_none waiting [] before e = record { each = tt; adds = λ more. refl; high = λ h. h }
run_none waiting (b ∷ bytes) before e = absurd (omega arith)

pub run_some : (waiting : Option ℕ) (bytes before mid after : List ℕ) → 0 < length bytes → list_all is_bare bytes ≡ true → IsUtf8 bytes → mid ≡ before ++ unpaired waiting → after ≡ mid ++ bytes → AddsRun waiting bytes before None after
run_some waiting [] before mid after some bare u e f = absurd (omega arith)
run_some waiting (b ∷ bytes) before mid after some bare u e f = record {
  each = ((some, u, bare), tt);
  adds = λ more. ap (λ x. x ++ decoded None more) (f ∙ ap (λ x. x ++ b ∷ bytes) e) ∙ regroup before (unpaired waiting) (b ∷ bytes) (decoded None more);
  high = λ h. tt;
}
  where
    regroup : (a b c d : List ℕ) → ((a ++ b) ++ c) ++ d ≡ a ++ (b ++ (c ++ d))
    regroup a b c d = simp append_assoc

-- what was read of a text
pub record TextSoFar (bytes out : List ℕ) (waiting : Option ℕ) (left : List ℕ) : Type 0 where
  pub pieces : List Piece
  pub each : AllByRecursion IsPiece pieces
  pub whole : bytes ≡ flat_map piece_bytes pieces ++ left
  pub means : (more : List Piece) → decoded None (pieces ++ more) ≡ out ++ decoded waiting more
  pub high : IfSome waiting (λ h. is_high_surrogate h ≡ true)

pub text_start : (bytes : List ℕ) → TextSoFar bytes [] None bytes
text_start bytes = record { pieces = []; each = tt; whole = refl; means = λ more. refl; high = tt }

each_more : (ps qs : List Piece) → AllByRecursion IsPiece ps → AllByRecursion IsPiece qs → AllByRecursion IsPiece (ps ++ qs)
each_more [] qs h k = k
each_more (p ∷ ps) qs h k = (h.0, each_more ps qs h.1 k)

bytes_more : (ps qs : List Piece) (left : List ℕ) → flat_map piece_bytes ps ++ (flat_map piece_bytes qs ++ left) ≡ flat_map piece_bytes (ps ++ qs) ++ left
bytes_more [] qs left = refl
bytes_more (p ∷ ps) qs left =
    append_assoc (piece_bytes p) (flat_map piece_bytes ps) (flat_map piece_bytes qs ++ left)
    ∙ ap (λ x. piece_bytes p ++ x) (bytes_more ps qs left)
    ∙ sym (append_assoc (piece_bytes p) (flat_map piece_bytes (ps ++ qs)) left)

run_bytes : (bytes : List ℕ) → flat_map piece_bytes (run_pieces bytes) ≡ bytes
run_bytes [] = refl
run_bytes (b ∷ bytes) = append-nil (b ∷ bytes)

pub text_run : (bytes out : List ℕ) (waiting : Option ℕ) (left bare behind : List ℕ) (w : Option ℕ) (after : List ℕ) → TextSoFar bytes out waiting left → left ≡ bare ++ behind → AddsRun waiting bare out w after → TextSoFar bytes after w behind
text_run bytes out waiting left bare behind w after s cut adds = record {
  pieces = s.pieces ++ run_pieces bare;
  each = each_more s.pieces (run_pieces bare) s.each adds.each;
  whole = s.whole ∙ ap (λ x. flat_map piece_bytes s.pieces ++ x) (cut ∙ ap (λ x. x ++ behind) (sym (run_bytes bare))) ∙ bytes_more s.pieces (run_pieces bare) behind;
  means = λ more. ap (decoded None) (append_assoc s.pieces (run_pieces bare) more) ∙ s.means (run_pieces bare ++ more) ∙ sym (adds.adds more);
  high = adds.high s.high;
}

waits_high : (u : ℕ) (t : Bool) → is_high_surrogate u ≡ t → IfSome (cond t (Some u) None) (λ h. is_high_surrogate h ≡ true)
waits_high u true e = e
waits_high u false e = tt

pub text_escape : (bytes out : List ℕ) (waiting : Option ℕ) (left rest : List ℕ) (u : ℕ) (behind after : List ℕ) (w : Option ℕ) → TextSoFar bytes out waiting left → left ≡ 92 ∷ rest → FoundEscape rest u behind → after ≡ out ++ unit_text waiting u → w ≡ waits u → TextSoFar bytes after w behind
text_escape bytes out waiting left rest u behind after w s first f e v = record {
  pieces = s.pieces ++ f.piece ∷ [];
  each = each_more s.pieces (f.piece ∷ []) s.each (f.is, tt);
  whole = s.whole ∙ ap (λ x. flat_map piece_bytes s.pieces ++ x) (first ∙ f.whole ∙ ap (λ x. x ++ behind) (sym (append-nil (piece_bytes f.piece)))) ∙ bytes_more s.pieces (f.piece ∷ []) behind;
  means = λ more.
      ap (decoded None) (append_assoc s.pieces (f.piece ∷ []) more) ∙ s.means (f.piece ∷ more) ∙ ap (λ x. out ++ x) (f.means waiting more)
      ∙ sym (append_assoc out (unit_text waiting u) (decoded (waits u) more)) ∙ sym (ap (λ x. x ++ decoded (waits u) more) e) ∙ ap (λ x. after ++ decoded x more) (sym v);
  high = subst (λ x. IfSome x (λ h. is_high_surrogate h ≡ true)) (sym v) (waits_high u (is_high_surrogate u) refl);
}

pub text_goes : (bytes out : List ℕ) (waiting : Option ℕ) (left : List ℕ) → TextSoFar bytes out waiting left → (role : Role) (fs : List Frame) → stop_of 64 (in_text role (characters None)) fs bytes ≡ stop_of 64 (in_text role (characters None)) fs left
text_goes bytes out waiting left s role fs = ap (stop_of 64 (in_text role (characters None)) fs) s.whole ∙ stop_pieces 64 role fs s.pieces left s.each

pub text_closes : (bytes out : List ℕ) (waiting : Option ℕ) (left rest after : List ℕ) → TextSoFar bytes out waiting left → left ≡ 34 ∷ rest → after ≡ out ++ unpaired waiting → FoundText bytes after rest
text_closes bytes out waiting left rest after s first e = record {
  pieces = s.pieces;
  each = s.each;
  whole = s.whole ∙ ap (λ x. flat_map piece_bytes s.pieces ++ x) first;
  means = e ∙ sym (s.means []) ∙ ap (decoded None) (append-nil s.pieces);
  goes = λ role fs. text_goes bytes out waiting left s role fs ∙ ap (stop_of 64 (in_text role (characters None)) fs) first ∙ stop_step 64 (in_text role (characters None)) fs 34 rest (moves (behind_text role) fs) (closing_step 64 role fs);
}

pub backslash_goes : (left rest : List ℕ) (role : Role) (fs : List Frame) → left ≡ 92 ∷ rest → stop_of 64 (in_text role (characters None)) fs left ≡ stop_of 64 (in_text role escaped) fs rest
backslash_goes left rest role fs first = ap (stop_of 64 (in_text role (characters None)) fs) first ∙ stop_step 64 (in_text role (characters None)) fs 92 rest (moves (in_text role escaped) fs) (backslash_step 64 role fs)

-- a byte that was compared
pub at_byte : (bytes : List ℕ) (b c : ℕ) (rest : List ℕ) → bytes ≡ b ∷ rest → b ≡ c → bytes ≡ c ∷ rest
at_byte bytes b c rest first e = first ∙ ap (λ x. x ∷ rest) e

control_at : (b : ℕ) → is_bare b ≡ false → (b ≡ 34 → ⊥) → (b ≡ 92 → ⊥) → (ltb b 32 ≡ true) × (leb 128 b ≡ false)
control_at b h q s = (grind (arith, nat_tests), grind (arith, nat_tests))

pub control_stops : (role : Role) (fs : List Frame) (bytes : List ℕ) (b : ℕ) (rest : List ℕ) → bytes ≡ b ∷ rest → Stops is_bare bytes → (b ≡ 34 → ⊥) → (b ≡ 92 → ⊥) → stop_of 64 (in_text role (characters None)) fs bytes ≡ Some (Syntax (length bytes))
control_stops role fs bytes b rest first stops q s =
    let bare : is_bare b ≡ false = subst (Stops is_bare) first stops in
    let k = control_at b bare q s in
    control_refused role fs bytes b rest first (ne_eqb b 34 q) (ne_eqb b 92 s) k.0 k.1
