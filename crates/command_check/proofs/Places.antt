-- The first line that fails is one line, whatever lines are read before it.
use Rattle.std.proofs.Common.{◌≡◌, ℕ, suc, ◌+◌, List, [], ◌∷◌, ◌++◌, length, refl, sym, ap, ◌∙◌, subst, append_assoc}
use Rattle.std.specs.List.{flat_map}
use Rattle.formats.specs.Parts.{IsOneLine, ended}
use Rattle.formats.specs.Following.{FailsAt, IsCut, Leads, line_then, no_line}
use Rattle.formats.proofs.Following.{IsEnd, IsGrammar, first_ended, no_end_in, one_cut}

-- two places in a document are one
pub record SamePlace {T : Type 0} (u v : T) (a b : List ℕ) (ls ms : List (List ℕ)) : Type 0 where
  pub count : length ls ≡ length ms
  pub told : u ≡ v
  pub line : a ≡ b

module _ {T : Type 0} (Follows : T → List ℕ → T → Type 0) (g : IsGrammar Follows) where
  -- two lines that don't follow, each behind lines that do
  same_place : (t u v : T) (ls ms : List (List ℕ)) (a b x y : List ℕ) → Leads Follows t ls u → Leads Follows t ms v → IsOneLine a → IsOneLine b → ((next : T) → Follows u a next → ⊥) → ((next : T) → Follows v b next → ⊥)
      → flat_map ended ls ++ (ended a ++ x) ≡ flat_map ended ms ++ (ended b ++ y) → SamePlace u v a b ls ms
  same_place t u v [] [] a b x y (no_line t0) (no_line t1) one_a one_b not_a not_b e =
      record { count = refl; told = refl; line = (one_cut a b x y one_a one_b (sym (append_assoc a (10 ∷ []) x) ∙ e ∙ append_assoc b (10 ∷ []) y)).0 }
  same_place t u v [] (m ∷ ms) a b x y (no_line t0) (line_then t1 n v1 m1 ms1 f q) one_a one_b not_a not_b e =
      let cut = one_cut a m x (flat_map ended ms ++ (ended b ++ y)) one_a (g.one_line t n m f) (sym (append_assoc a (10 ∷ []) x) ∙ e ∙ first_ended m ms (ended b ++ y)) in
      absurd (not_a n (subst (λ (w : List ℕ). Follows t w n) (sym cut.0) f))
  same_place t u v (l ∷ ls) [] a b x y (line_then t0 n u0 l0 ls0 f p) (no_line t1) one_a one_b not_a not_b e =
      let cut = one_cut l b (flat_map ended ls ++ (ended a ++ x)) y (g.one_line t n l f) one_b (sym (first_ended l ls (ended a ++ x)) ∙ e ∙ append_assoc b (10 ∷ []) y) in
      absurd (not_b n (subst (λ (w : List ℕ). Follows t w n) cut.0 f))
  same_place t u v (l ∷ ls) (m ∷ ms) a b x y (line_then t0 n u0 l0 ls0 f p) (line_then t1 k v1 m1 ms1 h q) one_a one_b not_a not_b e =
      let cut = one_cut l m (flat_map ended ls ++ (ended a ++ x)) (flat_map ended ms ++ (ended b ++ y)) (g.one_line t n l f) (g.one_line t k m h) (sym (first_ended l ls (ended a ++ x)) ∙ e ∙ first_ended m ms (ended b ++ y)) in
      let here : Follows t l k = subst (λ (w : List ℕ). Follows t w k) (sym cut.0) h in
      let next : n ≡ k = g.same t n k l f here in
      let later = subst (λ (w : T). Leads Follows w ms v) (sym next) q in
      let same = same_place n u v ls ms a b x y p later one_a one_b not_a not_b cut.1 in
      record { count = ap suc same.count; told = same.told; line = same.line }

  -- a line that doesn't follow, and lines that follow up to a last piece
  not_cut : (t u v : T) (ls ms : List (List ℕ)) (a x piece : List ℕ) → Leads Follows t ls u → Leads Follows t ms v → IsOneLine a → IsOneLine piece → ((next : T) → Follows u a next → ⊥)
      → flat_map ended ls ++ (ended a ++ x) ≡ flat_map ended ms ++ piece → ⊥
  not_cut t u v [] [] a x piece (no_line t0) (no_line t1) one_a one_p not_a e = no_end_in piece a x one_p (sym e ∙ append_assoc a (10 ∷ []) x)
  not_cut t u v [] (m ∷ ms) a x piece (no_line t0) (line_then t1 n v1 m1 ms1 f q) one_a one_p not_a e =
      let cut = one_cut a m x (flat_map ended ms ++ piece) one_a (g.one_line t n m f) (sym (append_assoc a (10 ∷ []) x) ∙ e ∙ first_ended m ms piece) in
      not_a n (subst (λ (w : List ℕ). Follows t w n) (sym cut.0) f)
  not_cut t u v (l ∷ ls) [] a x piece (line_then t0 n u0 l0 ls0 f p) (no_line t1) one_a one_p not_a e = no_end_in piece l (flat_map ended ls ++ (ended a ++ x)) one_p (sym e ∙ first_ended l ls (ended a ++ x))
  not_cut t u v (l ∷ ls) (m ∷ ms) a x piece (line_then t0 n u0 l0 ls0 f p) (line_then t1 k v1 m1 ms1 h q) one_a one_p not_a e =
      let cut = one_cut l m (flat_map ended ls ++ (ended a ++ x)) (flat_map ended ms ++ piece) (g.one_line t n l f) (g.one_line t k m h) (sym (first_ended l ls (ended a ++ x)) ∙ e ∙ first_ended m ms piece) in
      let here : Follows t l k = subst (λ (w : List ℕ). Follows t w k) (sym cut.0) h in
      let next : n ≡ k = g.same t n k l f here in
      not_cut n u v ls ms a x piece p (subst (λ (w : T). Leads Follows w ms v) (sym next) q) one_a one_p not_a cut.1

  module _ (start : T) (IsWhole : T → Type 0) (A B : T → List ℕ → Type 0) (not_a : (told next : T) (line : List ℕ) → A told line → Follows told line next → ⊥) (not_b : (told next : T) (line : List ℕ) → B told line → Follows told line next → ⊥) where
    pub met : (bytes : List ℕ) (n m : ℕ) (f : FailsAt Follows start IsWhole A bytes n) (h : FailsAt Follows start IsWhole B bytes m) → SamePlace f.told h.told f.line h.line f.lines h.lines
    met bytes n m f h =
        same_place start f.told h.told f.lines h.lines f.line h.line f.rest h.rest f.before h.before f.one_line h.one_line (λ next. not_a f.told next f.line f.fails) (λ next. not_b h.told next h.line h.fails) (sym f.document ∙ h.document)

    pub one_number : (bytes : List ℕ) (n m : ℕ) → FailsAt Follows start IsWhole A bytes n → FailsAt Follows start IsWhole B bytes m → n ≡ m
    one_number bytes n m f h = f.number ∙ ap (λ (k : ℕ). k + 1) (met bytes n m f h).count ∙ sym h.number

    -- what fails there fails in both ways
    pub both_fail : (bytes : List ℕ) (n m : ℕ) → FailsAt Follows start IsWhole A bytes n → FailsAt Follows start IsWhole B bytes m → (told : T) × (line : List ℕ) × A told line × B told line
    both_fail bytes n m f h =
        let same = met bytes n m f h in
        (f.told, f.line, f.fails, subst (λ (w : List ℕ). B f.told w) (sym same.line) (subst (λ (t : T). B t h.line) (sym same.told) h.fails))

    pub never_cut : (bytes : List ℕ) (n : ℕ) → FailsAt Follows start IsWhole A bytes n → IsCut Follows start IsWhole bytes → ⊥
    never_cut bytes n f h = not_cut start f.told h.told f.lines h.lines f.line f.rest h.piece f.before h.before f.one_line h.no_newline (λ next. not_a f.told next f.line f.fails) (sym f.document ∙ h.document)

-- two whole documents at the front of the same bytes have as many lines
pub same_whole : {T : Type 0} (Follows : T → List ℕ → T → Type 0) (IsWhole : T → Type 0) → IsEnd Follows IsWhole → (t u v : T) (ls ms : List (List ℕ)) (x y : List ℕ) → IsWhole u → IsWhole v → Leads Follows t ls u → Leads Follows t ms v
    → flat_map ended ls ++ x ≡ flat_map ended ms ++ y → length ls ≡ length ms
same_whole Follows IsWhole end t u v [] [] x y wu wv (no_line t0) (no_line t1) e = refl
same_whole Follows IsWhole end t u v [] (m ∷ ms) x y wu wv (no_line t0) (line_then t1 n v1 m1 ms1 f q) e = absurd (end.last t n m wu f)
same_whole Follows IsWhole end t u v (l ∷ ls) [] x y wu wv (line_then t0 n u0 l0 ls0 f p) (no_line t1) e = absurd (end.last t n l wv f)
same_whole Follows IsWhole end t u v (l ∷ ls) (m ∷ ms) x y wu wv (line_then t0 n u0 l0 ls0 f p) (line_then t1 k v1 m1 ms1 h q) e =
    let cut = one_cut l m (flat_map ended ls ++ x) (flat_map ended ms ++ y) (end.grammar.one_line t n l f) (end.grammar.one_line t k m h) (sym (first_ended l ls x) ∙ e ∙ first_ended m ms y) in
    let here = subst (λ (w : List ℕ). Follows t w k) (sym cut.0) h in
    let next = end.grammar.same t n k l f here in
    ap suc (same_whole Follows IsWhole end n u v ls ms x y wu wv p (subst (λ (w : _). Leads Follows w ms v) (sym next) q) cut.1)
