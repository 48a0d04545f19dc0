-- Each combinator of exact formats is exact.
use Rattle.std.proofs.Common.{◌≡◌, ◌≢◌, ℕ, Bool, true, false, cond, eqb, List, [], ◌∷◌, ◌++◌, Option, Some, None, ◌⊎◌, inl, inr, refl, sym, ap, ◌∙◌, subst, append_assoc, append-nil}
use Rattle.std.proofs.lemmas.Bool.{eqb-true, eq-eqb}
use Rattle.std.proofs.lemmas.Option.{none-some, same_Some}
use Rattle.formats.specs.Parts.{◌>>=◌, behind_word, behind_byte, none_left}
use Rattle.formats.proofs.PartLaws.{bind_some, tested_some, word_takes, word_again, byte_takes, byte_again, none_left_is}
use Rattle.formats.specs.Formats.{Format, IsExact, behind, ended_by, nothing, ◌⊗◌, made, such, on_left, on_right, kind_reads, kind, last_kind, word_reads, worded, whole_reads, IsFree, Adds}

-- what a format takes from the front
pub record Took {X : Type 0} (f : Format X) (bytes : List ℕ) (x : X) (rest : List ℕ) : Type 0 where
  pub parts : bytes ≡ f.write x ++ rest
  pub fits : f.Fits x

took_pair : {X : Type 0} (f : Format X) (bytes : List ℕ) (x : X) (rest : List ℕ) → Took f bytes x rest → (bytes ≡ f.write x ++ rest) × f.Fits x
took_pair f bytes x rest t = (t.parts, t.fits)

abbrev found : {X : Type 0} → X → List ℕ → Option (X × List ℕ)
found x rest = Some (x, rest)

-- what was made of a part that was taken is what was read
moved : {X : Type 0} (f : Format X) (bytes : List ℕ) (x y : X) (r rest : List ℕ) → found x r ≡ found y rest → Took f bytes x r → (bytes ≡ f.write y ++ rest) × f.Fits y
moved {X} f bytes x y r rest e t =
    let first : X × List ℕ = (x, r) in
    let second : X × List ℕ = (y, rest) in
    took_pair f bytes y rest (subst (λ (p : X × List ℕ). Took f bytes p.0 p.1) (same_Some first second e) t)

-- after a word
module _ {X : Type 0} (word : List ℕ) (f : Format X) where
  pub behind-exact : IsExact f → IsExact (behind word f)
  behind-exact ef = record {
    takes = λ bytes x rest e.
        let a = bind_some (behind_word word bytes) f.reads (x, rest) e in
        let t = ef.takes a.0 x rest a.2 in
        (word_takes word bytes a.0 a.1 ∙ ap (λ (l : List ℕ). word ++ l) t.0 ∙ sym (append_assoc word (f.write x) rest), t.1);
    again = λ x rest fits ends.
        ap (λ (l : List ℕ). behind_word word l >>= f.reads) (append_assoc word (f.write x) rest)
        ∙ ap (λ (o : Option (List ℕ)). o >>= f.reads) (word_again word (f.write x ++ rest)) ∙ ef.again x rest fits ends;
  }

-- a byte after a part
module _ {X : Type 0} (b : ℕ) (f : Format X) where
  pub ended_by-exact : IsExact f → ((rest : List ℕ) → f.Ends (b ∷ rest)) → IsExact (ended_by b f)
  ended_by-exact ef ends_there = record {
    takes = λ bytes x rest e.
        let a = bind_some (f.reads bytes) (λ x. behind_byte b x.1 >>= λ r. Some (x.0, r)) (x, rest) e in
        let c = bind_some (behind_byte b a.0.1) (λ r. Some (a.0.0, r)) (x, rest) a.2 in
        let t = ef.takes bytes a.0.0 a.0.1 a.1 in
        moved (ended_by b f) bytes a.0.0 x c.0 rest c.2 (record {
          parts = t.0 ∙ ap (λ (l : List ℕ). f.write a.0.0 ++ l) (byte_takes b a.0.1 c.0 c.1) ∙ sym (append_assoc (f.write a.0.0) (b ∷ []) c.0);
          fits = t.1;
        });
    again = λ x rest fits ends.
        ap (ended_by b f).reads (append_assoc (f.write x) (b ∷ []) rest) ∙ rw (ef.again x (b ∷ rest) fits (ends_there rest), byte_again b rest) refl;
  }

same_nothing : (x y : Unit {0}) → x ≡ y
same_nothing x y = refl

pub nothing-exact : IsExact nothing
nothing-exact = record {
  takes = λ bytes x rest e. (ap (λ (p : Unit {0} × List ℕ). p.1) (same_Some (tt, bytes) (x, rest) e), tt);
  again = λ x rest fits ends. ap (λ (y : Unit {0}). Some (y, rest)) (same_nothing tt x);
}

-- two parts; what the second writes may come after the first
abbrev pub Meets : {X Y : Type 0} → Format X → Format Y → Type 0
Meets f g = (y : _) (rest : List ℕ) → g.Fits y → g.Ends rest → f.Ends (g.write y ++ rest)

module _ {X Y : Type 0} (f : Format X) (g : Format Y) where
  pub pair-exact : IsExact f → IsExact g → Meets f g → IsExact (f ⊗ g)
  pair-exact ef eg meets = record {
    takes = λ bytes p rest e.
        let a = bind_some (f.reads bytes) (λ x. g.reads x.1 >>= λ y. Some ((x.0, y.0), y.1)) (p, rest) e in
        let b = bind_some (g.reads a.0.1) (λ y. Some ((a.0.0, y.0), y.1)) (p, rest) a.2 in
        let t = ef.takes bytes a.0.0 a.0.1 a.1 in
        let u = eg.takes a.0.1 b.0.0 b.0.1 b.1 in
        moved (f ⊗ g) bytes (a.0.0, b.0.0) p b.0.1 rest b.2 (record {
          parts = t.0 ∙ ap (λ (l : List ℕ). f.write a.0.0 ++ l) u.0 ∙ sym (append_assoc (f.write a.0.0) (g.write b.0.0) b.0.1);
          fits = (t.1, u.1);
        });
    again = λ p rest fits ends.
        ap ((f ⊗ g).reads) (append_assoc (f.write p.0) (g.write p.1) rest)
        ∙ rw (ef.again p.0 (g.write p.1 ++ rest) fits.0 (meets p.1 rest fits.1 ends), eg.again p.1 rest fits.1 ends) refl;
  }

-- where anything may come after the first
pub free_then : {X Y : Type 0} {f : Format X} {g : Format Y} → IsExact f → IsFree f → IsExact g → IsExact (f ⊗ g)
free_then {X} {Y} {f} {g} ef free eg = pair-exact f g ef eg (λ y rest fits ends. free (g.write y ++ rest))

-- ---- what was put after what was there

pub adds_both : {X Y : Type 0} {f : Format X} {g : Format Y} {a b c : List ℕ} {x : X} {y : Y} → Adds f a b x → Adds g b c y → Adds (f ⊗ g) a c (x, y)
adds_both {X} {Y} {f} {g} {a} {b} {c} {x} {y} p q = record {
  added = q.added ∙ ap (λ (l : List ℕ). l ++ g.write y) p.added ∙ append_assoc a (f.write x) (g.write y);
  fits = (p.fits, q.fits);
}

pub adds_made : {X Y : Type 0} (make : X → Y) (parts : Y → X) {f : Format X} {a b : List ℕ} (y : Y) → Adds f a b (parts y) → Adds (made make parts f) a b y
adds_made make parts y p = record { added = p.added; fits = p.fits }

-- ---- what is made of a part
module _ {X Y : Type 0} (make : X → Y) (parts : Y → X) (f : Format X) where
  pub made-exact : IsExact f → ((x : X) → parts (make x) ≡ x) → ((y : Y) → make (parts y) ≡ y) → IsExact (made make parts f)
  made-exact ef there back = record {
    takes = λ bytes y rest e.
        let a = bind_some (f.reads bytes) (λ x. Some (make x.0, x.1)) (y, rest) e in
        let t = ef.takes bytes a.0.0 a.0.1 a.1 in
        moved (made make parts f) bytes (make a.0.0) y a.0.1 rest a.2 (record {
          parts = t.0 ∙ ap (λ (x : X). f.write x ++ a.0.1) (sym (there a.0.0));
          fits = subst f.Fits (sym (there a.0.0)) t.1;
        });
    again = λ y rest fits ends.
        ap (λ (o : Option (X × List ℕ)). o >>= λ x. Some (make x.0, x.1)) (ef.again (parts y) rest fits ends) ∙ ap (λ (z : Y). Some (z, rest)) (back y);
  }

-- a test that shows a fact
pub record Tells {X : Type 0} (P : X → Type 0) (test : X → Bool) : Type 0 where
  pub if_true : (x : X) → test x ≡ true → P x
  pub if_holds : (x : X) → P x → test x ≡ true

module _ {X : Type 0} (P : X → Type 0) (test : X → Bool) (f : Format X) where
  pub such-exact : IsExact f → Tells P test → IsExact (such P test f)
  such-exact ef tells = record {
    takes = λ bytes x rest e.
        let a = bind_some (f.reads bytes) (λ x. cond (test x.0) (Some x) None) (x, rest) e in
        let b = tested_some (test a.0.0) (Some a.0) (x, rest) a.2 in
        let t = ef.takes bytes a.0.0 a.0.1 a.1 in
        moved (such P test f) bytes a.0.0 x a.0.1 rest b.1 (record { parts = t.0; fits = (t.1, tells.if_true a.0.0 b.0) });
    again = λ x rest fits ends. rw (ef.again x rest fits.0 ends, tells.if_holds x fits.1) refl;
  }

-- ---- choices

left_some : {X Y : Type 0} (o : Option (X × List ℕ)) (z : X ⊎ Y) (rest : List ℕ) → on_left o ≡ Some (z, rest) → (x : X) × (o ≡ Some (x, rest)) × (z ≡ inl x)
left_some None z rest e = absurd (none-some (z, rest) e)
left_some (Some p) z rest e =
    let same = same_Some (inl p.0, p.1) (z, rest) e in
    (p.0, ap (λ (r : List ℕ). Some (p.0, r)) (ap (λ (q : _ × List ℕ). q.1) same), sym (ap (λ (q : _ × List ℕ). q.0) same))

right_some : {X Y : Type 0} (o : Option (Y × List ℕ)) (z : X ⊎ Y) (rest : List ℕ) → on_right o ≡ Some (z, rest) → (y : Y) × (o ≡ Some (y, rest)) × (z ≡ inr y)
right_some None z rest e = absurd (none-some (z, rest) e)
right_some (Some p) z rest e =
    let same = same_Some (inr p.0, p.1) (z, rest) e in
    (p.0, ap (λ (r : List ℕ). Some (p.0, r)) (ap (λ (q : _ × List ℕ). q.1) same), sym (ap (λ (q : _ × List ℕ). q.0) same))

-- what doesn't begin with a byte
abbrev pub IsOther : ℕ → List ℕ → Type 0
IsOther tag [] = Unit {0}
IsOther tag (b ∷ bytes) = b ≢ tag

-- a spelling begins with a kind's byte, which isn't this one
abbrev pub IsKind : {X : Type 0} → ℕ → Format X → Type 0
IsKind tag g = (y : _) → g.Fits y → (b : ℕ) × (bytes : List ℕ) × (g.write y ≡ b ∷ bytes) × (eqb b tag ≡ false)

module _ {X Y : Type 0} (tag : ℕ) (f : Format X) (g : Format Y) where
  same_tag : (b : ℕ) (bytes rest : List ℕ) (z : X ⊎ Y) (t : Bool) → IsExact f → IsExact g → eqb b tag ≡ t → cond t (on_left (f.reads bytes)) (on_right (g.reads (b ∷ bytes))) ≡ Some (z, rest)
      → (b ∷ bytes ≡ (kind tag f g).write z ++ rest) × (kind tag f g).Fits z
  same_tag b bytes rest z true ef eg is e =
      let a = left_some {Y = Y} (f.reads bytes) z rest e in
      let t = ef.takes bytes a.0 rest a.1 in
      let b_is : b ≡ tag = eqb-true b tag is in
      subst (λ (w : X ⊎ Y). (b ∷ bytes ≡ (kind tag f g).write w ++ rest) × (kind tag f g).Fits w) (sym a.2) (ap (λ (l : List ℕ). b ∷ l) t.0 ∙ ap (λ (c : ℕ). c ∷ (f.write a.0 ++ rest)) b_is, t.1)
  same_tag b bytes rest z false ef eg is e =
      let a = right_some {X = X} (g.reads (b ∷ bytes)) z rest e in
      let t = eg.takes (b ∷ bytes) a.0 rest a.1 in
      subst (λ (w : X ⊎ Y). (b ∷ bytes ≡ (kind tag f g).write w ++ rest) × (kind tag f g).Fits w) (sym a.2) t

  kind_takes : IsExact f → IsExact g → (bytes : List ℕ) (z : X ⊎ Y) (rest : List ℕ) → (kind tag f g).reads bytes ≡ Some (z, rest) → (bytes ≡ (kind tag f g).write z ++ rest) × (kind tag f g).Fits z
  kind_takes ef eg [] z rest e = absurd (none-some (z, rest) e)
  kind_takes ef eg (b ∷ bytes) z rest e = same_tag b bytes rest z (eqb b tag) ef eg refl e

  kind_again : IsExact f → IsExact g → IsKind tag g → (z : X ⊎ Y) (rest : List ℕ) → (kind tag f g).Fits z → f.Ends rest × g.Ends rest → (kind tag f g).reads ((kind tag f g).write z ++ rest) ≡ Some (z, rest)
  kind_again ef eg other (inl x) rest fits ends = rw (eq-eqb tag tag refl, ef.again x rest fits ends.0) refl
  kind_again ef eg other (inr y) rest fits ends =
      let o = other y fits in
      let again : g.reads (o.0 ∷ (o.1 ++ rest)) ≡ Some (y, rest) = ap (λ (l : List ℕ). g.reads (l ++ rest)) (sym o.2) ∙ eg.again y rest fits ends.1 in
      ap (λ (l : List ℕ). kind_reads tag f.reads g.reads (l ++ rest)) o.2
      ∙ rw (o.3, again) refl

  pub kind-exact : IsExact f → IsExact g → IsKind tag g → IsExact (kind tag f g)
  kind-exact ef eg other = record { takes = kind_takes ef eg; again = kind_again ef eg other }

  -- the kinds of a choice are others than a byte
  pub kind-others : (other : ℕ) → eqb tag other ≡ false → IsKind other g → IsKind other (kind tag f g)
  kind-others other ne rest (inl x) fits = (tag, f.write x, refl, ne)
  kind-others other ne rest (inr y) fits = rest y fits

module _ {X : Type 0} (tag : ℕ) (f : Format X) where
  last_takes : IsExact f → (bytes : List ℕ) (x : X) (rest : List ℕ) → (last_kind tag f).reads bytes ≡ Some (x, rest) → (bytes ≡ tag ∷ (f.write x ++ rest)) × f.Fits x
  last_takes ef [] x rest e = absurd (none-some (x, rest) e)
  last_takes ef (b ∷ bytes) x rest e =
      let a = tested_some (eqb b tag) (f.reads bytes) (x, rest) e in
      let t = ef.takes bytes x rest a.1 in
      (ap (λ (l : List ℕ). b ∷ l) t.0 ∙ ap (λ (c : ℕ). c ∷ (f.write x ++ rest)) (eqb-true b tag a.0), t.1)

  pub last_kind-exact : IsExact f → IsExact (last_kind tag f)
  last_kind-exact ef = record { takes = last_takes ef; again = λ x rest fits ends. rw (eq-eqb tag tag refl, ef.again x rest fits ends) refl }

  pub last_kind-others : (other : ℕ) → eqb tag other ≡ false → IsKind other (last_kind tag f)
  last_kind-others other ne x fits = (tag, f.write x, refl, ne)

-- spellings that don't begin with a word, whatever comes after them
abbrev pub HasNoWord : {X : Type 0} → List ℕ → Format X → Type 0
HasNoWord word g = (y : _) (rest : List ℕ) → g.Fits y → behind_word word (g.write y ++ rest) ≡ None

module _ {X Y : Type 0} (word : List ℕ) (f : Format X) (g : Format Y) where
  word_cases : (o : Option (List ℕ)) (bytes : List ℕ) (z : X ⊎ Y) (rest : List ℕ) → IsExact f → IsExact g → behind_word word bytes ≡ o → word_reads o f.reads (g.reads bytes) ≡ Some (z, rest)
      → (bytes ≡ (worded word f g).write z ++ rest) × (worded word f g).Fits z
  word_cases (Some behind) bytes z rest ef eg is e =
      let a = left_some {Y = Y} (f.reads behind) z rest e in
      let t = ef.takes behind a.0 rest a.1 in
      subst (λ (w : X ⊎ Y). (bytes ≡ (worded word f g).write w ++ rest) × (worded word f g).Fits w) (sym a.2)
      (word_takes word bytes behind is ∙ ap (λ (l : List ℕ). word ++ l) t.0 ∙ sym (append_assoc word (f.write a.0) rest), t.1)
  word_cases None bytes z rest ef eg is e =
      let a = right_some {X = X} (g.reads bytes) z rest e in
      subst (λ (w : X ⊎ Y). (bytes ≡ (worded word f g).write w ++ rest) × (worded word f g).Fits w) (sym a.2) (eg.takes bytes a.0 rest a.1)

  worded_again : IsExact f → IsExact g → HasNoWord word g → (z : X ⊎ Y) (rest : List ℕ) → (worded word f g).Fits z → f.Ends rest × g.Ends rest → (worded word f g).reads ((worded word f g).write z ++ rest) ≡ Some (z, rest)
  worded_again ef eg none (inl x) rest fits ends =
      let whole : (word ++ f.write x) ++ rest ≡ word ++ (f.write x ++ rest) = append_assoc word (f.write x) rest in
      ap (worded word f g).reads whole ∙ ap (λ (o : Option (List ℕ)). word_reads o f.reads (g.reads (word ++ (f.write x ++ rest)))) (word_again word (f.write x ++ rest)) ∙ ap (λ (o : Option (X × List ℕ)). on_left o) (ef.again x rest fits ends.0)
  worded_again ef eg none (inr y) rest fits ends =
      ap (λ (o : Option (List ℕ)). word_reads o f.reads (g.reads (g.write y ++ rest))) (none y rest fits) ∙ ap (λ (o : Option (Y × List ℕ)). on_right o) (eg.again y rest fits ends.1)

  pub worded-exact : IsExact f → IsExact g → HasNoWord word g → IsExact (worded word f g)
  worded-exact ef eg none = record { takes = λ bytes z rest e. word_cases (behind_word word bytes) bytes z rest ef eg refl e; again = worded_again ef eg none }

  pub worded-no_word : (other : List ℕ) → ((l : List ℕ) → behind_word other (word ++ l) ≡ None) → HasNoWord other g → HasNoWord other (worded word f g)
  worded-no_word other ne none (inl x) rest fits = ap (behind_word other) (append_assoc word (f.write x) rest) ∙ ne (f.write x ++ rest)
  worded-no_word other ne none (inr y) rest fits = none y rest fits

pub behind-no_word : {X : Type 0} (word other : List ℕ) (f : Format X) → ((l : List ℕ) → behind_word other (word ++ l) ≡ None) → HasNoWord other (behind word f)
behind-no_word word other f ne x rest fits = ap (behind_word other) (append_assoc word (f.write x) rest) ∙ ne (f.write x ++ rest)

-- ---- whole runs

module _ {X : Type 0} (f : Format X) where
  pub whole_takes : IsExact f → (bytes : List ℕ) (x : X) → whole_reads f bytes ≡ Some x → (bytes ≡ f.write x) × f.Fits x
  whole_takes ef bytes x e =
      let a = bind_some (f.reads bytes) (λ y. none_left y.1 >>= λ u. Some y.0) x e in
      let b = bind_some (none_left a.0.1) (λ u. Some a.0.0) x a.2 in
      let none = none_left_is a.0.1 b.0 b.1 in
      let is : a.0.0 ≡ x = same_Some a.0.0 x b.2 in
      let t = ef.takes bytes a.0.0 a.0.1 a.1 in
      (t.0 ∙ ap (λ (l : List ℕ). f.write a.0.0 ++ l) none ∙ append-nil (f.write a.0.0) ∙ ap f.write is, subst f.Fits is t.1)

  pub whole_again : IsExact f → f.Ends [] → (x : X) → f.Fits x → whole_reads f (f.write x) ≡ Some x
  whole_again ef ends x fits =
      ap (whole_reads f) (sym (append-nil (f.write x))) ∙ ap (λ (o : Option (X × List ℕ)). o >>= λ y. none_left y.1 >>= λ u. Some y.0) (ef.again x [] fits ends)
