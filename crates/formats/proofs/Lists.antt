-- Bytes and parts after their number.
use Rattle.std.proofs.Common.{◌≡◌, ℕ, zero, suc, ◌≤◌, Bool, true, false, cond, ltb, List, [], ◌∷◌, ◌++◌, length, get_or, take, drop, Option, Some, None, All, refl, sym, ap, ◌∙◌, subst, append_assoc, append-nil, arith, ◌<◌, ◌-◌, ◌+◌}
use Rattle.std.specs.List.{flat_map}
use Rattle.std.proofs.lemmas.Bool.{ltb-false, le-ltb}
use Rattle.std.proofs.lemmas.Option.{none-some, same_Some}
use Rattle.std.proofs.lemmas.List.{take_at, drop_at, take-append-drop, length-append, length-take, take_more, take_all}
use Rattle.std.proofs.lemmas.List.Concat.{flat_map-cons, flat_map-append}
use Rattle.std.proofs.lemmas.List.Elements.{All-head, All-tail, All-cons, All-nil, All-append}
use Rattle.formats.specs.Parts.{◌>>=◌}
use Rattle.formats.proofs.PartLaws.{bind_some}
use Rattle.formats.specs.Formats.{Format, IsExact, IsFree, bytes_reads, bytes_of, sized, many_reads, counted, Adds, Reads}

-- a test that passed
pub guard_some : {A : Type 0} (b : Bool) (x y : A) → cond b None (Some x) ≡ Some y → (b ≡ false) × (x ≡ y)
guard_some true x y e = absurd (none-some y e)
guard_some false x y e = (refl, same_Some x y e)

pub bytes-exact : (n : ℕ) → IsExact (bytes_of n)
bytes-exact n = record { takes = bytes_take; again = bytes_again }
  where
    bytes_take : (bytes x rest : List ℕ) → bytes_reads n bytes ≡ Some (x, rest) → (bytes ≡ x ++ rest) × (length x ≡ n)
    bytes_take bytes x rest e =
        let g = guard_some (ltb (length bytes) n) (take n bytes, drop n bytes) (x, rest) e in
        let long : n ≤ length bytes = ltb-false _ _ g.0 in
        subst (λ (y : List ℕ × List ℕ). (bytes ≡ y.0 ++ y.1) × (length y.0 ≡ n)) g.1 (sym (take-append-drop n bytes), omega (arith, long, length-take n bytes))

    bytes_again : (x rest : List ℕ) → length x ≡ n → Unit {0} → bytes_reads n (x ++ rest) ≡ Some (x, rest)
    bytes_again x rest len ends =
        let long : ltb (length (x ++ rest)) n ≡ false = le-ltb _ _ (omega (arith, len, length-append x rest)) in
        rw (long, take_at x rest n len, drop_at x rest n len) refl

module _ (count : Format ℕ) where
  pub sized-exact : IsExact count → IsFree count → IsExact (sized count)
  sized-exact ec free = record {
    takes = λ bytes x rest e.
        let a = bind_some (count.reads bytes) (λ n. bytes_reads n.0 n.1) (x, rest) e in
        let t = ec.takes bytes a.0.0 a.0.1 a.1 in
        let u = (bytes-exact a.0.0).takes a.0.1 x rest a.2 in
        (t.0 ∙ ap (λ (l : List ℕ). count.write a.0.0 ++ l) u.0 ∙ sym (append_assoc (count.write a.0.0) x rest) ∙ ap (λ (n : ℕ). (count.write n ++ x) ++ rest) (sym u.1), subst count.Fits (sym u.1) t.1);
    again = λ x rest fits ends.
        ap (λ (l : List ℕ). count.reads l >>= λ n. bytes_reads n.0 n.1) (append_assoc (count.write (length x)) x rest)
        ∙ ap (λ (o : Option (ℕ × List ℕ)). o >>= λ n. bytes_reads n.0 n.1) (ec.again (length x) (x ++ rest) fits (free (x ++ rest)))
        ∙ (bytes-exact (length x)).again x rest refl tt;
  }

module _ {X : Type 0} (part : Format X) where
  -- many parts that were taken
  record Many (n : ℕ) (bytes : List ℕ) (xs : List X) (rest : List ℕ) : Type 0 where
    parts : bytes ≡ flat_map part.write xs ++ rest
    number : length xs ≡ n
    fits : All part.Fits xs

  many_take : IsExact part → (n : ℕ) (bytes : List ℕ) (xs : List X) (rest : List ℕ) → many_reads part.reads n bytes ≡ Some (xs, rest) → Many n bytes xs rest
  unfolding many_reads
  many_take ep zero bytes xs rest e =
      let made : List X × List ℕ = ([], bytes) in
      subst (λ (y : List X × List ℕ). Many 0 bytes y.0 y.1) (same_Some made (xs, rest) e) (record { parts = refl; number = refl; fits = All-nil part.Fits })
  many_take ep (suc n) bytes xs rest e =
      let a = bind_some (part.reads bytes) (λ first. many_reads part.reads n first.1 >>= λ others. Some (first.0 ∷ others.0, others.1)) (xs, rest) e in
      let b = bind_some (many_reads part.reads n a.0.1) (λ others. Some (a.0.0 ∷ others.0, others.1)) (xs, rest) a.2 in
      let one = ep.takes bytes a.0.0 a.0.1 a.1 in
      let more = many_take ep n a.0.1 b.0.0 b.0.1 b.1 in
      let made : List X × List ℕ = (a.0.0 ∷ b.0.0, b.0.1) in
      subst (λ (y : List X × List ℕ). Many (suc n) bytes y.0 y.1) (same_Some made (xs, rest) b.2) (record {
        parts = one.0 ∙ ap (λ (l : List ℕ). part.write a.0.0 ++ l) more.parts ∙ sym (append_assoc (part.write a.0.0) (flat_map part.write b.0.0) b.0.1) ∙ ap (λ (l : List ℕ). l ++ b.0.1) (sym (flat_map-cons part.write a.0.0 b.0.0));
        number = ap suc more.number;
        fits = All-cons part.Fits a.0.0 b.0.0 one.1 more.fits;
      })

  many_again : IsExact part → IsFree part → (xs : List X) (rest : List ℕ) → All part.Fits xs → many_reads part.reads (length xs) (flat_map part.write xs ++ rest) ≡ Some (xs, rest)
  unfolding many_reads
  many_again ep free [] rest fits = refl
  many_again ep free (x ∷ xs) rest fits =
      let regrouped : flat_map part.write (x ∷ xs) ++ rest ≡ part.write x ++ (flat_map part.write xs ++ rest) = ap (λ (l : List ℕ). l ++ rest) (flat_map-cons part.write x xs) ∙ append_assoc (part.write x) (flat_map part.write xs) rest in
      ap (many_reads part.reads (suc (length xs))) regrouped
      ∙ rw (ep.again x (flat_map part.write xs ++ rest) (All-head part.Fits x xs fits) (free (flat_map part.write xs ++ rest)), many_again ep free xs rest (All-tail part.Fits x xs fits)) refl

  pub counted-exact : (count : Format ℕ) → IsExact count → IsFree count → IsExact part → IsFree part → IsExact (counted count part)
  counted-exact count ec cfree ep pfree = record {
    takes = λ bytes xs rest e.
        let a = bind_some (count.reads bytes) (λ n. many_reads part.reads n.0 n.1) (xs, rest) e in
        let t = ec.takes bytes a.0.0 a.0.1 a.1 in
        let u = many_take ep a.0.0 a.0.1 xs rest a.2 in
        (t.0 ∙ ap (λ (l : List ℕ). count.write a.0.0 ++ l) u.parts ∙ sym (append_assoc (count.write a.0.0) (flat_map part.write xs) rest) ∙ ap (λ (n : ℕ). (count.write n ++ flat_map part.write xs) ++ rest) (sym u.number), (subst count.Fits (sym u.number) t.1, u.fits));
    again = λ xs rest fits ends.
        ap (λ (l : List ℕ). count.reads l >>= λ n. many_reads part.reads n.0 n.1) (append_assoc (count.write (length xs)) (flat_map part.write xs) rest)
        ∙ ap (λ (o : Option (ℕ × List ℕ)). o >>= λ n. many_reads part.reads n.0 n.1) (ec.again (length xs) (flat_map part.write xs ++ rest) fits.0 (cfree (flat_map part.write xs ++ rest)))
        ∙ many_again ep pfree xs rest fits.1;
  }

-- ---- parts read and written one after the other, as a loop does

-- what was read before, and what is still read
abbrev pub with_front : {X : Type 0} → List X → Option (List X × List ℕ) → Option (List X × List ℕ)
with_front front read = read >>= λ x. Some (front ++ x.0, x.1)

module _ {X : Type 0} (part : Reads X) where
  regroup : (front : List X) (x : X) (read : Option (List X × List ℕ)) → with_front front (read >>= λ y. Some (x ∷ y.0, y.1)) ≡ with_front (front ++ x ∷ []) read
  regroup front x (Some y) = ap (λ (xs : List X). Some (xs, y.1)) (sym (append_assoc front (x ∷ []) y.0))
  regroup front x None = refl

  pub goes_on : (front : List X) (count i : ℕ) (bytes : List ℕ) (x : X) (after : List ℕ) (total : Option (List X × List ℕ)) → i < count → part bytes ≡ Some (x, after)
      → with_front front (many_reads part (count - i) bytes) ≡ total → with_front (front ++ x ∷ []) (many_reads part (count - (i + 1)) after) ≡ total
  unfolding many_reads
  goes_on front count i bytes x after total lt h so_far =
      let k : count - i ≡ suc (count - (i + 1)) = omega arith in
      let one : with_front front (many_reads part (count - i) bytes) ≡ with_front (front ++ x ∷ []) (many_reads part (count - (i + 1)) after) = rw (k, h) (regroup front x (many_reads part (count - (i + 1)) after)) in
      sym one ∙ so_far

  pub goes_no_further : (front : List X) (count i : ℕ) (bytes : List ℕ) (total : Option (List X × List ℕ)) → i < count → part bytes ≡ None
      → with_front front (many_reads part (count - i) bytes) ≡ total → total ≡ None
  unfolding many_reads
  goes_no_further front count i bytes total lt h so_far =
      let k : count - i ≡ suc (count - (i + 1)) = omega arith in
      let one : with_front front (many_reads part (count - i) bytes) ≡ None = rw (k, h) refl in
      sym so_far ∙ one

  pub is_done : (front : List X) (count i : ℕ) (bytes : List ℕ) (total : Option (List X × List ℕ)) → count ≤ i → with_front front (many_reads part (count - i) bytes) ≡ total → total ≡ Some (front, bytes)
  unfolding many_reads
  is_done front count i bytes total le so_far =
      let k : count - i ≡ 0 = omega arith in
      let one : with_front front (many_reads part (count - i) bytes) ≡ Some (front, bytes) = rw k (ap (λ (xs : List X). Some (xs, bytes)) (append-nil front)) in
      sym so_far ∙ one

-- so many parts put after their number
pub record AddsFirst {X : Type 0} (part : Format X) (old new : List ℕ) (xs : List X) (i : ℕ) : Type 0 where
  pub added : new ≡ old ++ flat_map part.write (take i xs)
  pub fits : All part.Fits (take i xs)

module _ {X : Type 0} {part : Format X} {old : List ℕ} {xs : List X} where
  pub adds_none : AddsFirst part old old xs 0
  adds_none = record { added = sym (append-nil old); fits = All-nil part.Fits }

  pub adds_next : {so_far now : List ℕ} (i : ℕ) (x d : X) → i < length xs → x ≡ get_or xs i d → AddsFirst part old so_far xs i → Adds part so_far now x → AddsFirst part old now xs (i + 1)
  adds_next {so_far} {now} i x d lt is before one = record {
    added = one.added ∙ ap (λ (l : List ℕ). l ++ part.write x) before.added ∙ append_assoc old (flat_map part.write (take i xs)) (part.write x)
        ∙ ap (λ (l : List ℕ). old ++ l) (sym (flat_map-append part.write (take i xs) (x ∷ []) ∙ ap (λ (l : List ℕ). flat_map part.write (take i xs) ++ l) (append-nil (part.write x))))
        ∙ ap (λ (ys : List X). old ++ flat_map part.write ys) (sym taken);
    fits = subst (All part.Fits) (sym taken) (All-append part.Fits (take i xs) (x ∷ []) before.fits (All-cons part.Fits x [] one.fits (All-nil part.Fits)));
  }
    where
      taken : take (i + 1) xs ≡ take i xs ++ x ∷ []
      taken = take_more xs i d lt ∙ ap (λ (y : X). take i xs ++ y ∷ []) (sym is)

  pub adds_all : {count : Format ℕ} {front now : List ℕ} (i : ℕ) → length xs ≤ i → Adds count front old (length xs) → AddsFirst part old now xs i → Adds (counted count part) front now xs
  adds_all {count} {front} {now} i le number before =
      let every = take_all i xs le in
      record {
        added = before.added ∙ ap (λ (ys : List X). old ++ flat_map part.write ys) every ∙ ap (λ (l : List ℕ). l ++ flat_map part.write xs) number.added ∙ append_assoc front (count.write (length xs)) (flat_map part.write xs);
        fits = (number.fits, subst (All part.Fits) every before.fits);
      }
