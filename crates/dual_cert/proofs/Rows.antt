-- A line's row: what is read is spelled so, and what is spelled so is read.
use Rattle.std.proofs.Common.{◌≡◌, ℕ, ◌+◌, ◌^◌, ◌<◌, ◌≤◌, List, [], ◌∷◌, ◌++◌, length, codes, Bool, true, false, cond, eqb, Option, Some, None, refl, sym, ap, ◌∙◌, subst, lit≤, inl, inr, append-nil, option_map}
use Rattle.std.specs.Option.{option_or}
use Rattle.std.specs.Fmt.{decimal}
use Rattle.std.proofs.lemmas.Bool.{eqb-true}
use Rattle.std.proofs.lemmas.List.{nil_from_length}
use Rattle.std.proofs.lemmas.Option.{none-some, same_Some}
use Rattle.formats.specs.Parts.{◌>>=◌, behind_word, behind_byte, none_left, number_at, part}
use Rattle.formats.proofs.PartLaws.{bind_some, word_takes, word_again, byte_takes, none_left_is, number_takes, number_again}
use Rattle.formats.proofs.Options.{map_none, map_some, behind_none, or_some}
use Rattle.dual_cert.specs.declared.row.Row.{Row}
use Rattle.dual_cert.specs.declared.row.Row.TheVariants.{Alpha, Beta, Bound}
use Rattle.dual_cert.specs.Lines.{bound_line}
use Rattle.dual_cert.specs.Reading.{indexed_at, bound_at, row_at, with_row}
use Rattle.dual_cert.specs.Refusals.{Told, rows, all, Follows, alpha_next, beta_next, bound_last, DoesNotFollow}

small : 2 ^ 64 ≤ 10 ^ 64
small = lit≤ tt

wide : 2 ^ 128 ≤ 10 ^ 64
wide = lit≤ tt

pub indexed_takes : (word : List ℕ) (index : ℕ) (line : List ℕ) (n : ℕ) → indexed_at word index line ≡ Some n → (line ≡ word ++ (decimal index ++ part (decimal n))) × (n < 2 ^ 64)
unfolding indexed_at
indexed_takes word index line n h =
    let a = bind_some (behind_word word line) (λ x. behind_word (decimal index) x >>= λ y. behind_byte 32 y >>= λ z. number_at (2 ^ 64) z >>= λ m. none_left m.1 >>= λ u. Some m.0) n h in
    let b = bind_some (behind_word (decimal index) a.0) (λ y. behind_byte 32 y >>= λ z. number_at (2 ^ 64) z >>= λ m. none_left m.1 >>= λ u. Some m.0) n a.2 in
    let c = bind_some (behind_byte 32 b.0) (λ z. number_at (2 ^ 64) z >>= λ m. none_left m.1 >>= λ u. Some m.0) n b.2 in
    let d = bind_some (number_at (2 ^ 64) c.0) (λ m. none_left m.1 >>= λ u. Some m.0) n c.2 in
    let e = bind_some (none_left d.0.1) (λ u. Some d.0.0) n d.2 in
    let first = word_takes word line a.0 a.1 in
    let second = word_takes (decimal index) a.0 b.0 b.1 in
    let third = byte_takes 32 b.0 c.0 c.1 in
    let fourth = number_takes (2 ^ 64) c.0 d.0.0 d.0.1 small d.1 in
    let none = none_left_is d.0.1 e.0 e.1 in
    let is : d.0.0 ≡ n = same_Some d.0.0 n e.2 in
    let value : c.0 ≡ decimal n = fourth.0 ∙ ap (λ (r : List ℕ). decimal d.0.0 ++ r) none ∙ append-nil (decimal d.0.0) ∙ ap decimal is in
    (first ∙ ap (λ (r : List ℕ). word ++ r) (second ∙ ap (λ (r : List ℕ). decimal index ++ r) (third ∙ ap (λ (r : List ℕ). 32 ∷ r) value)), subst (λ (m : ℕ). m < 2 ^ 64) is fourth.1)

pub indexed_again : (word : List ℕ) (index n : ℕ) → n < 2 ^ 64 → indexed_at word index (word ++ (decimal index ++ part (decimal n))) ≡ Some n
unfolding indexed_at
indexed_again word index n h =
    let number : number_at (2 ^ 64) (decimal n) ≡ Some (n, []) = ap (number_at (2 ^ 64)) (sym (append-nil (decimal n))) ∙ number_again (2 ^ 64) n [] small h tt in
    rw (word_again word (decimal index ++ part (decimal n)), word_again (decimal index) (part (decimal n)), number) refl

pub bound_takes : (line : List ℕ) (n : ℕ) → bound_at line ≡ Some n → (line ≡ bound_line n) × (n < 2 ^ 128)
unfolding bound_at
bound_takes line n h =
    let a = bind_some (behind_word (codes "bound ") line) (λ x. number_at (2 ^ 128) x >>= λ m. none_left m.1 >>= λ u. Some m.0) n h in
    let d = bind_some (number_at (2 ^ 128) a.0) (λ m. none_left m.1 >>= λ u. Some m.0) n a.2 in
    let e = bind_some (none_left d.0.1) (λ u. Some d.0.0) n d.2 in
    let first = word_takes (codes "bound ") line a.0 a.1 in
    let fourth = number_takes (2 ^ 128) a.0 d.0.0 d.0.1 wide d.1 in
    let none = none_left_is d.0.1 e.0 e.1 in
    let is : d.0.0 ≡ n = same_Some d.0.0 n e.2 in
    let value : a.0 ≡ decimal n = fourth.0 ∙ ap (λ (r : List ℕ). decimal d.0.0 ++ r) none ∙ append-nil (decimal d.0.0) ∙ ap decimal is in
    (first ∙ ap (λ (r : List ℕ). codes "bound " ++ r) value, subst (λ (m : ℕ). m < 2 ^ 128) is fourth.1)

pub bound_again : (n : ℕ) → n < 2 ^ 128 → bound_at (bound_line n) ≡ Some n
unfolding bound_at
bound_again n h =
    let number : number_at (2 ^ 128) (decimal n) ≡ Some (n, []) = ap (number_at (2 ^ 128)) (sym (append-nil (decimal n))) ∙ number_again (2 ^ 128) n [] wide h tt in
    rw (word_again (codes "bound ") (decimal n), number) refl

-- lines of one kind are none of another
no_alpha_in_beta : (index : ℕ) (tail : List ℕ) → indexed_at (codes "alpha ") index (codes "beta " ++ tail) ≡ None
unfolding indexed_at behind_word
no_alpha_in_beta index tail = refl

no_alpha_in_bound : (index : ℕ) (tail : List ℕ) → indexed_at (codes "alpha ") index (codes "bound " ++ tail) ≡ None
unfolding indexed_at behind_word
no_alpha_in_bound index tail = refl

no_beta_in_bound : (index : ℕ) (tail : List ℕ) → indexed_at (codes "beta ") index (codes "bound " ++ tail) ≡ None
unfolding indexed_at behind_word
no_beta_in_bound index tail = refl

either_none : {X : Type 0} (b : Bool) (o : Option X) → o ≡ None → cond b o None ≡ None
either_none true o e = e
either_none false o e = refl

-- what follows is read as its row
pub row_again : (alphas betas line : List ℕ) (next : Told) → Follows (rows alphas betas) line next → (row : Row) × (row_at (length alphas) (length betas) line ≡ Some row) × (with_row row alphas betas ≡ next)
unfolding row_at
row_again alphas [] line next (alpha_next as0 a h) =
    let read = indexed_again (codes "alpha ") (length alphas) a h in
    (Alpha a, rw read refl, refl)
row_again alphas betas line next (beta_next as0 bs0 b h) =
    let read = indexed_again (codes "beta ") (length betas) b h in
    let tail = decimal (length betas) ++ part (decimal b) in
    let no = either_none (eqb (length betas) 0) (option_map Alpha (indexed_at (codes "alpha ") (length alphas) (codes "beta " ++ tail))) (map_none Alpha (indexed_at (codes "alpha ") (length alphas) (codes "beta " ++ tail)) (no_alpha_in_beta (length alphas) tail)) in
    (Beta b, behind_none _ _ no ∙ rw read refl, refl)
row_again alphas betas line next (bound_last as0 bs0 n h) =
    let read = bound_again n h in
    let no = either_none (eqb (length betas) 0) (option_map Alpha (indexed_at (codes "alpha ") (length alphas) (bound_line n))) (map_none Alpha (indexed_at (codes "alpha ") (length alphas) (bound_line n)) (no_alpha_in_bound (length alphas) (decimal n))) in
    let nor = map_none Beta (indexed_at (codes "beta ") (length betas) (bound_line n)) (no_beta_in_bound (length betas) (decimal n)) in
    (Bound n, behind_none _ _ no ∙ behind_none _ _ nor ∙ rw read refl, refl)

first_none : {X : Type 0} (b : Bool) (o : Option X) (x : X) → cond b o None ≡ Some x → (b ≡ true) × (o ≡ Some x)
first_none true o x h = (refl, h)
first_none false o x h = absurd (none-some x h)

alpha_follows : (alphas betas line : List ℕ) (a : ℕ) → length betas ≡ 0 → indexed_at (codes "alpha ") (length alphas) line ≡ Some a → Follows (rows alphas betas) line (rows (alphas ++ a ∷ []) betas)
alpha_follows alphas betas line a none read =
    let is = indexed_takes (codes "alpha ") (length alphas) line a read in
    let empty : betas ≡ [] = nil_from_length betas none in
    subst (λ (bs : List ℕ). Follows (rows alphas bs) line (rows (alphas ++ a ∷ []) bs)) (sym empty)
    (subst (λ (l : List ℕ). Follows (rows alphas []) l (rows (alphas ++ a ∷ []) [])) (sym is.0) (alpha_next alphas a is.1))

-- what is read as a row follows
pub row_follows : (alphas betas line : List ℕ) (row : Row) → row_at (length alphas) (length betas) line ≡ Some row → Follows (rows alphas betas) line (with_row row alphas betas)
unfolding row_at
row_follows alphas betas line row h =
    let alpha = option_map Alpha (indexed_at (codes "alpha ") (length alphas) line) in
    let beta = option_map Beta (indexed_at (codes "beta ") (length betas) line) in
    let bound = option_map Bound (bound_at line) in
    elim (or_some (cond (eqb (length betas) 0) alpha None) (option_or beta bound) row h) [
      | inl first ↦
          let under = first_none (eqb (length betas) 0) alpha row first in
          let found = map_some Alpha (indexed_at (codes "alpha ") (length alphas) line) row under.1 in
          subst (λ (r : Row). Follows (rows alphas betas) line (with_row r alphas betas)) found.2 (alpha_follows alphas betas line found.0 (eqb-true (length betas) 0 under.0) found.1)
      | inr others ↦ elim (or_some beta bound row others) [
        | inl second ↦
            let found = map_some Beta (indexed_at (codes "beta ") (length betas) line) row second in
            let is = indexed_takes (codes "beta ") (length betas) line found.0 found.1 in
            subst (λ (r : Row). Follows (rows alphas betas) line (with_row r alphas betas)) found.2
            (subst (λ (l : List ℕ). Follows (rows alphas betas) l (rows alphas (betas ++ found.0 ∷ []))) (sym is.0) (beta_next alphas betas found.0 is.1))
        | inr third ↦
            let found = map_some Bound (bound_at line) row third in
            let is = bound_takes line found.0 found.1 in
            subst (λ (r : Row). Follows (rows alphas betas) line (with_row r alphas betas)) found.2
            (subst (λ (l : List ℕ). Follows (rows alphas betas) l (all alphas betas found.0)) (sym is.0) (bound_last alphas betas found.0 is.1))
      ]
    ]

-- what isn't read as a row doesn't follow
pub none_follows : (alphas betas line : List ℕ) → row_at (length alphas) (length betas) line ≡ None → DoesNotFollow (rows alphas betas) line
none_follows alphas betas line h next f =
    let row = row_again alphas betas line next f in none-some row.0 (sym h ∙ row.1)
