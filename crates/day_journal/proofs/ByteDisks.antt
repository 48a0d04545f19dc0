-- What a write does to a disk that is its bytes.
use Rattle.std.proofs.Common.{◌≡◌, ◌⊎◌, inl, inr, refl, sym, ◌∙◌, arith, ℕ, suc, zero, ◌+◌, ◌<◌, ◌≤◌, min, List, [], ◌∷◌, ◌++◌, length, length-append, get_or, subst}
use Rattle.std.proofs.lemmas.Bool.{cases_eq}
use Rattle.std.proofs.Math.ListN.{get_or-eq_default}
use Rattle.day_journal.specs.Disks.{Torn, Follows, Elapses}
use Rattle.day_journal.specs.MemoryDiskLaws.{torn_same}
use Rattle.day_journal.specs.ByteDisks.{ByteDiskState, HeldSince}

-- what was held behind the first writes is so behind one more
still_held : (past : List (List ℕ)) (bytes after : List ℕ) (k : ℕ) → k ≤ length past → get_or (past ++ bytes ∷ []) k after ≡ get_or past k bytes
still_held [] bytes after zero le = refl
still_held [] bytes after (suc k) le = absurd (omega (arith, le))
still_held (x ∷ past) bytes after zero le = refl
still_held (x ∷ past) bytes after (suc k) le = still_held past bytes after k (omega (arith, le))

abbrev after_put : ByteDiskState → List ℕ → ByteDiskState
after_put old bytes = record old { past = old.past ++ old.bytes ∷ []; bytes = bytes }

up_to : (k n : ℕ) → (k ≤ n) ⊎ (n < k)
up_to k n = elim (cases_eq (min k n) k) [
  | inl is ↦ inl (omega (arith, is))
  | inr not ↦ inr (omega (arith, not))
]

one_more : (old : ByteDiskState) (bytes : List ℕ) → length (old.past ++ old.bytes ∷ []) ≡ length old.past + 1
one_more old bytes = length-append old.past (old.bytes ∷ [])

later_or_now : (old : ByteDiskState) (bytes : List ℕ) (t : ℕ) (c : List ℕ) → HeldSince (after_put old bytes) t c → HeldSince old t c ⊎ (c ≡ bytes)
later_or_now old bytes t c held = elim (up_to held.0 (length old.past)) [
  | inl within ↦ inl (held.0, held.1, within, held.3 ∙ still_held old.past old.bytes bytes held.0 within)
  | inr past ↦ inr (held.3 ∙ get_or-eq_default (old.past ++ old.bytes ∷ []) bytes (omega (arith, past, one_more old bytes)))
]

elapses_one : (old : ByteDiskState) (bytes : List ℕ) → Elapses (length old.past) (length (old.past ++ old.bytes ∷ [])) (HeldSince old) (HeldSince (after_put old bytes)) (λ c. c ≡ bytes)
elapses_one old bytes = record {
  later = omega (arith, one_more old bytes);
  nothing_else = λ t c le held. later_or_now old bytes t c held;
  keeps = λ t c le held. (held.0, held.1, omega (arith, held.2, one_more old bytes), held.3 ∙ sym (still_held old.past old.bytes bytes held.0 held.2));
}

pub elapses_put : (old new : ByteDiskState) (bytes : List ℕ) → new ≡ after_put old bytes → Elapses (length old.past) (length new.past) (HeldSince old) (HeldSince new) (λ c. c ≡ new.bytes)
elapses_put old new bytes is = subst (λ (d : ByteDiskState). Elapses (length old.past) (length d.past) (HeldSince old) (HeldSince d) (λ c. c ≡ d.bytes)) (sym is) (elapses_one old bytes)

-- where nothing changed, a write may have been cut before its first byte
pub follows_none : (at n : ℕ) (old now : List ℕ) → now ≡ old → Follows (Torn at n) (λ c. c ≡ old) (λ c. c ≡ now)
follows_none at n old now same c is = (c, is ∙ same, torn_same at n c)
