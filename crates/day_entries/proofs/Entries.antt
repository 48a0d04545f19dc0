-- The formats of an entry are exact.
use Rattle.std.proofs.Common.{◌≡◌, ℕ, ◌^◌, eqb, false, length, ◌⊎◌, inl, inr, refl, lit≤}
use Rattle.std.specs.Prelude.{nat_le}
use Rattle.std.specs.Str.{is_utf8}
use Rattle.std.specs.Prelude.{IsUtf8}
use Rattle.std.proofs.lemmas.Bool.{and_parts, and_from, leb-true, le-leb}
use Rattle.std.proofs.lemmas.Str.{IsUtf8-from_is_utf8, is_utf8-from_IsUtf8}
use Rattle.adx_units.specs.Ids.{IsSized}
use Rattle.adx_units.specs.declared.id.TheConstants.{LONGEST_ID}
use Rattle.day_rules.specs.declared.entry.Entry.{Entry}
use Rattle.day_rules.specs.Entries.{BudgetChange}
use Rattle.formats.specs.Formats.{Format, IsExact, IsFree, kind, last_kind, sized}
use Rattle.formats.proofs.Laws.{Tells, IsKind, free_then, made-exact, such-exact, kind-exact, kind-others, last_kind-exact, last_kind-others}
use Rattle.formats.proofs.Lists.{bytes-exact, sized-exact, counted-exact}
use Rattle.formats.proofs.Numbers.{byte-exact, fixed-exact, grouped-exact, wide16, wide32, wide64}
use Rattle.std.specs.Int.{w16, w32, w64}
use Rattle.day_entries.specs.declared.numbers.Numbers.{Numbers}
use Rattle.day_entries.specs.Numbers.{small, short, long, wide}
use Rattle.day_entries.specs.Entries.{text, is_sized, name, offer_of_parts, parts_of_offer, offer, kept_of_parts, parts_of_kept, kept, imps, offers, all_kept, ask_of_parts, parts_of_ask, ask, change_of_parts, parts_of_change, change, EntryParts, entry_of_parts, parts_of_entry, entry}

-- ---- numbers

pub small_exact : (n : Numbers) → IsExact (small n)
small_exact Numbers.Fixed = byte-exact
small_exact Numbers.Grouped = grouped-exact (2 ^ 8) (lit≤ tt)

pub short_exact : (n : Numbers) → IsExact (short n)
short_exact Numbers.Fixed = fixed-exact w16 (2 ^ 16) wide16
short_exact Numbers.Grouped = grouped-exact (2 ^ 16) (lit≤ tt)

pub long_exact : (n : Numbers) → IsExact (long n)
long_exact Numbers.Fixed = fixed-exact w32 (2 ^ 32) wide32
long_exact Numbers.Grouped = grouped-exact (2 ^ 32) (lit≤ tt)

pub wide_exact : (n : Numbers) → IsExact (wide n)
wide_exact Numbers.Fixed = fixed-exact w64 (2 ^ 64) wide64
wide_exact Numbers.Grouped = grouped-exact (2 ^ 64) (lit≤ tt)

pub small_free : (n : Numbers) → IsFree (small n)
small_free Numbers.Fixed rest = tt
small_free Numbers.Grouped rest = tt

pub long_free : (n : Numbers) → IsFree (long n)
long_free Numbers.Fixed rest = tt
long_free Numbers.Grouped rest = tt

pub wide_free : (n : Numbers) → IsFree (wide n)
wide_free Numbers.Fixed rest = tt
wide_free Numbers.Grouped rest = tt

pub short_free : (n : Numbers) → IsFree (short n)
short_free Numbers.Fixed rest = tt
short_free Numbers.Grouped rest = tt

-- ---- texts and names

tells_utf8 : Tells IsUtf8 is_utf8
tells_utf8 = record { if_true = λ t h. IsUtf8-from_is_utf8 t h; if_holds = λ t h. is_utf8-from_IsUtf8 t h }

tells_sized : Tells IsSized is_sized
tells_sized = record {
  if_true = λ t h. let both = and_parts (nat_le 1 (length t)) (nat_le (length t) LONGEST_ID) h in (leb-true 1 (length t) both.0, leb-true (length t) LONGEST_ID both.1);
  if_holds = λ t h. and_from (nat_le 1 (length t)) (nat_le (length t) LONGEST_ID) (le-leb 1 (length t) h.0) (le-leb (length t) LONGEST_ID h.1);
}

text_exact : (n : Numbers) → IsExact (text n)
unfolding text
text_exact n = such-exact IsUtf8 is_utf8 (sized (long n)) (sized-exact (long n) (long_exact n) (long_free n)) tells_utf8

text_free : (n : Numbers) → IsFree (text n)
unfolding text
text_free n rest = tt

name_exact : (n : Numbers) → IsExact (name n)
unfolding name
name_exact n = such-exact IsSized is_sized (text n) (text_exact n) tells_sized

name_free : (n : Numbers) → IsFree (name n)
unfolding name
name_free n rest = text_free n rest

-- ---- offers, texts of bids, asks

offer_exact : (n : Numbers) → IsExact (offer n)
unfolding offer
offer_exact n =
    made-exact offer_of_parts parts_of_offer _ (free_then (small_exact n) (small_free n) (free_then (long_exact n) (long_free n) (free_then (wide_exact n) (wide_free n) (free_then (long_exact n) (long_free n) (short_exact n))))) (λ p. refl) (λ o. refl)

offer_free : (n : Numbers) → IsFree (offer n)
unfolding offer
offer_free n rest = short_free n rest

kept_exact : (n : Numbers) → IsExact (kept n)
unfolding kept
kept_exact n =
    let t = text_exact n in
    let f = text_free n in
    made-exact kept_of_parts parts_of_kept _ (free_then (long_exact n) (long_free n) (free_then t f (free_then t f (free_then t f (free_then t f (free_then t f (free_then t f t))))))) (λ p. refl) (λ k. refl)

kept_free : (n : Numbers) → IsFree (kept n)
unfolding kept
kept_free n rest = text_free n rest

imps_exact : (n : Numbers) → IsExact (imps n)
unfolding imps
imps_exact n = counted-exact (name n) (small n) (small_exact n) (small_free n) (name_exact n) (name_free n)

imps_free : (n : Numbers) → IsFree (imps n)
unfolding imps
imps_free n rest = tt

offers_exact : (n : Numbers) → IsExact (offers n)
unfolding offers
offers_exact n = counted-exact (offer n) (long n) (long_exact n) (long_free n) (offer_exact n) (offer_free n)

offers_free : (n : Numbers) → IsFree (offers n)
unfolding offers
offers_free n rest = tt

all_kept_exact : (n : Numbers) → IsExact (all_kept n)
unfolding all_kept
all_kept_exact n = counted-exact (kept n) (long n) (long_exact n) (long_free n) (kept_exact n) (kept_free n)

all_kept_free : (n : Numbers) → IsFree (all_kept n)
unfolding all_kept
all_kept_free n rest = tt

ask_exact : (n : Numbers) → IsExact (ask n)
unfolding ask
ask_exact n =
    made-exact ask_of_parts parts_of_ask _ (free_then (name_exact n) (name_free n) (free_then (bytes-exact 32) (λ rest. tt) (free_then (wide_exact n) (wide_free n) (free_then (long_exact n) (long_free n) (free_then (imps_exact n) (imps_free n) (free_then (offers_exact n) (offers_free n) (all_kept_exact n))))))) (λ p. refl) (λ a. refl)

ask_free : (n : Numbers) → IsFree (ask n)
unfolding ask
ask_free n rest = all_kept_free n rest

-- ---- changes of budgets

change_exact : (n : Numbers) → IsExact (change n)
unfolding change
change_exact n = made-exact change_of_parts parts_of_change _ (free_then (long_exact n) (long_free n) (free_then (long_exact n) (long_free n) (wide_exact n))) (λ p. refl) (λ x. refl)

change_free : (n : Numbers) → IsFree (change n)
unfolding change
change_free n rest = wide_free n rest

-- ---- entries

module _ (n : Numbers) where
  abbrev fifth : Format (ℕ ⊎ BudgetChange)
  fifth = kind 5 (wide n) (last_kind 6 (change n))

  abbrev fourth : Format (ℕ ⊎ (ℕ ⊎ BudgetChange))
  fourth = kind 4 (long n) fifth

  abbrev third : Format (ℕ ⊎ (ℕ ⊎ (ℕ ⊎ BudgetChange)))
  third = kind 3 (long n) fourth

  abbrev second : Format (ℕ ⊎ (ℕ ⊎ (ℕ ⊎ (ℕ ⊎ BudgetChange))))
  second = kind 2 (long n) third

  other5 : (t : ℕ) → eqb 5 t ≡ false → eqb 6 t ≡ false → IsKind t fifth
  other5 t n5 n6 = kind-others 5 (wide n) (last_kind 6 (change n)) t n5 (last_kind-others 6 (change n) t n6)

  other4 : (t : ℕ) → eqb 4 t ≡ false → eqb 5 t ≡ false → eqb 6 t ≡ false → IsKind t fourth
  other4 t n4 n5 n6 = kind-others 4 (long n) fifth t n4 (other5 t n5 n6)

  other3 : (t : ℕ) → eqb 3 t ≡ false → eqb 4 t ≡ false → eqb 5 t ≡ false → eqb 6 t ≡ false → IsKind t third
  other3 t n3 n4 n5 n6 = kind-others 3 (long n) fourth t n3 (other4 t n4 n5 n6)

  exact5 : IsExact fifth
  exact5 = kind-exact 5 (wide n) (last_kind 6 (change n)) (wide_exact n) (last_kind-exact 6 (change n) (change_exact n)) (last_kind-others 6 (change n) 5 refl)

  exact4 : IsExact fourth
  exact4 = kind-exact 4 (long n) fifth (long_exact n) exact5 (other5 4 refl refl)

  exact3 : IsExact third
  exact3 = kind-exact 3 (long n) fourth (long_exact n) exact4 (other4 3 refl refl refl)

  exact2 : IsExact second
  exact2 = kind-exact 2 (long n) third (long_exact n) exact3 (other3 2 refl refl refl refl)

  exact1 : IsExact (kind 1 (ask n) second)
  exact1 = kind-exact 1 (ask n) second (ask_exact n) exact2 (kind-others 2 (long n) third 1 refl (other3 1 refl refl refl refl))

entry_there : (p : EntryParts) → parts_of_entry (entry_of_parts p) ≡ p
entry_there (inl a) = refl
entry_there (inr (inl k)) = refl
entry_there (inr (inr (inl k))) = refl
entry_there (inr (inr (inr (inl k)))) = refl
entry_there (inr (inr (inr (inr (inl t))))) = refl
entry_there (inr (inr (inr (inr (inr x))))) = refl

entry_back : (e : Entry) → entry_of_parts (parts_of_entry e) ≡ e
entry_back (Entry.Ask a) = refl
entry_back (Entry.Win k) = refl
entry_back (Entry.Bill k) = refl
entry_back (Entry.Loss k) = refl
entry_back (Entry.Expire t) = refl
entry_back (Entry.Budget campaign number budget) = refl

pub entry_exact : (n : Numbers) → IsExact (entry n)
unfolding entry
entry_exact n = made-exact entry_of_parts parts_of_entry _ (exact1 n) entry_there entry_back

pub entry_free : (n : Numbers) → IsFree (entry n)
unfolding entry
entry_free n rest = (ask_free n rest, (long_free n rest, (long_free n rest, (long_free n rest, (wide_free n rest, change_free n rest)))))
