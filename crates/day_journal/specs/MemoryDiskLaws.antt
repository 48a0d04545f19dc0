-- The laws that a disk in memory keeps. Only its own members cite this file.
use Rattle.std.specs.Prelude.{◌≡◌, ◌⊎◌, ◌<◌, ℕ, zero, suc, ◌+◌, ◌-◌, ◌≤◌, min, max, List, [], ◌∷◌, ◌++◌, length, get_or, take, drop, replicate, Bool, true, false, Some, if◌then◌else◌}
use Rattle.std.proofs.Common.{inl, inr, refl, sym, ◌∙◌, ap, subst, arith, length-append, length-drop, append_assoc}
use Rattle.std.proofs.lemmas.Bool.{cases_eq}
use Rattle.std.proofs.lemmas.List.{take_all, drop_at, take-append-le, take-append-drop, length-replicate, length-take-le}
use Rattle.day_journal.specs.declared.memory_disk.Change.{Change}
use Rattle.day_journal.specs.Disks.{Torn, Follows, Within, AsRead, Elapses, written, reaching}
use Rattle.day_journal.specs.MemoryDisks.{reading, MayLeave, IsImage, LeftSince, picked}

-- a file is its own image
pub torn_same : (at n : ℕ) (d : List ℕ) → Torn at n d d
torn_same at n d = record { before = (drop at d, sym (take-append-drop at d)); after = refl; no_shorter = omega arith; no_longer = omega arith }

abbrev zeros : ℕ → List ℕ
zeros n = replicate n 0

pub length-zeros : (n : ℕ) → length (zeros n) ≡ n
length-zeros n = length-replicate {A = ℕ} n 0

pub length-reaching : (at : ℕ) (d : List ℕ) → length (reaching at d) ≡ max (length d) at
length-reaching at d = omega (arith, length-append d (replicate (at - length d) 0), length-zeros (at - length d))

length-front : (at : ℕ) (d : List ℕ) → length (take at (reaching at d)) ≡ at
length-front at d = length-take-le at (reaching at d) (omega (arith, length-reaching at d))

pub length-written : (at : ℕ) (piece d : List ℕ) → length (written at piece d) ≡ max (length d) (at + length piece)
length-written at piece d =
    omega (
      arith,
      length-append (take at (reaching at d) ++ piece) (drop (at + length piece) d),
      length-append (take at (reaching at d)) piece,
      length-front at d,
      length-drop (at + length piece) d,
    )

-- a list cut within or behind its front
pub take_over : (n : ℕ) (xs ys : List ℕ) → take n (xs ++ ys) ≡ take n xs ++ take (n - length xs) ys
take_over zero [] ys = refl
take_over (suc n) [] ys = let same : suc n ≡ suc n - length {A = ℕ} [] = omega arith in ap (λ (k : ℕ). take k ys) same
take_over zero (x ∷ xs) ys = let none : 0 ≡ 0 - length (x ∷ xs) = omega arith in ap (λ (k : ℕ). take k ys) none
take_over (suc n) (x ∷ xs) ys =
    let same : n - length xs ≡ suc n - length (x ∷ xs) = omega arith in
    ap (λ (l : List ℕ). x ∷ l) (take_over n xs ys) ∙ ap (λ (k : ℕ). x ∷ (take n xs ++ take k ys)) same

pub torn_written : (at : ℕ) (piece d : List ℕ) → Torn at (length piece) d (written at piece d)
torn_written at piece d =
    let end : List ℕ = drop (at + length piece) d in
    let front : List ℕ = take at (reaching at d) in
    let more : List ℕ = take (at - length d) (zeros (at - length d)) in
    let long : length (front ++ piece) ≡ at + length piece = omega (arith, length-append front piece, length-front at d) in
    record {
      before = (
        more ++ (piece ++ end),
        append_assoc front piece end
            ∙ ap (λ (l : List ℕ). l ++ (piece ++ end)) (take_over at d (zeros (at - length d)))
            ∙ append_assoc (take at d) more (piece ++ end),
      );
      after = drop_at (front ++ piece) end (at + length piece) long;
      no_shorter = omega (arith, length-written at piece d);
      no_longer = omega (arith, length-written at piece d);
    }

torn_step : (at : ℕ) (piece d : List ℕ) (done : Bool) → Torn at (length piece) d (if done then written at piece d else d)
torn_step at piece d true = torn_written at piece d
torn_step at piece d false = torn_same at (length piece) d

-- what a read gives is one of the images
pub read_left : (changes : List Change) (now : List ℕ) (images : List ℕ → Type 0) → images now → MayLeave now images changes (reading now changes)
read_left [] now images here = here
read_left (Change.Write at piece done ∷ changes) now images here = read_left changes _ _ (now, here, torn_step at piece now done)
read_left (Change.Sync ∷ changes) now images here = read_left changes now _ refl

pub read_is_image : (start : List ℕ) (changes : List Change) (file : List ℕ) → Some (reading start changes) ≡ Some file → IsImage start changes file
read_is_image start changes file told = subst (IsImage start changes) (cc told) (read_left changes start _ refl)

pub image_is_left : (start : List ℕ) (changes : List Change) (t : ℕ) (c : List ℕ) → t ≤ length changes → IsImage start changes c → LeftSince start changes t c
image_is_left start changes t c le here =
    (length changes, le, omega arith, subst (λ (l : List Change). IsImage start l c) (sym (take_all (length changes) changes (omega arith))) here)

pub left_is_image : (start : List ℕ) (changes : List Change) (c : List ℕ) → LeftSince start changes (length changes) c → IsImage start changes c
left_is_image start changes c left = subst (λ (l : List Change). IsImage start l c) (take_all left.0 changes left.1) left.3

-- one change more
pub reading_write : (changes : List Change) (now : List ℕ) (at : ℕ) (piece : List ℕ) (done : Bool)
    → reading now (changes ++ Change.Write at piece done ∷ []) ≡ (if done then written at piece (reading now changes) else reading now changes)
reading_write [] now at piece done = refl
reading_write (Change.Write a p b ∷ changes) now at piece done = reading_write changes _ at piece done
reading_write (Change.Sync ∷ changes) now at piece done = reading_write changes now at piece done

pub reading_sync : (changes : List Change) (now : List ℕ) → reading now (changes ++ Change.Sync ∷ []) ≡ reading now changes
reading_sync [] now = refl
reading_sync (Change.Write a p b ∷ changes) now = reading_sync changes _
reading_sync (Change.Sync ∷ changes) now = reading_sync changes now

left_write : (changes : List Change) (now : List ℕ) (images : List ℕ → Type 0) (at : ℕ) (piece : List ℕ) (done : Bool) (c : List ℕ)
    → MayLeave now images (changes ++ Change.Write at piece done ∷ []) c → (d : List ℕ) × MayLeave now images changes d × Torn at (length piece) d c
left_write [] now images at piece done c left = left
left_write (Change.Write a p b ∷ changes) now images at piece done c left = left_write changes _ _ at piece done c left
left_write (Change.Sync ∷ changes) now images at piece done c left = left_write changes now _ at piece done c left

left_sync : (changes : List Change) (now : List ℕ) (images : List ℕ → Type 0) (c : List ℕ) → MayLeave now images (changes ++ Change.Sync ∷ []) c → c ≡ reading now changes
left_sync [] now images c left = left
left_sync (Change.Write a p b ∷ changes) now images c left = left_sync changes _ _ c left
left_sync (Change.Sync ∷ changes) now images c left = left_sync changes now _ c left

pub follows_write : (start : List ℕ) (changes : List Change) (at : ℕ) (piece : List ℕ) (done : Bool)
    → Follows (Torn at (length piece)) (IsImage start changes)
    (IsImage start (changes ++ Change.Write at piece done ∷ []))
follows_write start changes at piece done c left = left_write changes start _ at piece done c left

pub synced : (start : List ℕ) (changes : List Change) → AsRead (Some (reading start changes)) (IsImage start (changes ++ Change.Sync ∷ []))
synced start changes c left = ap Some (sym (left_sync changes start _ c left))

-- after a sync there are no more images than before
pub synced_within : (start : List ℕ) (changes : List Change) → Within (IsImage start changes) (IsImage start (changes ++ Change.Sync ∷ []))
synced_within start changes c left = subst (IsImage start changes) (sym (left_sync changes start _ c left)) (read_left changes start _ refl)

pub elapses_same : (start : List ℕ) (changes : List Change)
    → Elapses (length changes) (length changes) (LeftSince start changes) (LeftSince start changes)
    (IsImage start changes)
elapses_same start changes = record { later = omega arith; nothing_else = λ t c le left. inl left; keeps = λ t c le left. left }

pub elapses_more : (start : List ℕ) (changes : List Change) (x : Change)
    → Elapses (length changes) (length (changes ++ x ∷ [])) (LeftSince start changes)
    (LeftSince start (changes ++ x ∷ [])) (IsImage start (changes ++ x ∷ []))
elapses_more start changes x = record {
  later = omega (arith, length-append changes (x ∷ []));
  nothing_else = λ t c le left. elim (cases left.0) [
    | inl within ↦ inl (left.0, left.1, within, subst (λ (l : List Change). IsImage start l c) (take-append-le left.0 changes (x ∷ []) within) left.3)
    | inr past ↦ inr (subst (λ (l : List Change). IsImage start l c) (take_all left.0 (changes ++ x ∷ []) (omega (arith, past, length-append changes (x ∷ [])))) left.3)
  ];
  keeps =
      λ t c le left. (
        left.0,
        left.1,
        omega (arith, left.2, length-append changes (x ∷ [])),
        subst (λ (l : List Change). IsImage start l c) (sym (take-append-le left.0 changes (x ∷ []) left.2)) left.3,
      );
}
  where
    cases : (k : ℕ) → (k ≤ length changes) ⊎ (length changes < k)
    cases k = elim (cases_eq (min k (length changes)) k) [
      | inl is ↦ inl (omega (arith, is))
      | inr not ↦ inr (omega (arith, not))
    ]

-- a picked image is one of the images
length-shown : (pick : Bool) (piece : List ℕ) (fill : ℕ) → length (if pick then piece else replicate (length piece) fill) ≡ length piece
length-shown true piece fill = refl
length-shown false piece fill = length-replicate (length piece) fill

torn_shown : (pick : Bool) (at : ℕ) (piece : List ℕ) (fill : ℕ) (d : List ℕ)
    → Torn at (length piece) d (written at (if pick then piece else replicate (length piece) fill) d)
torn_shown pick at piece fill d =
    subst (λ (n : ℕ). Torn at n d (written at (if pick then piece else replicate (length piece) fill) d))
    (length-shown pick piece fill) (torn_written at (if pick then piece else replicate (length piece) fill) d)

picked_left : (changes : List Change) (picks : List Bool) (fill number : ℕ) (now image : List ℕ)
    (images : List ℕ → Type 0) → images image → MayLeave now images changes (picked picks fill number now image changes)
picked_left [] picks fill number now image images here = here
picked_left (Change.Write at piece done ∷ changes) picks fill number now image images here =
    picked_left changes picks fill (number + 1) _ _ _
    (image, here, torn_shown (get_or picks number false) at piece fill image)
picked_left (Change.Sync ∷ changes) picks fill number now image images here = picked_left changes picks fill 0 now now _ refl

pub picked_is_image : (start : List ℕ) (changes : List Change) (picks : List Bool) (fill : ℕ) → IsImage start changes (picked picks fill 0 start start changes)
picked_is_image start changes picks fill = picked_left changes picks fill 0 start start _ refl
