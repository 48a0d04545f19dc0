-- The greatest day of rows, one row more.
use Rattle.std.proofs.Common.{◌≡◌, ℕ, ◌+◌, ◌<◌, length, take, get_or, Bor, ◌||◌, Bool, true, false, List, [], ◌∷◌, ◌++◌, if◌then◌else◌, Option, Some, None, MatchOption, option_map, IsTrue, refl, sym, ap, subst, ◌∙◌}
use Rattle.std.specs.declared.cmp.Ordering.{Ordering}
use Rattle.std.specs.declared.cmp.Ordering.TheVariants.{Less, Equal, Greater}
use Rattle.std.specs.Cmp.Lexicographic.{slice_cmp}
use Rattle.std.specs.Ordering.{nat_cmp, is_le, is_gt, ordering_reverse}
use Rattle.std.proofs.lemmas.Bool.{false≢true}
use Rattle.std.proofs.lemmas.Cmp.{nat_list_cmp_total, tied_itself, upto}
use Rattle.std.proofs.lemmas.List.Elements.{All-push, All-nil, All-weaker}
use Rattle.std.proofs.lemmas.List.{take_more}
use Rattle.std.proofs.lemmas.List.Folds.{list_any-append}
use Rattle.std.proofs.lemmas.Slice.Eq.{bytes_eq-Decides}
use Rattle.day_archive.specs.declared.row.DayRow.{DayRow}
use Rattle.day_archive.specs.Dates.{is_upto}
use Rattle.day_archive.specs.Kept.{is_of_day, has_day, IsLatest}
use Rattle.day_archive.specs.Steps.{later_of}

or_true : (b : Bool) → (b || true) ≡ true
or_true true = refl
or_true false = refl

pub upto_itself : (day : List ℕ) → is_upto day day ≡ true
upto_itself day = ap is_le (tied_itself nat_list_cmp_total day)

le_not_gt : (o : Ordering) → is_le o ≡ true → is_gt o ≡ false
le_not_gt Less e = refl
le_not_gt Equal e = refl
le_not_gt Greater e = absurd (false≢true e)

not_gt_le : (o : Ordering) → is_gt o ≡ false → is_le o ≡ true
not_gt_le Less e = refl
not_gt_le Equal e = refl
not_gt_le Greater e = absurd (false≢true (sym e))

reversed : (o : Ordering) → is_le (ordering_reverse o) ≡ false → is_le o ≡ true
reversed Less e = refl
reversed Equal e = refl
reversed Greater e = absurd (false≢true (sym e))

pub upto_after : (x y z : List ℕ) → is_upto x y ≡ true → is_upto y z ≡ true → is_upto x z ≡ true
upto_after x y z first second =
    not_gt_le (slice_cmp nat_cmp x z) (upto nat_list_cmp_total x y z (le_not_gt (slice_cmp nat_cmp x y) first) (le_not_gt (slice_cmp nat_cmp y z) second))

pub upto_other : (x y : List ℕ) → is_upto x y ≡ false → is_upto y x ≡ true
upto_other x y e = reversed (slice_cmp nat_cmp y x) (ap is_le (sym (nat_list_cmp_total.antisymm x y)) ∙ e)

of_its_day : (row : DayRow) → is_of_day row.day row ≡ true
of_its_day row = (bytes_eq-Decides row.day row.day).1 refl

has_last : (rows : List DayRow) (row : DayRow) → has_day row.day (rows ++ row ∷ []) ≡ true
has_last rows row =
    list_any-append (is_of_day row.day) rows (row ∷ []) ∙ ap (λ (b : Bool). has_day row.day rows || (b || false)) (of_its_day row) ∙ or_true (has_day row.day rows)

has_more : (day : List ℕ) (rows : List DayRow) (row : DayRow) → has_day day rows ≡ true → has_day day (rows ++ row ∷ []) ≡ true
has_more day rows row e =
    list_any-append (is_of_day day) rows (row ∷ []) ∙ ap (λ (b : Bool). b || has_day day (row ∷ [])) e

latest_step : (rows : List DayRow) (row : DayRow) (day : List ℕ) (b : Bool) → is_upto day row.day ≡ b → IsLatest rows day → IsLatest (rows ++ row ∷ []) (if b then row.day else day)
latest_step rows row day true e latest = record {
  there = has_last rows row;
  greatest = All-push (λ (r : DayRow). IsTrue (is_upto r.day row.day)) rows row (All-weaker (λ (r : DayRow). IsTrue (is_upto r.day day)) (λ (r : DayRow). IsTrue (is_upto r.day row.day)) (λ r up. upto_after r.day day row.day up e) rows latest.greatest) (upto_itself row.day);
}
latest_step rows row day false e latest = record {
  there = has_more day rows row latest.there;
  greatest = All-push (λ (r : DayRow). IsTrue (is_upto r.day day)) rows row latest.greatest (upto_other day row.day e);
}

pub latest_more : (rows : List DayRow) (row : DayRow) (latest : Option (List ℕ)) → MatchOption latest (rows ≡ []) (λ day. IsLatest rows day) → IsLatest (rows ++ row ∷ []) (later_of latest row.day)
latest_more rows row None none =
    subst (λ (rs : List DayRow). IsLatest (rs ++ row ∷ []) row.day) (sym none) (record {
      there = has_last [] row;
      greatest = All-push (λ (r : DayRow). IsTrue (is_upto r.day row.day)) [] row (All-nil (λ (r : DayRow). IsTrue (is_upto r.day row.day))) (upto_itself row.day);
    })
latest_more rows row (Some day) latest = latest_step rows row day (is_upto day row.day) refl latest

seen : (o : Option (Bor (List ℕ))) (A : Type 0) (P : List ℕ → Type 0) → MatchOption o A (λ d. P d.now) → MatchOption (option_map (λ (d : Bor (List ℕ)). d.now) o) A P
seen None A P none = none
seen (Some d) A P some = some

-- one row more of those that are walked
pub latest_after : (rows : List DayRow) (i : ℕ) (row : DayRow) (latest : Option (Bor (List ℕ))) (day : List ℕ) → i < length rows → row ≡ get_or rows i row
    → day ≡ later_of (option_map (λ (d : Bor (List ℕ)). d.now) latest) row.day → MatchOption latest (take i rows ≡ []) (λ d. IsLatest (take i rows) d.now) → IsLatest (take (i + 1) rows) day
latest_after rows i row latest day below is later invariant =
    let more : take (i + 1) rows ≡ take i rows ++ row ∷ [] = take_more rows i row below ∙ ap (λ (r : DayRow). take i rows ++ r ∷ []) (sym is) in
    let behind = latest_more (take i rows) row (option_map (λ (d : Bor (List ℕ)). d.now) latest) (seen latest (take i rows ≡ []) (λ d. IsLatest (take i rows) d) invariant) in
    subst (λ (rs : List DayRow). IsLatest rs day) (sym more) (subst (λ (d : List ℕ). IsLatest (take i rows ++ row ∷ []) d) (sym later) behind)
