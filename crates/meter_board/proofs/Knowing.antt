-- The steps of readers and of the board keep what is known.
use Rattle.std.proofs.Common.{◌≡◌, ℕ, ◌≢◌, ◌⊎◌, List, set, Option, Some, None, refl, sym, ap, ◌∙◌, ⊎_elim}
use mathlib.Core.Option.{some}
use lib.ListN.{get_elem?}
use Rattle.crossbeam_utils.specs.Register.{Admits, TurnsAt, Forks, Merges}
use Rattle.atomic_table.proofs.Lists.{at_set, at_snoc}
use Rattle.logbook.specs.Pages.{Book}
use Rattle.logbook.specs.declared.tokens.Seen.{Seen}
use Rattle.day_rules.specs.declared.step.MeterStep.{MeterStep}
use Rattle.meter_board.specs.declared.book.Law.{Law}
use Rattle.meter_board.specs.declared.shown.Shown.{Shown}
use Rattle.meter_board.specs.Knowing.{book_of, IsKnown, Looks, Shows}

abbrev T : Type 0
T = Seen MeterStep (Unit {0}) Law

abbrev or_else : {A : Type 0} → A → Option A → A
or_else d None = d
or_else d (Some x) = x

set_known : (x y : Shown) (views : List (Option T)) (seat : ℕ) (v : Option T) → y.seen.book ≡ x.seen.book → IsKnown x views → ((t : T) → v ≡ Some t → t.book ≡ y.seen.book) → IsKnown y (set views seat v)
set_known x y views seat v same h own j n e = ⊎_elim (λ (t : (j ≡ seat) × (v ≡ Some n)). own n t.1) (λ (t : (j ≢ seat) × (get_elem? views j ≡ some (Some n))). h j n t.1 ∙ sym same) (at_set views seat j v (Some n) e)

found : (x : Shown) (v : Option T) → ((t : T) → v ≡ Some t → t.book ≡ x.seen.book) → (b : Book) → book_of v ≡ Some b → x.seen.book ≡ b
found x None own b e = absurd (cc e)
found x (Some t) own b e = sym (own t refl) ∙ ap (or_else b) e

pub admits : Admits IsKnown None
admits x views h seat n at = ⊎_elim (h seat n) (λ (e : None ≡ Some n). absurd (cc e)) (at_snoc views None (Some n) seat at)

pub looks : (seat : ℕ) (v : Option T) (x : Shown) → TurnsAt IsKnown seat v x x Looks
looks seat v x views h at =
    let own : (t : T) → v ≡ Some t → t.book ≡ x.seen.book = λ n e. h seat n (at ∙ ap some e) in
    (v, set_known x x views seat v refl h own, (refl, found x v own))

pub shows : (seat : ℕ) (v : Option T) (x y : Shown) → y.seen.book ≡ x.seen.book → TurnsAt IsKnown seat v x y Shows
shows seat v x y same views h at =
    (Some y.seen, set_known x y views seat (Some y.seen) same h (λ n e. sym (ap (λ (o : Option T). (or_else n o).book) e)), refl)

pub forks : (seat : ℕ) (v : Option T) → Forks IsKnown seat v v v
forks seat v x views h at j n e =
    let own : (t : T) → v ≡ Some t → t.book ≡ x.seen.book = λ n e. h seat n (at ∙ ap some e) in
    ⊎_elim (set_known x x views seat v refl h own j n) (λ (same : v ≡ Some n). own n same) (at_snoc (set views seat v) v (Some n) j e)

pub merges : (seat : ℕ) (v : Option T) (other : ℕ) (w : Option T) → Merges IsKnown seat v other w w None
merges seat v other w x views h at apart there =
    let own : (t : T) → w ≡ Some t → t.book ≡ x.seen.book = λ n e. ⊎_elim
    (λ (t : (other ≡ seat) × (w ≡ w)). absurd (apart t.0))
    (λ (t : (other ≢ seat) × (get_elem? views other ≡ some w)). h other n (t.1 ∙ ap some e))
    (at_set views seat other w w there) in
    set_known x x (set views seat w) other None refl (set_known x x views seat w refl h own) (λ n e. absurd (cc e))
