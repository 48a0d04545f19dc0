-- What stays of each part of the rule where one view changes, and no more than that.
use Rattle.std.proofs.Common.{◌≡◌, ◌≢◌, ◌⊎◌, ℕ, List, set, sym, refl, ap, ◌∙◌, ⊎_elim, inl, inr, arith}
use mathlib.Core.Option.{none, some}
use mathlib.Core.Option as maybe
use lib.ListN.{get_elem?}
use Rattle.turnstile.specs.declared.view.Role.{Role}
use Rattle.turnstile.specs.declared.view.Role.TheVariants.{First, Parted, Brief, Spent}
use Rattle.turnstile.specs.declared.view.Stage.{Stage}
use Rattle.turnstile.specs.declared.view.Stage.TheVariants.{Idle, Waits, Holds}
use Rattle.turnstile.specs.declared.view.SeatView.{SeatView}
use Rattle.turnstile.specs.Rule.{is_pass, IsPlain, Passes, Knows, Histories, Faults, Own}
use Rattle.turnstile.specs.Places.{times}
use Rattle.turnstile.proofs.Views.{each_set, total_same}

-- 0 where no ticket is in hand, 1 where one waits, 2 where the value is in hand
abbrev pub rank : Stage → ℕ
rank Idle = 0
rank (Waits t) = 1
rank (Holds t) = 2

abbrev pub role_rank : Role → ℕ
role_rank (First n) = 0
role_rank Parted = 1
role_rank Brief = 2
role_rank Spent = 3

pub home_cases : {A : Type 0} (h : maybe.Option A) → (h ≡ none) ⊎ ((x : A) × (h ≡ some x))
home_cases none = inl refl
home_cases (some x) = inr (x, refl)

pub pass_or_not : (r : Role) → (is_pass r ≡ 0) ⊎ (is_pass r ≡ 1)
pass_or_not (First n) = inr refl
pass_or_not Parted = inr refl
pass_or_not Brief = inl refl
pass_or_not Spent = inl refl

module _ {I F N : Type 0} where
  abbrev Ordered : ℕ → ℕ → ℕ → SeatView I F N → Type 0
  Ordered first out j v = IsPlain v × ((n : ℕ) → v.role ≡ First n → (j ≡ first) × (n ≡ out))

  -- a view that is a pass's is live
  pub lives : (history : List I) (opening : ℕ) (fixed : F) (faults : ℕ) (v : SeatView I F N) → is_pass v.role ≡ 1 → (v.role ≡ Spent ⊎ Knows history opening fixed faults v) → Knows history opening fixed faults v
  lives history opening fixed faults v pass h =
      ⊎_elim (λ (e : v.role ≡ Spent). absurd (let z = ap is_pass e in omega arith)) (λ (k : Knows history opening fixed faults v). k) h

  -- the passes, where one view changes and keeps its role
  pub same_passes : (first out : ℕ) (vs : List (SeatView I F N)) (i : ℕ) (v v' : SeatView I F N) → get_elem? vs i ≡ some v → is_pass v.role ≡ 1 → v'.role ≡ v.role → Passes first out vs → Passes first out (set vs i v')
  same_passes first out vs i v v' at pass same p = record {
    each = each_set (Ordered first out) (Ordered first out) vs i v' p.each (λ j u ne a k. k)
        ((λ z. absurd (let e = ap is_pass same in omega arith)), λ n e. (p.each i v at).1 n (sym same ∙ e));
    all = total_same (λ (u : SeatView I F N). is_pass u.role) vs i v v' at (ap is_pass same) ∙ p.all;
    few = p.few;
  }

  -- what the views know, where one changes
  pub same_histories : (history : List I) (opening : ℕ) (fixed : F) (faults : ℕ) (vs : List (SeatView I F N)) (i : ℕ) (v' : SeatView I F N)
      → Histories history opening fixed faults vs → Knows history opening fixed faults v' → Histories history opening fixed faults (set vs i v')
  same_histories history opening fixed faults vs i v' h k =
      each_set (λ _ u. u.role ≡ Spent ⊎ Knows history opening fixed faults u) (λ _ u. u.role ≡ Spent ⊎ Knows history opening fixed faults u) vs i v' h (λ j u ne a x. x) (inr k)

  pub same_faults : (faults : ℕ) (vs : List (SeatView I F N)) (i : ℕ) (v v' : SeatView I F N) → get_elem? vs i ≡ some v → v'.raised ≡ v.raised → Faults faults vs → Faults faults (set vs i v')
  same_faults faults vs i v v' at same h = let e = total_same (λ (u : SeatView I F N). u.raised) vs i v v' at same in omega arith

  pub same_own : (opening front : ℕ) (vs : List (SeatView I F N)) (i : ℕ) (v v' : SeatView I F N) → get_elem? vs i ≡ some v → v'.own ≡ v.own → Own opening front vs → Own opening front (set vs i v')
  same_own opening front vs i v v' at same h p = total_same (λ (u : SeatView I F N). times p u.own) vs i v v' at (ap (times p) same) ∙ h p

  abbrev pub stage_at : maybe.Option (SeatView I F N) → Stage
  stage_at none = Idle
  stage_at (some u) = u.stage

  -- two views at places of different stages are at different places
  pub apart : (vs : List (SeatView I F N)) (i j : ℕ) (v u : SeatView I F N) → get_elem? vs i ≡ some v → get_elem? vs j ≡ some u → rank v.stage ≢ rank u.stage → j ≢ i
  apart vs i j v u at there ne e = ne (ap (λ (o : maybe.Option (SeatView I F N)). rank (stage_at o)) (sym at ∙ ap (get_elem? vs) (sym e) ∙ there))
