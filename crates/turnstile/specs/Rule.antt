-- The rule of the table, one record for each part. Only private clauses cite this file.
use Rattle.std.specs.Prelude.{◌≡◌, ◌⊎◌, ℕ, ◌+◌, ◌%◌, ◌^◌, ◌<◌, ◌≤◌, List, [], ◌∷◌, length, slice_index, Option, Some}
use mathlib.Core.Option.{some, none}
use mathlib.Core.Option as maybe
use mathlib.Core.List.{IsPrefix}
use lib.ListN.{get_elem?}
use Rattle.turnstile.specs.declared.words.TheConstants.{TICKETS, SERVED, FRONT, FAULTS, WORDS}
use Rattle.turnstile.specs.declared.limits.TheConstants.{MOST_OUT}
use Rattle.turnstile.specs.Places.{total, times, within}
use Rattle.atomic_table.specs.Table.{State}
use Rattle.turnstile.specs.declared.view.Role.{Role}
use Rattle.turnstile.specs.declared.view.Role.TheVariants.{First, Parted, Brief, Spent}
use Rattle.turnstile.specs.declared.view.Stage.{Stage}
use Rattle.turnstile.specs.declared.view.Stage.TheVariants.{Idle, Waits, Holds}
use Rattle.turnstile.specs.declared.view.SeatView.{SeatView}

abbrev pub has_ticket : Stage → ℕ
has_ticket Idle = 0
has_ticket (Waits t) = 1
has_ticket (Holds t) = 1

-- whether it is the first pass or one that was split from it
abbrev pub is_pass : Role → ℕ
is_pass (First n) = 1
is_pass Parted = 1
is_pass Brief = 0
is_pass Spent = 0

-- what the words show: the next ticket and the ticket that is served, modulo 2^64, the list's length and the faults.
-- The words of those who sleep may be anything
pub record Shows (words : List ℕ) (drawn served front faults : ℕ) : Type 0 where
  pub many : length words ≡ WORDS
  pub next : slice_index words TICKETS ≡ drawn % 2 ^ 64
  pub turn : slice_index words SERVED ≡ served % 2 ^ 64
  pub front_is : slice_index words FRONT ≡ front
  pub faults_are : slice_index words FAULTS ≡ faults

-- what only the rule knows: the whole list, the fixed part, the tickets served and drawn, whose ticket each is, and the value where it is at home
pub record Whole (T I F : Type 0) : Type 0 where
  pub history : List I
  pub opening : ℕ
  pub fixed : F
  pub faults : ℕ
  pub served : ℕ
  pub drawn : ℕ
  pub owner : ℕ → ℕ
  pub first : ℕ
  pub out : ℕ
  pub home : maybe.Option T

-- P holds of each view and its seat's number
abbrev pub Each : {V : Type 0} → (ℕ → V → Type 0) → List V → Type 0
Each {V} P views = (j : ℕ) (v : V) → get_elem? views j ≡ some v → P j v

abbrev pub slot_of : {T : Type 0} → maybe.Option T → maybe.Option (Option T)
slot_of none = none
slot_of (some x) = some (Some x)

module _ (served drawn : ℕ) (owner : ℕ → ℕ) where
  -- a ticket in hand was drawn and isn't served yet, and it is one seat's alone
  abbrev pub IsTicket : ℕ → Stage → Type 0
  IsTicket j Idle = Unit {0}
  IsTicket j (Waits t) = (served ≤ t) × (t < drawn) × (owner t ≡ j)
  IsTicket j (Holds t) = (served ≡ t) × (t < drawn) × (owner t ≡ j)

  pub record Tickets {I F N : Type 0} (views : List (SeatView I F N)) : Type 0 where
    pub each : Each (λ j v. IsTicket j v.stage) views
    pub all : total (λ v. has_ticket v.stage) views + served ≡ drawn

module _ {T I F N : Type 0} (history : List I) (faults : ℕ) (home : maybe.Option T) where
  -- the seat that has the value out knows the list and the faults, and the value isn't at home
  abbrev pub IsHolder : SeatView I F N → Type 0
  IsHolder v = (t : ℕ) → v.stage ≡ Holds t → (v.seen ≡ history) × (v.faults ≡ faults) × (home ≡ none)

  pub record Desk (items : T → List I) (count_faults : T → ℕ) (fixed_of : T → F) (fixed : F) (views : List (SeatView I F N)) : Type 0 where
    pub each : Each (λ j v. IsHolder v) views
    pub out : home ≡ none → (j : ℕ) × (v : SeatView I F N) × (t : ℕ) × (get_elem? views j ≡ some v) × (v.stage ≡ Holds t)
    pub at_home : (x : T) → home ≡ some x → (items x ≡ history) × (count_faults x ≡ faults) × (fixed_of x ≡ fixed)

-- a seat of meet has no ticket and nothing of its own, nor has one that was joined
abbrev pub IsPlain : {I F N : Type 0} → SeatView I F N → Type 0
IsPlain v = is_pass v.role ≡ 0 → (v.stage ≡ Idle) × (v.own ≡ []) × (v.raised ≡ 0)

-- one pass is the first, and knows how many are out; they are fewer than the tickets
pub record Passes (first out : ℕ) {I F N : Type 0} (views : List (SeatView I F N)) : Type 0 where
  pub each : Each (λ j v. IsPlain v × ((n : ℕ) → v.role ≡ First n → (j ≡ first) × (n ≡ out))) views
  pub all : total (λ v. is_pass v.role) views ≡ out + 1
  pub few : out ≤ MOST_OUT

-- a live view's list begins the whole one, and its numbers are no greater
pub record Knows {I F N : Type 0} (history : List I) (opening : ℕ) (fixed : F) (faults : ℕ) (v : SeatView I F N) : Type 0 where
  pub fixed_is : v.fixed ≡ Some fixed
  pub opening_is : v.opening ≡ opening
  pub seen : IsPrefix v.seen history
  pub told : IsPrefix v.told history
  pub known : v.known ≤ length history
  pub faults_known : v.faults ≤ faults
  pub opened : opening ≤ length v.seen
  pub own : (p : ℕ) → length v.seen ≤ p → length v.told ≤ p → times p v.own ≡ 0

abbrev pub Histories : {I F N : Type 0} → List I → ℕ → F → ℕ → List (SeatView I F N) → Type 0
Histories history opening fixed faults views = Each (λ j v. v.role ≡ Spent ⊎ Knows history opening fixed faults v) views

-- what the views raised is at most the faults
abbrev pub Faults : {I F N : Type 0} → ℕ → List (SeatView I F N) → Type 0
Faults faults views = total (λ v. v.raised) views ≤ faults

-- each place past the opening is one view's own, and once
abbrev pub Own : {I F N : Type 0} → ℕ → ℕ → List (SeatView I F N) → Type 0
Own opening front views = (p : ℕ) → total (λ v. times p v.own) views ≡ within opening front p

module _ {T I F N : Type 0} where
  pub record Kept (items : T → List I) (count_faults : T → ℕ) (fixed_of : T → F) (s : State (Option T) (SeatView I F N)) : Type 0 where
    pub whole : Whole T I F
    pub words : Shows s.words whole.drawn whole.served (length whole.history) whole.faults
    pub homes : s.homes ≡ slot_of whole.home ∷ []
    pub tickets : Tickets whole.served whole.drawn whole.owner s.views
    pub desk : Desk whole.history whole.faults whole.home items count_faults fixed_of whole.fixed s.views
    pub passes : Passes whole.first whole.out s.views
    pub histories : Histories whole.history whole.opening whole.fixed whole.faults s.views
    pub faults : Faults whole.faults s.views
    pub own : Own whole.opening (length whole.history) s.views

module _ {T I F N : Type 0} where
  abbrev pub first_view : (T → List I) → (T → ℕ) → (T → F) → T → SeatView I F N
  first_view items count_faults fixed x = record {
    role = First 0;
    stage = Idle;
    fixed = Some (fixed x);
    opening = length (items x);
    seen = items x;
    told = [];
    known = length (items x);
    faults = count_faults x;
    own = [];
    raised = 0;
    turns = [];
  }
