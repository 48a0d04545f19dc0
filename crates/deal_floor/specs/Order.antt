-- Private, cited by the campaigns' invariant and by its helpers alone: their places in the order of seat and cid.
use Rattle.std.specs.Prelude.{◌≡◌, ℕ, ◌<◌, ◌≤◌, List, [], length, slice_index_or}
use Rattle.std.specs.Cmp.Lexicographic.{slice_cmp}
use Rattle.std.specs.Ordering.{nat_cmp, on, then_cmp}
use Rattle.std.specs.declared.cmp.Ordering.{Ordering}
use Rattle.std.specs.declared.cmp.Ordering.TheVariants.{Less, Equal, Greater}
use Rattle.deal_floor.specs.Pairs.{Pair}

abbrev pub seat_of : Pair → List ℕ
seat_of p = p.0

abbrev pub cid_of : Pair → List ℕ
cid_of p = p.1

-- by the seat, and then by the cid, each byte by byte
abbrev pub pair_cmp : Pair → Pair → Ordering
pair_cmp = then_cmp (on seat_of (slice_cmp nat_cmp)) (on cid_of (slice_cmp nat_cmp))

-- the pair of the campaign at a place
abbrev pub pair_at : List Pair → ℕ → Pair
pair_at pairs place = slice_index_or pairs place ([], [])

-- the place that stands i-th in an order
abbrev pub place_at : List ℕ → ℕ → ℕ
place_at order i = slice_index_or order i 0

-- the places rise by their pairs, each is a campaign's, and each campaign's stands there
pub record IsOrder (pairs : List Pair) (order : List ℕ) : Type 0 where
  pub rising : (i j : ℕ) → i < j → j < length order → pair_cmp (pair_at pairs (place_at order i)) (pair_at pairs (place_at order j)) ≡ Less
  pub below : (i : ℕ) → i < length order → place_at order i < length pairs
  pub covers : (place : ℕ) → place < length pairs → (i : ℕ) × (i < length order) × (place_at order i ≡ place)

-- the i-th place has the pair
pub record IsFound (pairs : List Pair) (order : List ℕ) (pair : Pair) (i : ℕ) : Type 0 where
  pub in_range : i < length order
  pub tied : pair_cmp (pair_at pairs (place_at order i)) pair ≡ Equal

-- lesser pairs stand before i, and greater ones from it on
pub record IsGap (pairs : List Pair) (order : List ℕ) (pair : Pair) (i : ℕ) : Type 0 where
  pub in_range : i ≤ length order
  pub less_before : (j : ℕ) → j < i → pair_cmp (pair_at pairs (place_at order j)) pair ≡ Less
  pub greater_after : (j : ℕ) → i ≤ j → j < length order → pair_cmp (pair_at pairs (place_at order j)) pair ≡ Greater
