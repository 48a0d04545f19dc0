-- What a deal's object gives, and the ids that were met. Private: no public clause cites it.
use Rattle.std.specs.Prelude.{◌≡◌, ℕ, List, [], ◌∷◌, ◌++◌, Bool, true, false, ◌&&◌, ◌||◌, not, Option, Some, None}
use Rattle.std.specs.Str.{bytes_eq}
use Rattle.adx_json.specs.Tree.{Tree}
use Rattle.adx_units.specs.Among.{is_among}
use Rattle.adx_json.specs.Rows.{Says}
use Rattle.rtb_request.specs.Deals.{deal_rows, deal_id, is_in_dollars}
use Rattle.rtb_request.specs.declared.deal.Deal.{Deal}

-- the set has these ids, in any order
abbrev pub AreIds : List (List ℕ) → List (List ℕ) → Type 0
AreIds set ids = (id : List ℕ) → is_among set id ≡ is_among ids id

-- a deal counts after those with these ids
abbrev pub counts : List (List ℕ) → Tree → Bool
counts ids t = is_in_dollars t && not (is_among ids (deal_id t))

-- the deal that an object is, where it counts
abbrev pub GivesDeal : List (List ℕ) → Tree → Option Deal → Type 0
GivesDeal ids t None = counts ids t ≡ false
GivesDeal ids t (Some d) = (counts ids t ≡ true) × Says deal_rows (Some t) d

-- the ids with that of a deal
abbrev pub HasIdOf : List (List ℕ) → Option Deal → List (List ℕ) → Type 0
HasIdOf old None new = new ≡ old
HasIdOf old (Some d) new = (other : List ℕ) → is_among new other ≡ (bytes_eq d.id other || is_among old other)

-- the deals with that one, where there is one
abbrev pub IsPut : List Deal → Option Deal → List Deal → Type 0
IsPut old None new = new ≡ old
IsPut old (Some d) new = new ≡ old ++ d ∷ []
