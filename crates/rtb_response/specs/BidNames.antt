-- The names of a bid's members that its reader knows, in a table. Private: no public clause cites it.
use Rattle.std.specs.Prelude.{ℕ, suc, List, [], ◌∷◌, ◌++◌, codes, if◌then◌else◌}
use Rattle.std.specs.Str.{bytes_eq}
use Rattle.rtb_response.specs.Bodies.{own_names}

-- those that the exchange writes itself, and then the others that are read of a bid
abbrev pub bid_names : List (List ℕ)
bid_names = own_names ++ (codes "adid" ∷ codes "adomain" ∷ codes "cid" ∷ codes "cat" ∷ codes "dealid" ∷ codes "exp" ∷ [])

-- the place of a name in a table; behind its end where it isn't there
abbrev pub place_in : List (List ℕ) → List ℕ → ℕ
place_in [] name = 0
place_in (own ∷ names) name = if bytes_eq name own then 0 else suc (place_in names name)
