-- The pairs of seat and cid of campaigns. This project's own.
use Rattle.std.specs.Prelude.{ℕ, List, [], ◌∷◌, Bool, true, ◌&&◌, not, nat_lt, ◌==◌}
use Rattle.std.specs.List.{list_all, list_any}
use Rattle.std.specs.Str.{bytes_eq}
use Rattle.deal_floor.specs.declared.campaign.Campaign.{Campaign}

-- a seat, and the id of a campaign
abbrev pub Pair : Type 0
Pair = List ℕ × List ℕ

-- seat with seat and cid with cid
abbrev pub same_pair : Pair → Pair → Bool
same_pair p q = bytes_eq p.0 q.0 && bytes_eq p.1 q.1

-- one of the pairs is this one
abbrev pub is_pair_among : List Pair → Pair → Bool
is_pair_among ps p = list_any (λ q. same_pair q p) ps

-- no two of the pairs are the same
abbrev pub all_pairs_distinct : List Pair → Bool
all_pairs_distinct [] = true
all_pairs_distinct (p ∷ ps) = not (list_any (same_pair p) ps) && all_pairs_distinct ps

-- the seat and the cid of a campaign
abbrev pub pair_of : Campaign → Pair
pair_of c = (c.seat, c.cid)

-- a campaign has this seat and this cid
abbrev pub has_pair : List ℕ → List ℕ → Campaign → Bool
has_pair seat cid c = bytes_eq c.seat seat && bytes_eq c.cid cid

-- the campaign is that bidder's, with that seat and cid
abbrev pub is_campaign : ℕ → List ℕ → List ℕ → Campaign → Bool
is_campaign bidder seat cid c = c.bidder == bidder && has_pair seat cid c

-- each campaign's bidder is one of so many
abbrev pub have_bidders : ℕ → List Campaign → Bool
have_bidders bidders cs = list_all (λ (c : Campaign). nat_lt c.bidder bidders) cs
