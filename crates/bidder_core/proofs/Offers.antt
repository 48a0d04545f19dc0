-- The bid for an impression at a price, as far as there may be one more.
use Rattle.std.proofs.Common.{◌≡◌, ℕ, ◌<◌, ◌≤◌, List, [], ◌∷◌, ◌++◌, length, take, cond, ap, ◌∙◌, arith}
use Rattle.std.proofs.lemmas.Bool.{le-leb, lt-leb}
use Rattle.std.proofs.lemmas.List.{length-map, map-append}
use Rattle.adx_json.specs.Tree.{Tree}
use Rattle.adx_json.specs.View.{tree_of, trees_of}
use Rattle.adx_json.specs.declared.tree.Json.{Json}
use Rattle.rtb_request.specs.declared.imp.Imp.{Imp}
use Rattle.bidder_core.specs.Answers.{bid_tree, offered}
use Rattle.bidder_core.specs.declared.price_line.Price.{Price}
use Rattle.bidder_core.specs.declared.price_line.PriceLine.{PriceLine}
use Rattle.bidder_core.proofs.Capped.{at_most, full, none_more, one_more}

module _ (n : ℕ) (items : List Json) where
  pub count_is : length (trees_of items) ≡ length items
  count_is = length-map items tree_of

  pub none_added : length items ≤ n → trees_of items ≡ take n (trees_of items ++ [])
  none_added few = none_more n (trees_of items) (omega (arith, few, count_is))

  pub no_room : (ts : List Tree) → length items ≡ n → trees_of items ≡ take n (trees_of items ++ ts)
  no_room ts all = full n (trees_of items) ts (count_is ∙ all)

  pub one_added : (new : List Json) (j : Json) (t : Tree) → length items < n → new ≡ items ++ j ∷ [] → tree_of j ≡ t
      → trees_of new ≡ take n (trees_of items ++ t ∷ [])
  one_added new j t few is made =
      ap trees_of is ∙ map-append tree_of items (j ∷ []) ∙ ap (λ u. trees_of items ++ u ∷ []) made
      ∙ one_more n (trees_of items) t (omega (arith, few, count_is))

module _ (line : PriceLine) (imp_place : ℕ) (imp : Imp) (place : ℕ) (p : Price) where
  abbrev bid : List Tree
  bid = bid_tree line imp_place imp place p ∷ []

  pub below_floor : p.price.0 < imp.floor.0 → offered line imp_place imp (place, p) ≡ []
  below_floor low = ap (λ b. cond b bid []) (lt-leb imp.floor.0 p.price.0 low)

  pub at_floor : imp.floor.0 ≤ p.price.0 → offered line imp_place imp (place, p) ≡ bid_tree line imp_place imp place p ∷ []
  at_floor high = ap (λ b. cond b bid []) (le-leb imp.floor.0 p.price.0 high)

pub few_after : (n : ℕ) (items : List Json) (ts : List Tree) → trees_of items ≡ take n ts → length items ≤ n
few_after n items ts is = omega (arith, at_most n ts (trees_of items) is, count_is n items)
