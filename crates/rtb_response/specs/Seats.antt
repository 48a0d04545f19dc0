-- The bids of a seat's object, as they are counted. Private: no public clause cites it.
use Rattle.std.specs.Prelude.{List, Bool, codes}
use Rattle.adx_json.specs.Tree.{Tree}
use Rattle.adx_json.specs.Values.{given, items_in}
use Rattle.rtb_response.specs.Answers.{is_list}

-- the bids of a seat, as they are written
abbrev pub bids_in : Tree → List Tree
bids_in seat = items_in (given (codes "bid") seat)

-- an object with a list of bids
abbrev pub has_bids : Tree → Bool
has_bids seat = is_list (given (codes "bid") seat)
