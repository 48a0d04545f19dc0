use Rattle.std.proofs.Common.{◌≡◌, ◌++◌, drop}
use Rattle.adx_json.specs.View.{trees_of}
use Rattle.adx_json.specs.Values.{texts_among}
use Rattle.adx_json.proofs.texts.texts_in.Given as goal

-- the texts so far and those among what is left are those of all items
abbrev pub invariant-loop-item : goal.invariant-loop-item
invariant-loop-item l =
    l.texts.items ++ texts_among (trees_of (drop l.item-index l.item-items)) ≡ texts_among (trees_of l.item-items)
