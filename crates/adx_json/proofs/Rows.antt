-- The spelling of items and members, one after another.
use Rattle.std.proofs.Common.{ℕ, List, Bool, true, false}
use Rattle.adx_json.specs.Tree.{Items, Members}
use Rattle.adx_json.specs.Spelling.{items_spelling, more_items_spelling, members_spelling, more_members_spelling}

-- the items that are left, first or after others
abbrev pub left_items : Bool → Items → List ℕ
left_items true ts = items_spelling ts
left_items false ts = more_items_spelling ts

abbrev pub left_members : Bool → Members → List ℕ
left_members true ms = members_spelling ms
left_members false ms = more_members_spelling ms
