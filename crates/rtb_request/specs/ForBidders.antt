-- What bidders are asked: the request as it came, but for the members of an auction that is held again.
-- This project's own: each sale is first price (`at` 1 of BidRequest) in USD, and of a deal's `at` only 3, the fixed
-- price, stays (OpenRTB 2.6, sections 3.2.1 and 3.2.12).
use Rattle.std.specs.Prelude.{ℕ, List, codes, if◌then◌else◌}
use Rattle.std.specs.Str.{bytes_eq}
use Rattle.adx_json.specs.Tree.{Tree, null, boolean, number, text, list, object, Items, no_items, item, Members, no_members, member}
use Rattle.adx_json.specs.Named.{with_member}
use Rattle.adx_json.specs.Values.{given, is_number_text}

-- the members, with a change of the value under a name
abbrev pub changed : List ℕ → (Tree → Tree) → Members → Members
changed name f no_members = no_members
changed name f (member n t ms) = member n (if bytes_eq n name then f t else t) (changed name f ms)

-- an object with a change of that member; what is no object stays
abbrev pub with_changed : List ℕ → (Tree → Tree) → Tree → Tree
with_changed name f null = null
with_changed name f (boolean b) = boolean b
with_changed name f (number n) = number n
with_changed name f (text t) = text t
with_changed name f (list ts) = list ts
with_changed name f (object ms) = object (changed name f ms)

-- every item, changed
abbrev pub each : (Tree → Tree) → Items → Items
each f no_items = no_items
each f (item t ts) = item (f t) (each f ts)

-- a list with a change of each item; what is no list stays
abbrev pub with_each : (Tree → Tree) → Tree → Tree
with_each f null = null
with_each f (boolean b) = boolean b
with_each f (number n) = number n
with_each f (text t) = text t
with_each f (list ts) = list (each f ts)
with_each f (object ms) = object ms

-- the number 1
abbrev pub one : Tree
one = number (codes "1")

-- a deal of a fixed price stays, and another is for the price that is bid
abbrev pub deal_for_bidders : Tree → Tree
deal_for_bidders t = if is_number_text (codes "3") (given (codes "at") t) then t else with_member (codes "at") one t

-- the deals of an impression as bidders are asked for them
abbrev pub pmp_for_bidders : Tree → Tree
pmp_for_bidders t = with_changed (codes "deals") (with_each deal_for_bidders) t

-- an impression as bidders are asked for it: with the deals that count
abbrev pub imp_for_bidders : Tree → Tree
imp_for_bidders t = with_changed (codes "pmp") pmp_for_bidders t

-- the list of currencies that bidders are sent
abbrev pub dollars_alone : Tree
dollars_alone = list (item (text (codes "USD")) no_items)

-- the request with `at` 1 and `cur` ["USD"], and with its deals as bidders see them
abbrev pub request_for_bidders : Tree → Tree
request_for_bidders t =
    with_member (codes "cur") dollars_alone
    (with_member (codes "at") one (with_changed (codes "imp") (with_each imp_for_bidders) t))
