-- What bidders are asked, part by part and member by member, as it is written. Private: no public clause cites it.
use Rattle.std.specs.Prelude.{ℕ, List, Bool, true, false, codes, ◌&&◌, not, if◌then◌else◌}
use Rattle.std.specs.Str.{bytes_eq}
use Rattle.adx_json.specs.Tree.{Tree, null, boolean, number, text, list, object, Items, no_items, item, Members, no_members, member}
use Rattle.adx_json.specs.Values.{given, is_number_text}
use Rattle.rtb_request.specs.ForBidders.{one, dollars_alone}
use Rattle.rtb_request.specs.declared.asked.Part.{Part}
use Rattle.rtb_request.specs.declared.asked.Part.TheVariants as parts
use Rattle.rtb_request.specs.declared.asked.Change.{Change}
use Rattle.rtb_request.specs.declared.asked.Change.TheVariants as changes

-- the part that a list's item is
abbrev pub item_part : Part → Part
item_part parts.Request = parts.Other
item_part parts.Imps = parts.Imp
item_part parts.Imp = parts.Other
item_part parts.Pmp = parts.Other
item_part parts.Deals = parts.Deal
item_part parts.Deal = parts.Other
item_part parts.Other = parts.Other

-- the part that an object's member is
abbrev pub member_part : List ℕ → Part → Part
member_part name parts.Request = if bytes_eq name (codes "imp") then parts.Imps else parts.Other
member_part name parts.Imps = parts.Other
member_part name parts.Imp = if bytes_eq name (codes "pmp") then parts.Pmp else parts.Other
member_part name parts.Pmp = if bytes_eq name (codes "deals") then parts.Deals else parts.Other
member_part name parts.Deals = parts.Other
member_part name parts.Deal = parts.Other
member_part name parts.Other = parts.Other

-- whether an object of that part gets `at` 1: the request, and a deal that isn't of a fixed price
abbrev pub gets_at : Part → Tree → Bool
gets_at parts.Request t = true
gets_at parts.Imps t = false
gets_at parts.Imp t = false
gets_at parts.Pmp t = false
gets_at parts.Deals t = false
gets_at parts.Deal t = not (is_number_text (codes "3") (given (codes "at") t))
gets_at parts.Other t = false

-- whether it gets `cur` ["USD"]: the request alone
abbrev pub gets_cur : Part → Bool
gets_cur parts.Request = true
gets_cur parts.Imps = false
gets_cur parts.Imp = false
gets_cur parts.Pmp = false
gets_cur parts.Deals = false
gets_cur parts.Deal = false
gets_cur parts.Other = false

-- what becomes of the member with that name, where `at`, `cur` are still to come
abbrev pub change_of : Bool → Bool → List ℕ → Change
change_of at cur name = if at && bytes_eq name (codes "at") then changes.FirstPrice else (if cur && bytes_eq name (codes "cur") then changes.Dollars else changes.Stays)

abbrev pub at_after : Change → Bool → Bool
at_after changes.FirstPrice b = false
at_after changes.Dollars b = b
at_after changes.Stays b = b

abbrev pub cur_after : Change → Bool → Bool
cur_after changes.FirstPrice b = b
cur_after changes.Dollars b = false
cur_after changes.Stays b = b

-- the value with that change
abbrev pub changed_value : Change → Tree → Tree
changed_value changes.FirstPrice t = one
changed_value changes.Dollars t = dollars_alone
changed_value changes.Stays t = t

-- what comes last, where it didn't come before
abbrev pub coming_cur : Bool → Members
coming_cur cur = if cur then member (codes "cur") dollars_alone no_members else no_members

abbrev pub coming : Bool → Bool → Members
coming at cur = if at then member (codes "at") one (coming_cur cur) else coming_cur cur

abbrev mutual
  pub asked : Part → Tree → Tree
  asked p null = null
  asked p (boolean b) = boolean b
  asked p (number n) = number n
  asked p (text t) = text t
  asked p (list ts) = list (items_asked (item_part p) ts)
  asked p (object ms) = object (members_asked p (gets_at p (object ms)) (gets_cur p) ms)

  pub items_asked : Part → Items → Items
  items_asked p no_items = no_items
  items_asked p (item t ts) = item (asked p t) (items_asked p ts)

  pub members_asked : Part → Bool → Bool → Members → Members
  members_asked p at cur no_members = coming at cur
  members_asked p at cur (member n t ms) =
      member n (changed_value (change_of at cur n) (asked (member_part n p) t)) (members_asked p (at_after (change_of at cur n) at) (cur_after (change_of at cur n) cur) ms)
