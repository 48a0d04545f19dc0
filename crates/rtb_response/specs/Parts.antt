-- Parts of the exchange's answer and of a body as they are written one behind the other. Private: no public clause
-- cites it.
use Rattle.std.specs.Prelude.{ℕ, List, [], ◌∷◌, ◌++◌, Bool, true, false, if◌then◌else◌, codes, decimal}
use Rattle.adx_json.specs.Tree.{Tree, Items, Members}
use Rattle.adx_units.specs.Money.{price_text}
use Rattle.rtb_response.specs.declared.notice.Notice.{Notice}
use Rattle.rtb_response.specs.declared.notice.Notice.TheVariants.{Win, Bill, Loss}
use Rattle.rtb_response.specs.declared.sold.Sold.{Sold}
use Rattle.adx_units.specs.JsonTexts.{text_spelling}
use Rattle.adx_json.specs.Spelling.{spelling, items_spelling, more_items_spelling, members_spelling, more_members_spelling}

-- one member behind its comma, but for the first
abbrev pub one_member : Bool → List ℕ × Tree → List ℕ
one_member first m = (if first then [] else 44 ∷ []) ++ (text_spelling m.0 ++ 58 ∷ spelling m.1)

-- members, the first of all or behind others
abbrev pub left_members : Bool → Members → List ℕ
left_members true ms = members_spelling ms
left_members false ms = more_members_spelling ms

-- items, the first of all or behind others
abbrev pub left_items : Bool → Items → List ℕ
left_items true ts = items_spelling ts
left_items false ts = more_items_spelling ts

-- the members of an award's bid that stand before its body's
abbrev pub own_members : Sold → List ℕ
own_members s =
    text_spelling (codes "id") ++ 58 ∷ (text_spelling (decimal s.award)
    ++ 44 ∷ (text_spelling (codes "impid") ++ 58 ∷ (text_spelling s.imp
    ++ 44 ∷ (text_spelling (codes "price") ++ 58 ∷ price_text s.charge.0))))

-- the name of the member that has the URL of a notice, between its comma and its colon
abbrev pub front_of : Notice → List ℕ
front_of Win = codes ",\"nurl\":"
front_of Bill = codes ",\"burl\":"
front_of Loss = codes ",\"lurl\":"
