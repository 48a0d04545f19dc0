-- The impressions of a request (OpenRTB 2.6, sections 3.2.4 Imp and 3.2.11 Pmp).
-- This project's own: that USD is the one currency, that an impression with a `qty` isn't sold, and that of
-- `private_auction` the texts 0 and 1 alone are of its form.
use Rattle.std.specs.Prelude.{ℕ, List, [], ◌∷◌, Bool, true, is_some, ◌&&◌, ◌||◌, not, codes, Option, Some, None}
use Rattle.adx_json.specs.Tree.{Tree}
use Rattle.adx_units.specs.Among.{is_among}
use Rattle.adx_json.specs.Rows.{form, Row, row, test, value, test_whole, value_whole, within, each}
use Rattle.adx_json.specs.Values.{given, given_within, text_or_empty, is_text_if_given, is_list_if_given, is_object_if_given, is_absent_or, is_number_text}
use Rattle.rtb_request.specs.Amounts.{a_floor, seconds_in, an_id}
use Rattle.rtb_request.specs.Deals.{deal_rows, that_count}
use Rattle.rtb_request.specs.declared.imp.Imp.{Imp}
use Rattle.rtb_request.specs.declared.fault.RequestFault.{RequestFault}
use Rattle.rtb_request.specs.declared.fault.RequestFault.TheVariants.{RepeatedImp, BadField}
use Rattle.rtb_request.specs.declared.fault.Field.TheVariants.{ImpId, ImpBidfloor, ImpBidfloorcur, ImpPmp, PmpPrivateAuction, PmpDeals}

-- the id of an impression's object
abbrev pub imp_id : Tree → List ℕ
imp_id t = text_or_empty (given (codes "id") t)

-- the same where the object may be absent
abbrev pub id_within : Option Tree → List ℕ
id_within o = text_or_empty (given_within (codes "id") o)

-- absent, or the number 0 or 1
abbrev pub is_zero_or_one_if_given : Option Tree → Bool
is_zero_or_one_if_given None = true
is_zero_or_one_if_given (Some t) = is_number_text (codes "0") (Some t) || is_number_text (codes "1") (Some t)

-- in a request that takes dollars or doesn't: the floor is in USD, and no quantity is given
abbrev pub is_sold : Bool → Option Tree → Bool
is_sold dollars o =
    dollars && is_absent_or (codes "USD") (given_within (codes "bidfloorcur") o) && not (is_some (given_within (codes "qty") o))

-- what an impression's object has to be after those with these ids, in a request that takes dollars or doesn't, and the
-- impression that it is
abbrev pub imp_rows : Bool → List (List ℕ) → List (Row Imp RequestFault)
imp_rows dollars ids =
    row given_within (codes "id") an_id (λ (i : Imp). i.id) (BadField ImpId)
    ∷ test_whole (λ o. not (is_among ids (id_within o))) (λ o. RepeatedImp (id_within o))
    ∷ row given_within (codes "bidfloor") a_floor (λ (i : Imp). i.floor) (BadField ImpBidfloor)
    ∷ test given_within (codes "bidfloorcur") is_text_if_given (BadField ImpBidfloorcur)
    ∷ test given_within (codes "pmp") is_object_if_given (BadField ImpPmp)
    ∷ within given_within (codes "pmp") (row given_within (codes "private_auction") (form is_zero_or_one_if_given (is_number_text (codes "1")))
    (λ (i : Imp). i.private_only) (BadField PmpPrivateAuction))
    ∷ within given_within (codes "pmp") (test given_within (codes "deals") is_list_if_given (BadField PmpDeals))
    ∷ within given_within (codes "pmp") (each given_within (codes "deals") (λ others. deal_rows) (that_count []) (λ (i : Imp). i.deals))
    ∷ value given_within (codes "exp") seconds_in (λ (i : Imp). i.exp)
    ∷ value_whole (is_sold dollars) (λ (i : Imp). i.sold)
    ∷ []
