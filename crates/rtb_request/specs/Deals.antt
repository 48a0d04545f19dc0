-- The deals of an impression (OpenRTB 2.6, section 3.2.12, Deal).
-- This project's own: that of `at` only 3, the fixed price, counts, and that USD is the one currency.
use Rattle.std.specs.Prelude.{ℕ, List, [], ◌∷◌, ◌++◌, Bool, ◌&&◌, not, if◌then◌else◌, codes}
use Rattle.adx_json.specs.Tree.{Tree}
use Rattle.adx_units.specs.Among.{is_among}
use Rattle.adx_json.specs.Rows.{Row, row, test, value, a_text, texts}
use Rattle.adx_json.specs.Values.{given, given_within, text_or_empty, is_text_if_given, is_absent_or, is_number_text}
use Rattle.rtb_request.specs.Amounts.{a_floor}
use Rattle.rtb_request.specs.declared.deal.Deal.{Deal}
use Rattle.rtb_request.specs.declared.fault.RequestFault.{RequestFault}
use Rattle.rtb_request.specs.declared.fault.RequestFault.TheVariants.{BadField}
use Rattle.rtb_request.specs.declared.fault.Field.TheVariants.{DealId, DealBidfloor, DealBidfloorcur, DealWseat, DealWadomain}

-- what a deal's object has to be, and the deal that it is
abbrev pub deal_rows : List (Row Deal RequestFault)
deal_rows =
    row given_within (codes "id") a_text (λ (d : Deal). d.id) (BadField DealId)
    ∷ row given_within (codes "bidfloor") a_floor (λ (d : Deal). d.floor) (BadField DealBidfloor)
    ∷ test given_within (codes "bidfloorcur") is_text_if_given (BadField DealBidfloorcur)
    ∷ row given_within (codes "wseat") texts (λ (d : Deal). d.wseat) (BadField DealWseat)
    ∷ row given_within (codes "wadomain") texts (λ (d : Deal). d.wadomain) (BadField DealWadomain)
    ∷ value given_within (codes "at") (is_number_text (codes "3")) (λ (d : Deal). d.fixed)
    ∷ []

-- the id of a deal's object
abbrev pub deal_id : Tree → List ℕ
deal_id t = text_or_empty (given (codes "id") t)

-- the floor is in USD, as it is where no currency is given
abbrev pub is_in_dollars : Tree → Bool
is_in_dollars t = is_absent_or (codes "USD") (given (codes "bidfloorcur") t)

-- of some deals after those with these ids the ones that count: in USD, and the first of them with its id
-- Example: gold in USD, gold in USD, yen in JPY, open: gold and open count. A deal in EUR and then one in USD of one id:
-- the second counts
abbrev pub that_count : List (List ℕ) → List Tree → List Tree
that_count before [] = []
that_count before (t ∷ ts) =
    if is_in_dollars t && not (is_among before (deal_id t)) then t ∷ that_count (before ++ deal_id t ∷ []) ts
    else that_count before ts
