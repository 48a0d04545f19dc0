-- A request for bids (OpenRTB 2.6, section 3.2.1, BidRequest): what it says, or its first fault.
-- This project's own: the limits, the order of the tests, and that USD is the one currency.
use Rattle.std.specs.Prelude.{◌≡◌, List, [], ◌∷◌, length, map, Bool, ◌||◌, nat_le, ◌==◌, codes, Option, Some, None, Result}
use Rattle.std.specs.List.{list_any}
use Rattle.std.specs.Option.{unwrap_or}
use Rattle.adx_json.specs.Tree.{Tree, null}
use Rattle.adx_json.specs.Spelling.{spelling}
use Rattle.sha2.specs.Sha256.{sha256}
use Rattle.adx_json.specs.Rows.{Row, row, test, value_whole, depending, each, all_count, texts, first_fault, Says, Answers, Reads}
use Rattle.adx_json.specs.Values.{given_within, items_in, is_text, are_texts_if_given}
use Rattle.rtb_request.specs.Amounts.{an_id}
use Rattle.rtb_request.specs.Faults.{lacks_memory}
use Rattle.rtb_request.specs.Imps.{imp_rows, imp_id}
use Rattle.rtb_request.specs.declared.bid_request.BidRequest.{BidRequest}
use Rattle.rtb_request.specs.declared.bid_request.TheConstants.{MOST_IMPS}
use Rattle.rtb_request.specs.declared.imp.Imp.{Imp}
use Rattle.rtb_request.specs.declared.offered_imps.OfferedImps.{OfferedImps}
use Rattle.rtb_request.specs.declared.fault.Field.TheVariants.{Cur, Wseat, Bseat, Bcat, Badv}
use Rattle.rtb_request.specs.declared.fault.RequestFault.{RequestFault}
use Rattle.rtb_request.specs.declared.fault.RequestFault.TheVariants.{NoId, NoImp, TooManyImps, BadField}

-- the text USD
abbrev pub is_dollars : Tree → Bool
is_dollars t = is_text (codes "USD") (Some t)

-- the currencies leave USD: none is named, or USD is among them
abbrev pub leaves_dollars : List Tree → Bool
leaves_dollars ts = length ts == 0 || list_any is_dollars ts

-- a request's currencies leave USD
abbrev pub takes_dollars : Option Tree → Bool
takes_dollars o = leaves_dollars (items_in (given_within (codes "cur") o))

-- the impressions, as a field of what is read of the request
abbrev pub imps_row : {X : Type 0} → (X → List Imp) → Row X RequestFault
imps_row imps = depending (λ o. each given_within (codes "imp") (λ before. imp_rows (takes_dollars o) (map imp_id before)) all_count imps)

-- what a request's object has to be, and the request that it is
abbrev pub request_rows : List (Row BidRequest RequestFault)
request_rows =
    row given_within (codes "id") an_id (λ (r : BidRequest). r.id) NoId
    ∷ test given_within (codes "imp") (λ v. nat_le 1 (length (items_in v))) NoImp
    ∷ test given_within (codes "imp") (λ v. nat_le (length (items_in v)) MOST_IMPS) TooManyImps
    ∷ test given_within (codes "cur") are_texts_if_given (BadField Cur)
    ∷ row given_within (codes "wseat") texts (λ (r : BidRequest). r.wseat) (BadField Wseat)
    ∷ row given_within (codes "bseat") texts (λ (r : BidRequest). r.bseat) (BadField Bseat)
    ∷ row given_within (codes "bcat") texts (λ (r : BidRequest). r.bcat) (BadField Bcat)
    ∷ row given_within (codes "badv") texts (λ (r : BidRequest). r.badv) (BadField Badv)
    ∷ imps_row (λ (r : BidRequest). r.imps)
    -- the SHA-256 (FIPS 180-4) of its compact spelling
    ∷ value_whole (λ o. sha256 (spelling (unwrap_or o null))) (λ (r : BidRequest). r.digest)
    ∷ []

-- what a bidder reads of a request: the auction's id and the impressions
abbrev pub offered_rows : List (Row OfferedImps RequestFault)
offered_rows = row given_within (codes "id") an_id (λ (r : OfferedImps). r.id) NoId ∷ imps_row (λ (r : OfferedImps). r.imps) ∷ []

-- the first fault of a request's tree
abbrev pub request_fault : Tree → Option RequestFault
request_fault t = first_fault request_rows (Some t)

-- the tree has no fault, and is this request
abbrev pub IsRequest : Tree → BidRequest → Type 0
IsRequest t r = (request_fault t ≡ None) × Says request_rows (Some t) r

-- a request was read, or its first fault is answered
abbrev pub ReadsRequest : Tree → Result BidRequest RequestFault → Type 0
ReadsRequest t result = Reads lacks_memory request_rows t result

-- what it offers was read; its faults are those of the request
abbrev pub ReadsOffered : Tree → Result OfferedImps RequestFault → Type 0
ReadsOffered t result = Answers lacks_memory (request_fault t) (Says offered_rows (Some t)) result
