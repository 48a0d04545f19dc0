-- Private, cited by helpers alone: the row that a line's tree tells, and its line without a newline.
use Rattle.std.specs.Prelude.{◌≡◌, ℕ, List, ◌++◌, codes, decimal, IsUtf8, Bool, false, true, Option, Some, None, option_and_then, option_map, slice_get, if◌then◌else◌}
use Rattle.std.specs.Str.{bytes_eq}
use Rattle.adx_units.specs.JsonTexts.{text_spelling}
use Rattle.adx_json.specs.Tree.{Members, Tree, member, no_members, number, object, text}
use Rattle.adx_json.specs.declared.fault.JsonFault.{JsonFault}
use Rattle.adx_units.specs.Ids.{IsSized}
use Rattle.adx_units.specs.Money.{units}
use Rattle.adx_units.specs.Number.{whole_up_to}
use Rattle.adx_units.specs.declared.price.TheConstants.{PRICE_LIMIT}
use Rattle.bidder_core.specs.declared.ledger.LedgerRow.{LedgerRow}
use Rattle.bidder_http.specs.Books.{kind_text}
use Rattle.command_reconcile.specs.Ledgers.{IsRow}
use Rattle.notice_book.specs.declared.kind.NoticeKind.{NoticeKind}
use Rattle.adx_json.specs.Values.{number_in, text_in}

-- the two texts of a row, and what is told behind them
abbrev pub row_head : List ℕ → List ℕ → List ℕ
row_head auction bid = codes "{\"auction\":" ++ text_spelling auction ++ codes ",\"bid\":" ++ text_spelling bid

abbrev pub row_tail : NoticeKind → ℕ → List ℕ
row_tail kind price = codes ",\"kind\":" ++ kind_text kind ++ codes ",\"price\":" ++ decimal price ++ codes "}"

abbrev pub row_line : LedgerRow → List ℕ
row_line row = row_head row.auction row.bid ++ row_tail row.kind row.price.0

-- the texts of a row are such as a line may tell
pub record HasTexts (row : LedgerRow) : Type 0 where
  pub sized : IsSized row.auction
  pub auction_utf8 : IsUtf8 row.auction
  pub bid_utf8 : IsUtf8 row.bid

-- the name of a kind
abbrev pub kind_name : NoticeKind → List ℕ
kind_name NoticeKind.Win = codes "win"
kind_name NoticeKind.Bill = codes "bill"
kind_name NoticeKind.Loss = codes "loss"

-- the kind with a name
abbrev pub kind_named : List ℕ → Option NoticeKind
kind_named name =
    if bytes_eq name (codes "win") then Some NoticeKind.Win
    else (if bytes_eq name (codes "bill") then Some NoticeKind.Bill
    else (if bytes_eq name (codes "loss") then Some NoticeKind.Loss else None))

-- the value of the member at a place, and the text, kind or price that it is
abbrev pub value_at : ℕ → List (List ℕ × Tree) → Option Tree
value_at place members = option_map (λ (m : List ℕ × Tree). m.1) (slice_get members place)

abbrev pub text_at : ℕ → List (List ℕ × Tree) → Option (List ℕ)
text_at place members = text_in (value_at place members)

abbrev pub kind_at : ℕ → List (List ℕ × Tree) → Option NoticeKind
kind_at place members = option_and_then kind_named (text_at place members)

abbrev pub price_at : ℕ → List (List ℕ × Tree) → Option ℕ
price_at place members = option_and_then (whole_up_to PRICE_LIMIT) (number_in (value_at place members))

abbrev pub row_with : List ℕ → List ℕ → NoticeKind → ℕ → LedgerRow
row_with auction bid kind price = record { auction = auction; bid = bid; kind = kind; price = units price }

-- the members of the tree whose compact spelling is a row's line
abbrev pub row_members : LedgerRow → Members
row_members row =
    member (codes "auction") (text row.auction) (member (codes "bid") (text row.bid)
    (member (codes "kind") (text (kind_name row.kind)) (member (codes "price") (number (decimal row.price.0)) no_members)))

-- memory was refused
abbrev pub wants_memory : JsonFault → Bool
wants_memory (JsonFault.Syntax at) = false
wants_memory (JsonFault.Utf8 at) = false
wants_memory (JsonFault.Depth at) = false
wants_memory JsonFault.OutOfMemory = true

-- where the tree is that of a row, the row was found
abbrev pub TellsTree : Tree → Option LedgerRow → Type 0
TellsTree t found = (row : LedgerRow) → IsRow row → t ≡ object (row_members row) → found ≡ Some row
