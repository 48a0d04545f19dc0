-- The sums of a bidder's bills and its ledger as lines of JSON (RFC 8259) in its one compact spelling, each with its
-- newline. This project's own.
use Rattle.std.specs.Prelude.{ℕ, List, ◌++◌, codes, decimal}
use Rattle.std.specs.List.{enumerate_from, flat_map}
use Rattle.adx_units.specs.JsonTexts.{text_spelling}
use Rattle.notice_book.specs.declared.kind.NoticeKind.{NoticeKind}
use Rattle.bidder_core.specs.Ledger.{bill_count, billed_in}
use Rattle.bidder_core.specs.declared.ledger.LedgerRow.{LedgerRow}
use Rattle.bidder_core.specs.declared.price_line.Price.{Price}
use Rattle.bidder_core.specs.declared.price_line.PriceLine.{PriceLine}

-- a price's campaign, the sum of its bills in units, and their number
abbrev pub book_line : List LedgerRow → ℕ × Price → List ℕ
book_line rows (place, price) =
    codes "{\"cid\":" ++ text_spelling price.cid ++ codes ",\"billed\":" ++ decimal (billed_in place rows)
    ++ codes ",\"count\":" ++ decimal (bill_count place rows) ++ codes "}\n"

-- price by price
abbrev pub books_text : PriceLine → List LedgerRow → List ℕ
books_text line rows = flat_map (book_line rows) (enumerate_from 0 line.prices)

-- the word of a kind in a row of the ledger, with its quotes
abbrev pub kind_text : NoticeKind → List ℕ
kind_text NoticeKind.Win = codes "\"win\""
kind_text NoticeKind.Bill = codes "\"bill\""
kind_text NoticeKind.Loss = codes "\"loss\""

-- the award of a notice: its auction, and its bid
abbrev pub row_names : LedgerRow → List ℕ
row_names row = codes "{\"auction\":" ++ text_spelling row.auction ++ codes ",\"bid\":" ++ text_spelling row.bid

-- a notice that was counted, its price in units
abbrev pub ledger_line : LedgerRow → List ℕ
ledger_line row = row_names row ++ codes ",\"kind\":" ++ kind_text row.kind ++ codes ",\"price\":" ++ decimal row.price.0 ++ codes "}\n"

-- notice by notice, in the order in which they were counted
abbrev pub ledger_text : List LedgerRow → List ℕ
ledger_text rows = flat_map ledger_line rows
