-- Private: a notice that was read of a query, as a row of the ledger.
use Rattle.notice_book.specs.declared.kind.NoticeKind.{NoticeKind}
use Rattle.bidder_core.specs.declared.ledger.LedgerRow.{LedgerRow}
use Rattle.bidder_http.specs.declared.notice.Told.{Told}

abbrev pub row_of : NoticeKind → Told → LedgerRow
row_of kind t = record { auction = t.auction; bid = t.bid; kind = kind; price = t.price }
