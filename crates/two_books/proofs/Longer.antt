-- A bill that is in a history is in a longer one, at the same place.
use Rattle.std.proofs.Common.{◌≡◌, ℕ, List, ◌++◌, Some, sym, subst, All}
use Rattle.std.specs.List.{slice_get}
use Rattle.std.proofs.lemmas.List.Elements.{All-weaker}
use Rattle.bidder_core.specs.declared.ledger.LedgerRow.{LedgerRow}
use Rattle.day_rules.specs.declared.entry.Entry.{Entry}
use Rattle.outbox.specs.Bids.{Bid, awarded}
use Rattle.two_books.specs.Holding.{IsBilled}
use Rattle.two_books.specs.TwoBooks.{bills_in}
use Rattle.two_books.proofs.Telling.{awarded_on, get_front}

billed_still : (base : List ℕ) (history more : List Entry) (r : LedgerRow) → IsBilled base history r → IsBilled base (history ++ more) r
billed_still base history more r is = record {
  place = is.place;
  at = record {
    award = is.at.award;
    bid = is.at.bid;
    entry = get_front history more is.place (Entry.Bill is.at.award) is.at.entry;
    awarded_as =
        subst (λ (t : List Bid). slice_get t is.at.award ≡ Some is.at.bid) (sym (awarded_on history more))
        (get_front (awarded history) (awarded more) is.at.award is.at.bid is.at.awarded_as);
    auction = is.at.auction;
    charge = is.at.charge;
  };
  url = is.url;
}

pub all_billed : (base : List ℕ) (history more : List Entry) (rows : List LedgerRow) → All (IsBilled base history) (bills_in rows) → All (IsBilled base (history ++ more)) (bills_in rows)
all_billed base history more rows billed = All-weaker (IsBilled base history) (IsBilled base (history ++ more)) (billed_still base history more) (bills_in rows) billed
