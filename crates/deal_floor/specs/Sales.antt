-- What a bid was made on, as the code hands it on. Private: no public clause cites it.
use Rattle.deal_floor.specs.Admission.{Case}
use Rattle.deal_floor.specs.declared.asked.Asked.{Asked}

abbrev pub case_of : Asked → Case
case_of a = record { request = a.request.now; campaigns = a.campaigns.now; bidder = a.bidder; bidid = a.bidid.now; seat = a.seat.now; bid = a.bid.now }
