-- What the head of a message says of what it means.
use Rattle.std.specs.Prelude.{◌≡◌, ℕ, List, Option, Some, None}
use Rattle.std.specs.Cow.{cow_str_bytes}
use Rattle.http_connection.specs.Messages.{Request}
use Rattle.exchange_messages.specs.Meanings.{Meaning, notifies, wants_books, wants_meters, refused, BodyMeans, Means, change_meaning, budget_query_meaning, query_meaning}
use Rattle.exchange_messages.specs.declared.path.Path.{Path}
use Rattle.exchange_messages.specs.declared.wanted.ChangeTexts.{ChangeTexts}
use Rattle.exchange_messages.specs.declared.wanted.Other.{Other}
use Rattle.exchange_messages.specs.declared.wanted.Wanted.{Wanted}

-- what four texts of a query mean
abbrev pub change_meant : ChangeTexts → Meaning
change_meant c = change_meaning (cow_str_bytes c.seat) (cow_str_bytes c.cid) (cow_str_bytes c.number) (cow_str_bytes c.budget)

-- the meaning of a message that wants this, where its head says it
abbrev pub other_meaning : Other → Option Meaning
other_meaning Other.Bids = None
other_meaning Other.Books = Some wants_books
other_meaning Other.Meters = Some wants_meters
other_meaning (Other.Budget change) = Some (change_meant change)
other_meaning (Other.Nothing why) = Some (refused why)

-- what is meant by a message that wants this; a request for bids means what its body says, which isn't read yet
abbrev pub meaning_of : Wanted → Option Meaning
meaning_of (Wanted.Notice kind auction award) = Some (notifies kind (cow_str_bytes auction) award)
meaning_of (Wanted.Other other) = other_meaning other

-- what a message wants to a path that it is served by
abbrev pub MeansSo : Path → List ℕ → Wanted → Type 0
MeansSo Path.OpenRtb query w = w ≡ Wanted.Other Other.Bids
MeansSo (Path.Notice kind) query w = meaning_of w ≡ Some (query_meaning kind query)
MeansSo Path.Books query w = w ≡ Wanted.Other Other.Books
MeansSo Path.Meters query w = w ≡ Wanted.Other Other.Meters
MeansSo Path.Budget query w = meaning_of w ≡ Some (budget_query_meaning query)

-- a message that is no notice wants this: its meaning is known by its head, or its body is to be read
abbrev pub WantsOther : Request → Other → Type 0
WantsOther m Other.Bids = (meaning : Meaning) → BodyMeans m.body meaning → Means m meaning
WantsOther m Other.Books = Means m wants_books
WantsOther m Other.Meters = Means m wants_meters
WantsOther m (Other.Budget change) = Means m (change_meant change)
WantsOther m (Other.Nothing why) = Means m (refused why)

-- a message wants this
abbrev pub Wants : Request → Wanted → Type 0
Wants m (Wanted.Notice kind auction award) = Means m (notifies kind (cow_str_bytes auction) award)
Wants m (Wanted.Other other) = WantsOther m other
