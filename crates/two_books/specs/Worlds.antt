-- A world of two books: an exchange, the messages that it ever sent, and a bidder with its ledger. This project's own.
use Rattle.std.specs.Prelude.{◌≡◌, List, [], IfSome, Option}
use Rattle.deal_floor.specs.declared.roster.Roster.{Roster}
use Rattle.bidder_core.specs.Seen.{BidderState}
use Rattle.outbox.specs.Calls.{IsValidAs, call_of}
use Rattle.outbox.specs.declared.calling.Call.{Call}
use Rattle.outbox.specs.declared.post.Post.{Post}
use Rattle.two_books.specs.Exchanges.{ExchangeState, IsOpened}
use Rattle.two_books.specs.declared.late.Late.{Late}

-- what a contract sees of a world; a message is a call of a host, with the whole request that it is asked
pub record WorldState : Type 0 where
  pub exchange : ExchangeState
  pub messages : List Call
  pub bidder : BidderState
  pub replies : List Late

-- the message that a post is sent as; none where its URL can't be fetched
abbrev pub message_of : Post → Option Call
message_of p = call_of p.url

-- a post that is sent as a message has a valid URL
abbrev pub IsSendable : Post → Type 0
IsSendable p = IfSome (message_of p) (λ c. IsValidAs p.url)

-- a world before its first step
pub record IsNew (r : Roster) (b : BidderState) (w : WorldState) : Type 0 where
  pub exchange : IsOpened r w.exchange
  pub messages : w.messages ≡ []
  pub bidder : w.bidder ≡ b
  pub replies : w.replies ≡ []
