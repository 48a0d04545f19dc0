-- Private, cited by the pump of a world alone: what comes of messages, and what comes back of them. Each message is played at
-- the bidder first, and the link then answers what the bidder replied.
use Rattle.std.specs.Prelude.{◌≡◌, ◌≢◌, ◌⊎◌, ℕ, List, [], ◌∷◌, ◌++◌, drop, get_or, length, true, false, Bool, All, Option, Some, None, Result, Ok, Err, OnOk}
use Rattle.std.specs.List.{filter_map}
use Rattle.adx_units.specs.declared.memory.OutOfMemory.{OutOfMemory}
use Rattle.bidder_core.specs.Seen.{BidderState}
use Rattle.http_connection.specs.declared.conn.ConnEnd.{ConnEnd}
use Rattle.outbox.specs.Calls.{IsValidAs}
use Rattle.outbox.specs.declared.calling.Call.{Call}
use Rattle.outbox.specs.declared.post.Post.{Post}
use Rattle.two_books.specs.Delivering.{IsDelivered, IsReplied, StopsDelivering}
use Rattle.two_books.specs.Steps.{IsCutShort, first_fate}
use Rattle.two_books.specs.Worlds.{IsSendable, message_of}
use Rattle.two_books.specs.declared.late.Late.{Late}
use Rattle.two_books.specs.declared.replay.Reply.{Reply}
use Rattle.two_books.specs.declared.step.Fate.{Fate}

-- a connection that ended by what it brought
abbrev pub completes : ConnEnd → Bool
completes ConnEnd.Closed = true
completes ConnEnd.Cut = true
completes (ConnEnd.Refused fault) = true
completes ConnEnd.ReadFault = false
completes ConnEnd.WriteFault = false
completes ConnEnd.Spent = true
completes ConnEnd.OutOfMemory = false

-- a message was delivered, and this replied; where memory was wanting some first of its requests were heard
abbrev pub Delivers : List ℕ → Result (List ℕ) OutOfMemory → BidderState → BidderState → Type 0
Delivers bytes (Ok reply) b now = IsDelivered bytes b now × IsReplied bytes b reply now
Delivers bytes (Err wanting) b now = StopsDelivering bytes b now

-- the same of one whose reply is lost
abbrev pub Brings : List ℕ → Result Unit OutOfMemory → BidderState → BidderState → Type 0
Brings bytes (Ok done) b now = IsDelivered bytes b now
Brings bytes (Err wanting) b now = StopsDelivering bytes b now

-- the same of one whose reply is on its way then
abbrev pub BringsLate : List ℕ → Result Unit OutOfMemory → BidderState → BidderState → List Late → List Late → Type 0
BringsLate bytes (Ok done) b now replies replies_now =
    (reply : List ℕ) × IsDelivered bytes b now × IsReplied bytes b reply now × (replies_now ≡ replies ++ record { request = bytes; bytes = reply } ∷ [])
BringsLate bytes (Err wanting) b now replies replies_now = StopsDelivering bytes b now × (replies_now ≡ replies)

-- what comes back of a message, by its fate, and what the bidder is then
abbrev pub Prepares : Fate → List ℕ → BidderState → Reply → BidderState → Type 0
Prepares Fate.Held bytes b r now = (r ≡ Reply.Lost) × (now ≡ b)
Prepares Fate.Mute bytes b r now = (r ≡ Reply.Lost) × IsDelivered bytes b now
Prepares Fate.Through bytes b r now =
    (reply : List ℕ) × (r ≡ Reply.Came reply) × IsDelivered bytes b now × IsReplied bytes b reply now

-- the same where memory may be wanting: a message that is held wants none
abbrev pub Meets : Fate → List ℕ → Result Reply OutOfMemory → BidderState → BidderState → Type 0
Meets fate bytes (Ok r) b now = Prepares fate bytes b r now
Meets fate bytes (Err wanting) b now = (fate ≢ Fate.Held) × StopsDelivering bytes b now

-- the same of messages, one after the other
abbrev pub ArePlayed : List Call → List Fate → BidderState → List Reply → BidderState → Type 0
ArePlayed [] fates b [] now = now ≡ b
ArePlayed [] fates b (r ∷ rs) now = ⊥
ArePlayed (c ∷ cs) fates b [] now = ⊥
ArePlayed (c ∷ cs) fates b (r ∷ rs) now =
    (mid : BidderState) × Prepares (first_fate fates) c.request b r mid × ArePlayed cs (drop 1 fates) mid rs now

-- A message was sent with that fate, and this comes back of it. Where memory was wanting it was sent or not; one that was
-- sent and is to be held wanted none.
abbrev pub SendsMessage : Call → Fate → Result Unit OutOfMemory → List Call → List Call → List Reply → List Reply → BidderState → BidderState → Type 0
SendsMessage c fate (Ok done) sent sent_now replies replies_now b now =
    (sent_now ≡ sent ++ c ∷ [])
    × ((r : Reply) × (replies_now ≡ replies ++ r ∷ []) × Prepares fate c.request b r now)
SendsMessage c fate (Err wanting) sent sent_now replies replies_now b now =
    (replies_now ≡ replies)
    × (((sent_now ≡ sent) × (now ≡ b)) ⊎ ((sent_now ≡ sent ++ c ∷ []) × (fate ≢ Fate.Held) × StopsDelivering c.request b now))

-- the same of a post: without a message nothing is sent; a message for which there was no memory is as one that wasn't.
-- What was sent is of a valid URL.
abbrev pub PlaysPost : List ℕ → Option Call → Fate → Result Unit OutOfMemory → List Call → List Call → List Reply → List Reply → BidderState → BidderState → Type 0
PlaysPost url None fate result sent sent_now replies replies_now b now = (sent_now ≡ sent) × (replies_now ≡ replies) × (now ≡ b)
PlaysPost url (Some c) fate result sent sent_now replies replies_now b now =
    SendsMessage c fate result sent sent_now replies replies_now b now × ((sent_now ≡ sent) ⊎ IsValidAs url)

-- The messages of posts were sent, one after the other. Where memory was wanting those of a front of them were, and the
-- next may have been.
pub record PlaysAll (posts : List Post) (fates : List Fate) (result : Result Unit OutOfMemory) (old_sent new_sent : List Call) (replies : List Reply) (b now : BidderState) : Type 0 where
  pub front : List Post
  pub back : List Post
  pub between : BidderState
  pub more : List Call
  pub split : posts ≡ front ++ back
  pub all : OnOk result (back ≡ [])
  pub played : ArePlayed (filter_map message_of front) fates b replies between
  pub valid : All IsSendable front
  pub cut : IsCutShort (get_or fates (length (filter_map message_of front)) Fate.Through) back between more now
  pub sent : new_sent ≡ old_sent ++ (filter_map message_of front ++ more)
