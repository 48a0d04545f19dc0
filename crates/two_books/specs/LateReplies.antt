-- A reply that comes after later steps: the pending post that it decides of. This project's own.
use Rattle.std.specs.Prelude.{◌≡◌, ◌≢◌, ◌⊎◌, ℕ, List, [], ◌∷◌, ◌++◌, length, Bool, true, false, Result, Ok, Err}
use Rattle.std.specs.List.{before_first, position_or_len}
use Rattle.std.specs.Option.{option_map_or}
use Rattle.std.specs.Str.{bytes_eq}
use Rattle.adx_units.specs.declared.memory.OutOfMemory.{OutOfMemory}
use Rattle.outbox.specs.Calls.{IsValidAs}
use Rattle.outbox.specs.Following.{OutboxState}
use Rattle.outbox.specs.Pumping.{ComesTo, given_up_with, left_of}
use Rattle.outbox.specs.declared.calling.Call.{Call}
use Rattle.outbox.specs.declared.outbox.TheConstants.{ANSWER_LIMIT}
use Rattle.outbox.specs.declared.post.Post.{Post}
use Rattle.outbox.specs.declared.report.Outcome.{Outcome}
use Rattle.two_books.specs.Exchanges.{ExchangeState}
use Rattle.two_books.specs.Worlds.{message_of}
use Rattle.two_books.specs.declared.late.Late.{Late}

-- the post is sent as a message with that request
abbrev pub is_sent_as : List ℕ → Post → Bool
is_sent_as request p = option_map_or (λ (c : Call). bytes_eq c.request request) (message_of p) false

-- The first pending post that is sent as that message is decided by the reply, as if it came at once: after a success it is
-- pending no more. The others stay.
pub record Decides (late : Late) (old new : OutboxState) : Type 0 where
  pub post : Post
  pub back : List Post
  pub outcome : Outcome
  pub split : old.pending ≡ before_first (is_sent_as late.request) old.pending ++ post ∷ back
  pub asked : is_sent_as late.request post ≡ true
  pub valid : IsValidAs post.url
  pub heard : outcome ≢ Outcome.Failed
  pub comes : ComesTo ANSWER_LIMIT late.bytes outcome
  pub pending : new.pending ≡ before_first (is_sent_as late.request) old.pending ++ left_of (post ∷ back) (outcome ∷ [])
  pub undeliverable : new.undeliverable ≡ given_up_with old.undeliverable (outcome ∷ [])
  pub followed : new.followed ≡ old.followed
  pub kept : new.kept ≡ old.kept

-- a reply came to an exchange: it decides of a post, or there is none that it answers, and nothing changes
abbrev pub IsDecided : Late → OutboxState → OutboxState → Type 0
IsDecided late old new =
    ((position_or_len (is_sent_as late.request) old.pending ≡ length old.pending) × (new ≡ old)) ⊎ Decides late old new

-- the same of an exchange; nothing but its outbox changes
pub record Acknowledges (late : Late) (old new : ExchangeState) : Type 0 where
  pub outbox : IsDecided late old.outbox new.outbox
  pub day : new.day ≡ old.day
  pub campaigns : new.campaigns ≡ old.campaigns

-- where memory was wanting it decided, or nothing changed
abbrev pub AcknowledgesTo : Late → Result Unit OutOfMemory → ExchangeState → ExchangeState → Type 0
AcknowledgesTo late (Ok done) old new = Acknowledges late old new
AcknowledgesTo late (Err wanting) old new = (new ≡ old) ⊎ Acknowledges late old new
