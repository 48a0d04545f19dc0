-- What follows of the definitions: each message has one meaning, and messages that made the same calls have the same
-- replies. This project's own.
use Rattle.std.specs.Prelude.{◌≡◌, ℕ, List, Option}
use Rattle.deal_floor.specs.declared.roster.Roster.{Roster}
use Rattle.fan_out.specs.declared.lane.Lane.{Lane}
use Rattle.fan_out.specs.Lanes.{Outcome}
use Rattle.http_connection.specs.Messages.{Request}
use Rattle.http_service.specs.Connections.{Replies}
use Rattle.exchange_messages.specs.Courses.{AnswersOn, Course, begun}
use Rattle.exchange_messages.specs.Meanings.{Meaning, Means, asks}
use Rattle.exchange_messages.specs.Floors.{IsMomentOf}

-- there is no message without a meaning
abbrev pub HasMeaning : Type 0
HasMeaning = (request : Request) → ((m : Meaning) → Means request m → ⊥) → ⊥

-- two meanings are the same; of two requests for bids their trees are
abbrev pub AreOne : Meaning → Meaning → Type 0
AreOne (asks t asked) (asks u other) = t ≡ u
AreOne (asks t asked) y = ⊥
AreOne x y = y ≡ x

-- no message has two meanings
abbrev pub HasOneMeaning : Type 0
HasOneMeaning = (request : Request) (x y : Meaning) → Means request x → Means request y → AreOne x y

-- Messages that made the same steps were replied with the same bytes, whatever the lanes and the clocks.
abbrev pub HasOneReply : {L : Type 0} → (List ℕ → List ℕ → Lane L → Lane L → Outcome → Type 0) → Type 0
HasOneReply {L = L} Works =
    (clock other_clock : Option ℕ) (r : Roster) (lanes other_lanes : List (Lane L)) (requests : List Request)
    (out other : List ℕ) (now other_now : Course L)
    → Replies (AnswersOn Works (IsMomentOf clock) r) (begun lanes) requests out now
    → Replies (AnswersOn Works (IsMomentOf other_clock) r) (begun other_lanes) requests other other_now
    → now.steps ≡ other_now.steps → out ≡ other
