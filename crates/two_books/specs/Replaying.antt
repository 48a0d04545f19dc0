-- Private, cited by the pump of a world alone: a link whose starts answer the replies of a list, one after the other, and
-- whose calls take no memory. This project's own.
use Rattle.std.specs.Prelude.{ℕ, ◌+◌, ◌-◌, List, [], false, true, Bool, cond, Some, None}
use Rattle.std.specs.List.{count_by}
use Rattle.adx_io.specs.Streams.{last_count}
use Rattle.adx_links.specs.Links.{Connection, Course, connection_of}
use Rattle.adx_links.specs.declared.planned.Planned.{Planned}
use Rattle.two_books.specs.declared.replay.Reply.{Reply}

-- a start whose put fails, so that nothing comes back; and one that answers a reply
abbrev pub unanswered : Planned
unanswered = record { bytes = []; start_fails = false; put_fails = true; take_fails = None }

abbrev pub replying : List ℕ → Planned
replying reply = record { bytes = reply; start_fails = false; put_fails = false; take_fails = None }

-- what a start does, by what comes back of the message
abbrev pub planned_of : Reply → Planned
planned_of Reply.Lost = unanswered
planned_of (Reply.Came bytes) = replying bytes

-- a start after the last of the list answers no byte
abbrev pub silent : Planned
silent = replying []

-- how many starts nothing comes back of
abbrev pub fails_of : Planned → Bool
fails_of p = p.put_fails

abbrev pub failing : List Planned → ℕ
failing plan = count_by fails_of plan

-- the connection that is there, what the starts to come do, and how many failures a start passed over since nothing was put
pub record ReplayState : Type 0 where
  pub now : Connection
  pub starts : List Planned
  pub missed : ℕ

-- a link with this plan, before its first start
abbrev pub link_of : List Planned → ReplayState
link_of plan = record { now = connection_of silent; starts = plan; missed = 0 }

abbrev pub course_of : ReplayState → Course
course_of l = record { now = Some l.now; plan = record { starts = l.starts; past_end = silent } }

-- the failures that were planned and not met
abbrev pub unmet : ReplayState → ℕ
unmet l = cond l.now.put_fails 1 0 + (failing l.starts + l.missed)

-- The count of faults begins so that it is this where each of them was met: so what is left of the plan says it alone, and no
-- call fails that wasn't planned to.
abbrev pub most_faults : ℕ
most_faults = last_count - 1

abbrev pub faults_of : ReplayState → ℕ
faults_of l = most_faults - unmet l
