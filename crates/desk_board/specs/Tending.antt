-- What becomes of the posts of a history that is followed, where they are tried over one link. This project's own.
use Rattle.std.specs.Prelude.{◌≡◌, ◌≤◌, List, [], ◌∷◌, ◌++◌, length, take, All, Contains, IsPermutation, if◌then◌else◌}
use Rattle.adx_links.specs.declared.link.Link as links
use Rattle.day_rules.specs.declared.entry.Entry.{Entry}
use Rattle.outbox.specs.Posts.{posts_behind, posts_of}
use Rattle.outbox.specs.Pumping.{AreTried, left_of, stays}
use Rattle.outbox.specs.declared.outbox.TheConstants.{ANSWER_LIMIT}
use Rattle.outbox.specs.declared.post.Post.{Post}
use Rattle.outbox.specs.declared.report.Outcome.{Outcome}

-- the posts that these tries settled: those that were delivered, and those that can't be
-- Example: of posts p, q, r that were tried with a 204, a 500 and no call p and r are settled, and q is left.
abbrev pub settled_by : List Post → List Outcome → List Post
settled_by [] outcomes = []
settled_by (p ∷ ps) [] = []
settled_by (p ∷ ps) (o ∷ os) = if stays o then settled_by ps os else p ∷ settled_by ps os

-- Posts of a history were tried over a link, one try behind another, and led it from what it was to what it is. Of the
-- posts of the history each is either pending or was settled, once, by one of these tries.
pub record AreTended {L : Type 0} (l : links.Ghosts L) (history : List Entry) (pending : List Post) (link link_now : L) : Type 0 where
  pub tried : List Post
  pub outcomes : List Outcome
  pub tries : AreTried l.exchanges l.course l.faults l.place ANSWER_LIMIT tried outcomes link link_now
  pub own : All (Contains (posts_of history)) tried
  pub each_once : IsPermutation (settled_by tried outcomes ++ pending) (posts_of history)

-- the posts that are due once further entries were followed behind a history: those that were pending, and those of the
-- entries
abbrev pub due_behind : List Post → List Entry → List Entry → List Post
due_behind pending history more = pending ++ posts_behind history more

-- One round over the posts that are due: the first of them were tried, each once and in their order, over the link as it
-- was, and led it to what it is. What these tries left is pending, and what they didn't come to.
-- Example: of p, q, r that are due and were tried with a 204 and a 500, q and r are pending.
pub record AreTriedOnce {L : Type 0} (l : links.Ghosts L) (due pending : List Post) (link link_now : L) : Type 0 where
  pub outcomes : List Outcome
  pub few : length outcomes ≤ length due
  pub tries : AreTried l.exchanges l.course l.faults l.place ANSWER_LIMIT (take (length outcomes) due) outcomes link link_now
  pub pending_are : pending ≡ left_of due outcomes
