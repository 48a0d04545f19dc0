-- An outbox with the link of its posts, and with a pass of the desk whose history it follows. This project's own.
use Rattle.std.specs.Prelude.{◌≡◌, ℕ, ◌≤◌, List, ◌++◌, length, Option, Some, Result, IfOk, OnOk}
use mathlib.Core.List.{IsPrefix}
use Rattle.adx_links.specs.declared.link.Link as links
use Rattle.adx_units.specs.declared.memory.OutOfMemory.{OutOfMemory}
use Rattle.day_rules.specs.declared.entry.Entry.{Entry}
use Rattle.outbox.specs.Following.{HasFollowed}
use Rattle.outbox.specs.Posts.{posts_behind}
use Rattle.outbox.specs.Pumping.{PumpsPart, part_of, report_of}
use Rattle.outbox.specs.declared.outbox.TheConstants.{ANSWER_LIMIT}
use Rattle.outbox.specs.declared.post.Post.{Post}
use Rattle.outbox.specs.declared.report.Report.{Report}
use Rattle.shared_desk.specs.Callers.{DeskPass}
use Rattle.shared_desk.specs.Idle.{IsIdle}
use Rattle.desk_board.specs.declared.mail.Mail.{Mail}
use Rattle.desk_board.specs.declared.mailroom.TheConstants.{PIECE}
use Rattle.desk_board.specs.Tending.{AreTended, AreTriedOnce, due_behind}

module _ {L : Type 0} (l : links.Ghosts L) where
  -- the outbox has followed a history, whose posts were tried over the link, which was so before
  pub record HasTended (history : List Entry) (link : L) (mail : Mail L) : Type 0 where
    pub followed : HasFollowed history mail.outbox
    pub tended : AreTended l history mail.outbox.pending link mail.link

  -- The first of the entries behind the history were followed too, and then a round went over the posts that were pending
  -- and those of these entries. Unless memory was wanting all of the entries were followed, and each of the posts tried.
  pub record BringsUp (history entries : List Entry) (link : L) (old new : Mail L) (result : Result Unit OutOfMemory) : Type 0 where
    pub more : List Entry
    pub begins : IsPrefix more entries
    pub has : HasTended (history ++ more) link new
    pub round : AreTriedOnce l (due_behind old.outbox.pending history more) new.outbox.pending old.link new.link
    pub all : OnOk result (more ≡ entries)
    pub each_tried : OnOk result (length round.outcomes ≡ length (due_behind old.outbox.pending history more))

  -- Entries were followed, and no post was tried: their posts are the last that are pending.
  pub record FollowsUp (history entries : List Entry) (link : L) (old new : Mail L) (result : Result Unit OutOfMemory) : Type 0 where
    pub more : List Entry
    pub begins : IsPrefix more entries
    pub has : HasTended (history ++ more) link new
    pub posts : new.outbox.pending ≡ due_behind old.outbox.pending history more
    pub link_same : new.link ≡ old.link
    pub all : OnOk result (more ≡ entries)

  -- so many of the pending posts were tried once, from a place on
  abbrev pub GoesOver : ℕ → ℕ → Mail L → Mail L → Result Report OutOfMemory → Type 0
  GoesOver first most old new result =
      PumpsPart l.exchanges l.course l.faults l.place ANSWER_LIMIT first most old.link new.link result old.outbox new.outbox

  -- The first of the entries behind the history were followed, and a round went over their posts alone, which are the last that
  -- are pending. Unless memory was wanting all of the entries were followed, and each of their posts tried.
  pub record KeepsUp {T : Type 0} (history entries : List Entry) (link : L) (old new : Mail L) (result : Result T OutOfMemory) : Type 0 where
    pub more : List Entry
    pub begins : IsPrefix more entries
    pub has : HasTended (history ++ more) link new
    pub left : List Post
    pub round : AreTriedOnce l (posts_behind history more) left old.link new.link
    pub pending_are : new.outbox.pending ≡ old.outbox.pending ++ left
    pub all : OnOk result (more ≡ entries)
    pub each_tried : OnOk result (length round.outcomes ≡ length (posts_behind history more))

  -- So many of the pending posts were tried once, from a place on; then the entries behind the history were followed, and their
  -- posts tried. Unless memory was wanting each of those that were pending was tried too.
  -- Example: of a, b, c that are pending the two from place 1 on, b and c, are tried; then d, of an entry. A 500 for b and d
  -- and a 204 for c leave a, b, d.
  pub record Tends {T : Type 0} (history entries : List Entry) (link : L) (first most : ℕ) (old new : Mail L) (result : Result T OutOfMemory) : Type 0 where
    pub between : Mail L
    pub again : Result Report OutOfMemory
    pub over : GoesOver first most old between again
    pub each_over : OnOk result (length over.outcomes ≡ length (part_of first most old.outbox.pending))
    pub keeps : KeepsUp history entries link between new result

  -- The same, and the report counts what came of those that were pending.
  pub record TendsTold (history entries : List Entry) (link : L) (first most : ℕ) (old new : Mail L) (result : Result Report OutOfMemory) : Type 0 where
    pub tends : Tends history entries link first most old new result
    pub report : IfOk result (λ r. r ≡ report_of tends.over.outcomes)

  -- the outbox has followed a front of what was seen, and its posts were tried over the link, which was so before
  pub record IsTendedTo (link : Option L) (seen : List Entry) (mail : Mail L) : Type 0 where
    pub before : L
    pub before_is : link ≡ Some before
    pub history : List Entry
    pub begins : IsPrefix history seen
    pub has : HasTended history before mail

  -- An outbox that had followed a front of what was seen was tended, with what is behind that front. Where few posts were
  -- pending, all of them were tried again.
  pub record IsTended {T : Type 0} (link : Option L) (seen : List Entry) (old new : Mail L) (result : Result T OutOfMemory) : Type 0 where
    pub before : L
    pub before_is : link ≡ Some before
    pub history : List Entry
    pub had : HasTended history before old
    pub entries : List Entry
    pub seen_is : history ++ entries ≡ seen
    pub first : ℕ
    pub most : ℕ
    pub few : length old.outbox.pending ≤ PIECE → OnOk result ((first ≡ 0) × (most ≡ PIECE))
    pub tends : Tends history entries before first most old new result

  -- what stands behind a lock: the pass is of the first one's desk, and its history begins with what the outbox has followed
  pub record IsMailroom (first : DeskPass) (link : Option L) (mail : Mail L) (p : DeskPass) : Type 0 where
    pub idle : IsIdle first p
    pub tended : IsTendedTo link p.seen mail
