-- What became of posts, from what an outbox did.
use Rattle.std.proofs.Common.{◌≡◌, ℕ, List, [], ◌∷◌, ◌++◌, length, take, refl, ap, ◌∙◌, subst, zero-le, Ok, Err}
use Rattle.std.proofs.Math.Seq.{take-length}
use Rattle.adx_links.specs.declared.link.Link as links
use Rattle.adx_units.specs.declared.memory.OutOfMemory.{OutOfMemory}
use Rattle.day_rules.specs.declared.entry.Entry.{Entry}
use Rattle.outbox.specs.Following.{Follows, OutboxState}
use Rattle.outbox.specs.Posts.{posts_behind, posts_of}
use Rattle.outbox.specs.Pumping.{Pumps}
use Rattle.outbox.specs.declared.outbox.TheConstants.{ANSWER_LIMIT}
use Rattle.outbox.specs.declared.post.Post.{Post}
use Rattle.outbox.specs.declared.report.Outcome.{Outcome}
use Rattle.outbox.specs.declared.report.Report.{Report}
use Rattle.command_notices.specs.Posting.{Tries, TriesAll, TriesSo}
use Rattle.command_notices.specs.declared.ending.PostEnd.{PostEnd}

module _ {L : Type 0} (l : links.Ghosts L) where
  -- a pump that went through
  pub pumped : (box now : OutboxState) (link link_now : L) (r : Report) → Pumps l.exchanges l.course l.faults l.place ANSWER_LIMIT link link_now (Ok r) box now →
      TriesAll l box.pending link link_now now.pending
  pumped box now link link_now r p = record { outcomes = p.outcomes; all = p.all; tries = record { few = p.few; tried = p.tried }; left_is = p.pending }

  -- after which nothing stays
  pub pumped_out : (posts left : List Post) (link link_now : L) → length left ≡ 0 → TriesAll l posts link link_now left → TriesAll l posts link link_now []
  pumped_out posts [] link link_now none tries = tries
  pumped_out posts (p ∷ ps) link link_now none tries = absurd (cc none)

  -- one that memory ended
  pub pumped_some : (box now : OutboxState) (link link_now : L) (e : OutOfMemory) → Pumps l.exchanges l.course l.faults l.place ANSWER_LIMIT link link_now (Err e) box now →
      (outcomes : List Outcome) × Tries l box.pending link link_now outcomes
  pumped_some box now link link_now e p = (p.outcomes, record { few = p.few; tried = p.tried })

  -- none was tried
  pub untried : (posts : List Post) (link : L) → (outcomes : List Outcome) × Tries l posts link link outcomes
  untried posts link = ([], record { few = zero-le; tried = refl })

  -- an outbox that has followed a whole history has its posts pending
  pub followed : (entries : List Entry) (old new : OutboxState) → old.pending ≡ [] → Follows [] entries (Ok tt) old new → new.pending ≡ posts_of entries
  followed entries old new none f = f.posts ∙ (λ i. none i ++ posts_behind [] (whole i))
    where
      whole : take f.done entries ≡ entries
      whole = ap (λ (n : ℕ). take n entries) f.all ∙ take-length entries

  pub tries_posts : (posts pending : List Post) (link link_now : L) (end : PostEnd) → pending ≡ posts → TriesSo l pending link link_now end → TriesSo l posts link link_now end
  tries_posts posts pending link link_now end is tries = subst (λ (ps : List Post). TriesSo l ps link link_now end) is tries
