-- Private, cited by the plans of a day alone: what a plan gives is a reply, and its entry may follow.
use Rattle.std.specs.Prelude.{◌≡◌, ℕ, List, Bool, true, false, Option, Some, None, IfSome}
use Rattle.notice_book.specs.declared.kind.NoticeKind.{NoticeKind}
use Rattle.day_rules.specs.declared.answer.Answer.{Answer}
use Rattle.day_rules.specs.declared.entry.Entry.{Entry}
use Rattle.day_rules.specs.Entries.{entry_of_notice}
use Rattle.day_rules.specs.Legal.{MayFollow}
use Rattle.day_rules.specs.Replies.{Reply}
use Rattle.day_rules.specs.Terms.{Terms}

pub record IsReply (given : Answer × Option Entry) (r : Reply) : Type 0 where
  pub answer : given.0 ≡ r.answer
  pub entry : given.1 ≡ r.entry

pub record IsReplyIn (terms : Terms) (history : List Entry) (given : Answer × Option Entry) (r : Reply) : Type 0 where
  pub is_reply : IsReply given r
  pub legal : IfSome given.1 (MayFollow terms history)

-- the answer to a notice that counts, which adds an entry
abbrev pub is_counted : Answer → Bool
is_counted Answer.Counted = true
is_counted answer = false

-- the entry of a notice that counts, and else none
abbrev pub entry_if : Bool → NoticeKind → ℕ → Option Entry
entry_if true kind n = Some (entry_of_notice kind n)
entry_if false kind n = None
