-- The lines of the notices of a day, as they are printed. This project's own.
use Rattle.std.specs.Prelude.{◌≡◌, ℕ, List, ◌++◌, codes}
use Rattle.std.specs.List.{flat_map}
use Rattle.adx_io.specs.Talk.{ended}
use Rattle.day_rules.specs.declared.entry.Entry.{Entry}
use Rattle.deal_floor.specs.declared.roster.Roster.{Roster}
use Rattle.outbox.specs.Posts.{posts_of}
use Rattle.outbox.specs.declared.post.Post.{Post}
use Rattle.outbox.specs.declared.post.PostKind.{PostKind}

-- the word of a kind: the member of a bid whose URL the post is (OpenRTB 2.6, Bid)
-- Example: a day whose one award was billed prints `burl http://n.example/bill`.
abbrev pub kind_word : PostKind → List ℕ
kind_word PostKind.Nurl = codes "nurl"
kind_word PostKind.Burl = codes "burl"
kind_word PostKind.Lurl = codes "lurl"

-- the line of a post: its kind, a space and its URL
abbrev pub post_line : Post → List ℕ
post_line p = ended (kind_word p.kind ++ codes " " ++ p.url)

-- the lines of some posts, one after the other
abbrev pub post_lines : List Post → List ℕ
post_lines posts = flat_map post_line posts

-- the lines of the posts of a history
abbrev pub notice_lines : List Entry → List ℕ
notice_lines history = post_lines (posts_of history)

-- these bytes are the lines of the notices that a roster's day with this history owes its bidders
abbrev pub AreNotices : Roster → List Entry → List ℕ → Type 0
AreNotices r history out = out ≡ notice_lines history
