-- Private, cited by the steps of an outbox alone: what one entry asks for.
use Rattle.std.specs.Prelude.{◌≡◌, ◌⊎◌, ℕ, List, [], ◌∷◌, ◌++◌, Result, Ok, Err}
use Rattle.std.specs.List.{flat_map}
use Rattle.std.specs.List.Sorted.{IsStrictlySortedBy}
use Rattle.std.specs.Map.{keys_of}
use Rattle.std.specs.Option.{option_map_or}
use Rattle.std.specs.Ordering.{nat_cmp}
use Rattle.adx_units.specs.declared.memory.OutOfMemory.{OutOfMemory}
use Rattle.allocator_core.specs.declared.reason.TheConstants.{LOST_TO_HIGHER}
use Rattle.day_rules.specs.declared.entry.Entry.{Entry}
use Rattle.outbox.specs.declared.post.Post.{Post}
use Rattle.outbox.specs.declared.post.TheConstants.{OPPORTUNITY_EXPIRED}
use Rattle.outbox.specs.declared.row.Row.{Row}
use Rattle.outbox.specs.Posts.{lost_post, posts_by}
use Rattle.outbox.specs.Rows.{row_bill, row_loss, row_win, rows_made}
use Rattle.outbox.specs.Keeping.{Ends, EndsAll, IsBilled, IsForgotten, IsMade, IsWon, due_numbers}
use Rattle.outbox.specs.Following.{HasFollowed, OutboxState, RowsState, row_in}

-- the post that the row of an award gives
abbrev pub post_in : (Row → List Post) → RowsState → ℕ → List Post
post_in post kept n = option_map_or post (row_in kept n) []

-- the numbers of the awards that a moment ends
abbrev pub due_in : ℕ → RowsState → List ℕ
due_in now kept = due_numbers now kept.deadlines

-- the posts that an entry asks for, by the rows
abbrev pub posts_in : OutboxState → Entry → List Post
posts_in o (Entry.Ask a) = flat_map (lost_post o.followed a) a.kept
posts_in o (Entry.Win n) = post_in (row_win o.followed) o.kept n
posts_in o (Entry.Bill n) = post_in (row_bill o.followed) o.kept n
posts_in o (Entry.Loss n) = post_in (row_loss o.followed LOST_TO_HIGHER) o.kept n
posts_in o (Entry.Expire now) =
    flat_map (post_in (row_loss o.followed OPPORTUNITY_EXPIRED) o.kept) (due_in now o.kept)
posts_in o (Entry.Budget campaign change budget) = []

-- what the rows are behind an entry
abbrev pub RowsBehind : Entry → RowsState → RowsState → Type 0
RowsBehind (Entry.Ask a) old new = IsMade a.first (rows_made a) old new
RowsBehind (Entry.Win n) old new = IsWon n old new
RowsBehind (Entry.Bill n) old new = IsBilled n old new
RowsBehind (Entry.Loss n) old new = Ends n old new
RowsBehind (Entry.Expire now) old new = IsStrictlySortedBy nat_cmp (keys_of old.deadlines) × EndsAll (due_in now old) old new
RowsBehind (Entry.Budget campaign change budget) old new = new ≡ old

-- what the rows are where memory is wanting
abbrev pub RowsAgain : Entry → RowsState → RowsState → Type 0
RowsAgain (Entry.Ask a) old new = (new ≡ old) ⊎ IsForgotten a.first old new
RowsAgain (Entry.Win n) old new = new ≡ old
RowsAgain (Entry.Bill n) old new = new ≡ old
RowsAgain (Entry.Loss n) old new = new ≡ old
RowsAgain (Entry.Expire now) old new = new ≡ old
RowsAgain (Entry.Budget campaign change budget) old new = new ≡ old

-- the posts of an entry are put behind the others, and the rows are as it leaves them; nothing of it is done where
-- memory is wanting
abbrev pub AsksFor : Entry → Result Unit OutOfMemory → OutboxState → OutboxState → Type 0
AsksFor e (Ok done) old new =
    (new.pending ≡ old.pending ++ posts_in old e) × RowsBehind e old.kept new.kept × (new.followed ≡ old.followed)
    × (new.undeliverable ≡ old.undeliverable)
AsksFor e (Err wanting) old new =
    (new.pending ≡ old.pending) × RowsAgain e old.kept new.kept × (new.followed ≡ old.followed)
    × (new.undeliverable ≡ old.undeliverable)

-- the outbox has followed the entry too, or nothing changed that counts
abbrev pub Continues : List Entry → Entry → Result Unit OutOfMemory → OutboxState → OutboxState → Type 0
Continues history e (Ok done) old new =
    HasFollowed (history ++ e ∷ []) new × (new.pending ≡ old.pending ++ posts_by history e)
    × (new.undeliverable ≡ old.undeliverable)
Continues history e (Err wanting) old new =
    HasFollowed history new × (new.pending ≡ old.pending) × (new.undeliverable ≡ old.undeliverable)
