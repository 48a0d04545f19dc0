-- The posts that are pending after a whole history.
use Rattle.std.proofs.Common.{◌≡◌, ◌∙◌, List, [], ◌++◌, take, ap, arith, subst, Result, Ok}
use Rattle.std.proofs.lemmas.List.{take_all}
use Rattle.adx_units.specs.declared.memory.OutOfMemory.{OutOfMemory}
use Rattle.day_rules.specs.declared.entry.Entry.{Entry}
use Rattle.day_rules.specs.DayState.{IsDay}
use Rattle.day_rules.specs.Terms.{Terms}
use Rattle.outbox.specs.declared.post.Post.{Post}
use Rattle.outbox.specs.Following.{Follows, HasFollowed, OutboxState}
use Rattle.outbox.specs.Posts.{posts_behind, posts_of}

-- an outbox that followed nothing and has no post pending, and then followed a history
pub posts_followed : (terms : Terms) (entries : List Entry) (old new : OutboxState) (result : Result (Unit {0}) OutOfMemory) → result ≡ Ok tt → HasFollowed [] old → old.pending ≡ [] → IsDay terms entries
    → ((terms : Terms) (history : List Entry) → HasFollowed history old → IsDay terms (history ++ entries) → Follows history entries result old new) → new.pending ≡ posts_of entries
posts_followed terms entries old new result is followed none day follows =
    let f : Follows [] entries (Ok tt) old new = subst (λ (r : Result (Unit {0}) OutOfMemory). Follows [] entries r old new) is (follows terms [] followed day) in
    let all : take f.done entries ≡ entries = take_all f.done entries (omega (arith, f.all)) in
    f.posts ∙ ap (λ (ps : List Post). ps ++ posts_behind [] (take f.done entries)) none ∙ ap (posts_behind []) all
