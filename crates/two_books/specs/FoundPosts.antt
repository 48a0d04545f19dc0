-- Private: what is found of a post, and of posts, when a late reply comes. This project's own.
use Rattle.std.specs.Prelude.{◌≡◌, ℕ, ◌<◌, List, length, get_or, Bool, true}
use Rattle.std.specs.List.{position_or_len}
use Rattle.outbox.specs.Calls.{IsValidAs}
use Rattle.outbox.specs.declared.post.Post.{Post}
use Rattle.two_books.specs.LateReplies.{is_sent_as}

-- whether it is sent as a message with that request, and so has a valid URL
abbrev pub KnowsPost : List ℕ → Post → Bool → Type 0
KnowsPost request p is = (is ≡ is_sent_as request p) × (is ≡ true → IsValidAs p.url)

-- the place of the first that is, which has a valid URL; as many as there are where none is
abbrev pub FindsPost : List ℕ → List Post → ℕ → Type 0
FindsPost request posts n =
    (n ≡ position_or_len (is_sent_as request) posts) × (n < length posts → (d : Post) → IsValidAs (get_or posts n d).url)
