-- The lines of some posts, one post after the other.
use Rattle.std.proofs.Common.{◌≡◌, ℕ, ◌+◌, ◌<◌, List, [], ◌∷◌, ◌++◌, length, take, drop, get_or, ap, sym, ◌∙◌, append-nil}
use Rattle.std.proofs.lemmas.Grind.{flat_map-append}
use Rattle.std.proofs.lemmas.List.{take-append-drop, take_more}
use Rattle.outbox.specs.declared.post.Post.{Post}
use Rattle.command_notices.specs.PostLines.{post_line, post_lines}

-- the lines of one post more
pub lines_more : (posts : List Post) (i : ℕ) (p : Post) → i < length posts → get_or posts i p ≡ p → post_lines (take (i + 1) posts) ≡ post_lines (take i posts) ++ post_line p
lines_more posts i p within here =
    ap post_lines (take_more posts i p within ∙ ap (λ (x : Post). take i posts ++ x ∷ []) here)
    ∙ (flat_map-append post_line (take i posts) (p ∷ [])
    ∙ ap (λ (b : List ℕ). post_lines (take i posts) ++ b) (append-nil (post_line p)))

-- and of the others
pub lines_split : (posts : List Post) (i : ℕ) → post_lines (take i posts) ++ post_lines (drop i posts) ≡ post_lines posts
lines_split posts i = sym (flat_map-append post_line (take i posts) (drop i posts)) ∙ ap post_lines (take-append-drop i posts)
