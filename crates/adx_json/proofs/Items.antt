-- The items of a list, in memory and as trees.
use Rattle.std.proofs.Common.{◌≡◌, ℕ, suc, ◌+◌, ◌<◌, List, [], ◌∷◌, drop, get_or, length, Bool, ◌||◌, Some, refl, sym, ap, ◌∙◌, drop-cons, add-one, ◌≢◌}
use Rattle.std.specs.List.{list_all, list_any}
use Rattle.std.proofs.lemmas.List.Folds.{list_all-map}
use Rattle.adx_json.specs.Tree.{Tree, null, boolean, number, text, list, object, Items, items_of}
use Rattle.adx_json.specs.View.{tree_of, trees_of}
use Rattle.adx_json.specs.declared.tree.Json.{Json}
use Rattle.adx_json.specs.Values.{list_items, items_in, is_text_tree}

pub list_items_of : (ts : List Tree) → list_items (items_of ts) ≡ ts
list_items_of [] = refl
list_items_of (t ∷ ts) = ap (λ us. t ∷ us) (list_items_of ts)

pub listed : (t : Tree) (ts : List Tree) → t ≡ list (items_of ts) → items_in (Some t) ≡ ts
listed t ts h = ap (λ u. items_in (Some u)) h ∙ list_items_of ts

pub not_listed : (t : Tree) → ((ts : Items) → t ≢ list ts) → items_in (Some t) ≡ []
not_listed null h = refl
not_listed (boolean b) h = refl
not_listed (number n) h = refl
not_listed (text t) h = refl
not_listed (list ts) h = absurd (h ts refl)
not_listed (object ms) h = refl

pub all_trees : (p : Tree → Bool) (ts : List Json) → list_all (λ t. p (tree_of t)) ts ≡ list_all p (trees_of ts)
all_trees p ts = sym (list_all-map p tree_of ts)

pub any_trees : (p : Tree → Bool) (ts : List Json) → list_any (λ t. p (tree_of t)) ts ≡ list_any p (trees_of ts)
any_trees p [] = refl
any_trees p (t ∷ ts) = ap (λ b. p (tree_of t) || b) (any_trees p ts)

pub all_texts : (ts : List Json) → list_all (λ t. is_text_tree (tree_of t)) ts ≡ list_all is_text_tree (trees_of ts)
all_texts ts = all_trees is_text_tree ts

-- the trees that are left, of which the first is at hand
pub left_is : (xs : List Json) (i : ℕ) (x : Json) → i < length xs → x ≡ get_or xs i x → trees_of (drop i xs) ≡ tree_of x ∷ trees_of (drop (i + 1) xs)
left_is xs i x low is =
    ap trees_of (drop-cons xs i x low) ∙ ap (λ y. tree_of y ∷ trees_of (drop (suc i) xs)) (sym is) ∙ ap (λ n. tree_of x ∷ trees_of (drop n xs)) (sym (add-one i))
