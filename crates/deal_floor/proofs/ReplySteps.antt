-- Replies, in memory and as trees.
use Rattle.std.proofs.Common.{◌≡◌, ℕ, List, [], ◌∷◌, ◌++◌, map, Some, sym, ap, ◌∙◌}
use Rattle.std.specs.List.{list_all}
use Rattle.std.proofs.Math.Seq.{append_snoc}
use Rattle.adx_json.specs.Tree.{Tree}
use Rattle.adx_json.specs.View.{tree_of, trees_of}
use Rattle.adx_json.specs.declared.tree.Json.{Json}
use Rattle.adx_json.specs.Values.{texts_in}
use Rattle.adx_json.proofs.Items.{all_trees}
use Rattle.deal_floor.specs.Rosters.{are_texts}

pub all_replies : (ts : List Json) → list_all (λ t. are_texts (tree_of t)) ts ≡ list_all are_texts (trees_of ts)
all_replies ts = all_trees are_texts ts

abbrev pub texts_of : Tree → List (List ℕ)
texts_of t = texts_in (Some t)

-- one more list
pub reply_kept : (so_far new : List (List (List ℕ))) (x : List (List ℕ)) (t : Tree) (ts us : List Tree) → us ≡ t ∷ ts → x ≡ texts_of t
    → new ≡ so_far ++ x ∷ [] → new ++ map texts_of ts ≡ so_far ++ map texts_of us
reply_kept so_far new x t ts us left is pushed =
    ap (λ rs. rs ++ map texts_of ts) pushed ∙ append_snoc so_far x (map texts_of ts) ∙ ap (λ y. so_far ++ y ∷ map texts_of ts) is ∙ ap (λ vs. so_far ++ map texts_of vs) (sym left)
