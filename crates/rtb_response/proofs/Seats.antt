-- Item by item of a list that is written.
use Rattle.std.proofs.Common.{◌≡◌, ℕ, suc, ◌+◌, ◌<◌, List, [], ◌∷◌, ◌++◌, drop, get_or, length, map, Bool, true, false, cond, refl, sym, ap, ◌∙◌, append_assoc, drop-cons, add-one}
use Rattle.adx_json.specs.Tree.{Tree, Items, item, items_of}
use Rattle.adx_json.specs.Spelling.{spelling, more_items_spelling}
use Rattle.rtb_response.specs.Parts.{left_items}

left_item : (first : Bool) (t : Tree) (ts : Items) → left_items first (item t ts) ≡ cond first [] (44 ∷ []) ++ (spelling t ++ more_items_spelling ts)
left_item true t ts = refl
left_item false t ts = refl

left_trees : {X : Type 0} (f : X → Tree) (xs : List X) (i : ℕ) (x : X) → i < length xs → x ≡ get_or xs i x → map f (drop i xs) ≡ f x ∷ map f (drop (i + 1) xs)
left_trees f xs i x low is =
    ap (map f) (drop-cons xs i x low) ∙ ap (λ y. f y ∷ map f (drop (suc i) xs)) (sym is) ∙ ap (λ n. f x ∷ map f (drop n xs)) (sym (add-one i))

-- one more item is put behind what was there
pub item_put : {X : Type 0} (f : X → Tree) (first : Bool) (xs : List X) (i : ℕ) (x : X) (before comma after : List ℕ) → i < length xs → x ≡ get_or xs i x
    → comma ≡ before ++ cond first [] (44 ∷ []) → after ≡ comma ++ spelling (f x)
    → after ++ left_items false (items_of (map f (drop (i + 1) xs))) ≡ before ++ left_items first (items_of (map f (drop i xs)))
item_put f first xs i x before comma after low is put put_item =
    let rest = more_items_spelling (items_of (map f (drop (i + 1) xs))) in
    let c = cond first [] (44 ∷ []) in
    ap (λ l. l ++ rest) (put_item ∙ ap (λ l. l ++ spelling (f x)) put)
    ∙ append_assoc (before ++ c) (spelling (f x)) rest ∙ append_assoc before c (spelling (f x) ++ rest)
    ∙ ap (λ l. before ++ l) (sym (left_item first (f x) (items_of (map f (drop (i + 1) xs)))))
    ∙ ap (λ ts. before ++ left_items first (items_of ts)) (sym (left_trees f xs i x low is))
