-- What a table's fault is, row by row; and the items of a list that are read one after the other, each by its table.
use Rattle.std.proofs.Common.{◌≡◌, ◌<◌, ◌+◌, ℕ, zero, suc, List, [], ◌∷◌, ◌++◌, map, take, get_or, length, Bool, true, false, Option, Some, None}
use Rattle.std.proofs.Common.{refl, sym, ap, ◌∙◌, subst, append-nil}
use Rattle.std.proofs.Math.Seq.{append_snoc}
use Rattle.std.proofs.lemmas.List.{map-append, take_more}
use Rattle.std.specs.List.{AllZip}
use Rattle.adx_json.specs.Tree.{Tree}
use Rattle.adx_json.specs.View.{tree_of, trees_of}
use Rattle.adx_json.specs.declared.tree.Json.{Json}
use Rattle.adx_json.specs.Rows.{Row, Says, first_fault, first_among, or_else, unless}

-- a row whose test passes
pub passes : {F : Type 0} (b : Bool) (f : F) {rest r : Option F} → b ≡ true → rest ≡ r → or_else (unless b f) rest ≡ r
passes {F} b f {rest} {r} h k = ap (λ x. or_else (unless x f) rest) h ∙ k

-- a row whose test fails
pub fails : {F : Type 0} (b : Bool) (f : F) (rest : Option F) → b ≡ false → or_else (unless b f) rest ≡ Some f
fails b f rest h = ap (λ x. or_else (unless x f) rest) h

-- a row about each of a list's items, none of which has a fault
pub passes_over : {F : Type 0} (o : Option F) {rest r : Option F} → o ≡ None → rest ≡ r → or_else o rest ≡ r
passes_over o {rest} h k = ap (λ x. or_else x rest) h ∙ k

no_fault : {F : Type 0} (a b : Option F) → or_else a b ≡ None → (a ≡ None) × (b ≡ None)
no_fault None b h = (refl, h)
no_fault (Some f) b h = absurd (cc h)

-- a test that gives no fault holds
pub holds : {F : Type 0} (b : Bool) (f : F) → unless b f ≡ None → b ≡ true
holds true f h = refl
holds false f h = absurd (cc h)

-- the fault by the row at a place
abbrev pub fault_at : {X F : Type 0} → ℕ → List (Row X F) → Option Tree → Option F
fault_at n [] o = None
fault_at zero (r ∷ rs) o = r.fault o
fault_at (suc n) (r ∷ rs) o = fault_at n rs o

-- where there is no fault, there is none by any row
pub none_at : {X F : Type 0} (n : ℕ) (rows : List (Row X F)) (o : Option Tree) → first_fault rows o ≡ None → fault_at n rows o ≡ None
none_at n [] o h = refl
none_at zero (r ∷ rs) o h = (no_fault (r.fault o) (first_fault rs o) h).0
none_at (suc n) (r ∷ rs) o h = none_at n rs o (no_fault (r.fault o) (first_fault rs o) h).1

-- and none of the first nor of the later of some trees
pub none_among : {X F : Type 0} (rows : List Tree → List (Row X F)) (before : List Tree) (t : Tree) (ts : List Tree)
    → first_among rows before (t ∷ ts) ≡ None → (first_fault (rows before) (Some t) ≡ None) × (first_among rows (before ++ t ∷ []) ts ≡ None)
none_among rows before t ts h = no_fault (first_fault (rows before) (Some t)) (first_among rows (before ++ t ∷ []) ts) h

-- what says one thing each says one list
pub zip_same : {A B : Type 0} (R : A → B → Type 0) → ((u : A) (x y : B) → R u x → R u y → x ≡ y) → (us : List A) (xs ys : List B)
    → AllZip R us xs → AllZip R us ys → xs ≡ ys
zip_same R one [] [] [] h k = refl
zip_same R one [] [] (y ∷ ys) h k = absurd k
zip_same R one [] (x ∷ xs) ys h k = absurd h
zip_same R one (u ∷ us) [] ys h k = absurd h
zip_same R one (u ∷ us) (x ∷ xs) [] h k = absurd k
zip_same R one (u ∷ us) (x ∷ xs) (y ∷ ys) h k =
    let first = one u x y h.0 k.0 in
    let rest = zip_same R one us xs ys h.1 k.1 in
    λ i. first i ∷ rest i

-- what says something each says a list
pub zip_made : {A B : Type 0} (R : A → B → Type 0) (make : A → B) → ((u : A) → R u (make u)) → (us : List A) → AllZip R us (map make us)
zip_made R make says [] = tt
zip_made R make says (u ∷ us) = (says u, zip_made R make says us)

abbrev pub Say : {X F : Type 0} → List (Row X F) → Tree → X → Type 0
Say rows t x = Says rows (Some t) x

-- what an object says by the row at a place
abbrev pub SaysAt : {X F : Type 0} → ℕ → List (Row X F) → Option Tree → X → Type 0
SaysAt n [] o x = Unit {0}
SaysAt zero (r ∷ rs) o x = r.says o x
SaysAt (suc n) (r ∷ rs) o x = SaysAt n rs o x

pub says_at : {X F : Type 0} (n : ℕ) (rows : List (Row X F)) (o : Option Tree) (x : X) → Says rows o x → SaysAt n rows o x
says_at n [] o x h = tt
says_at zero (r ∷ rs) o x h = h.0
says_at (suc n) (r ∷ rs) o x h = says_at n rs o x h.1

-- one more of each list
zip_push : {A B : Type 0} (R : A → B → Type 0) (us : List A) (xs : List B) (u : A) (x : B) → AllZip R us xs → R u x → AllZip R (us ++ u ∷ []) (xs ++ x ∷ [])
zip_push R [] [] u x h r = (r, tt)
zip_push R [] (y ∷ ys) u x h r = absurd h
zip_push R (v ∷ vs) [] u x h r = absurd h
zip_push R (v ∷ vs) (y ∷ ys) u x h r = (h.0, zip_push R vs ys u x h.1 r)

-- one more tree was read
pub read_more : {X : Type 0} (R : Tree → X → Type 0) (trees : List Json) (i : ℕ) (t : Json) (xs new : List X) (x : X)
    → i < length trees → t ≡ get_or trees i t → new ≡ xs ++ x ∷ []
    → AllZip R (trees_of (take i trees)) xs → R (tree_of t) x → AllZip R (trees_of (take (i + 1) trees)) new
read_more R trees i t xs new x low is pushed h r =
    let front = trees_of (take i trees) in
    let more : trees_of (take (i + 1) trees) ≡ front ++ tree_of t ∷ [] =
    ap trees_of (take_more trees i t low) ∙ map-append tree_of (take i trees) (get_or trees i t ∷ []) ∙ ap (λ u. front ++ tree_of u ∷ []) (sym is) in
    subst (λ ts. AllZip R ts new) (sym more) (subst (AllZip R (front ++ tree_of t ∷ [])) (sym pushed) (zip_push R front xs (tree_of t) x h r))

-- these values are those of the trees so far, and the trees that are left have the fault that all have
pub record Walked {X F : Type 0} (rows : List Tree → List (Row X F)) (all before : List Tree) (xs : List X) (left : List Tree) : Type 0 where
  pub split : before ++ left ≡ all
  pub fault : first_among rows before left ≡ first_among rows [] all
  pub says : AllZip (Say (rows [])) before xs

pub walk_begins : {X F : Type 0} (rows : List Tree → List (Row X F)) (all : List Tree) → Walked rows all [] [] all
walk_begins rows all = record { split = refl; fault = refl; says = tt }

-- a tree without a fault
pub walk_on : {X F : Type 0} (rows : List Tree → List (Row X F)) (all before : List Tree) (xs : List X) (left ts : List Tree) (t : Tree) (x : X)
    → left ≡ t ∷ ts → first_fault (rows before) (Some t) ≡ None → Say (rows []) t x
    → Walked rows all before xs left → Walked rows all (before ++ t ∷ []) (xs ++ x ∷ []) ts
walk_on rows all before xs left ts t x is none says w = record {
  split = append_snoc before t ts ∙ ap (λ us. before ++ us) (sym is) ∙ w.split;
  fault = sym (ap (first_among rows before) is ∙ ap (λ o. or_else o (first_among rows (before ++ t ∷ []) ts)) none) ∙ w.fault;
  says = zip_push (Say (rows [])) before xs t x w.says says;
}

-- a tree with a fault
pub walk_off : {X F : Type 0} (rows : List Tree → List (Row X F)) (all before : List Tree) (xs : List X) (left ts : List Tree) (t : Tree) (f : F)
    → left ≡ t ∷ ts → first_fault (rows before) (Some t) ≡ Some f
    → Walked rows all before xs left → first_among rows [] all ≡ Some f
walk_off rows all before xs left ts t f is some w =
    sym w.fault ∙ ap (first_among rows before) is ∙ ap (λ o. or_else o (first_among rows (before ++ t ∷ []) ts)) some

-- the last tree was read
pub walk_faultless : {X F : Type 0} (rows : List Tree → List (Row X F)) (all before : List Tree) (xs : List X) (left : List Tree)
    → left ≡ [] → Walked rows all before xs left → first_among rows [] all ≡ None
walk_faultless rows all before xs left is w = sym w.fault ∙ ap (first_among rows before) is

pub walk_ends : {X F : Type 0} (rows : List Tree → List (Row X F)) (all before : List Tree) (xs : List X) (left : List Tree)
    → left ≡ [] → Walked rows all before xs left → AllZip (Say (rows [])) all xs
walk_ends rows all before xs left is w =
    subst (λ ts. AllZip (Say (rows [])) ts xs) (sym (append-nil before) ∙ ap (λ us. before ++ us) (sym is) ∙ w.split) w.says

-- where one table holds for each, what is before doesn't count
pub same_rows : {X F : Type 0} (rows : List (Row X F)) (before others ts : List Tree)
    → first_among (λ us. rows) before ts ≡ first_among (λ us. rows) others ts
same_rows rows before others [] = refl
same_rows rows before others (t ∷ ts) = ap (or_else (first_fault rows (Some t))) (same_rows rows (before ++ t ∷ []) (others ++ t ∷ []) ts)
