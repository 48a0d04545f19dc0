-- An expanded base has no mark that the base doesn't have.
use Rattle.std.proofs.Common.{◌≡◌, ℕ, ◌+◌, List, [], ◌∷◌, ◌++◌, All, Bool, true, false, not, ◌&&◌, ◌||◌, ◌==◌, Option, Some, None, cond, refl, ap, ap₂, arith}
use Rattle.std.specs.Prelude.{codes}
use Rattle.std.specs.List.{after_first, before_first, flat_map, list_all, list_any, onto_first, position_or_len, slice_split}
use Rattle.std.proofs.lemmas.Bool.{and_parts}
use Rattle.std.proofs.lemmas.Bool.Decides.{nat_tests}
use Rattle.std.proofs.lemmas.List.Elements.{All-nil, All-cons, All-head, All-tail, All-append, All-drop, All-weaker}
use Rattle.notice_book.specs.declared.kind.NoticeKind.{NoticeKind}
use Rattle.notice_macros.specs.Escaped.{formed}
use Rattle.notice_macros.specs.Expansion.{behind_dollar, expansion, is_closing, is_dollar, joined, macro_at, opening, replaced, substitute, url_expansion, with_rest}
use Rattle.notice_macros.specs.Macros.{macro_of, value_of}
use Rattle.notice_macros.specs.declared.values.Values.{Values}
use Rattle.two_books.specs.OwnNotices.{IsUnmarked, escaped, page_path}
use Rattle.two_books.proofs.Escapes.{IsWritten, written}
use Rattle.two_books.proofs.NamedTypes.{AMacro, APlace}

-- the expansion of pieces, by what becomes of a macro
abbrev pub replaced_by : (AMacro → List ℕ) → List ℕ → Option (AMacro × List ℕ) → List ℕ
replaced_by f t None = 36 ∷ t
replaced_by f t (Some x) = f x.0 ++ x.1

abbrev pub behind_by : (AMacro → List ℕ) → List ℕ → List ℕ
behind_by f t = replaced_by f t (macro_at t)

abbrev pub joined_by : (AMacro → List ℕ) → List (List ℕ) → List ℕ
joined_by f [] = []
joined_by f (first ∷ others) = first ++ flat_map (behind_by f) others

replaced_is : (place : APlace) (v : Values) (t : List ℕ) (m : Option (AMacro × List ℕ)) → replaced place v t m ≡ replaced_by (substitute place v) t m
replaced_is place v t None = refl
replaced_is place v t (Some x) = refl

pieces_are : (place : APlace) (v : Values) (ts : List (List ℕ)) → flat_map (behind_dollar place v) ts ≡ flat_map (behind_by (substitute place v)) ts
pieces_are place v [] = refl
pieces_are place v (t ∷ ts) = ap₂ (λ (a b : List ℕ). a ++ b) (replaced_is place v t (macro_at t)) (pieces_are place v ts)

joined_is : (place : APlace) (v : Values) (ts : List (List ℕ)) → joined place v ts ≡ joined_by (substitute place v) ts
joined_is place v [] = refl
joined_is place v (t ∷ ts) = ap (λ (l : List ℕ). t ++ l) (pieces_are place v ts)

module _ (P : ℕ → Type 0) (f : AMacro → List ℕ) (dollar : P 36) (each : (m : AMacro) → All P (f m)) where
  all_replaced : (t rest : List ℕ) (m : Option AMacro) → All P t → All P rest → All P (replaced_by f t (with_rest rest m))
  all_replaced t rest None all more = All-cons P 36 t dollar all
  all_replaced t rest (Some m) all more = All-append P (f m) rest (each m) more

  all_piece : (t : List ℕ) → All P t → All P (behind_by f t)
  all_piece [] all = All-cons P 36 [] dollar all
  all_piece (b ∷ t) all = by (b == opening && list_any is_closing t)
    where
      by : (c : Bool) → All P (replaced_by f (b ∷ t) (cond c (with_rest (after_first is_closing t) (macro_of (before_first is_closing t))) None))
      by true =
          all_replaced (b ∷ t) (after_first is_closing t) (macro_of (before_first is_closing t)) all
          (All-drop P (position_or_len is_closing t + 1) t (All-tail P b t all))
      by false = All-cons P 36 (b ∷ t) dollar all

  all_pieces : (ts : List (List ℕ)) → All (All P) ts → All P (flat_map (behind_by f) ts)
  all_pieces [] all = All-nil P
  all_pieces (t ∷ ts) all =
      All-append P (behind_by f t) (flat_map (behind_by f) ts) (all_piece t (All-head (All P) t ts all)) (all_pieces ts (All-tail (All P) t ts all))

  all_joined : (ts : List (List ℕ)) → All (All P) ts → All P (joined_by f ts)
  all_joined [] all = All-nil P
  all_joined (t ∷ ts) all =
      All-append P t (flat_map (behind_by f) ts) (All-head (All P) t ts all) (all_pieces ts (All-tail (All P) t ts all))

-- the pieces of a text
first_grows : (P : ℕ → Type 0) (y : ℕ) (xs : List (List ℕ)) → P y → All (All P) xs → All (All P) (onto_first y xs)
first_grows P y [] one all = All-cons (All P) (y ∷ []) [] (All-cons P y [] one (All-nil P)) (All-nil (All P))
first_grows P y (x ∷ xs) one all = All-cons (All P) (y ∷ x) xs (All-cons P y x one (All-head (All P) x xs all)) (All-tail (All P) x xs all)

all_split : (P : ℕ → Type 0) (t : List ℕ) → All P t → All (All P) (slice_split is_dollar t)
all_split P [] all = All-cons (All P) [] [] (All-nil P) (All-nil (All P))
all_split P (y ∷ t) all = by (is_dollar y) (all_split P t (All-tail P y t all))
  where
    by : (b : Bool) → All (All P) (slice_split is_dollar t) → All (All P) (cond b ([] ∷ slice_split is_dollar t) (onto_first y (slice_split is_dollar t)))
    by true more = All-cons (All P) [] (slice_split is_dollar t) (All-nil P) more
    by false more = first_grows P y (slice_split is_dollar t) (All-head P y t all) more

-- bytes that are no marks
abbrev pub is_unmarked : ℕ → Bool
is_unmarked b = not (b == 35 || b == 63)

unmarked : (b : ℕ) → is_unmarked b ≡ true → IsUnmarked b
unmarked b h = (λ e. grind (arith, nat_tests), λ e. grind (arith, nat_tests))

all_unmarked : (t : List ℕ) → list_all is_unmarked t ≡ true → All IsUnmarked t
all_unmarked [] h = All-nil IsUnmarked
all_unmarked (b ∷ t) h =
    let both = and_parts (is_unmarked b) (list_all is_unmarked t) h in
    All-cons IsUnmarked b t (unmarked b both.0) (all_unmarked t both.1)

written_unmarked : (b : ℕ) → IsWritten b → IsUnmarked b
written_unmarked b h = (λ e. grind (arith, nat_tests), λ e. grind (arith, nat_tests))

-- what a macro becomes in a URL
abbrev pub url_macro : Values → AMacro → List ℕ
url_macro v m = escaped (formed m.form (value_of v m.name))

macro_unmarked : (v : Values) (m : AMacro) → All IsUnmarked (url_macro v m)
macro_unmarked v m = All-weaker IsWritten IsUnmarked written_unmarked (url_macro v m) (written (formed m.form (value_of v m.name)))

pub base_unmarked : (v : Values) (base : List ℕ) → All IsUnmarked base → All IsUnmarked (url_expansion v base)
base_unmarked v base all =
    let h : (place : APlace) → expansion place v base ≡ joined_by (substitute place v) (slice_split is_dollar base) = λ place. joined_is place v (slice_split is_dollar base) in
    rw h (all_joined IsUnmarked (url_macro v) (unmarked 36 refl) (macro_unmarked v) (slice_split is_dollar base) (all_split IsUnmarked base all))

pub page_unmarked : (kind : NoticeKind) → All IsUnmarked (page_path kind)
page_unmarked NoticeKind.Win = all_unmarked (codes "/n/win") refl
page_unmarked NoticeKind.Bill = all_unmarked (codes "/n/bill") refl
page_unmarked NoticeKind.Loss = all_unmarked (codes "/n/loss") refl
