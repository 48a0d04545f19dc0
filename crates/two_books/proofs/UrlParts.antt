-- The query of a URL is what comes after its first question mark.
use Rattle.std.proofs.Common.{suc, ◌≡◌, ⊎_elim, ℕ, ◌+◌, ◌-◌, List, [], ◌∷◌, ◌++◌, ◌&&◌, All, length, take, drop, refl, sym, ap, ap₂, subst, ◌∙◌, arith, Bool, true, false, not, cond, Option, Some, None, Ok, Err, append_assoc}
use Rattle.std.proofs.lemmas.List.{reverse-append, take_all}
use Rattle.std.specs.Prelude.{reverse, filter, unwrap_or}
use Rattle.std.specs.Result.{result_ok}
use Rattle.std.proofs.lemmas.Bool.{cases_Bool, cond-true, cond-false}
use Rattle.std.proofs.lemmas.List.Elements.{All-nil, All-cons, All-head, All-tail, All-append, All-weaker, filter-append}
use Rattle.percent_encoding.specs.Percent.{percent_encode}
use Rattle.std.specs.List.{prefix_len, suffix_len}
use Rattle.url.specs.Input.{is_c0_control_or_space, is_tab_or_new_line, trim_start, trim_end, lowercase, split_once, strip_tabs_and_new_lines, trim_c0_control_and_space}
use Rattle.url.specs.Scheme.{is_special}
use Rattle.url.specs.Path.{escape_end}
use Rattle.url.specs.Parts.{Parts, kind_of, query_set}
use Rattle.url.specs.Parser.{Parsed, and_then, before_tail, end_path, parse_body, parse_by_scheme, parse_parts, parse_url, split_scheme, with_path, with_tail}
use Rattle.url.proofs.InputLemmas.{IsNot, filter_all, split_once_at, split_once_none}

-- the parts of a text with a query: a body without it, and the query escaped
pub record HasQuery (body query : List ℕ) (parts : Parts) : Type 0 where
  pub scheme : List ℕ
  pub rest : List ℕ
  pub before : Parts
  pub split : split_scheme body ≡ Some (scheme, rest)
  pub parsed : parse_body (lowercase scheme) None rest ≡ Ok before
  pub path : is_special (kind_of before) ≡ true → parts.path ≡ before.path
  pub kind : kind_of parts ≡ kind_of before
  pub query_is : parts.query ≡ Some (percent_encode (query_set (kind_of before)) query)

from_ok : (default a b : Parts) → ◌≡◌ {A = Parsed Parts} (Ok a) (Ok b) → a ≡ b
from_ok default a b e = ap (λ (r : Parsed Parts). unwrap_or (result_ok r) default) e

-- a URL with no base whose text, without what is trimmed and stripped, has a query
tail_read : (r : Parsed Parts) (query : List ℕ) (parts : Parts) → and_then r (λ url. Ok (with_tail (before_tail url (Some query) None) (Some query) None)) ≡ Ok parts
    → (before : Parts) × (r ≡ Ok before) × (parts ≡ with_tail (before_tail before (Some query) None) (Some query) None)
tail_read (Ok before) query parts e = (before, refl, sym (from_ok before (with_tail (before_tail before (Some query) None) (Some query) None) parts e))
tail_read (Err fault) query parts e = cc

end_kind : (b : Bool) (url : Parts) → kind_of (end_path b url) ≡ kind_of url
end_kind b url = by (not (is_special (kind_of url)) && b)
  where
    by : (c : Bool) → kind_of (cond c (with_path url (escape_end url.path)) url) ≡ kind_of url
    by true = refl
    by false = refl

end_special : (b : Bool) (url : Parts) → is_special (kind_of url) ≡ true → (end_path b url).path ≡ url.path
end_special b url h = ap (λ s. (cond (not s && b) (with_path url (escape_end url.path)) url).path) h

has_query : (scheme rest body query : List ℕ) (parts : Parts) → split_scheme body ≡ Some (scheme, rest) → parse_parts (lowercase scheme) None rest (Some query) None ≡ Ok parts → HasQuery body query parts
unfolding parse_parts
has_query scheme rest body query parts split e =
    let (before, parsed, is) = tail_read (parse_body (lowercase scheme) None rest) query parts e in
    record {
      scheme = scheme;
      rest = rest;
      before = before;
      split = split;
      parsed = parsed;
      path = λ special. ap (λ (p : Parts). p.path) is ∙ end_special true before special;
      kind = ap kind_of is ∙ end_kind true before;
      query_is = ap (λ (p : Parts). p.query) is ∙ ap (λ k. Some (percent_encode (query_set k) query)) (end_kind true before);
    }

by_scheme : (s : Option (List ℕ × List ℕ)) (body query : List ℕ) (parts : Parts) → split_scheme body ≡ s → parse_by_scheme s None body (Some query) None ≡ Ok parts → HasQuery body query parts
by_scheme None body query parts is e = cc
by_scheme (Some (scheme, rest)) body query parts is e = has_query scheme rest body query parts is e

pub url_has_query : (input body query : List ℕ) (parts : Parts) → strip_tabs_and_new_lines (trim_c0_control_and_space input) ≡ body ++ 63 ∷ query
    → All (IsNot 35) (body ++ 63 ∷ query) → All (IsNot 63) body → parse_url None input ≡ Ok parts → HasQuery body query parts
unfolding parse_url
url_has_query input body query parts text no_fragment first e =
    let hash = ap (split_once 35) text ∙ split_once_none 35 (body ++ 63 ∷ query) no_fragment in
    let question = ap (λ (h : List ℕ × Option (List ℕ)). split_once 63 h.0) hash ∙ split_once_at 63 body query first in
    by_scheme (split_scheme body) body query parts refl
    (ap₂ (λ (q : List ℕ × Option (List ℕ)) (h : List ℕ × Option (List ℕ)). parse_by_scheme (split_scheme q.0) None q.0 q.1 h.1) (sym question) (sym hash) ∙ e)

-- trimming the front of a text with a visible byte within takes from what comes before it alone
pub record Behind (P : ℕ → Type 0) (tail result : List ℕ) : Type 0 where
  pub front : List ℕ
  pub is : result ≡ front ++ tail
  pub each : All P front

trim_front : (P : ℕ → Type 0) (test : ℕ → Bool) (front : List ℕ) (c : ℕ) (tail : List ℕ) → All P front → test c ≡ false → Behind P (c ∷ tail) (trim_start test (front ++ c ∷ tail))
trim_front P test [] c tail each stop =
    record { front = []; is = ap (λ b. drop (cond b (1 + prefix_len test tail) 0) (c ∷ tail)) stop; each = All-nil P }
trim_front P test (b ∷ front) c tail each stop = by (test b) (trim_front P test front c tail (All-tail P b front each) stop)
  where
    by : (t : Bool) → Behind P (c ∷ tail) (trim_start test (front ++ c ∷ tail)) → Behind P (c ∷ tail) (drop (cond t (1 + prefix_len test (front ++ c ∷ tail)) 0) (b ∷ (front ++ c ∷ tail)))
    by false rest = record { front = b ∷ front; is = refl; each = each }
    by true rest =
        let n = prefix_len test (front ++ c ∷ tail) in
        let one : 1 + n ≡ suc n = omega arith in
        record { front = rest.front; is = ap (λ k. drop k (b ∷ (front ++ c ∷ tail))) one ∙ rest.is; each = rest.each }

-- what is stripped of a text is stripped of its parts
strip_parts : (front tail : List ℕ) → strip_tabs_and_new_lines (front ++ tail) ≡ strip_tabs_and_new_lines front ++ strip_tabs_and_new_lines tail
unfolding strip_tabs_and_new_lines
strip_parts front tail = filter-append (λ b. not (is_tab_or_new_line b)) front tail

-- a text whose last byte stays isn't trimmed at its end
trim_back : (test : ℕ → Bool) (xs : List ℕ) (l : ℕ) → test l ≡ false → trim_end test (xs ++ l ∷ []) ≡ xs ++ l ∷ []
trim_back test xs l stop =
    let none : suffix_len test (xs ++ l ∷ []) ≡ 0 = ap (prefix_len test) (reverse-append xs (l ∷ [])) ∙ ap (λ b. cond b (1 + prefix_len test (reverse xs)) 0) stop in
    let n = length (xs ++ l ∷ []) in
    let all : n - suffix_len test (xs ++ l ∷ []) ≡ n = omega (arith, none) in
    ap (λ k. take k (xs ++ l ∷ [])) all ∙ take_all n (xs ++ l ∷ []) (omega arith)

abbrev pub IsSolid : ℕ → Type 0
IsSolid b = (is_c0_control_or_space b ≡ false) × (not (is_tab_or_new_line b) ≡ true)

all_filtered : (P : ℕ → Type 0) (test : ℕ → Bool) (xs : List ℕ) → All P xs → All P (filter test xs)
all_filtered P test [] h = All-nil P
all_filtered P test (x ∷ xs) h =
    let rest = all_filtered P test xs (All-tail P x xs h) in
    ⊎_elim
    (λ e. subst (All P) (sym (cond-true (test x) (x ∷ filter test xs) (filter test xs) e)) (All-cons P x (filter test xs) (All-head P x xs h) rest))
    (λ e. subst (All P) (sym (cond-false (test x) (x ∷ filter test xs) (filter test xs) e)) rest)
    (cases_Bool (test x))

-- trimming and stripping touch nothing from the first solid byte on that only solid ones follow
pub solid_tail : (P : ℕ → Type 0) (front q : List ℕ) (c l : ℕ) → All P front → IsSolid c → All IsSolid q → IsSolid l
    → Behind P (c ∷ (q ++ l ∷ [])) (strip_tabs_and_new_lines (trim_c0_control_and_space (front ++ c ∷ (q ++ l ∷ []))))
unfolding strip_tabs_and_new_lines trim_c0_control_and_space
solid_tail P front q c l each first all last =
    let test = is_c0_control_or_space in
    let keep = λ (b : ℕ). not (is_tab_or_new_line b) in
    let f = trim_front P test front c (q ++ l ∷ []) each first.0 in
    let joined : f.front ++ c ∷ (q ++ l ∷ []) ≡ (f.front ++ c ∷ q) ++ l ∷ [] = sym (append_assoc f.front (c ∷ q) (l ∷ [])) in
    let ended = ap (trim_end test) (f.is ∙ joined) ∙ trim_back test (f.front ++ c ∷ q) l last.0 ∙ sym joined in
    let solid = All-cons (λ b. keep b ≡ true) c (q ++ l ∷ []) first.1 (All-append (λ b. keep b ≡ true) q (l ∷ []) (All-weaker IsSolid (λ b. keep b ≡ true) (λ b h. h.1) q all) (All-cons (λ b. keep b ≡ true) l [] last.1 (All-nil (λ b. keep b ≡ true)))) in
    record {
      front = filter keep f.front;
      is = ap (filter keep) ended ∙ filter-append keep f.front (c ∷ (q ++ l ∷ [])) ∙ ap (λ t. filter keep f.front ++ t) (filter_all keep (c ∷ (q ++ l ∷ [])) solid);
      each = all_filtered P keep f.front f.each;
    }

abbrev pub IsOfBody : ℕ → Type 0
IsOfBody b = IsNot 35 b × IsNot 63 b

-- a URL is made of a front without `?` and `#` and of a query of solid bytes without `#`: then that is its query
pub record OwnQuery (query : List ℕ) (parts : Parts) : Type 0 where
  pub body : List ℕ
  pub has : HasQuery body query parts

not_mark : (b : ℕ) → b ≡ 63 → IsNot 35 b
not_mark b is = grind arith

pub own_query : (front q : List ℕ) (l : ℕ) (parts : Parts) → All IsOfBody front → All IsSolid q → IsSolid l → All (IsNot 35) (q ++ l ∷ []) → parse_url None (front ++ 63 ∷ (q ++ l ∷ [])) ≡ Ok parts → OwnQuery (q ++ l ∷ []) parts
own_query front q l parts each all last no_mark e =
    let t = solid_tail IsOfBody front q 63 l each (refl, refl) all last in
    let text : strip_tabs_and_new_lines (trim_c0_control_and_space (front ++ 63 ∷ (q ++ l ∷ []))) ≡ t.front ++ 63 ∷ (q ++ l ∷ []) = t.is in
    let body = All-weaker IsOfBody (IsNot 35) (λ b h. h.0) t.front t.each in
    let marks = All-append (IsNot 35) t.front (63 ∷ (q ++ l ∷ [])) body (All-cons (IsNot 35) 63 (q ++ l ∷ []) (not_mark 63 refl) no_mark) in
    record { body = t.front; has = url_has_query (front ++ 63 ∷ (q ++ l ∷ [])) t.front (q ++ l ∷ []) parts text marks (All-weaker IsOfBody (IsNot 63) (λ b h. h.1) t.front t.each) e }
