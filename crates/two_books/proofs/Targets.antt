-- The target of a valid URL: its bytes, its path and its query.
use Rattle.std.proofs.Common.{◌≡◌, ◌≢◌, ◌⊎◌, ℕ, suc, ◌+◌, ◌<◌, List, [], ◌∷◌, ◌++◌, length, take, drop, get_or, refl, sym, ap, ◌∙◌, subst, arith, Bool, true, false, not, cond, All, ⊎_elim, Option, Some, None}
use Rattle.std.specs.Prelude.{codes, ◌==◌, bytes_eq, IfSome}
use Rattle.std.specs.List.{before_first, position_or_len}
use Rattle.std.proofs.lemmas.Bool.{true≢false}
use Rattle.std.proofs.lemmas.Bool.Decides.{nat_tests}
use Rattle.std.proofs.Math.Seq.{drop-append-add}
use Rattle.std.proofs.lemmas.List.{take_at}
use Rattle.std.proofs.lemmas.List.Elements.{All-append, All-cons, All-head, All-nil, All-tail, All-weaker}
use Rattle.std.proofs.lemmas.Slice.Eq.{bytes_eq-Decides}
use Rattle.percent_encoding.specs.Percent.{IsKept}
use Rattle.adx_http.specs.Targets.{is_question_mark, path_of, query_of}
use Rattle.url.specs.declared.host.Host.{Host}
use Rattle.url.specs.declared.scheme.SchemeType.{SchemeType}
use Rattle.url.specs.declared.sets.TheConstants.{PATH}
use Rattle.url.specs.Host.{host_text}
use Rattle.url.specs.Scheme.{default_port, is_special, scheme_type}
use Rattle.url.specs.Parts.{IsHierarchicalPath, IsValid, Parts, has_authority, kind_of, query_set}
use Rattle.url.proofs.InputLemmas.{Passes}
use Rattle.url.proofs.PathLemmas.{rooted}
use Rattle.url.proofs.SetLemmas.{kept_differs}
use Rattle.url.proofs.TextLemmas.{host_bytes, is_host_byte, is_query_byte, query_byte}
use Rattle.url.proofs.ValidLemmas.{base_from_authority, hierarchical, segment_list_kept}
use Rattle.outbox.specs.Calls.{query_part, target_of}
use Rattle.two_books.proofs.OneRequest.{IsClean}

-- ---- bytes

-- a byte that passes a test isn't one that fails it
differs : (test : ℕ → Bool) (c : ℕ) → test c ≡ false → (b : ℕ) → test b ≡ true → b ≢ c
differs test c fails b passes is = true≢false (sym passes ∙ (ap test is ∙ fails))

all_differ : (test : ℕ → Bool) (c : ℕ) → test c ≡ false → (xs : List ℕ) → All (λ b. test b ≡ true) xs → All (λ b. b ≢ c) xs
all_differ test c fails xs all = All-weaker (λ b. test b ≡ true) (λ b. b ≢ c) (differs test c fails) xs all

-- the query's bytes after its question mark
query_differs : (c : ℕ) → 63 ≢ c → is_query_byte c ≡ false → (kind : SchemeType) (q : Option (List ℕ)) → IfSome q (All (IsKept (query_set kind))) → All (λ b. b ≢ c) (query_part q)
query_differs c mark fails kind None kept = All-nil (λ b. b ≢ c)
query_differs c mark fails kind (Some q) kept =
    All-cons (λ b. b ≢ c) 63 q mark (all_differ is_query_byte c fails q (All-weaker (IsKept (query_set kind)) (Passes is_query_byte) (query_byte kind) q kept))

authority : (p : Parts) (h : Host (List ℕ)) → p.host ≡ Some h → has_authority p ≡ true
authority p h has = rw has

-- a URL with a host has a list of segments as its path
segments : (p : Parts) (h : Host (List ℕ)) → p.host ≡ Some h → IsValid p → IsHierarchicalPath (kind_of p) p.path
segments p h has valid = hierarchical p valid.path (base_from_authority p (authority p h has))

path_kept : (p : Parts) (h : Host (List ℕ)) → p.host ≡ Some h → IsValid p → All (IsKept PATH) p.path
path_kept p h has valid = segment_list_kept (kind_of p) p.path (segments p h has valid).0

path_differs : (c : ℕ) (p : Parts) (h : Host (List ℕ)) → p.host ≡ Some h → IsValid p → ((b : ℕ) → IsKept PATH b → b ≢ c) → All (λ b. b ≢ c) p.path
path_differs c p h has valid kept = All-weaker (IsKept PATH) (λ b. b ≢ c) kept p.path (path_kept p h has valid)

-- the host and the target of a valid URL hold no line feed, and its target no space
pub clean : (p : Parts) (h : Host (List ℕ)) → p.host ≡ Some h → IsValid p → IsClean (host_text h) (target_of p)
clean p h has valid = record {
  host_line = all_differ is_host_byte 10 refl (host_text h) (host_bytes (kind_of p) h (rw has at valid.head.host));
  target_line =
      All-append (λ b. b ≢ 10) p.path (query_part p.query) (path_differs 10 p h has valid (kept_differs PATH 10 refl))
      (query_differs 10 (λ e. omega (arith, e)) refl (kind_of p) p.query valid.query);
  target_word =
      All-append (λ b. b ≢ 32) p.path (query_part p.query) (path_differs 32 p h has valid (kept_differs PATH 32 refl))
      (query_differs 32 (λ e. omega (arith, e)) refl (kind_of p) p.query valid.query);
}

-- ---- the path and the query that a target names

mark_at : (xs ys : List ℕ) → All (λ b. b ≢ 63) xs → position_or_len is_question_mark (xs ++ 63 ∷ ys) ≡ length xs
mark_at [] ys none = refl
mark_at (x ∷ xs) ys none = by (x == 63) refl (mark_at xs ys (All-tail (λ b. b ≢ 63) x xs none))
  where
    same : (a b : ℕ) → (a == b) ≡ true → a ≡ b
    same a b e = grind (arith, nat_tests)

    by : (t : Bool) → (x == 63) ≡ t → position_or_len is_question_mark (xs ++ 63 ∷ ys) ≡ length xs → cond (not (x == 63)) (1 + position_or_len is_question_mark (xs ++ 63 ∷ ys)) 0 ≡ suc (length xs)
    by true is later = absurd (All-head (λ b. b ≢ 63) x xs none (same x 63 is))
    by false is later =
        let one : 1 + length xs ≡ suc (length xs) = omega arith in
        ap (λ t. cond (not t) (1 + position_or_len is_question_mark (xs ++ 63 ∷ ys)) 0) is ∙ (ap (λ n. 1 + n) later ∙ one)

not_zero : (n : ℕ) → (suc n == 0) ≡ false
not_zero n = grind (arith, nat_tests)

pub own_path : (xs ys : List ℕ) → All (λ b. b ≢ 63) (47 ∷ xs) → path_of ((47 ∷ xs) ++ 63 ∷ ys) ≡ 47 ∷ xs
own_path xs ys none =
    let front : before_first is_question_mark ((47 ∷ xs) ++ 63 ∷ ys) ≡ 47 ∷ xs =
    ap (λ n. take n ((47 ∷ xs) ++ 63 ∷ ys)) (mark_at (47 ∷ xs) ys none) ∙ take_at (47 ∷ xs) (63 ∷ ys) (length (47 ∷ xs)) refl in
    ap (λ (t : List ℕ). cond (length t == 0) (codes "/") t) front ∙ ap (λ b. cond b (codes "/") (47 ∷ xs)) (not_zero (length xs))

pub own_query : (xs ys : List ℕ) → All (λ b. b ≢ 63) (47 ∷ xs) → query_of ((47 ∷ xs) ++ 63 ∷ ys) ≡ ys
own_query xs ys none =
    ap (λ n. drop (n + 1) ((47 ∷ xs) ++ 63 ∷ ys)) (mark_at (47 ∷ xs) ys none) ∙ drop-append-add (47 ∷ xs) (63 ∷ ys) 1

-- the path of an http URL with a host begins with a slash
http_special : (p : Parts) → bytes_eq p.scheme (codes "http") ≡ true → is_special (kind_of p) ≡ true
unfolding scheme_type default_port
http_special p http =
    let is : p.scheme ≡ codes "http" = (bytes_eq-Decides p.scheme (codes "http")).0 http in
    ap (λ (s : List ℕ). is_special (scheme_type s)) is

slash_first : (path : List ℕ) → (path ≡ []) ⊎ (get_or path 0 0 ≡ 47) → 0 < length path → (xs : List ℕ) × (path ≡ 47 ∷ xs)
slash_first [] root some = absurd (omega arith)
slash_first (b ∷ xs) root some = (xs, ⊎_elim (λ none. absurd (cc)) (λ first. ap (λ c. c ∷ xs) first) root)

pub rooted_path : (p : Parts) (h : Host (List ℕ)) → p.host ≡ Some h → bytes_eq p.scheme (codes "http") ≡ true → IsValid p → (xs : List ℕ) × (p.path ≡ 47 ∷ xs)
rooted_path p h has http valid =
    let list = segments p h has valid in
    slash_first p.path (rooted (kind_of p) p.path list.0) (list.1 (http_special p http))

-- what a target of such a URL with a query names
pub record Names (target path query : List ℕ) : Type 0 where
  pub path_is : path_of target ≡ path
  pub query_is : query_of target ≡ query

pub names : (p : Parts) (h : Host (List ℕ)) (query : List ℕ) → p.host ≡ Some h → bytes_eq p.scheme (codes "http") ≡ true → IsValid p → p.query ≡ Some query → Names (target_of p) p.path query
names p h query has http valid is =
    let root = rooted_path p h has http valid in
    let none : All (λ b. b ≢ 63) (47 ∷ root.0) = subst (All (λ b. b ≢ 63)) root.1 (path_differs 63 p h has valid (kept_differs PATH 63 refl)) in
    let target : target_of p ≡ (47 ∷ root.0) ++ 63 ∷ query = ap (λ (q : Option (List ℕ)). p.path ++ query_part q) is ∙ ap (λ (t : List ℕ). t ++ 63 ∷ query) root.1 in
    record {
      path_is = ap path_of target ∙ (own_path root.0 query none ∙ sym root.1);
      query_is = ap query_of target ∙ own_query root.0 query none;
    }
