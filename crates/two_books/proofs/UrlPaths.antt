-- The path of an http URL ends with the last segment of its text before the query.
use Rattle.std.proofs.Common.{◌≡◌, ◌≢◌, ◌⊎◌, ⊎_elim, ℕ, zero, suc, ◌+◌, ◌-◌, ◌<◌, ◌≤◌, List, [], ◌∷◌, ◌++◌, ◌&&◌, All, length, take, drop, get_or, refl, sym, ap, subst, ◌∙◌, arith, Bool, true, false, not, cond, leb, Option, Some, None, Ok, Err, append_assoc}
use Rattle.std.specs.Prelude.{codes, slice_index, unwrap_or, ◌==◌}
use Rattle.std.specs.List.{prefix_len}
use Rattle.std.specs.Result.{result_ok}
use Rattle.std.proofs.lemmas.Bool.{and_parts, cases_Bool, cond-false, cond-true}
use Rattle.std.proofs.lemmas.Bool.Decides.{nat_tests}
use Rattle.std.proofs.lemmas.List.{drop-append-le}
use Rattle.std.proofs.lemmas.List.Elements.{All-append, All-cons, All-head, All-nil, All-tail, All-weaker}
use Rattle.url.specs.declared.error.ParseError.{ParseError}
use Rattle.url.specs.declared.host.Host.{Host}
use Rattle.url.specs.declared.scheme.SchemeType.{SchemeType}
use Rattle.url.specs.Head.{scheme_only, with_authority}
use Rattle.url.specs.Input.{is_empty, lowercase, strip_tabs_and_new_lines, trim_c0_control_and_space, trim_start}
use Rattle.url.specs.Parser.{Parsed, after_double_slash, after_file_double_slash, and_then, file_with_host, parse_authority, parse_body, parse_file, parse_non_special, parse_url, skip_slashes, split_scheme, with_path}
use Rattle.url.specs.Parts.{Parts, kind_of}
use Rattle.percent_encoding.specs.AsciiSet.{should_percent_encode}
use Rattle.percent_encoding.specs.Percent.{percent_encode}
use Rattle.url.specs.Path.{dot_count, parse_path, parse_path_start, parse_segments, push_segment, segment_len}
use Rattle.url.specs.Scheme.{is_file, is_slash, is_special, scheme_len, scheme_type}
use Rattle.url.proofs.InputLemmas.{IsNot, Passes}
use Rattle.url.proofs.PathLemmas.{IsNoSlash, parse_path_last}
use Rattle.url.proofs.TextLemmas.{is_query_byte}
use Rattle.two_books.proofs.UrlParts.{HasQuery, IsOfBody, IsSolid, solid_tail, url_has_query}

-- a list that ends so
abbrev pub EndsIn : List ℕ → List ℕ → Type 0
EndsIn tail xs = (front : List ℕ) × (xs ≡ front ++ tail)

-- ---- the last segment

-- what is after the last slash is the last segment that is pushed
record LastIs (kind : SchemeType) (s result : List ℕ) : Type 0 where
  pub before : List ℕ
  pub pushed : result ≡ push_segment kind before s true

last_alone : (kind : SchemeType) (path s : List ℕ) → All (IsNoSlash kind) s → LastIs kind s (parse_segments kind path [] s)
last_alone kind path s whole = record { before = path; pushed = parse_path_last kind path s whole }

last_segment : (kind : SchemeType) (path segment xs s : List ℕ) → All (IsNoSlash kind) s → is_slash kind 47 ≡ true → LastIs kind s (parse_segments kind path segment (xs ++ 47 ∷ s))
unfolding parse_segments
last_segment kind path segment [] s whole slash =
    subst (LastIs kind s) (sym (cond-true (is_slash kind 47) (parse_segments kind (push_segment kind path segment false) [] s) (parse_segments kind path (segment ++ 47 ∷ []) s) slash)) (last_alone kind (push_segment kind path segment false) s whole)
last_segment kind path segment (b ∷ xs) s whole slash =
    ⊎_elim
    (λ e. subst (LastIs kind s) (sym (cond-true (is_slash kind b) (parse_segments kind (push_segment kind path segment false) [] (xs ++ 47 ∷ s)) (parse_segments kind path (segment ++ b ∷ []) (xs ++ 47 ∷ s)) e)) (last_segment kind (push_segment kind path segment false) [] xs s whole slash))
    (λ e. subst (LastIs kind s) (sym (cond-false (is_slash kind b) (parse_segments kind (push_segment kind path segment false) [] (xs ++ 47 ∷ s)) (parse_segments kind path (segment ++ b ∷ []) (xs ++ 47 ∷ s)) e)) (last_segment kind path (segment ++ b ∷ []) xs s whole slash))
    (cases_Bool (is_slash kind b))

-- a segment of letters that is pushed last is at the end of the path, after a slash
abbrev pub IsWord : List ℕ → Type 0
IsWord s = (path : List ℕ) → push_segment SchemeType.SpecialNotFile path s true ≡ path ++ 47 ∷ s

pub word_win : IsWord (codes "win")
unfolding push_segment dot_count percent_encode should_percent_encode
word_win path = refl

pub word_bill : IsWord (codes "bill")
unfolding push_segment dot_count percent_encode should_percent_encode
word_bill path = refl

pub word_loss : IsWord (codes "loss")
unfolding push_segment dot_count percent_encode should_percent_encode
word_loss path = refl

ends_pushed : (s result : List ℕ) → IsWord s → LastIs SchemeType.SpecialNotFile s result → EndsIn (47 ∷ s) result
ends_pushed s result word last = (last.before, last.pushed ∙ word last.before)

-- ---- the path after the host

-- a text that is cut at its first slash, where a slash comes before its last segment
drop_to : (kind : SchemeType) (xs s : List ℕ) → is_slash kind 47 ≡ true → EndsIn (47 ∷ s) (drop (segment_len kind (xs ++ 47 ∷ s)) (xs ++ 47 ∷ s))
drop_to kind [] s slash = ([], ap (λ t. drop (cond (not t) (1 + segment_len kind s) 0) (47 ∷ s)) slash)
drop_to kind (b ∷ xs) s slash = by (is_slash kind b) refl (drop_to kind xs s slash)
  where
    by : (t : Bool) → is_slash kind b ≡ t → EndsIn (47 ∷ s) (drop (segment_len kind (xs ++ 47 ∷ s)) (xs ++ 47 ∷ s)) → EndsIn (47 ∷ s) (drop (segment_len kind (b ∷ (xs ++ 47 ∷ s))) (b ∷ (xs ++ 47 ∷ s)))
    by true is rest = (b ∷ xs, ap (λ t. drop (cond (not t) (1 + segment_len kind (xs ++ 47 ∷ s)) 0) (b ∷ (xs ++ 47 ∷ s))) is)
    by false is rest =
        let n = segment_len kind (xs ++ 47 ∷ s) in
        let one : 1 + n ≡ suc n = omega arith in
        (rest.0, ap (λ t. drop (cond (not t) (1 + n) 0) (b ∷ (xs ++ 47 ∷ s))) is ∙ (ap (λ k. drop k (b ∷ (xs ++ 47 ∷ s))) one ∙ rest.1))

and_false : (b : Bool) → (b && false) ≡ false
and_false true = refl
and_false false = refl

-- a special URL's path begins after the first slash, or with the first byte
abbrev begun : List ℕ → List ℕ
begun bytes =
    cond (is_slash SchemeType.SpecialNotFile (slice_index bytes 0)) (parse_path SchemeType.SpecialNotFile [] (drop 1 bytes)) (parse_path SchemeType.SpecialNotFile [] bytes)

start_is : (bytes : List ℕ) → parse_path_start SchemeType.SpecialNotFile [] bytes ≡ begun bytes
unfolding parse_path_start
start_is bytes = ap (λ t. cond t [] (begun bytes)) (and_false (is_empty bytes))

path_ends : (s bytes : List ℕ) → IsWord s → All (IsNoSlash SchemeType.SpecialNotFile) s → EndsIn (47 ∷ s) bytes → EndsIn (47 ∷ s) (parse_path_start SchemeType.SpecialNotFile [] bytes)
path_ends s bytes word whole ends =
    subst (λ (t : List ℕ). EndsIn (47 ∷ s) (parse_path_start SchemeType.SpecialNotFile [] t)) (sym ends.1)
    (subst (EndsIn (47 ∷ s)) (sym (start_is (ends.0 ++ 47 ∷ s))) (by ends.0))
  where
    kind : SchemeType
    kind = SchemeType.SpecialNotFile

    -- a slash in front, or none
    started : (x : ℕ) (xs : List ℕ) (t : Bool) → is_slash kind x ≡ t → EndsIn (47 ∷ s) (cond t (parse_path kind [] (xs ++ 47 ∷ s)) (parse_path kind [] (x ∷ (xs ++ 47 ∷ s))))
    started x xs true is = ends_pushed s _ word (last_segment kind [] [] xs s whole refl)
    started x xs false is = ends_pushed s _ word (last_segment kind [] [] (x ∷ xs) s whole refl)

    by : (front : List ℕ) → EndsIn (47 ∷ s) (begun (front ++ 47 ∷ s))
    by [] = ends_pushed s _ word (last_alone kind [] s whole)
    by (x ∷ xs) = started x xs (is_slash kind x) refl

-- ---- what comes after the slashes of the scheme

-- trimming the front of a text with a byte that stays takes from what comes before it alone
trimmed : (test : ℕ → Bool) (front : List ℕ) (c : ℕ) (tail : List ℕ) → test c ≡ false → EndsIn (c ∷ tail) (trim_start test (front ++ c ∷ tail))
trimmed test [] c tail stop = ([], ap (λ b. drop (cond b (1 + prefix_len test tail) 0) (c ∷ tail)) stop)
trimmed test (b ∷ front) c tail stop = by (test b) (trimmed test front c tail stop)
  where
    by : (t : Bool) → EndsIn (c ∷ tail) (trim_start test (front ++ c ∷ tail)) → EndsIn (c ∷ tail) (drop (cond t (1 + prefix_len test (front ++ c ∷ tail)) 0) (b ∷ (front ++ c ∷ tail)))
    by false rest = (b ∷ front, refl)
    by true rest =
        let n = prefix_len test (front ++ c ∷ tail) in
        let one : 1 + n ≡ suc n = omega arith in
        (rest.0, ap (λ k. drop k (b ∷ (front ++ c ∷ tail))) one ∙ rest.1)

-- what follows the two slashes of an http URL
head_path : (s bytes : List ℕ) (head : Parsed Parts) (path : List ℕ) (parts : Parts) → EndsIn (47 ∷ s) path → and_then head (λ h. Ok (with_path h path)) ≡ Ok parts → EndsIn (47 ∷ s) parts.path
head_path s bytes (Ok head) path parts ends e =
    let is : with_path head path ≡ parts = ap (λ (r : Parsed Parts). unwrap_or (result_ok r) parts) e in
    subst (λ (p : Parts). EndsIn (47 ∷ s) p.path) is ends
head_path s bytes (Err fault) path parts ends e = absurd (cc)

behind_host : (scheme s bytes : List ℕ) (parts : Parts) → scheme_type scheme ≡ SchemeType.SpecialNotFile → IsWord s → All (IsNoSlash SchemeType.SpecialNotFile) s
    → EndsIn (110 ∷ 47 ∷ s) bytes → after_double_slash scheme bytes ≡ Ok parts → EndsIn (47 ∷ s) parts.path
unfolding after_double_slash
behind_host scheme s bytes parts kind word whole ends e =
    let same : bytes ≡ (ends.0 ++ 110 ∷ []) ++ 47 ∷ s = ends.1 ∙ sym (append_assoc ends.0 (110 ∷ []) (47 ∷ s)) in
    let later : EndsIn (47 ∷ s) (drop (segment_len SchemeType.SpecialNotFile bytes) bytes) =
    subst (λ (t : List ℕ). EndsIn (47 ∷ s) (drop (segment_len SchemeType.SpecialNotFile t) t)) (sym same) (drop_to SchemeType.SpecialNotFile (ends.0 ++ 110 ∷ []) s refl) in
    head_path s bytes (parse_authority scheme (take (segment_len (scheme_type scheme) bytes) bytes)) (parse_path_start (scheme_type scheme) [] (drop (segment_len (scheme_type scheme) bytes) bytes)) parts
    (subst (λ (k : SchemeType). EndsIn (47 ∷ s) (parse_path_start k [] (drop (segment_len k bytes) bytes))) (sym kind) (path_ends s (drop (segment_len SchemeType.SpecialNotFile bytes) bytes) word whole later))
    e

-- the body of an http URL whose text ends in `n`, a slash and a word
pub body_path : (scheme s rest : List ℕ) (parts : Parts) → scheme_type scheme ≡ SchemeType.SpecialNotFile → IsWord s → All (IsNoSlash SchemeType.SpecialNotFile) s
    → EndsIn (110 ∷ 47 ∷ s) rest → parse_body scheme None rest ≡ Ok parts → EndsIn (47 ∷ s) parts.path
unfolding parse_body
body_path scheme s rest parts kind word whole ends e =
    let trim : EndsIn (110 ∷ 47 ∷ s) (skip_slashes rest) = subst (λ (t : List ℕ). EndsIn (110 ∷ 47 ∷ s) (skip_slashes t)) (sym ends.1) (trimmed _ ends.0 110 (47 ∷ s) refl) in
    behind_host scheme s (skip_slashes rest) parts kind word whole trim
    (subst (λ (k : SchemeType). cond (is_file k) (parse_file None rest) (cond (is_special k) (after_double_slash scheme (skip_slashes rest)) (parse_non_special scheme rest)) ≡ Ok parts) kind e)

-- ---- the scheme

from_ok : (p q : Parts) → ◌≡◌ {A = Parsed Parts} (Ok p) (Ok q) → p ≡ q
from_ok p q e = ap (λ (r : Parsed Parts). unwrap_or (result_ok r) p) e

authority_by : (t : Bool) (scheme user password : List ℕ) (host : Parsed (Host (List ℕ))) (port : Parsed (Option ℕ)) (p : Parts)
    → cond t (Err ParseError.EmptyHost) (and_then host (λ h. and_then port (λ o. Ok (with_authority scheme user password h o)))) ≡ Ok p → p.scheme ≡ scheme
authority_by true scheme user password host port p e = absurd (cc)
authority_by false scheme user password (Ok h) (Ok o) p e = ap (λ (q : Parts). q.scheme) (sym (from_ok (with_authority scheme user password h o) p e))
authority_by false scheme user password (Ok h) (Err fault) p e = absurd (cc)
authority_by false scheme user password (Err fault) port p e = absurd (cc)

authority_scheme : (scheme bytes : List ℕ) (p : Parts) → parse_authority scheme bytes ≡ Ok p → p.scheme ≡ scheme
unfolding parse_authority
authority_scheme scheme bytes p e = authority_by _ scheme _ _ _ _ p e

with_path_scheme : (scheme : List ℕ) (head : Parsed Parts) (path : List ℕ) (p : Parts) → ((h : Parts) → head ≡ Ok h → h.scheme ≡ scheme) → and_then head (λ h. Ok (with_path h path)) ≡ Ok p → p.scheme ≡ scheme
with_path_scheme scheme (Ok head) path p known e = ap (λ (q : Parts). q.scheme) (sym (from_ok (with_path head path) p e)) ∙ known head refl
with_path_scheme scheme (Err fault) path p known e = absurd (cc)

double_scheme : (scheme bytes : List ℕ) (p : Parts) → after_double_slash scheme bytes ≡ Ok p → p.scheme ≡ scheme
unfolding after_double_slash
double_scheme scheme bytes p e = with_path_scheme scheme _ _ p (λ h is. authority_scheme scheme _ h is) e

non_special_by : (two one : Bool) (scheme : List ℕ) (double : Parsed Parts) (a b : List ℕ) (p : Parts) → (double ≡ Ok p → p.scheme ≡ scheme)
    → cond two double (cond one (Ok (with_path (scheme_only scheme) a)) (Ok (with_path (scheme_only scheme) b))) ≡ Ok p → p.scheme ≡ scheme
non_special_by true one scheme double a b p known e = known e
non_special_by false true scheme double a b p known e = ap (λ (q : Parts). q.scheme) (sym (from_ok (with_path (scheme_only scheme) a) p e))
non_special_by false false scheme double a b p known e = ap (λ (q : Parts). q.scheme) (sym (from_ok (with_path (scheme_only scheme) b) p e))

non_special_scheme : (scheme body : List ℕ) (p : Parts) → parse_non_special scheme body ≡ Ok p → p.scheme ≡ scheme
unfolding parse_non_special
non_special_scheme scheme body p e = non_special_by _ _ scheme _ _ _ p (double_scheme scheme _ p) e

file_host_by : (host : Parsed (Host (List ℕ))) (path : Host (List ℕ) → List ℕ) (p : Parts) → and_then host (λ h. Ok (with_path (file_with_host h) (path h))) ≡ Ok p → p.scheme ≡ codes "file"
file_host_by (Ok h) path p e = ap (λ (q : Parts). q.scheme) (sym (from_ok (with_path (file_with_host h) (path h)) p e))
file_host_by (Err fault) path p e = absurd (cc)

file_double_by : (t : Bool) (host : Parsed (Host (List ℕ))) (a b : List ℕ) (p : Parts)
    → cond t (Ok (with_path (file_with_host (Host.Domain [])) a)) (and_then host (λ h. Ok (with_path (file_with_host h) b))) ≡ Ok p → p.scheme ≡ codes "file"
file_double_by true host a b p e = ap (λ (q : Parts). q.scheme) (sym (from_ok (with_path (file_with_host (Host.Domain [])) a) p e))
file_double_by false host a b p e = file_host_by host (λ h. b) p e

file_double_scheme : (bytes : List ℕ) (p : Parts) → after_file_double_slash bytes ≡ Ok p → p.scheme ≡ codes "file"
unfolding after_file_double_slash
file_double_scheme bytes p e = file_double_by _ _ _ _ p e

file_by : (t : Bool) (double : Parsed Parts) (a : List ℕ) (p : Parts) → (double ≡ Ok p → p.scheme ≡ codes "file") → cond t double (Ok (with_path (file_with_host (Host.Domain [])) a)) ≡ Ok p → p.scheme ≡ codes "file"
file_by true double a p known e = known e
file_by false double a p known e = ap (λ (q : Parts). q.scheme) (sym (from_ok (with_path (file_with_host (Host.Domain [])) a) p e))

file_scheme : (body : List ℕ) (p : Parts) → parse_file None body ≡ Ok p → p.scheme ≡ codes "file"
unfolding parse_file
file_scheme body p e = file_by _ _ _ p (file_double_scheme _ p) e

-- the body of a URL without a base has the kind of its scheme
body_kind : (scheme rest : List ℕ) (p : Parts) → parse_body scheme None rest ≡ Ok p → kind_of p ≡ scheme_type scheme
unfolding parse_body scheme_type
body_kind scheme rest p e = by (scheme_type scheme) refl e
  where
    special : after_double_slash scheme (skip_slashes rest) ≡ Ok p → kind_of p ≡ scheme_type scheme
    special e = ap scheme_type (double_scheme scheme (skip_slashes rest) p e)

    by : (k : SchemeType) → scheme_type scheme ≡ k
        → cond (is_file k) (parse_file None rest) (cond (is_special k) (after_double_slash scheme (skip_slashes rest)) (parse_non_special scheme rest)) ≡ Ok p → kind_of p ≡ scheme_type scheme
    by SchemeType.File is e = ap scheme_type (file_scheme rest p e) ∙ sym is
    by SchemeType.SpecialNotFile is e = special e
    by SchemeType.NotSpecial is e = ap scheme_type (non_special_scheme scheme rest p e)

-- ---- the whole text

at_front : (xs tail : List ℕ) (n : ℕ) → All (λ b. b ≢ 58) tail → get_or (xs ++ tail) n 0 ≡ 58 → n < length xs
at_front [] [] zero none is = absurd (omega (arith, is))
at_front [] [] (suc n) none is = absurd (omega (arith, is))
at_front [] (b ∷ tail) zero none is = absurd (All-head (λ b. b ≢ 58) b tail none is)
at_front [] (b ∷ tail) (suc n) none is = absurd (omega (arith, at_front [] tail n (All-tail (λ b. b ≢ 58) b tail none) is))
at_front (x ∷ xs) tail zero none is = omega arith
at_front (x ∷ xs) tail (suc n) none is = let h = at_front xs tail n none is in omega (arith, h)

split_by : (t : Bool) (n : ℕ) (bytes scheme rest : List ℕ) → cond {A = Option (List ℕ × List ℕ)} t (Some (take n bytes, drop (n + 1) bytes)) None ≡ Some (scheme, rest) → (t ≡ true) × (drop (n + 1) bytes ≡ rest)
split_by true n bytes scheme rest e = (refl, ap (λ (o : Option (List ℕ × List ℕ)). (unwrap_or o (scheme, rest)).1) e)
split_by false n bytes scheme rest e = absurd (cc)

-- what follows the scheme of a text ends as the text does
pub rest_ends : (front tail scheme rest : List ℕ) → All (λ b. b ≢ 58) tail → split_scheme (front ++ tail) ≡ Some (scheme, rest) → EndsIn tail rest
unfolding split_scheme
rest_ends front tail scheme rest none e =
    let n = scheme_len (front ++ tail) in
    let parts = split_by _ n (front ++ tail) scheme rest e in
    let colon : get_or (front ++ tail) n 0 ≡ 58 = same (get_or (front ++ tail) n 0) 58 (and_parts _ _ parts.0).1 in
    let within : scheme_len (front ++ tail) < length front = at_front front tail n none colon in
    let inside : n + 1 ≤ length front = omega (arith, within) in
    (drop (n + 1) front, sym parts.1 ∙ drop-append-le (n + 1) front tail inside)
  where
    same : (a b : ℕ) → (a == b) ≡ true → a ≡ b
    same a b e = grind (arith, nat_tests)

-- ---- a word of letters after `/n/`, and a query

abbrev pub is_letter : ℕ → Bool
is_letter b = leb 97 b && leb b 122

letter_solid : (b : ℕ) → is_letter b ≡ true → IsSolid b
letter_solid b h = (grind (arith, nat_tests), grind (arith, nat_tests))

letter_differs : (b c : ℕ) → c < 97 → is_letter b ≡ true → b ≢ c
letter_differs b c low h e = grind (arith, nat_tests)

letter_no_slash : (b : ℕ) → is_letter b ≡ true → IsNoSlash SchemeType.SpecialNotFile b
letter_no_slash b h = grind (arith, nat_tests)

query_solid : (b : ℕ) → Passes is_query_byte b → IsSolid b
query_solid b h = (grind (arith, nat_tests), grind (arith, nat_tests))

query_no_hash : (b : ℕ) → Passes is_query_byte b → IsNot 35 b
query_no_hash b h e = grind (arith, nat_tests)

mark_solid : IsSolid 63
mark_solid = (refl, refl)

slash_solid : IsSolid 47
slash_solid = (refl, refl)

-- a text that isn't empty has a last byte
record LastCut (xs : List ℕ) : Type 0 where
  pub front : List ℕ
  pub last : ℕ
  pub is : front ++ last ∷ [] ≡ xs
  pub each : All IsSolid front
  pub at_last : IsSolid last

last_cut : (x : ℕ) (xs : List ℕ) → All IsSolid (x ∷ xs) → LastCut (x ∷ xs)
last_cut x [] all = record { front = []; last = x; is = refl; each = All-nil IsSolid; at_last = All-head IsSolid x [] all }
last_cut x (y ∷ ys) all =
    let more : LastCut (y ∷ ys) = last_cut y ys (All-tail IsSolid x (y ∷ ys) all) in record {
      front = x ∷ more.front;
      last = more.last;
      is = ap (λ (r : List ℕ). x ∷ r) more.is;
      each = All-cons IsSolid x more.front (All-head IsSolid x (y ∷ ys) all) more.each;
      at_last = more.at_last;
    }

-- the path `/n/` and a word
abbrev page_tail : List ℕ → List ℕ
page_tail s = 47 ∷ 110 ∷ 47 ∷ s

all_page : (P : ℕ → Type 0) (s : List ℕ) → P 47 → P 110 → All P s → All P (page_tail s)
all_page P s slash n all = All-cons P 47 (110 ∷ 47 ∷ s) slash (All-cons P 110 (47 ∷ s) n (All-cons P 47 s slash all))

-- The path of an http URL whose text has such a page before its query ends with the word.
pub page_path_ends : (front s query : List ℕ) (p : Parts) → IsWord s → All (Passes is_letter) s → All IsOfBody front → All (Passes is_query_byte) query
    → parse_url None (front ++ (page_tail s ++ 63 ∷ query)) ≡ Ok p → kind_of p ≡ SchemeType.SpecialNotFile → EndsIn (47 ∷ s) p.path
page_path_ends front s query p word letters each visible parsed http =
    let behind : List ℕ = 110 ∷ 47 ∷ (s ++ 63 ∷ query) in
    let solid : All IsSolid behind =
    All-cons IsSolid 110 (47 ∷ (s ++ 63 ∷ query)) (refl, refl) (All-cons IsSolid 47 (s ++ 63 ∷ query) slash_solid
    (All-append IsSolid s (63 ∷ query) (All-weaker (Passes is_letter) IsSolid letter_solid s letters) (All-cons IsSolid 63 query mark_solid (All-weaker (Passes is_query_byte) IsSolid query_solid query visible)))) in
    let c : LastCut behind = last_cut 110 (47 ∷ (s ++ 63 ∷ query)) solid in
    let t = solid_tail IsOfBody front c.front 47 c.last each slash_solid c.each c.at_last in
    let body : List ℕ = t.front ++ page_tail s in
    let text : strip_tabs_and_new_lines (trim_c0_control_and_space (front ++ (page_tail s ++ 63 ∷ query))) ≡ body ++ 63 ∷ query =
    ap (λ (z : List ℕ). strip_tabs_and_new_lines (trim_c0_control_and_space (front ++ 47 ∷ z))) (sym c.is)
    ∙ (t.is ∙ (ap (λ (z : List ℕ). t.front ++ 47 ∷ z) c.is ∙ sym (append_assoc t.front (page_tail s) (63 ∷ query)))) in
    let no_hash : All (IsNot 35) body =
    All-append (IsNot 35) t.front (page_tail s) (All-weaker IsOfBody (IsNot 35) (λ b h. h.0) t.front t.each)
    (all_page (IsNot 35) s (λ e. omega (arith, e)) (λ e. omega (arith, e)) (All-weaker (Passes is_letter) (IsNot 35) (λ b h. letter_differs b 35 (omega arith) h) s letters)) in
    let no_mark : All (IsNot 63) body =
    All-append (IsNot 63) t.front (page_tail s) (All-weaker IsOfBody (IsNot 63) (λ b h. h.1) t.front t.each)
    (all_page (IsNot 63) s (λ e. omega (arith, e)) (λ e. omega (arith, e)) (All-weaker (Passes is_letter) (IsNot 63) (λ b h. letter_differs b 63 (omega arith) h) s letters)) in
    let has : HasQuery body query p =
    url_has_query (front ++ (page_tail s ++ 63 ∷ query)) body query p text
    (All-append (IsNot 35) body (63 ∷ query) no_hash (All-cons (IsNot 35) 63 query (λ e. omega (arith, e)) (All-weaker (Passes is_query_byte) (IsNot 35) query_no_hash query visible))) no_mark parsed in
    let ends = rest_ends t.front (page_tail s) has.scheme has.rest
    (all_page (λ b. b ≢ 58) s (λ e. omega (arith, e)) (λ e. omega (arith, e)) (All-weaker (Passes is_letter) (λ b. b ≢ 58) (λ b h. letter_differs b 58 (omega arith) h) s letters)) has.split in
    let later : EndsIn (110 ∷ 47 ∷ s) has.rest = (ends.0 ++ 47 ∷ [], ends.1 ∙ sym (append_assoc ends.0 (47 ∷ []) (110 ∷ 47 ∷ s))) in
    let kind : kind_of has.before ≡ SchemeType.SpecialNotFile = sym has.kind ∙ http in
    let scheme : scheme_type (lowercase has.scheme) ≡ SchemeType.SpecialNotFile = sym (body_kind (lowercase has.scheme) has.rest has.before has.parsed) ∙ kind in
    let path = body_path (lowercase has.scheme) s has.rest has.before scheme word (All-weaker (Passes is_letter) (IsNoSlash SchemeType.SpecialNotFile) letter_no_slash s letters) later has.parsed in
    (path.0, has.path (ap is_special kind) ∙ path.1)
