-- A head has no more fields than lines between its first line that isn't empty and its last.
use Rattle.std.proofs.Common.{◌≡◌, ◌≢◌, ℕ, ◌+◌, ◌≤◌, suc, List, [], ◌∷◌, ◌++◌, length, All, Bool, true, false, ◌||◌, cond, refl, sym, ap, subst, ◌∙◌, append_assoc, append-nil, arith, length-append, IsTrue}
use Rattle.std.specs.Prelude.{◌==◌}
use Rattle.std.specs.List.{flat_map}
use Rattle.std.proofs.lemmas.Bool.{eqb-true}
use Rattle.std.proofs.lemmas.List.Elements.{All-head, All-tail, All-append, All-nil, All-cons}
use Rattle.httparse.specs.Ascii.{colon}
use Rattle.httparse.specs.Grammar.{LineEnd, print_end, print_blank, print_field, print_section, print_version, print_reason, Field, RequestHead, ResponseHead, ReadsRequest, ReadsResponse, IsRequestHead, IsToken, is_token_byte}
use Rattle.httparse.specs.Grammar.LineEnd.{crlf, lf}
use Rattle.httparse.proofs.GrammarLemmas.{cons-append, print_request-append, print_response-append}
use Rattle.http_connection.specs.Lines.{IsLine, ended}
use Rattle.http_connection.specs.HeadEnds.{IsEmpty, BeginsWithHead}
use Rattle.http_connection.proofs.HeadWalk.{empty_is_line, fulls_are_lines}

-- how many line feeds are in the bytes
abbrev feeds : List ℕ → ℕ
feeds [] = 0
feeds (b ∷ bytes) = cond (b == 10) (suc (feeds bytes)) (feeds bytes)

-- the bytes from the first that is neither CR nor LF
abbrev skip : List ℕ → List ℕ
skip [] = []
skip (b ∷ bytes) = cond ((b == 10) || (b == 13)) (skip bytes) (b ∷ bytes)

add_case : (c : Bool) (m n k : ℕ) → m ≡ n + k → cond c (suc m) m ≡ cond c (suc n) n + k
add_case true m n k e = omega (arith, e)
add_case false m n k e = e

feeds-append : (a b : List ℕ) → feeds (a ++ b) ≡ feeds a + feeds b
feeds-append [] b = omega arith
feeds-append (x ∷ a) b = add_case (x == 10) (feeds (a ++ b)) (feeds a) (feeds b) (feeds-append a b)

more_case : (c : Bool) (m n : ℕ) → m ≤ n → m ≤ cond c (suc n) n
more_case true m n e = omega (arith, e)
more_case false m n e = e

skip_case : (c : Bool) (x : ℕ) (a : List ℕ) → feeds (skip a) ≤ feeds (x ∷ a) → feeds (cond c (skip a) (x ∷ a)) ≤ feeds (x ∷ a)
skip_case true x a e = e
skip_case false x a e = omega arith

feeds_skip : (a : List ℕ) → feeds (skip a) ≤ feeds a
feeds_skip [] = omega arith
feeds_skip (x ∷ a) = skip_case ((x == 10) || (x == 13)) x a (more_case (x == 10) (feeds (skip a)) (feeds a) (feeds_skip a))

feeds_end : (e : LineEnd) → feeds (print_end e) ≡ 1
feeds_end crlf = refl
feeds_end lf = refl

feeds_field : (f : Field) → 1 ≤ feeds (print_field f)
feeds_field f =
    let same : print_field f ≡ (f.name ++ colon ∷ f.raw) ++ print_end f.end = simp (append_assoc, cons-append) in
    let a = ap feeds same in
    let b = feeds-append (f.name ++ colon ∷ f.raw) (print_end f.end) in
    let c = feeds_end f.end in
    omega (arith, a, b, c)

feeds_fields : (fields : List Field) → length fields ≤ feeds (flat_map print_field fields)
feeds_fields [] = omega arith
feeds_fields (f ∷ fields) =
    let a = feeds-append (print_field f) (flat_map print_field fields) in
    let b = feeds_field f in
    let c = feeds_fields fields in
    omega (arith, a, b, c)

skip_blank : (blank : List LineEnd) (rest : List ℕ) → skip (print_blank blank ++ rest) ≡ skip rest
skip_blank [] rest = refl
skip_blank (crlf ∷ blank) rest = skip_blank blank rest
skip_blank (lf ∷ blank) rest = skip_blank blank rest

-- a line without a line feed
feeds_line : (line : List ℕ) → IsLine line → feeds line ≡ 0
feeds_line [] is = refl
feeds_line (x ∷ line) is = by_case (x == 10) refl (feeds_line line (All-tail (λ b. b ≢ 10) x line is))
  where
    by_case : (c : Bool) → (x == 10) ≡ c → feeds line ≡ 0 → cond c (suc (feeds line)) (feeds line) ≡ 0
    by_case true t e = absurd (All-head (λ b. b ≢ 10) x line is (eqb-true x 10 t))
    by_case false t e = e

feeds_lines : (lines : List (List ℕ)) → All IsLine lines → feeds (flat_map ended lines) ≡ length lines
feeds_lines [] are = refl
feeds_lines (x ∷ lines) are =
    let a = feeds-append (ended x) (flat_map ended lines) in
    let b = feeds-append x (10 ∷ []) in
    let c = feeds_line x (All-head IsLine x lines are) in
    let d = feeds_lines lines (All-tail IsLine x lines are) in
    omega (arith, a, b, c, d)

skip_empty : (line rest : List ℕ) → IsEmpty line → skip (ended line ++ rest) ≡ skip rest
skip_empty [] rest e = refl
skip_empty (b ∷ []) rest e = let k : b ≡ 13 = eqb-true b 13 e in subst (λ x. skip (x ∷ 10 ∷ rest) ≡ skip rest) (sym k) refl
skip_empty (b ∷ c ∷ more) rest e = absurd (cc)

skip_before : (before : List (List ℕ)) (rest : List ℕ) → All IsEmpty before → skip (flat_map ended before ++ rest) ≡ skip rest
skip_before [] rest all = refl
skip_before (x ∷ before) rest all =
    ap skip (append_assoc (ended x) (flat_map ended before) rest) ∙ skip_empty x (flat_map ended before ++ rest) (All-head IsEmpty x before all) ∙ skip_before before rest (All-tail IsEmpty x before all)

pub flat_both : (a b : List (List ℕ)) → flat_map ended (a ++ b) ≡ flat_map ended a ++ flat_map ended b
flat_both [] b = refl
flat_both (x ∷ a) b = ap (λ l. ended x ++ l) (flat_both a b) ∙ sym (append_assoc (ended x) (flat_map ended a) (flat_map ended b))

-- after the empty lines, a head has a line feed for each line
head_feeds : {bytes head rest : List ℕ} → (h : BeginsWithHead bytes head rest) → feeds (skip head) ≤ length (BeginsWithHead.lines h) + 2
head_feeds {head = head} h =
    let lines = (h.first ∷ h.lines) ++ h.last ∷ [] in
    let is : head ≡ flat_map ended h.before ++ flat_map ended lines = h.head_is ∙ ap (flat_map ended) (append_assoc h.before (h.first ∷ h.lines) (h.last ∷ [])) ∙ flat_both h.before lines in
    let same : skip head ≡ skip (flat_map ended lines) = ap skip is ∙ skip_before h.before (flat_map ended lines) h.empty in
    let are : All IsLine lines = All-append IsLine (h.first ∷ h.lines) (h.last ∷ []) (fulls_are_lines (h.first ∷ h.lines) h.full) (All-cons IsLine h.last [] (empty_is_line h.last h.ends) (All-nil IsLine)) in
    let a = ap feeds same in
    let b = feeds_skip (flat_map ended lines) in
    let c = feeds_lines lines are in
    let d = length-append (h.first ∷ h.lines) (h.last ∷ []) in
    omega (arith, a, b, c, d)

section_feeds : (fields : List Field) (last : LineEnd) → length fields + 1 ≤ feeds (print_section fields last)
section_feeds fields last =
    let a = feeds-append (flat_map print_field fields) (print_end last) in
    let b = feeds_fields fields in
    let c = feeds_end last in
    omega (arith, a, b, c)

-- bytes before don't lessen the count
feeds_behind : (a b : List ℕ) (n : ℕ) → n ≤ feeds b → n ≤ feeds (a ++ b)
feeds_behind a b n le = let e = feeds-append a b in omega (arith, e, le)

line_feeds : (e : LineEnd) (fields : List Field) (last : LineEnd) → length fields + 2 ≤ feeds (print_end e ++ print_section fields last)
line_feeds e fields last =
    let a = feeds-append (print_end e) (print_section fields last) in
    let b = feeds_end e in
    let c = section_feeds fields last in
    omega (arith, a, b, c)

token_case : (m : ℕ) (c d : Bool) → (m == 10) ≡ c → (m == 13) ≡ d → IsTrue (is_token_byte m) → (c || d) ≡ false
unfolding is_token_byte
token_case m true d e f t = let k : m ≡ 10 = eqb-true m 10 e in let f : false ≡ true = subst (λ x. IsTrue (is_token_byte x)) k t in absurd (cc)
token_case m false true e f t = let k : m ≡ 13 = eqb-true m 13 f in let h : false ≡ true = subst (λ x. IsTrue (is_token_byte x)) k t in absurd (cc)
token_case m false false e f t = refl

token_front : (method rest : List ℕ) → IsToken method → skip (method ++ rest) ≡ method ++ rest
token_front [] rest is = let some = is.0 in absurd (omega (arith, some))
token_front (m ∷ more) rest is =
    let none : ((m == 10) || (m == 13)) ≡ false = token_case m (m == 10) (m == 13) refl refl (All-head (λ b. IsTrue (is_token_byte b)) m more is.1) in
    ap (λ (c : Bool). cond c (skip (more ++ rest)) (m ∷ (more ++ rest))) none

-- the fields of a request's head are no more than its lines
pub request_fields : {bytes head rest : List ℕ} → (b : BeginsWithHead bytes head rest) → (h : RequestHead) → ReadsRequest head h [] → length h.fields ≤ length (BeginsWithHead.lines b)
request_fields {head = head} b h reads =
    let tail = print_end h.line_end ++ (print_section h.fields h.last ++ []) in
    let line = h.method ++ 32 ∷ (h.target ++ 32 ∷ (print_version h.minor ++ tail)) in
    let is : head ≡ print_blank h.blank ++ line = reads.1 ∙ print_request-append h [] in
    let same : skip head ≡ line = ap skip is ∙ skip_blank h.blank line ∙ token_front h.method (32 ∷ (h.target ++ 32 ∷ (print_version h.minor ++ tail))) (IsRequestHead.method reads.0) in
    let none : print_section h.fields h.last ++ [] ≡ print_section h.fields h.last = append-nil (print_section h.fields h.last) in
    let least : length h.fields + 2 ≤ feeds tail = let e = ap (λ l. feeds (print_end h.line_end ++ l)) none in let l = line_feeds h.line_end h.fields h.last in omega (arith, e, l) in
    let all : length h.fields + 2 ≤ feeds line =
    feeds_behind h.method (32 ∷ (h.target ++ 32 ∷ (print_version h.minor ++ tail))) (length h.fields + 2)
    (feeds_behind (32 ∷ h.target) (32 ∷ (print_version h.minor ++ tail)) (length h.fields + 2)
    (feeds_behind (32 ∷ print_version h.minor) tail (length h.fields + 2) least)) in
    let e = ap feeds same in
    let most = head_feeds b in
    omega (arith, e, all, most)

pub response_fields : {bytes head rest : List ℕ} → (b : BeginsWithHead bytes head rest) → (h : ResponseHead) → ReadsResponse head h [] → length h.fields ≤ length (BeginsWithHead.lines b)
response_fields {head = head} b h reads =
    let tail = print_end h.line_end ++ (print_section h.fields h.last ++ []) in
    let line = print_version h.minor ++ 32 ∷ (h.digits ++ (print_reason h.reason ++ tail)) in
    let is : head ≡ print_blank h.blank ++ line = reads.1 ∙ print_response-append h [] in
    let same : skip head ≡ line = ap skip is ∙ skip_blank h.blank line in
    let none : print_section h.fields h.last ++ [] ≡ print_section h.fields h.last = append-nil (print_section h.fields h.last) in
    let least : length h.fields + 2 ≤ feeds tail = let e = ap (λ l. feeds (print_end h.line_end ++ l)) none in let l = line_feeds h.line_end h.fields h.last in omega (arith, e, l) in
    let all : length h.fields + 2 ≤ feeds line =
    feeds_behind (print_version h.minor) (32 ∷ (h.digits ++ (print_reason h.reason ++ tail))) (length h.fields + 2)
    (feeds_behind (32 ∷ h.digits) (print_reason h.reason ++ tail) (length h.fields + 2)
    (feeds_behind (print_reason h.reason) tail (length h.fields + 2) least)) in
    let e = ap feeds same in
    let most = head_feeds b in
    omega (arith, e, all, most)
