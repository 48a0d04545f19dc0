-- A head of the grammar as lines: the empty ones before it, its first line, its fields and the empty line after them.
use Rattle.std.proofs.Common.{◌≡◌, ◌≢◌, ℕ, ◌+◌, ◌<◌, ◌≤◌, List, [], ◌∷◌, ◌++◌, length, take, drop, map, All, Bool, true, false, refl, sym, ap, subst, ◌∙◌, append_assoc, append-nil, arith, length-append, IsTrue, ◌&&◌, not}
use Rattle.std.specs.Prelude.{◌==◌, codes}
use Rattle.std.specs.List.{flat_map, list_all}
use Rattle.std.proofs.lemmas.List.{take_at, take-append-drop, length-map}
use Rattle.std.proofs.lemmas.List.Elements.{All-head, All-tail, All-append, All-nil, All-cons}
use Rattle.httparse.specs.Ascii.{space, colon, digit_zero}
use Rattle.httparse.specs.Grammar.{LineEnd, print_end, print_blank, print_field, print_section, print_version, print_request, Field, IsField, RequestHead, ReadsRequest, IsRequestHead, IsToken, is_token_byte, is_uri_byte, is_value_byte, AllPass}
use Rattle.httparse.specs.Grammar.LineEnd.{crlf, lf}
use Rattle.httparse.proofs.GrammarLemmas.{cons-append, print_request-append}
use Rattle.http_connection.specs.Lines.{IsLine, ended}
use Rattle.http_connection.specs.declared.head.TheConstants.{HEAD_LIMIT}
use Rattle.http_connection.specs.HeadEnds.{IsEmpty, IsFull, is_empty_line, HeadEndsAt}
use Rattle.http_connection.proofs.Counts.{flat_both}

-- each byte of a class that the line feed isn't of is no line feed
no_feed : (test : ℕ → Bool) → test 10 ≡ false → (xs : List ℕ) → AllPass test xs → IsLine xs
no_feed test none [] all = All-nil (λ b. b ≢ 10)
no_feed test none (x ∷ xs) all =
    All-cons (λ b. b ≢ 10) x xs
    (λ e. let is : IsTrue (test 10) = subst (λ b. IsTrue (test b)) e (All-head (λ b. IsTrue (test b)) x xs all) in absurd (cc (is, none)))
    (no_feed test none xs (All-tail (λ b. IsTrue (test b)) x xs all))

token_feed : is_token_byte 10 ≡ false
unfolding is_token_byte
token_feed = refl

-- a line end without its line feed
abbrev before_feed : LineEnd → List ℕ
before_feed crlf = 13 ∷ []
before_feed lf = []

end_is : (e : LineEnd) → print_end e ≡ ended (before_feed e)
end_is crlf = refl
end_is lf = refl

end_line : (e : LineEnd) → IsLine (before_feed e)
end_line crlf = All-cons (λ b. b ≢ 10) 13 [] (λ e. absurd (omega (arith, e))) (All-nil (λ b. b ≢ 10))
end_line lf = All-nil (λ b. b ≢ 10)

end_empty : (e : LineEnd) → IsEmpty (before_feed e)
end_empty crlf = refl
end_empty lf = refl

blank_is : (ends : List LineEnd) → print_blank ends ≡ flat_map ended (map before_feed ends)
blank_is [] = refl
blank_is (e ∷ ends) = ap (λ l. l ++ print_blank ends) (end_is e) ∙ ap (λ l. ended (before_feed e) ++ l) (blank_is ends)

blank_empty : (ends : List LineEnd) → All IsEmpty (map before_feed ends)
blank_empty [] = All-nil IsEmpty
blank_empty (e ∷ ends) = All-cons IsEmpty (before_feed e) (map before_feed ends) (end_empty e) (blank_empty ends)

-- the line of a field
abbrev field_line : Field → List ℕ
field_line f = f.name ++ (colon ∷ (f.raw ++ before_feed f.end))

field_is : (f : Field) → print_field f ≡ ended (field_line f)
field_is f =
    let open_form : print_field f ≡ f.name ++ (colon ∷ (f.raw ++ print_end f.end)) = simp (append_assoc, cons-append) in
    let closed : ended (field_line f) ≡ f.name ++ (colon ∷ (f.raw ++ (before_feed f.end ++ 10 ∷ []))) = simp (append_assoc, cons-append) in
    open_form ∙ ap (λ l. f.name ++ (colon ∷ (f.raw ++ l))) (end_is f.end) ∙ sym closed

-- a token, a byte that is no line feed, and more bytes are no empty line
token_full : (token : List ℕ) (x : ℕ) (rest : List ℕ) → IsToken token → (x ≢ 10) → IsLine rest → IsFull (token ++ x ∷ rest)
token_full token x rest is other line = record {
  is_line = All-append (λ b. b ≢ 10) token (x ∷ rest) (no_feed is_token_byte token_feed token is.1) (All-cons (λ b. b ≢ 10) x rest other line);
  some = two token is.0;
}
  where
    two : (token : List ℕ) → 0 < length token → is_empty_line (token ++ x ∷ rest) ≡ false
    two [] some = absurd (omega (arith, some))
    two (a ∷ []) some = refl
    two (a ∷ b ∷ more) some = refl

field_full : (f : Field) → IsField f → IsFull (field_line f)
field_full f is = token_full f.name colon (f.raw ++ before_feed f.end) (IsField.name is) (λ e. absurd (omega (arith, e)))
    (All-append (λ b. b ≢ 10) f.raw (before_feed f.end) (no_feed is_value_byte refl f.raw (IsField.raw is)) (end_line f.end))

fields_is : (fields : List Field) → flat_map print_field fields ≡ flat_map ended (map field_line fields)
fields_is [] = refl
fields_is (f ∷ fields) = ap (λ l. l ++ flat_map print_field fields) (field_is f) ∙ ap (λ l. ended (field_line f) ++ l) (fields_is fields)

fields_full : (fields : List Field) → All IsField fields → All IsFull (map field_line fields)
fields_full [] all = All-nil IsFull
fields_full (f ∷ fields) all = All-cons IsFull (field_line f) (map field_line fields) (field_full f (All-head IsField f fields all)) (fields_full fields (All-tail IsField f fields all))

-- the first line of a request
abbrev request_line : RequestHead → List ℕ
request_line h = h.method ++ (space ∷ (h.target ++ (space ∷ (print_version h.minor ++ before_feed h.line_end))))

feed_test : (x : ℕ) → (x == 10) ≡ false → x ≢ 10
feed_test x none e = let t : (10 == 10) ≡ false = subst (λ (y : ℕ). (y == 10) ≡ false) e none in absurd (cc)

-- a text whose bytes were compared with a line feed
text_line : (xs : List ℕ) → list_all (λ b. not (b == 10)) xs ≡ true → IsLine xs
text_line [] all = All-nil (λ b. b ≢ 10)
text_line (x ∷ xs) all = by_case (x == 10) refl all (text_line xs)
  where
    by_case : (c : Bool) → (x == 10) ≡ c → (not c && list_all (λ b. not (b == 10)) xs) ≡ true → (list_all (λ b. not (b == 10)) xs ≡ true → IsLine xs) → IsLine (x ∷ xs)
    by_case true is e rest = absurd (cc)
    by_case false is e rest = All-cons (λ b. b ≢ 10) x xs (feed_test x is) (rest e)

version_line : (minor : ℕ) → IsLine (print_version minor)
version_line minor = All-append (λ b. b ≢ 10) (codes "HTTP/1.") ((digit_zero + minor) ∷ []) (text_line (codes "HTTP/1.") refl) (All-cons (λ b. b ≢ 10) (digit_zero + minor) [] (λ e. absurd (omega (arith, e))) (All-nil (λ b. b ≢ 10)))

request_full : (h : RequestHead) → IsRequestHead h → IsFull (request_line h)
request_full h is = token_full h.method space (h.target ++ (space ∷ (print_version h.minor ++ before_feed h.line_end))) (IsRequestHead.method is) (λ e. absurd (omega (arith, e)))
    (All-append (λ b. b ≢ 10) h.target (space ∷ (print_version h.minor ++ before_feed h.line_end)) (no_feed is_uri_byte refl h.target (IsRequestHead.target is).1)
    (All-cons (λ b. b ≢ 10) space (print_version h.minor ++ before_feed h.line_end) (λ e. absurd (omega (arith, e)))
    (All-append (λ b. b ≢ 10) (print_version h.minor) (before_feed h.line_end) (version_line h.minor) (end_line h.line_end))))

pub request_front : (bytes : List ℕ) (end : ℕ) (h : RequestHead) → ReadsRequest bytes h (drop end bytes) → end ≡ length (print_request h) → take end bytes ≡ print_request h
request_front bytes end h reads is = ap (take end) reads.1 ∙ take_at (print_request h) (drop end bytes) end (sym is)

-- the bytes of a request's head are its lines
request_is : (h : RequestHead) → print_request h ≡ flat_map ended (map before_feed h.blank ++ (request_line h ∷ map field_line h.fields) ++ before_feed h.last ∷ [])
request_is h =
    let before = flat_map ended (map before_feed h.blank) in
    let fields = flat_map ended (map field_line h.fields) in
    let open_form : print_request h ≡ print_blank h.blank ++ (h.method ++ (space ∷ (h.target ++ (space ∷ (print_version h.minor ++ (print_end h.line_end ++ (print_section h.fields h.last ++ []))))))) =
    sym (append-nil (print_request h)) ∙ print_request-append h [] in
    let bytes : List ℕ → List ℕ → List ℕ → List ℕ → List ℕ = λ (b : List ℕ) (e : List ℕ) (f : List ℕ) (l : List ℕ). b ++ (h.method ++ (space ∷ (h.target ++ (space ∷ (print_version h.minor ++ (e ++ ((f ++ l) ++ []))))))) in
    let lines : bytes (print_blank h.blank) (print_end h.line_end) (flat_map print_field h.fields) (print_end h.last) ≡ bytes before (ended (before_feed h.line_end)) fields (ended (before_feed h.last)) =
    ap (λ (l : List ℕ). bytes l (print_end h.line_end) (flat_map print_field h.fields) (print_end h.last)) (blank_is h.blank)
    ∙ ap (λ (l : List ℕ). bytes before l (flat_map print_field h.fields) (print_end h.last)) (end_is h.line_end)
    ∙ ap (λ (l : List ℕ). bytes before (ended (before_feed h.line_end)) l (print_end h.last)) (fields_is h.fields)
    ∙ ap (λ (l : List ℕ). bytes before (ended (before_feed h.line_end)) fields l) (end_is h.last) in
    let closed : flat_map ended ((map before_feed h.blank ++ (request_line h ∷ map field_line h.fields)) ++ before_feed h.last ∷ []) ≡ (before ++ (ended (request_line h) ++ fields)) ++ (ended (before_feed h.last) ++ []) =
    flat_both (map before_feed h.blank ++ (request_line h ∷ map field_line h.fields)) (before_feed h.last ∷ [])
    ∙ ap (λ (l : List ℕ). l ++ (ended (before_feed h.last) ++ [])) (flat_both (map before_feed h.blank) (request_line h ∷ map field_line h.fields)) in
    let same : bytes before (ended (before_feed h.line_end)) fields (ended (before_feed h.last)) ≡ (before ++ (ended (request_line h) ++ fields)) ++ (ended (before_feed h.last) ++ []) =
    regroup before h.method h.target (print_version h.minor) (before_feed h.line_end) fields (before_feed h.last) in
    open_form ∙ lines ∙ same ∙ sym closed
  where
    regroup : (a b c d e f l : List ℕ)
        → a ++ (b ++ (space ∷ (c ++ (space ∷ (d ++ ((e ++ 10 ∷ []) ++ ((f ++ (l ++ 10 ∷ [])) ++ [])))))))
        ≡ (a ++ (((b ++ (space ∷ (c ++ (space ∷ (d ++ e))))) ++ 10 ∷ []) ++ f)) ++ ((l ++ 10 ∷ []) ++ [])
    regroup a b c d e f l = simp (append_assoc, cons-append, append-nil)

-- what the parser found at the front of the bytes is the head that ends at the first empty line
pub request_ends : (bytes : List ℕ) (end : ℕ) (h : RequestHead) → ReadsRequest bytes h (drop end bytes) → end ≡ length (print_request h) → end ≤ HEAD_LIMIT → HeadEndsAt bytes end (length h.fields)
request_ends bytes end h reads is least =
    let front = request_front bytes end h reads is in record {
      begins = record {
        before = map before_feed h.blank;
        first = request_line h;
        lines = map field_line h.fields;
        last = before_feed h.last;
        empty = blank_empty h.blank;
        full = All-cons IsFull (request_line h) (map field_line h.fields) (request_full h reads.0) (fields_full h.fields (IsRequestHead.fields reads.0));
        ends = end_empty h.last;
        head_is = front ∙ request_is h;
        short = let l = ap length front in omega (arith, l, is, least);
        bytes_are = sym (take-append-drop end bytes);
      };
      count = length-map h.fields field_line;
      within = let l = ap length reads.1 in omega (arith, l, is, length-append (print_request h) (drop end bytes));
    }
