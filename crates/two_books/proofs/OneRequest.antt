-- The bytes of a call are one request, a GET of its target, and nothing comes after it.
use Rattle.std.proofs.Common.{◌≡◌, ◌≢◌, ◌⊎◌, ℕ, ◌+◌, List, [], ◌∷◌, ◌++◌, length, refl, sym, ap, ◌∙◌, subst, arith, append_assoc, append-nil, length-append, Bool, true, false, All, inl, inr}
use Rattle.std.specs.Prelude.{codes, decimal, IsTrue, ◌||◌, ◌==◌}
use Rattle.std.specs.List.{flat_map}
use Rattle.std.proofs.lemmas.Bool.{true≢false}
use Rattle.std.proofs.lemmas.List.Elements.{All-append, All-cons, All-head, All-nil, All-tail, All-weaker}
use Rattle.httparse.specs.Ascii.{crlf_bytes}
use Rattle.httparse.specs.Grammar.{LineEnd, RequestHead, is_token_byte, is_uri_byte, print_blank, print_end, print_request, print_section, print_version}
use Rattle.http_connection.specs.HeadEnds.{BeginsWithHead, IsEmpty, is_empty_line}
use Rattle.http_connection.specs.Lines.{IsLine, ended}
use Rattle.http_connection.proofs.HeadWalk.{among, are_head_lines, head_lines}
use Rattle.http_connection.proofs.OneHead.{head_some}
use Rattle.formats.proofs.OneLines.{one_line_decimal}
use Rattle.http_connection.specs.BodyForms.{IsBodyThen, body_of_request}
use Rattle.http_connection.specs.declared.bodies.Body.{Body}
use Rattle.http_connection.specs.Messages.{AreRequests, IsRequestThen, Request}
use Rattle.outbox.specs.Calls.{request_for}
use Rattle.two_books.specs.OwnMessages.{IsGet}

-- ---- the lines of a call's request

abbrev first_line : List ℕ → List ℕ
first_line target = codes "GET " ++ (target ++ (codes " HTTP/1.1" ++ 13 ∷ []))

abbrev host_line : List ℕ → ℕ → List ℕ
host_line host port = codes "Host: " ++ (host ++ (codes ":" ++ (decimal port ++ 13 ∷ [])))

abbrev close_line : List ℕ
close_line = codes "Connection: close" ++ 13 ∷ []

abbrev empty_line : List ℕ
empty_line = 13 ∷ []

abbrev call_lines : List ℕ → ℕ → List ℕ → List (List ℕ)
call_lines host port target = first_line target ∷ host_line host port ∷ close_line ∷ empty_line ∷ []

first_ended : (target rest : List ℕ) → ended (first_line target) ++ rest ≡ codes "GET " ++ (target ++ (codes " HTTP/1.1" ++ (13 ∷ 10 ∷ rest)))
first_ended target rest =
    append_assoc (first_line target) (10 ∷ []) rest
    ∙ ap (λ (t : List ℕ). codes "GET " ++ t) (append_assoc target (codes " HTTP/1.1" ++ 13 ∷ []) (10 ∷ rest))

host_ended : (host : List ℕ) (port : ℕ) (rest : List ℕ) → ended (host_line host port) ++ rest ≡ codes "Host: " ++ (host ++ (codes ":" ++ (decimal port ++ (13 ∷ 10 ∷ rest))))
host_ended host port rest =
    append_assoc (host_line host port) (10 ∷ []) rest
    ∙ (ap (λ (t : List ℕ). codes "Host: " ++ t) (append_assoc host (codes ":" ++ (decimal port ++ 13 ∷ [])) (10 ∷ rest))
    ∙ ap (λ (t : List ℕ). codes "Host: " ++ (host ++ (codes ":" ++ t))) (append_assoc (decimal port) (13 ∷ []) (10 ∷ rest)))

-- a chain of texts, grouped from the end
regroup_six : (a b c d e f : List ℕ) → a ++ b ++ c ++ d ++ e ++ f ≡ a ++ (b ++ (c ++ (d ++ (e ++ f))))
regroup_six a b c d e f =
    append_assoc (a ++ b ++ c ++ d) e f
    ∙ (append_assoc (a ++ b ++ c) d (e ++ f) ∙ (append_assoc (a ++ b) c (d ++ (e ++ f)) ∙ append_assoc a b (c ++ (d ++ (e ++ f)))))

regroup : (a b c d e f g h i j k l : List ℕ) → a ++ b ++ c ++ d ++ e ++ f ++ g ++ h ++ i ++ j ++ k ++ l ≡ a ++ (b ++ (c ++ (d ++ (e ++ (f ++ (g ++ (h ++ (i ++ (j ++ (k ++ l))))))))))
regroup a b c d e f g h i j k l =
    append_assoc (a ++ b ++ c ++ d ++ e ++ f ++ g ++ h ++ i ++ j) k l
    ∙ (append_assoc (a ++ b ++ c ++ d ++ e ++ f ++ g ++ h ++ i) j (k ++ l)
    ∙ (append_assoc (a ++ b ++ c ++ d ++ e ++ f ++ g ++ h) i (j ++ (k ++ l))
    ∙ (append_assoc (a ++ b ++ c ++ d ++ e ++ f ++ g) h (i ++ (j ++ (k ++ l)))
    ∙ (append_assoc (a ++ b ++ c ++ d ++ e ++ f) g (h ++ (i ++ (j ++ (k ++ l))))
    ∙ (append_assoc (a ++ b ++ c ++ d ++ e) f (g ++ (h ++ (i ++ (j ++ (k ++ l)))))
    ∙ regroup_six a b c d e (f ++ (g ++ (h ++ (i ++ (j ++ (k ++ l)))))))))))

-- the request, its target first
abbrev behind_target : List ℕ → ℕ → List ℕ
behind_target host port = codes "HTTP/1.1" ++ (13 ∷ 10 ∷ (codes "Host: " ++ (host ++ (codes ":" ++ (decimal port ++ (13 ∷ 10 ∷ (codes "Connection: close" ++ (13 ∷ 10 ∷ 13 ∷ 10 ∷ []))))))))

request_is : (host : List ℕ) (port : ℕ) (target : List ℕ) → request_for host port target ≡ codes "GET " ++ (target ++ 32 ∷ behind_target host port)
request_is host port target =
    regroup (codes "GET ") target (codes " HTTP/1.1") crlf_bytes (codes "Host: ") host (codes ":") (decimal port) crlf_bytes (codes "Connection: close") crlf_bytes crlf_bytes

-- the request is these lines
lines_are : (host : List ℕ) (port : ℕ) (target : List ℕ) → flat_map ended (call_lines host port target) ≡ request_for host port target
lines_are host port target =
    first_ended target (flat_map ended (host_line host port ∷ close_line ∷ empty_line ∷ []))
    ∙ (ap (λ (t : List ℕ). codes "GET " ++ (target ++ (codes " HTTP/1.1" ++ (13 ∷ 10 ∷ t)))) (host_ended host port (flat_map ended (close_line ∷ empty_line ∷ [])))
    ∙ sym (request_is host port target))

-- ---- one head begins the request, and it is all of it

-- where one of four lines alone is empty, the last, a head of them has all four
ends_last : (a b c d : List ℕ) (before : List (List ℕ)) (first : List ℕ) (lines : List (List ℕ)) (last : List ℕ) (more : List (List ℕ))
    → is_empty_line a ≡ false → is_empty_line b ≡ false → is_empty_line c ≡ false → All IsEmpty before → IsEmpty last
    → a ∷ b ∷ c ∷ d ∷ [] ≡ (before ++ (first ∷ lines) ++ last ∷ []) ++ more → more ≡ []
ends_last a b c d (x ∷ before) first lines last more full_a full_b full_c empty ends e =
    let h : a ≡ x = cc in
    absurd (true≢false (sym (All-head IsEmpty x before empty) ∙ (sym (ap is_empty_line h) ∙ full_a)))
ends_last a b c d [] first [] last more full_a full_b full_c empty ends e =
    let h : b ≡ last = cc in absurd (true≢false (sym ends ∙ (sym (ap is_empty_line h) ∙ full_b)))
ends_last a b c d [] first (x ∷ []) last more full_a full_b full_c empty ends e =
    let h : c ≡ last = cc in absurd (true≢false (sym ends ∙ (sym (ap is_empty_line h) ∙ full_c)))
ends_last a b c d [] first (x ∷ y ∷ []) last more full_a full_b full_c empty ends e = let h : [] ≡ more = cc in sym h
ends_last a b c d [] first (x ∷ y ∷ z ∷ lines) last more full_a full_b full_c empty ends e =
    let h : [] ≡ (lines ++ last ∷ []) ++ more = cc in
    let n = ap length h in
    absurd (omega (arith, n, length-append (lines ++ last ∷ []) more, length-append lines (last ∷ [])))

nothing_behind : (bytes head rest : List ℕ) → bytes ≡ head ++ rest → head ≡ bytes → rest ≡ []
nothing_behind bytes head [] is same = refl
nothing_behind bytes head (b ∷ rest) is same =
    let n = ap length is in
    let m = ap length same in
    absurd (omega (arith, n, m, length-append head (b ∷ rest)))

-- lines of which the last alone is empty, as bytes: a head that begins them is all of them
whole_head : (a b c d bytes head rest : List ℕ) → is_empty_line a ≡ false → is_empty_line b ≡ false → is_empty_line c ≡ false
    → All IsLine (a ∷ b ∷ c ∷ d ∷ []) → flat_map ended (a ∷ b ∷ c ∷ d ∷ []) ≡ bytes → BeginsWithHead bytes head rest → (head ≡ bytes) × (rest ≡ [])
whole_head a b c d bytes head rest full_a full_b full_c lines are h =
    let ours : List (List ℕ) = a ∷ b ∷ c ∷ d ∷ [] in
    let theirs : List (List ℕ) = head_lines h in
    let same : flat_map ended ours ++ ([] ++ []) ≡ flat_map ended theirs ++ rest =
    append-nil (flat_map ended ours) ∙ (are ∙ (h.bytes_are ∙ ap (λ (t : List ℕ). t ++ rest) h.head_is)) in
    let n = ap length (are ∙ (h.bytes_are ∙ ap (λ (t : List ℕ). t ++ rest) h.head_is)) in
    let found = among (length (flat_map ended theirs)) theirs ours [] [] rest (are_head_lines h) lines (All-nil (λ b. b ≢ 10)) (omega arith) (omega (arith, n, length-append (flat_map ended theirs) rest)) same in
    let none : found.0 ≡ [] = ends_last a b c d h.before h.first h.lines h.last found.0 full_a full_b full_c h.empty h.ends found.1 in
    let all : theirs ≡ ours = sym (found.1 ∙ (ap (λ (t : List (List ℕ)). theirs ++ t) none ∙ append-nil theirs)) in
    let is : head ≡ bytes = h.head_is ∙ (ap (flat_map ended) all ∙ are) in
    (is, nothing_behind bytes head rest h.bytes_are is)

-- ---- one method and one target

-- what comes before the first such byte is cut in one way
cut_at : (s : ℕ) (a b p q : List ℕ) → All (λ x. x ≢ s) a → All (λ x. x ≢ s) b → a ++ s ∷ p ≡ b ++ s ∷ q → (a ≡ b) × (p ≡ q)
cut_at s [] [] p q ones twos e = (refl, cc)
cut_at s [] (y ∷ b) p q ones twos e = let h : s ≡ y = cc in absurd (All-head (λ x. x ≢ s) y b twos (sym h))
cut_at s (x ∷ a) [] p q ones twos e = let h : x ≡ s = cc in absurd (All-head (λ x. x ≢ s) x a ones h)
cut_at s (x ∷ a) (y ∷ b) p q ones twos e =
    let first : x ≡ y = cc in
    let tails : a ++ s ∷ p ≡ b ++ s ∷ q = cc in
    let rest = cut_at s a b p q (All-tail (λ x. x ≢ s) x a ones) (All-tail (λ x. x ≢ s) y b twos) tails in
    (cc (first, rest.0), rest.1)

token_no_space : (b : ℕ) → IsTrue (is_token_byte b) → b ≢ 32
unfolding is_token_byte
token_no_space b h is = let t : IsTrue (is_token_byte 32) = subst (λ x. IsTrue (is_token_byte x)) is h in absurd (true≢false (sym t))

visible_no_space : (b : ℕ) → IsTrue (is_uri_byte b) → b ≢ 32
visible_no_space b h is = let t : IsTrue (is_uri_byte 32) = subst (λ x. IsTrue (is_uri_byte x)) is h in absurd (true≢false (sym t))

-- a literal text without line feeds
has_feed : List ℕ → Bool
has_feed [] = false
has_feed (b ∷ bytes) = b == 10 || has_feed bytes

literal : (bytes : List ℕ) → has_feed bytes ≡ false → All (λ x. x ≢ 10) bytes
unfolding has_feed
literal [] h = All-nil (λ x. x ≢ 10)
literal (b ∷ bytes) h = All-cons (λ x. x ≢ 10) b bytes (λ is. by is h) (literal bytes (later (b == 10) h))
  where
    by : b ≡ 10 → (b == 10 || has_feed bytes) ≡ false → ⊥
    by is e = true≢false (sym (ap (λ x. x == 10 || has_feed bytes) is) ∙ e)

    later : (t : Bool) → (t || has_feed bytes) ≡ false → has_feed bytes ≡ false
    later true e = absurd (true≢false e)
    later false e = e

get_no_space : All (λ x. x ≢ 32) (codes "GET")
get_no_space =
    All-cons (λ x. x ≢ 32) 71 (69 ∷ 84 ∷ []) (λ h. omega (arith, h))
    (All-cons (λ x. x ≢ 32) 69 (84 ∷ []) (λ h. omega (arith, h)) (All-cons (λ x. x ≢ 32) 84 [] (λ h. omega (arith, h)) (All-nil (λ x. x ≢ 32))))

-- a head that is a GET of a target before all else is a GET of it
says_get : (blank : List LineEnd) (method target said more behind : List ℕ) → All (λ x. x ≢ 32) method → All (λ x. x ≢ 32) target → All (λ x. x ≢ 32) said
    → codes "GET " ++ (target ++ 32 ∷ more) ≡ print_blank blank ++ (method ++ 32 ∷ (said ++ 32 ∷ behind)) → (method ≡ codes "GET") × (said ≡ target)
says_get [] method target said more behind no_m no_t no_s e =
    let first = cut_at 32 (codes "GET") method (target ++ 32 ∷ more) (said ++ 32 ∷ behind) get_no_space no_m e in
    let second = cut_at 32 target said more behind no_t no_s first.1 in
    (sym first.0, sym second.0)
says_get (LineEnd.crlf ∷ blank) method target said more behind no_m no_t no_s e = let h : ◌≡◌ {A = ℕ} 71 13 = cc in absurd (omega (arith, h))
says_get (LineEnd.lf ∷ blank) method target said more behind no_m no_t no_s e = let h : ◌≡◌ {A = ℕ} 71 10 = cc in absurd (omega (arith, h))

-- ---- the request of a call

-- what a call's parts hold: neither a line feed nor a space in the target, and no line feed in the host
pub record IsClean (host target : List ℕ) : Type 0 where
  pub host_line : All (λ x. x ≢ 10) host
  pub target_line : All (λ x. x ≢ 10) target
  pub target_word : All (λ x. x ≢ 32) target

host_is_line : (host : List ℕ) (port : ℕ) → All (λ x. x ≢ 10) host → IsLine (host_line host port)
unfolding has_feed
host_is_line host port h =
    All-append (λ x. x ≢ 10) (codes "Host: ") (host ++ (codes ":" ++ (decimal port ++ 13 ∷ []))) (literal (codes "Host: ") refl)
    (All-append (λ x. x ≢ 10) host (codes ":" ++ (decimal port ++ 13 ∷ [])) h
    (All-append (λ x. x ≢ 10) (codes ":") (decimal port ++ 13 ∷ []) (literal (codes ":") refl)
    (All-append (λ x. x ≢ 10) (decimal port) (13 ∷ []) (one_line_decimal port) (literal (13 ∷ []) refl))))

first_is_line : (target : List ℕ) → All (λ x. x ≢ 10) target → IsLine (first_line target)
unfolding has_feed
first_is_line target h =
    All-append (λ x. x ≢ 10) (codes "GET ") (target ++ (codes " HTTP/1.1" ++ 13 ∷ [])) (literal (codes "GET ") refl)
    (All-append (λ x. x ≢ 10) target (codes " HTTP/1.1" ++ 13 ∷ []) h (literal (codes " HTTP/1.1" ++ 13 ∷ []) refl))

call_lines_are : (host : List ℕ) (port : ℕ) (target : List ℕ) → IsClean host target → All IsLine (call_lines host port target)
unfolding has_feed
call_lines_are host port target clean =
    All-cons IsLine (first_line target) (host_line host port ∷ close_line ∷ empty_line ∷ []) (first_is_line target clean.target_line)
    (All-cons IsLine (host_line host port) (close_line ∷ empty_line ∷ []) (host_is_line host port clean.host_line)
    (All-cons IsLine close_line (empty_line ∷ []) (literal close_line refl) (All-cons IsLine empty_line [] (literal empty_line refl) (All-nil IsLine))))

empty_tail : (xs ys : List ℕ) → [] ≡ xs ++ ys → ys ≡ []
empty_tail [] ys e = sym e
empty_tail (x ∷ xs) ys e = absurd (cc)

-- no body comes after the last byte, and nothing after it
none_behind : (limit : ℕ) (body : Body) (bytes rest : List ℕ) → IsBodyThen limit body [] bytes rest → rest ≡ []
none_behind limit Body.Absent bytes rest is = is.1
none_behind limit (Body.Sized n) bytes rest is = empty_tail bytes rest is.1
none_behind limit Body.Chunked bytes rest is =
    let last : is.last ≡ [] = empty_tail _ is.last is.before.bytes_are in
    let behind : is.behind ≡ [] = empty_tail _ is.behind (sym last ∙ is.zero.bytes_are) in
    empty_tail is.trailer rest (sym behind ∙ is.behind_is)
none_behind limit Body.ToEnd bytes rest is = is.1

-- the request that a call's bytes begin with is a GET of its target, and nothing comes after it
one_request : (limit : ℕ) (host : List ℕ) (port : ℕ) (target : List ℕ) (m : Request) (rest : List ℕ) → IsClean host target
    → IsRequestThen limit (request_for host port target) m rest → IsGet target m × (rest ≡ [])
unfolding print_request
one_request limit host port target m rest clean is =
    let whole = whole_head (first_line target) (host_line host port) close_line empty_line (request_for host port target) is.head is.behind refl refl refl (call_lines_are host port target clean) (lines_are host port target) is.begins in
    let h : RequestHead = m.head in
    let printed : request_for host port target ≡ print_blank h.blank ++ (h.method ++ 32 ∷ (h.target ++ 32 ∷ (print_version h.minor ++ (print_end h.line_end ++ print_section h.fields h.last)))) =
    sym whole.0
    ∙ (is.reads.1 ∙ (append-nil (print_request h) ∙ regroup_six (print_blank h.blank) h.method (32 ∷ h.target) (32 ∷ print_version h.minor) (print_end h.line_end) (print_section h.fields h.last))) in
    let says = says_get h.blank h.method target h.target (behind_target host port) (print_version h.minor ++ (print_end h.line_end ++ print_section h.fields h.last))
    (All-weaker (λ b. IsTrue (is_token_byte b)) (λ b. b ≢ 32) token_no_space m.head.method is.reads.0.method.1)
    clean.target_word
    (All-weaker (λ b. IsTrue (is_uri_byte b)) (λ b. b ≢ 32) visible_no_space m.head.target is.reads.0.target.1)
    (sym (request_is host port target) ∙ printed) in (
      record { method = says.0; target_is = says.1 },
      none_behind limit (body_of_request is.framing) m.body rest (subst (λ (t : List ℕ). IsBodyThen limit (body_of_request is.framing) t m.body rest) whole.1 is.body),
    )

-- the requests that such bytes begin with: none, or that one
pub at_most_one : (limit : ℕ) (host : List ℕ) (port : ℕ) (target : List ℕ) (ms : List Request) (rest : List ℕ) → IsClean host target
    → AreRequests limit (request_for host port target) ms rest → (ms ≡ []) ⊎ ((m : Request) × (ms ≡ m ∷ []) × IsGet target m)
at_most_one limit host port target [] rest clean are = inl refl
at_most_one limit host port target (m ∷ []) rest clean (between, first, are) = inr (m, refl, (one_request limit host port target m between clean first).0)
at_most_one limit host port target (m ∷ n ∷ ms) rest clean (between, first, (later, second, are)) =
    absurd (head_some second.begins (one_request limit host port target m between clean first).1)
