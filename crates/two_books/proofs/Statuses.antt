-- The status of a reply is the one that is read back, and a refusal is no success.
use Rattle.std.proofs.Common.{◌≡◌, ℕ, List, [], ◌∷◌, ◌++◌, length, refl, sym, ap, ◌∙◌, subst, arith, append_assoc, true, false, Option, Some}
use Rattle.std.specs.Prelude.{codes, decimal, unwrap_or}
use Rattle.std.specs.Fmt.{digits}
use Rattle.std.specs.Str.Parse.{digits_value}
use Rattle.std.proofs.lemmas.Bool.{true≢false}
use Rattle.httparse.specs.Ascii.{crlf_bytes}
use Rattle.httparse.specs.Grammar.{LineEnd, ResponseHead, print_blank, print_end, print_reason, print_response, print_section, print_version}
use Rattle.adx_http.specs.Replies.{field_lines, has_body, phrase, reply_bytes, when}
use Rattle.adx_http.specs.declared.reply.Reply.{Reply}
use Rattle.http_grammar.specs.declared.fault.HttpFault.{HttpFault}
use Rattle.http_service.specs.Replies.{fault_status}
use Rattle.outbox.specs.Pumping.{Responds, is_success}

-- ---- the bytes of a head

print_is : (b v d r e s x y : List ℕ) → (b ++ v ++ (32 ∷ d) ++ r ++ e ++ s ++ x) ++ y ≡ b ++ (v ++ (32 ∷ (d ++ (r ++ (e ++ (s ++ (x ++ y)))))))
print_is b v d r e s x y =
    append_assoc (b ++ v ++ (32 ∷ d) ++ r ++ e ++ s) x y
    ∙ (append_assoc (b ++ v ++ (32 ∷ d) ++ r ++ e) s (x ++ y)
    ∙ (append_assoc (b ++ v ++ (32 ∷ d) ++ r) e (s ++ (x ++ y))
    ∙ (append_assoc (b ++ v ++ (32 ∷ d)) r (e ++ (s ++ (x ++ y)))
    ∙ (append_assoc (b ++ v) (32 ∷ d) (r ++ (e ++ (s ++ (x ++ y))))
    ∙ append_assoc b v (32 ∷ (d ++ (r ++ (e ++ (s ++ (x ++ y))))))))))

-- three bytes in front are all of a list of three
three : (d : List ℕ) (a b c : ℕ) (xs ys : List ℕ) → length d ≡ 3 → d ++ xs ≡ a ∷ b ∷ c ∷ ys → d ≡ a ∷ b ∷ c ∷ []
three [] a b c xs ys n e = absurd (omega (arith, n))
three (x ∷ []) a b c xs ys n e = absurd (omega (arith, n))
three (x ∷ y ∷ []) a b c xs ys n e = absurd (omega (arith, n))
three (x ∷ y ∷ z ∷ []) a b c xs ys n e = cc
three (x ∷ y ∷ z ∷ w ∷ d) a b c xs ys n e = absurd (omega (arith, n))

-- the digits after the version
behind_version : (minor a b c : ℕ) (d xs ys : List ℕ) → length d ≡ 3 → print_version minor ++ (32 ∷ (d ++ xs)) ≡ codes "HTTP/1.1 " ++ (a ∷ b ∷ c ∷ ys) → d ≡ a ∷ b ∷ c ∷ []
behind_version minor a b c d xs ys n e =
    let rest : d ++ xs ≡ a ∷ b ∷ c ∷ ys = cc in
    three d a b c xs ys n rest

-- no empty line comes before them
no_blank : (blank : List LineEnd) (minor a b c : ℕ) (d xs ys : List ℕ) → length d ≡ 3 → print_blank blank ++ (print_version minor ++ (32 ∷ (d ++ xs))) ≡ codes "HTTP/1.1 " ++ (a ∷ b ∷ c ∷ ys) → d ≡ a ∷ b ∷ c ∷ []
no_blank [] minor a b c d xs ys n e = behind_version minor a b c d xs ys n e
no_blank (LineEnd.crlf ∷ blank) minor a b c d xs ys n e = absurd (cc)
no_blank (LineEnd.lf ∷ blank) minor a b c d xs ys n e = absurd (cc)

digits_read : (h : ResponseHead) (behind ys : List ℕ) (a b c : ℕ) → length h.digits ≡ 3 → (print_response h ++ []) ++ behind ≡ codes "HTTP/1.1 " ++ (a ∷ b ∷ c ∷ ys) → h.digits ≡ a ∷ b ∷ c ∷ []
unfolding print_response
digits_read h behind ys a b c n e =
    no_blank h.blank h.minor a b c h.digits (print_reason h.reason ++ (print_end h.line_end ++ (print_section h.fields h.last ++ ([] ++ behind)))) ys n
    (sym (print_is (print_blank h.blank) (print_version h.minor) h.digits (print_reason h.reason) (print_end h.line_end) (print_section h.fields h.last) [] behind) ∙ e)

-- ---- a reply

reply_is : (h d s p c f l b more : List ℕ) → ((h ++ d ++ s ++ p ++ c) ++ f ++ l ++ b) ++ more ≡ h ++ (d ++ (s ++ (p ++ (c ++ (f ++ (l ++ (b ++ more)))))))
reply_is h d s p c f l b more =
    append_assoc ((h ++ d ++ s ++ p ++ c) ++ f ++ l) b more
    ∙ (append_assoc ((h ++ d ++ s ++ p ++ c) ++ f) l (b ++ more)
    ∙ (append_assoc (h ++ d ++ s ++ p ++ c) f (l ++ (b ++ more))
    ∙ (append_assoc (h ++ d ++ s ++ p) c (f ++ (l ++ (b ++ more)))
    ∙ (append_assoc (h ++ d ++ s) p (c ++ (f ++ (l ++ (b ++ more))))
    ∙ (append_assoc (h ++ d) s (p ++ (c ++ (f ++ (l ++ (b ++ more)))))
    ∙ append_assoc h d (s ++ (p ++ (c ++ (f ++ (l ++ (b ++ more)))))))))))

-- a status of three digits that is no success
pub record IsNoSuccess (status : ℕ) : Type 0 where
  pub first : ℕ
  pub second : ℕ
  pub third : ℕ
  pub written : decimal status ≡ first ∷ second ∷ third ∷ []
  pub fails : is_success (digits_value 10 (first ∷ second ∷ third ∷ [])) ≡ false

-- a reply with it is read as none
pub no_success : (limit : ℕ) (r : Reply) (more reply : List ℕ) → IsNoSuccess r.status → reply ≡ reply_bytes r ++ more → Responds limit reply true → ⊥
no_success limit r more reply not is (m, rest, then, success) =
    let tail : List ℕ = codes " " ++ (phrase r.status ++ (crlf_bytes ++ (field_lines r ++ (crlf_bytes ++ (when (has_body r) r.body.now ++ more))))) in
    let written : reply ≡ codes "HTTP/1.1 " ++ (decimal r.status ++ tail) =
    is ∙ reply_is (codes "HTTP/1.1 ") (decimal r.status) (codes " ") (phrase r.status) crlf_bytes (field_lines r) crlf_bytes (when (has_body r) r.body.now) more in
    let begins : reply ≡ codes "HTTP/1.1 " ++ ((not.first ∷ not.second ∷ not.third ∷ []) ++ tail) =
    written ∙ ap (λ (t : List ℕ). codes "HTTP/1.1 " ++ (t ++ tail)) not.written in
    let printed : (print_response m.head ++ []) ++ then.behind ≡ codes "HTTP/1.1 " ++ (not.first ∷ not.second ∷ not.third ∷ tail) =
    ap (λ (t : List ℕ). t ++ then.behind) (sym then.reads.1) ∙ (sym then.begins.bytes_are ∙ begins) in
    let digits : m.head.digits ≡ not.first ∷ not.second ∷ not.third ∷ [] =
    digits_read m.head then.behind tail not.first not.second not.third then.reads.0.digits.0 printed in
    true≢false (success ∙ (ap (λ (t : List ℕ). is_success (digits_value 10 t)) digits ∙ not.fails))

-- no bytes are no response
pub no_reply : (limit : ℕ) (reply : List ℕ) → reply ≡ [] → Responds limit reply true → ⊥
unfolding print_response
no_reply limit reply none (m, rest, then, success) =
    let h : ResponseHead = m.head in
    let printed : (print_response h ++ []) ++ then.behind ≡ [] = ap (λ (t : List ℕ). t ++ then.behind) (sym then.reads.1) ∙ (sym then.begins.bytes_are ∙ none) in
    let is : print_blank h.blank ++ (print_version h.minor ++ (32 ∷ (h.digits ++ (print_reason h.reason ++ (print_end h.line_end ++ (print_section h.fields h.last ++ ([] ++ then.behind))))))) ≡ [] =
    sym (print_is (print_blank h.blank) (print_version h.minor) h.digits (print_reason h.reason) (print_end h.line_end) (print_section h.fields h.last) [] then.behind) ∙ printed in
    some h.blank h.minor (32 ∷ (h.digits ++ (print_reason h.reason ++ (print_end h.line_end ++ (print_section h.fields h.last ++ ([] ++ then.behind)))))) is
  where
    some : (blank : List LineEnd) (minor : ℕ) (xs : List ℕ) → print_blank blank ++ (print_version minor ++ xs) ≡ [] → ⊥
    some [] minor xs e = absurd (cc)
    some (LineEnd.crlf ∷ blank) minor xs e = absurd (cc)
    some (LineEnd.lf ∷ blank) minor xs e = absurd (cc)

-- the statuses of refusals

pub fails_400 : IsNoSuccess 400
unfolding digits
fails_400 = record { first = 52; second = 48; third = 48; written = refl; fails = refl }

pub fails_404 : IsNoSuccess 404
unfolding digits
fails_404 = record { first = 52; second = 48; third = 52; written = refl; fails = refl }

pub fails_405 : IsNoSuccess 405
unfolding digits
fails_405 = record { first = 52; second = 48; third = 53; written = refl; fails = refl }

pub fails_409 : IsNoSuccess 409
unfolding digits
fails_409 = record { first = 52; second = 48; third = 57; written = refl; fails = refl }

pub fails_411 : IsNoSuccess 411
unfolding digits
fails_411 = record { first = 52; second = 49; third = 49; written = refl; fails = refl }

pub fails_413 : IsNoSuccess 413
unfolding digits
fails_413 = record { first = 52; second = 49; third = 51; written = refl; fails = refl }

pub fails_415 : IsNoSuccess 415
unfolding digits
fails_415 = record { first = 52; second = 49; third = 53; written = refl; fails = refl }

pub fails_431 : IsNoSuccess 431
unfolding digits
fails_431 = record { first = 52; second = 51; third = 49; written = refl; fails = refl }

pub refused_fails : (fault : HttpFault) (status : ℕ) → fault_status fault ≡ Some status → IsNoSuccess status
refused_fails HttpFault.BadHead status is = subst IsNoSuccess (ap (λ (o : Option ℕ). unwrap_or o 400) is) fails_400
refused_fails HttpFault.HeadTooLong status is = subst IsNoSuccess (ap (λ (o : Option ℕ). unwrap_or o 431) is) fails_431
refused_fails HttpFault.LengthRequired status is = subst IsNoSuccess (ap (λ (o : Option ℕ). unwrap_or o 411) is) fails_411
refused_fails HttpFault.BodyTooLong status is = subst IsNoSuccess (ap (λ (o : Option ℕ). unwrap_or o 413) is) fails_413
refused_fails HttpFault.BadChunk status is = subst IsNoSuccess (ap (λ (o : Option ℕ). unwrap_or o 400) is) fails_400
refused_fails HttpFault.Cut status is = absurd (cc)
refused_fails HttpFault.ReadFault status is = absurd (cc)
refused_fails HttpFault.Coding status is = subst IsNoSuccess (ap (λ (o : Option ℕ). unwrap_or o 415) is) fails_415
