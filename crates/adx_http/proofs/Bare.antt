-- The bytes of a reply with status 204 and no field.
use Rattle.std.proofs.Common.{◌≡◌, ℕ, List, ◌++◌, length, decimal, codes, Bool, true, false, ◌&&◌, not, refl, sym, subst}
use Rattle.std.specs.Prelude.{◌==◌}
use Rattle.std.specs.Fmt.{digits}
use Rattle.std.proofs.lemmas.Bool.{eqb-true}
use Rattle.httparse.specs.Ascii.{crlf_bytes}
use Rattle.adx_http.specs.declared.reply.Reply.{Reply}
use Rattle.adx_http.specs.Replies.{field_line, when, status_line, reply_bytes, is_bare, bare_bytes}

both : (a b : Bool) → (a && b) ≡ true → (a ≡ true) × (b ≡ true)
both true true e = (refl, refl)
both true false e = absurd (cc)
both false b e = absurd (cc)

off : (a : Bool) → not a ≡ true → a ≡ false
off false e = refl
off true e = absurd (cc)

-- a reply by its parts
abbrev spelled : ℕ → Bool → Bool → Bool → Bool → Bool → List ℕ → List ℕ → List ℕ → List ℕ
spelled status json openrtb empty head close allow size body =
    status_line status
    ++ (when (json && not (status == 204)) (field_line (codes "Content-Type") (codes "application/json"))
    ++ when openrtb (field_line (codes "x-openrtb-version") (codes "2.6"))
    ++ when (not empty) (field_line (codes "Allow") allow)
    ++ when (not head && not (status == 204)) (field_line (codes "Content-Length") size)
    ++ when close (field_line (codes "Connection") (codes "close")))
    ++ crlf_bytes ++ when (not head && not (status == 204)) body

by_parts : (json head : Bool) (allow size body : List ℕ) → spelled 204 json false true head false allow size body ≡ bare_bytes
unfolding digits
by_parts true true allow size body = refl
by_parts true false allow size body = refl
by_parts false true allow size body = refl
by_parts false false allow size body = refl

same_parts : (status : ℕ) (json openrtb empty head close : Bool) (allow size body : List ℕ) → status ≡ 204 → openrtb ≡ false → empty ≡ true → close ≡ false → spelled status json openrtb empty head close allow size body ≡ bare_bytes
same_parts status json openrtb empty head close allow size body s o e c =
    subst (λ (n : ℕ). spelled n json openrtb empty head close allow size body ≡ bare_bytes) (sym s)
    (subst (λ (b : Bool). spelled 204 json b empty head close allow size body ≡ bare_bytes) (sym o)
    (subst (λ (b : Bool). spelled 204 json false b head close allow size body ≡ bare_bytes) (sym e)
    (subst (λ (b : Bool). spelled 204 json false true head b allow size body ≡ bare_bytes) (sym c) (by_parts json head allow size body))))

pub bare_is : (r : Reply) → is_bare r ≡ true → bare_bytes ≡ reply_bytes r
bare_is r bare =
    let a = both ((r.status == 204 && not r.openrtb) && length r.allow.now == 0) (not r.close) bare in
    let b = both (r.status == 204 && not r.openrtb) (length r.allow.now == 0) a.0 in
    let c = both (r.status == 204) (not r.openrtb) b.0 in
    sym (same_parts r.status r.json r.openrtb (length r.allow.now == 0) r.head r.close r.allow.now (decimal (length r.body.now)) r.body.now (eqb-true r.status 204 c.0) (off r.openrtb c.1) b.1 (off r.close a.1))
