-- Zeros before the same digits don't count, and nothing else makes the same number.
use Rattle.std.proofs.Common.{◌≡◌, ◌++◌, ◌-◌, ℕ, List, length, take, drop, sym, ap, ◌∙◌, arith}
use Rattle.std.specs.Str.Parse.{digits_value}
use Rattle.std.proofs.lemmas.Bool.{false≢true}
use Rattle.std.proofs.lemmas.List.{take-append-drop}
use Rattle.std.proofs.lemmas.Slice.Eq.{bytes_eq-Decides}
use Rattle.http_grammar.proofs.Digits.{padded, padding_from}
use Rattle.http_grammar.proofs.lengths.is_padded.Goals as goal

cut : (long front back : List ℕ) (k : ℕ) → front ≡ take k long → back ≡ drop k long → long ≡ front ++ back
cut long front back k f b = sym (take-append-drop k long) ∙ ap (λ x. x ++ drop k long) (sym f) ∙ ap (λ x. front ++ x) (sym b)

pub returns-then-eq : goal.returns-then-eq
returns-then-eq c =
    let long = c.args.long.now in
    let short = c.args.short.now in
    let front = c.split_at.result.0.now in
    let back = c.split_at.result.1.now in
    let split = cut long front back (length long - length short) c.split_at.ensures.front c.split_at.ensures.back in
    let same : back ≡ short = (bytes_eq-Decides back short).0 (sym c.eq.ensures ∙ c.if-eq.true) in (
      λ zeros. ap (digits_value 10) (split ∙ ap (λ x. front ++ x) same) ∙ padded front short (c.are_zeros.ensures.0 zeros),
      λ equal. c.are_zeros.ensures.1 (padding_from long front back short split (ap length same) c.requires.digits c.requires.others equal).0,
    )

pub returns-else-eq : goal.returns-else-eq
returns-else-eq c =
    let long = c.args.long.now in
    let short = c.args.short.now in
    let front = c.split_at.result.0.now in
    let back = c.split_at.result.1.now in
    let split = cut long front back (length long - length short) c.split_at.ensures.front c.split_at.ensures.back in
    let sizes : length back ≡ length short = omega (arith, c.split_at.ensures.back_len, c.requires.shorter) in (
      λ yes. absurd (false≢true (sym c.if-eq.false ∙ yes)),
      λ equal.
          let parts = padding_from long front back short split sizes c.requires.digits c.requires.others equal in
          absurd (false≢true (sym c.if-eq.false ∙ c.eq.ensures ∙ (bytes_eq-Decides back short).1 parts.1)),
    )
