-- By the head and by what is unfinished.
use Rattle.std.proofs.Common.{◌≡◌, ℕ, take, sym, ◌∙◌, subst, arith}
use Rattle.std.proofs.lemmas.Bool.{false≢true}
use Rattle.day_journal.specs.Places.{IsUnfinished, head}
use Rattle.day_journal.proofs.Starts.{finished, head_more, no_head_at}
use Rattle.day_journal.proofs.start.start_of.Goals as goal

pub returns-then-at-lt8 : goal.returns-then-at-lt8
returns-then-at-lt8 c =
    let first = c.args.first.now in
    let whole : IsUnfinished first → ⊥ =
    finished first (λ cleared. false≢true (sym c.if-is_cleared.false ∙ c.is_cleared.ensures.1 cleared)) (omega (arith, c.if-first-le1.false))
    (λ marked. false≢true (sym c.if-is_marked.false ∙ c.is_marked.ensures.1 marked)) in
    no_head_at first c.front_len-at.result whole (omega (arith, c.if-at-lt8.true)) c.front_len-at.ensures.same (λ format known. c.front_len-at.ensures.differs c.if-at-lt8.true format)

pub returns-in-Some : goal.returns-in-Some
returns-in-Some c =
    let first = c.args.first.now in
    let eight : c.front_len-at.result ≡ 8 = omega (arith, c.if-at-lt8.false, c.front_len-at.ensures.within) in
    let front : take 8 first ≡ take 8 (head c.in-Some.format) = subst (λ (n : ℕ). take n first ≡ take n (head c.in-Some.format)) eight (c.front_len-at.ensures.same c.in-Some.format) in
    (c.in-Some.ensures.0, head_more first c.in-Some.format front c.in-Some.ensures.1)

pub returns-in-None : goal.returns-in-None
returns-in-None c =
    let first = c.args.first.now in
    let whole : IsUnfinished first → ⊥ =
    finished first (λ cleared. false≢true (sym c.if-is_cleared.false ∙ c.is_cleared.ensures.1 cleared)) (omega (arith, c.if-first-le1.false))
    (λ marked. false≢true (sym c.if-is_marked.false ∙ c.is_marked.ensures.1 marked)) in
    let eight : c.front_len-at.result ≡ 8 = omega (arith, c.if-at-lt8.false, c.front_len-at.ensures.within) in
    no_head_at first 8 whole (omega arith) (λ format. subst (λ (n : ℕ). take n first ≡ take n (head format)) eight (c.front_len-at.ensures.same format)) c.in-None.ensures
