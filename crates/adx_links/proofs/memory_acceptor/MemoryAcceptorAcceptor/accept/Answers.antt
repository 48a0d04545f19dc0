use Rattle.std.proofs.Common.{◌≡◌, ℕ, zero, suc, ◌+◌, ◌≤◌, List, [], ◌∷◌, ◌++◌, length, take, sym, ap, ◌∙◌, subst, arith, add-one}
use Rattle.std.specs.Prelude.{All}
use Rattle.adx_io.specs.Fakes.{SourceState, SinkState}
use Rattle.adx_links.specs.Pairs.{IsNew}
use Rattle.adx_links.specs.MemoryAcceptors.{pair_told}
use Rattle.adx_links.proofs.memory_acceptor.MemoryAcceptorAcceptor.accept.Goals as goal

abbrev tail_of : {A : Type 0} → List A → List A
tail_of [] = []
tail_of (x ∷ xs) = xs

-- where one more of a list is taken
one_more : {A : Type 0} (n : ℕ) (xs rest : List A) (x : A) → n ≤ length xs → xs ≡ take n xs ++ x ∷ rest → (xs ≡ take (suc n) xs ++ rest) × (suc n ≤ length xs)
one_more zero [] rest x h e = absurd (let a = ap length e in omega arith)
one_more zero (y ∷ ys) rest x h e = (ap (λ l. y ∷ l) (ap tail_of e), omega arith)
one_more (suc n) [] rest x h e = absurd (omega arith)
one_more (suc n) (y ∷ ys) rest x h e = let t = one_more n ys rest x (omega arith) (ap tail_of e) in let a = t.1 in (ap (λ l. y ∷ l) t.0, omega arith)

pub invariant_of-self-in-Some : goal.invariant_of-self-in-Some
invariant_of-self-in-Some c =
    let s = c.self.inside in let k = c.self.invariant in
    let all = s.all.value.items in let rest = c.pop_front.new.self.items in
    let t = one_more s.given all rest c.in-Some.pair k.1 (k.0 ∙ ap (λ l. take s.given all ++ l) c.in-Some.ensures.items) in
    let news = subst (λ (l : List (SourceState × SinkState)). All (λ p. IsNew (pair_told p)) l) c.in-Some.ensures.items k.4 in
    let more = t.1 in let held = k.3 in (
      subst (λ (n : ℕ). all ≡ take n all ++ rest) (sym (add-one s.given)) t.0,
      omega arith,
      k.2,
      omega arith,
      λ j d h. news (suc j) d (omega arith),
    )

pub returns-in-Some-clause-new : goal.returns-in-Some-clause-new
returns-in-Some-clause-new c =
    subst (λ (l : List (SourceState × SinkState)). All (λ p. IsNew (pair_told p)) l) c.in-Some.ensures.items c.self.invariant.4 0 c.in-Some.pair (omega arith)
