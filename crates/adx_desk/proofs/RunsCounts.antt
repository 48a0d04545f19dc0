-- The counts of a run, of the disk and of the desk itself: they go on from call to call.
use Rattle.std.proofs.Common.{◌≡◌, ◌≢◌, ◌⊎◌, ⊎_elim, inl, inr, ℕ, zero, suc, ◌+◌, ◌<◌, ◌≤◌, min, List, [], ◌∷◌, ◌++◌, Option, Some, None, refl, sym, ap, ◌∙◌, subst, arith, eq-or-lt_of_le}
use Rattle.adx_io.specs.Fakes.{counted}
use Rattle.adx_io.specs.Streams.{Rises, last_count}
use Rattle.answer_lines.specs.declared.faults.Fault.{Fault}
use Rattle.adx_desk.specs.Meanings.{Told}
use Rattle.adx_desk.specs.OnDisk.{CountsOne}
use Rattle.day_rules.specs.Replies.{Call}
use Rattle.adx_desk.specs.Records.{CountsAmong, CountsBefore, MayWait, RaisesAmong, count_after, raised}

-- the same count is no smaller
pub no_less : (a b : ℕ) → b ≡ a → a ≤ b
no_less a b is = omega (arith, is)

no_less_by : (a b c : ℕ) → a ≤ b → b ≤ c → a ≤ c
no_less_by a b c first rest = omega (arith, first, rest)

-- the disk's count never falls
one_later : (a m : ℕ) (fault : Option Fault) → CountsOne a fault m → a ≤ m
one_later a m None one = no_less a m one
one_later a m (Some Fault.Disk) one = one.0
one_later a m (Some (Fault.JournalFull size)) one = no_less a m one

before_later : (a from : ℕ) (call : Call) → CountsBefore a call from → a ≤ from
before_later a from call (inl same) = no_less a from same
before_later a from call (inr waits) = waits.1

pub among_later : (a b : ℕ) (told : List Told) → CountsAmong a told b → a ≤ b
among_later a b [] same = no_less a b same
among_later a b (t ∷ told) (from, between, before, one, rest) =
    no_less_by a between b (no_less_by a from between (before_later a from t.call before) (one_later from between t.fault one)) (among_later between b told rest)

-- it may have been less before a notice
pub counts_from : (a m b : ℕ) (t : Told) (told : List Told) → MayWait t.call → a ≤ m → CountsAmong m (t ∷ told) b → CountsAmong a (t ∷ told) b
counts_from a m b t told waits less (from, between, before, one, rest) =
    (from, between, inr (waits, no_less_by a m from less (before_later m from t.call before)), one, rest)

-- over two lists of calls
pub counts_join : (a m b : ℕ) (told more : List Told) → CountsAmong a told m → CountsAmong m more b → CountsAmong a (told ++ more) b
counts_join a m b [] more same rest = subst (λ (n : ℕ). CountsAmong n more b) same rest
counts_join a m b (t ∷ told) more (from, between, before, one, first) rest = (from, between, before, one, counts_join between m b told more first rest)

-- a count that is raised, and raised again
raised_join : (times more n : ℕ) → (all : ℕ) × (raised more (raised times n) ≡ raised all n)
raised_join zero more n = (more, refl)
raised_join (suc times) more n =
    let r = raised_join times more (counted n) in
    (suc r.0, r.1)

pub raises_before : (a b times : ℕ) (t : Told) (told : List Told) → MayWait t.call → RaisesAmong (raised times a) (t ∷ told) b → RaisesAmong a (t ∷ told) b
raises_before a b times t told waits (more, any, rest) =
    let r = raised_join times more a in
    (r.0, inr waits, subst (λ (n : ℕ). RaisesAmong (count_after t.fault n) told b) r.1 rest)

pub raises_join : (a m b : ℕ) (told more : List Told) → RaisesAmong a told m → RaisesAmong m more b → RaisesAmong a (told ++ more) b
raises_join a m b [] more is rest = subst (λ (n : ℕ). RaisesAmong n more b) is rest
raises_join a m b (t ∷ told) more (times, any, first) rest = (times, any, raises_join (count_after t.fault (raised times a)) m b told more first rest)

-- a count that was raised isn't 0
some_by : (n last : ℕ) → 0 < last → min (n + 1) last ≡ 0 → ⊥
some_by n last some none = omega (arith, some, none)

last_some : 0 < last_count
last_some = omega arith

pub counted_some : (n : ℕ) → counted n ≡ 0 → ⊥
counted_some n none = some_by n last_count last_some none

raised_none : (times n : ℕ) → raised times n ≡ 0 → n ≡ 0
raised_none zero n is = is
raised_none (suc times) n is = absurd (counted_some n (raised_none times (counted n) is))

after_none : (fault : Option Fault) (n : ℕ) → count_after fault n ≡ 0 → n ≡ 0
after_none None n is = is
after_none (Some Fault.Disk) n is = absurd (counted_some n is)
after_none (Some (Fault.JournalFull size)) n is = is

pub raises_none : (a b : ℕ) (told : List Told) → RaisesAmong a told b → b ≡ 0 → a ≡ 0
raises_none a b [] is none = sym is ∙ none
raises_none a b (t ∷ told) (times, any, rest) none =
    raised_none times a (after_none t.fault (raised times a) (raises_none (count_after t.fault (raised times a)) b told rest none))

-- a count that rose somewhere between
climbs : (a m k b : ℕ) → a ≤ m → m ≤ k → k ≤ b → a ≤ b
climbs a m k b first step rest = omega (arith, first, step, rest)

squeezed : (a m k b : ℕ) → a ≡ b → a ≤ m → m ≤ k → k ≤ b → b ≡ k
squeezed a m k b same first step rest = omega (arith, same, first, step, rest)

above : (a m k b : ℕ) → a ≤ m → m < k → k ≤ b → a < b
above a m k b first more rest = omega (arith, first, more, rest)

pub rises_within : (a m k b : ℕ) → a ≤ m → m ≤ k → Rises m k → k ≤ b → Rises a b
rises_within a m k b first step (inl more) rest = inl (above a m k b first more rest)
rises_within a m k b first step (inr last) rest =
    ⊎_elim (λ same. inr (squeezed a m k b same first step rest ∙ last)) (λ more. inl more) (eq-or-lt_of_le (climbs a m k b first step rest))

same_or_other : (a b : ℕ) → (a ≡ b) ⊎ (a ≢ b)
same_or_other zero zero = inl refl
same_or_other zero (suc b) = inr (λ is. omega (arith, is))
same_or_other (suc a) zero = inr (λ is. omega (arith, is))
same_or_other (suc a) (suc b) = ⊎_elim (λ is. inl (ap suc is)) (λ other. inr (λ is. other (omega (arith, is)))) (same_or_other a b)

pub same_count : (n : ℕ) → n ≤ n
same_count n = omega arith

-- the desk's count x, y, z rose only where the disk's did
pub rises_join : (x y z a m b : ℕ) → a ≤ m → m ≤ b → (y ≢ x → Rises a m) → (z ≢ y → Rises m b) → z ≢ x → Rises a b
rises_join x y z a m b first rest in_first in_rest other =
    ⊎_elim (λ same. rises_within a a m b (same_count a) first (in_first (λ is. other (same ∙ is))) rest)
    (λ risen. rises_within a m b b first rest (in_rest risen) (same_count b))
    (same_or_other z y)
