-- What is said of pairs that were served. This project's own.
use Rattle.std.specs.Prelude.{◌≡◌, List, [], Bool, false}
use mathlib.Core.List.{IsPrefix}
use Rattle.turnstile.specs.declared.noted.Noted.{Noted}
use Rattle.turnstile.specs.Passes.{PassView}
use Rattle.adx_links.specs.Pairs.{PairTold}

-- a pair that was served: what it reports then, the turns that were made for it, and whether memory was refused
pub record ServedPair (N : Type 0) : Type 0 where
  pub told : PairTold
  pub turns : List (Noted N)
  pub wanting : Bool

-- the pair that reports this, served by this pass
abbrev pub served_pair : {I F N : Type 0} → PairTold → PassView I F N → Bool → ServedPair N
served_pair told p wanting = record { told = told; turns = p.turns; wanting = wanting }

-- the pass is of the turnstile that the first pass is of
abbrev pub IsBeside : {I F N : Type 0} → PassView I F N → PassView I F N → Type 0
IsBeside first p = (p.turnstile ≡ first.turnstile) × (p.fixed ≡ first.fixed)

-- The pass was split, since then, from a pass that was this first one once, and has no turns.
pub record IsFresh {I F N : Type 0} (first p : PassView I F N) : Type 0 where
  pub turnstile : p.turnstile ≡ first.turnstile
  pub split : p.is_first ≡ false
  pub fixed : p.fixed ≡ first.fixed
  pub opening : p.opening ≡ first.opening
  pub begins : IsPrefix first.seen p.seen
  pub none : p.turns ≡ []
