-- New pairs in memory.
use Rattle.std.proofs.Common.{◌≡◌, ℕ, List, [], ◌∷◌, ◌++◌, sym, subst, refl}
use Rattle.std.specs.Prelude.{All}
use Rattle.std.proofs.lemmas.List.Elements.{All-append, All-cons, All-nil}
use Rattle.adx_io.specs.Fakes.{SourceState, SinkState}
use Rattle.adx_links.specs.Pairs.{IsNew}
use Rattle.adx_links.specs.MemoryAcceptors.{pair_told}

-- a source and a sink that were just made
pub new_pair : (source : SourceState) (sink : SinkState) (bytes : List ℕ) (step size : ℕ) (takes puts : List ℕ) →
    source ≡ record { tape = record { taken = []; left = bytes }; habits = record { step = step; fails = takes; calls = 0; faults = 0 } } →
    sink ≡ record { bytes = []; habits = record { step = size; fails = puts; calls = 0; faults = 0 } } →
    IsNew (pair_told (source, sink))
new_pair source sink bytes step size takes puts s k =
    subst (λ (p : SourceState × SinkState). IsNew (pair_told p)) (λ i. (sym s i, sym k i)) (record { untaken = refl; unread = refl; unput = refl; unwritten = refl })

-- one more pair
pub one_more : (pairs now : List (SourceState × SinkState)) (p : SourceState × SinkState) → now ≡ pairs ++ p ∷ [] →
    All (λ q. IsNew (pair_told q)) pairs → IsNew (pair_told p) → All (λ q. IsNew (pair_told q)) now
one_more pairs now p is all new =
    subst (λ (l : List (SourceState × SinkState)). All (λ q. IsNew (pair_told q)) l) (sym is)
    (All-append (λ q. IsNew (pair_told q)) pairs (p ∷ []) all (All-cons (λ q. IsNew (pair_told q)) p [] new (All-nil (λ q. IsNew (pair_told q)))))
