-- What a lobby keeps of the pairs that it gave to workers and got back. This project's own.
use Rattle.std.specs.Prelude.{◌≡◌, ℕ, ◌+◌, ◌≤◌, List, map, length, Bool, true, All, Option, IfSome}
use Rattle.std.specs.List.{flat_map}
use mathlib.Core.List.{IsPrefix}
use Rattle.adx_io.specs.Streams.{Rises}
use Rattle.adx_links.specs.Pairs.{AcceptorTold}
use Rattle.turnstile.specs.Passes.{PassView}
use Rattle.turnstile.specs.Turns.{Stand, places_of}
use Rattle.turnstile.specs.Places.{AreAllOnce}
use Rattle.adx_links.specs.declared.intake.Intake.{Intake}
use Rattle.adx_links.specs.Serving.{ServedPair}

-- What an acceptor said of connections to come, by whether it said that none come, and by its count of faults before and now
abbrev pub IsIntake : Intake → Bool → ℕ → ℕ → Type 0
IsIntake Intake.Open over before now = now ≡ before
IsIntake Intake.Over over before now = (over ≡ true) × (now ≡ before)
IsIntake Intake.Failed over before now = Rises before now

-- it is still the first pass, and has seen no less
pub record IsLater {I F N : Type 0} (first p : PassView I F N) : Type 0 where
  pub turnstile : p.turnstile ≡ first.turnstile
  pub is_first : p.is_first ≡ true
  pub fixed : p.fixed ≡ first.fixed
  pub opening : p.opening ≡ first.opening
  pub begins : IsPrefix first.seen p.seen

module _ {I N : Type 0} (served : List I → ServedPair N → Type 0) where
  -- the pair was served over a list that this list begins with
  abbrev pub WasServed : List I → ServedPair N → Type 0
  WasServed seen s = (before : List I) × IsPrefix before seen × served before s

module _ {I F N : Type 0} (served : List I → ServedPair N → Type 0) where
  -- Pairs were taken from the acceptor, and so many of them given back. `rows` are those that were given back, in order.
  -- Example: of two pairs, the first with a turn that adds an entry and the second with none, the first pass has
  -- that one turn, and each entry past the opening is of one turn of one pair.
  pub record AreServed (acceptor : AcceptorTold) (p : PassView I F N)
      (taken given : ℕ) (wanting : Bool) (rows : List (ServedPair N)) : Type 0 where
    -- each was served over what the pass has seen
    pub each : All (WasServed served p.seen) rows
    -- where memory was wanting for one, it was wanting
    pub short : All (λ (s : ServedPair N). s.wanting ≡ true → wanting ≡ true) rows
    -- their turns are all that the pass has, one pair's after another's
    pub turns : p.turns ≡ flat_map (λ (s : ServedPair N). s.turns) rows
    pub given_is : length rows ≡ given
    -- where the acceptor reports its pairs, these are they
    pub out : IfSome acceptor.pairs (λ t. length t.out ≡ taken)
    pub back : IfSome acceptor.pairs (λ t. t.back ≡ map (λ (s : ServedPair N). s.told) rows)

  -- what a lobby keeps, that was opened with this first pass, beside so many other passes, over an acceptor with this count
  pub record IsLobby (first : PassView I F N) (others before : ℕ)
      (acceptor : AcceptorTold) (p : PassView I F N) (taken given : ℕ) (intake : Intake) (wanting : Bool) : Type 0 where
    pub later : IsLater first p
    pub no_more : given ≤ taken
    -- a pass is out for each pair that isn't given back
    pub pass_out : p.out + given ≡ taken + others
    pub counts : before ≤ acceptor.faults
    pub intake_is : IsIntake intake acceptor.is_over before acceptor.faults
    pub rows : List (ServedPair N)
    pub served_are : AreServed acceptor p taken given wanting rows

  -- What is left, once every pair that was taken was given back: of the passes that were split, only the others are still
  -- out.
  pub record AllServed (first : PassView I F N) (others before : ℕ)
      (acceptor : AcceptorTold) (p : PassView I F N) (intake : Intake) (wanting : Bool) : Type 0 where
    pub later : IsLater first p
    pub pass_out : p.out ≡ others
    pub counts : before ≤ acceptor.faults
    pub intake_is : IsIntake intake acceptor.is_over before acceptor.faults
    pub count : ℕ
    pub rows : List (ServedPair N)
    pub served_are : AreServed acceptor p count count wanting rows

  -- What is left, once all other passes were joined and the turnstile was closed: the pairs that were given back, whose
  -- turns made each item past the opening, each once.
  pub record IsClosed (adds : N → Option I) (first : PassView I F N)
      (acceptor : AcceptorTold) (items : List I) (wanting : Bool) : Type 0 where
    pub begins : IsPrefix first.seen items
    pub count : ℕ
    pub rows : List (ServedPair N)
    pub each : All (WasServed served items) rows
    pub short : All (λ (s : ServedPair N). s.wanting ≡ true → wanting ≡ true) rows
    pub out : IfSome acceptor.pairs (λ t. length t.out ≡ length t.back)
    pub back : IfSome acceptor.pairs (λ t. t.back ≡ map (λ (s : ServedPair N). s.told) rows)
    pub stand : Stand adds items (flat_map (λ (s : ServedPair N). s.turns) rows)
    pub own : AreAllOnce first.opening (length items) (places_of adds (flat_map (λ (s : ServedPair N). s.turns) rows))

-- what is known once an acceptor said that no more come
abbrev pub over_after : Intake → Intake
over_after Intake.Open = Intake.Over
over_after Intake.Over = Intake.Over
over_after Intake.Failed = Intake.Failed
