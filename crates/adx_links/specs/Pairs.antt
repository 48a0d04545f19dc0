-- Pairs of a source and a sink, as an acceptor gives them out and gets them back. This project's own.
use Rattle.std.specs.Prelude.{◌≡◌, ℕ, nat_lt, List, [], ◌∷◌, ◌++◌, length, Bool, true, Option, Some, None, IfSome, Result, Ok, Err, if◌then◌else◌, map, option_map}
use Rattle.adx_io.specs.declared.failed.Failed.{Failed}
use Rattle.adx_io.specs.Streams.{Tape}

-- what a pair reports: its source's bytes and its sink's, where they report them, and their counts of faults
pub record PairTold : Type 0 where
  pub tape : Option Tape
  pub read_faults : ℕ
  pub held : Option (List ℕ)
  pub write_faults : ℕ

-- what a pair reports, by what its source and its sink report
abbrev pub told_of : {I O : Type 0} → (I → Option Tape) → (I → ℕ) → (O → Option (List ℕ)) → (O → ℕ) → I × O → PairTold
told_of tape read_faults held write_faults p = record {
  tape = tape p.0;
  read_faults = read_faults p.0;
  held = held p.1;
  write_faults = write_faults p.1;
}

-- the pair is as new: nothing was taken or put, where it says so, and nothing failed
pub record IsNew (p : PairTold) : Type 0 where
  pub untaken : IfSome p.tape (λ t. t.taken ≡ [])
  pub unread : p.read_faults ≡ 0
  pub unput : IfSome p.held (λ bytes. bytes ≡ [])
  pub unwritten : p.write_faults ≡ 0

-- the pairs that an acceptor has given out, as they were then, and those that it got back, each list in its order
pub record PairsTold (P : Type 0) : Type 0 where
  pub out : List P
  pub back : List P

-- a pair that came was given out; where none came, none was
abbrev pub GivesOut : {P : Type 0} → Result (Option P) Failed → PairsTold P → PairsTold P → Type 0
GivesOut (Ok (Some p)) old new = new ≡ record old { out = old.out ++ p ∷ [] }
GivesOut (Ok None) old new = new ≡ old
GivesOut (Err e) old new = new ≡ old

-- a pair was given back, where fewer had been than were given out
abbrev pub GetsBack : {P : Type 0} → P → PairsTold P → PairsTold P → Type 0
GetsBack p old new =
    new ≡ (if nat_lt (length old.back) (length old.out) then record old { back = old.back ++ p ∷ [] } else old)

-- whether an acceptor has said that no more connections come, after an answer
abbrev pub is_over_after : {P : Type 0} → Bool → Result (Option P) Failed → Bool
is_over_after over (Ok (Some p)) = over
is_over_after over (Ok None) = true
is_over_after over (Err e) = over

-- all that an acceptor reports, its pairs by what they report
pub record AcceptorTold : Type 0 where
  pub faults : ℕ
  pub is_over : Bool
  pub pairs : Option (PairsTold PairTold)

-- the lists by what their pairs report
abbrev pub pairs_told : {P : Type 0} → (P → PairTold) → PairsTold P → PairsTold PairTold
pairs_told told t = record { out = map told t.out; back = map told t.back }

-- what an acceptor reports, from its count of faults, whether it said that no more connections come, and its pairs
abbrev pub acceptor_told : {A P : Type 0} → (A → ℕ) → (A → Bool) → (A → Option (PairsTold P)) → (P → PairTold) → A → AcceptorTold
acceptor_told faults is_over pairs told a = record {
  faults = faults a;
  is_over = is_over a;
  pairs = option_map (pairs_told told) (pairs a);
}
