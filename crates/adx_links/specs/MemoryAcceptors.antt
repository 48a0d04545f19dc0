-- An acceptor in memory. This project's own.
use Rattle.std.specs.Prelude.{ℕ, List, Bool, Some}
use Rattle.adx_io.specs.Fakes.{SourceState, SinkState}
use Rattle.adx_links.specs.Pairs.{PairTold, PairsTold}

-- the pairs given out, those left and those given back; the numbers of the calls that fail, from 0; how many calls and
-- faults there were; and whether it said that no more come
pub record AcceptorState : Type 0 where
  pub out : List (SourceState × SinkState)
  pub left : List (SourceState × SinkState)
  pub back : List (SourceState × SinkState)
  pub fails : List ℕ
  pub calls : ℕ
  pub faults : ℕ
  pub over : Bool

-- what a pair in memory reports
abbrev pub pair_told : SourceState × SinkState → PairTold
pair_told p = record { tape = Some p.0.tape; read_faults = p.0.habits.faults; held = Some p.1.bytes; write_faults = p.1.habits.faults }

-- the pairs that an acceptor in memory reports
abbrev pub pairs_of : AcceptorState → PairsTold (SourceState × SinkState)
pairs_of a = record { out = a.out; back = a.back }
