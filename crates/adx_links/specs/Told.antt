-- What an acceptor and its pairs report, by what their traits report. This project's own.
use Rattle.adx_io.specs.declared.source.Source as source
use Rattle.adx_io.specs.declared.sink.Sink as sink
use Rattle.adx_links.specs.declared.acceptor.Acceptor as acceptor
use Rattle.adx_links.specs.Pairs.{AcceptorTold, PairTold, acceptor_told, told_of}

-- what a pair reports
abbrev pub pair_by : {I O : Type 0} → source.Ghosts I → sink.Ghosts O → I × O → PairTold
pair_by s k pair = told_of s.tape s.faults k.held k.faults pair

-- what an acceptor reports
abbrev pub told_by : {A I O : Type 0} → acceptor.Ghosts A I O → source.Ghosts I → sink.Ghosts O → A → AcceptorTold
told_by a s k x = acceptor_told a.faults a.is_over a.pairs (pair_by s k) x
