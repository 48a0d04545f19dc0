-- The count of an acceptor over sockets, and what its pairs and their sinks report. This project's own.
use Rattle.std.specs.Prelude.{ℕ, Bool, None}
use Rattle.adx_io.specs.declared.std_source.StdSource.{StdSource}
use Rattle.adx_io.specs.Adapters.{sink_faults, source_faults}
use Rattle.adx_links.specs.Pairs.{PairTold}
use Rattle.adx_links.specs.declared.peer_sink.PeerSink.{PeerSink}
use Rattle.adx_links.specs.declared.tcp_acceptor.TcpAcceptor.{TcpAcceptor}

-- how often a listener of sockets has failed
abbrev pub acceptor_faults : {R S L : Type 0} → TcpAcceptor R S L → ℕ
acceptor_faults a = a.faults

-- the faults of what is sent to a connection's peer
abbrev pub peer_faults : {W : Type 0} → PeerSink W → ℕ
peer_faults s = sink_faults s.sink

-- closing the connection for its peer was asked for
abbrev pub is_closed : {W : Type 0} → PeerSink W → Bool
is_closed s = s.closed

-- a pair over a connection reports no bytes
abbrev pub pair_told : {R W : Type 0} → StdSource R × PeerSink W → PairTold
pair_told p = record { tape = None; read_faults = source_faults p.0; held = None; write_faults = peer_faults p.1 }
