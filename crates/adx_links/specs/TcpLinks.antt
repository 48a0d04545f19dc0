-- The connection that a link over sockets has, and its count of faults. This project's own.
use Rattle.std.specs.Prelude.{ℕ, Option, Some, None, ⊤}
use Rattle.adx_links.specs.declared.tcp_link.TcpLink.{TcpLink}

-- the connection that a link over sockets has, if any
abbrev pub stream_of : {R S L : Type 0} → TcpLink R S L → Option S
stream_of l = l.stream

-- how often it has failed
abbrev pub link_faults : {R S L : Type 0} → TcpLink R S L → ℕ
link_faults l = l.faults

-- R holds of the connection before and after, where there is one
abbrev pub BothStand : {S : Type 0} → Option S → Option S → (S → S → Type 0) → Type 0
BothStand None new R = ⊤
BothStand (Some old) None R = ⊥
BothStand (Some old) (Some new) R = R old new
