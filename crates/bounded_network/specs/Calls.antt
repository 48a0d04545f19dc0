-- The connections of links. This project's own.
use Rattle.std.specs.Prelude.{ℕ, vec_len}
use Rattle.bounded_network.specs.declared.open_calls.OpenCalls.{OpenCalls}

-- for the connections of how many links there is room
abbrev pub link_count : {S : Type 0} → OpenCalls S → ℕ
link_count calls = vec_len calls.places
