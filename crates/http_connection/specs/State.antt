-- What a connection represents. This project's own.
use Rattle.std.specs.Prelude.{ℕ, ◌+◌, ◌*◌, List, Bool}
use Rattle.http_connection.specs.declared.head.TheConstants.{HEAD_LIMIT}
use Rattle.http_connection.specs.declared.conn.TheConstants.{PIECE}

-- how many bytes a connection has room for, by the limit of a body: two heads, a body and one piece
abbrev pub room_of : ℕ → ℕ
room_of limit = 2 * HEAD_LIMIT + limit + PIECE

-- the bytes that were taken and belong to no message that was read, whether there was a fault, and the limit of a body
pub record ConnState : Type 0 where
  pub held : List ℕ
  pub failed : Bool
  pub limit : ℕ
