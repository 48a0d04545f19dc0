-- Whether a whole request is in the bytes that were taken.
use Rattle.std.specs.Prelude.{◌≡◌, ℕ, List, false}
use Rattle.http_connection.specs.State.{ConnState}
use Rattle.http_connection.specs.Messages.{Request, IsRequestThen}

-- the bytes begin with a whole request
abbrev pub HasRequest : ℕ → List ℕ → Type 0
HasRequest limit bytes = (m : Request) × (rest : List ℕ) × IsRequestThen limit bytes m rest

-- the bytes that were taken and belong to no message that was read begin with a whole request, and there was no fault
abbrev pub IsReady : ConnState → Type 0
IsReady c = (c.failed ≡ false) × HasRequest c.limit c.held
