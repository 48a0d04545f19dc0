-- What the types of a world say of its steps. This project's own.
use Rattle.std.specs.Prelude.{ℕ, ◌<◌, ◌≤◌, List, length, All, IsUtf8, ⊤}
use Rattle.adx_units.specs.declared.id.TheConstants.{LONGEST_ID}
use Rattle.two_books.specs.declared.step.Step.{Step}

-- an auction's id, which comes back in the notices: a text of 1 to 128 bytes
pub record IsName (text : List ℕ) : Type 0 where
  pub utf8 : IsUtf8 text
  pub bytes : All (λ b. b < 256) text
  pub some : 1 ≤ length text
  pub few : length text ≤ LONGEST_ID

-- what the type of a request says of its id
abbrev pub IsNamed : Step → Type 0
IsNamed (Step.Ask request now) = IsName request.id
IsNamed (Step.Notice kind n) = ⊤
IsNamed (Step.Tick now) = ⊤
IsNamed (Step.Budget campaign change budget) = ⊤
IsNamed (Step.Pump fates) = ⊤
IsNamed (Step.Again n) = ⊤
IsNamed (Step.Acknowledge n) = ⊤
IsNamed Step.RestartExchange = ⊤
IsNamed Step.RestartBidder = ⊤
