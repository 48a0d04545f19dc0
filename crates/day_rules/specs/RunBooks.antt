-- The books that a run leaves, and those of every front of a history. This project's own.
use Rattle.std.specs.Prelude.{◌≡◌, ℕ, ◌≤◌, List, [], ◌∷◌, ◌++◌, true, if◌then◌else◌}
use Rattle.allocator_core.specs.Choice.{budget_at}
use Rattle.day_rules.specs.declared.ask.Ask.{Ask}
use Rattle.day_rules.specs.declared.entry.Entry.{Entry}
use Rattle.day_rules.specs.Books.{committed}
use Rattle.day_rules.specs.Laws.{AreOfCallsTakenOnce, StandsSettled}
use Rattle.day_rules.specs.Legal.{IsLegal}
use Rattle.day_rules.specs.Replies.{reply}
use Rattle.day_rules.specs.Runs.{Turn, run, once, is_effective, is_repeat}
use Rattle.day_rules.specs.Terms.{Terms, budgets_after}

-- an effective turn after those of a run answers Repeat exactly where the calls taken once leave it out: they stay as
-- they are then, and else end in its call
abbrev pub IsTakenOnce : Terms → List Entry → List Turn → Turn → Type 0
IsTakenOnce terms start turns turn =
    is_effective terms (run terms start turns) turn ≡ true
    → once terms start (turns ++ turn ∷ [])
    ≡ (if is_repeat (reply terms (run terms start turns) turn.call).answer
    then once terms start turns else once terms start turns ++ turn.call ∷ [])

-- the history is that of a run over these turns from the start, and legal. Each campaign's money is that of plain
-- books over the calls of the run, each taken once. At no point of the history does it pass the campaign's budget. Each
-- ask is there as its choice was, and each effective turn is a repeat exactly where its call was taken before.
pub record HasBooks (terms : Terms) (start : List Entry) (turns : List Turn) (history : List Entry) : Type 0 where
  pub ran : history ≡ run terms start turns
  pub legal : IsLegal terms history
  pub books : AreOfCallsTakenOnce terms start turns
  pub within : (front back : List Entry) → history ≡ front ++ back → (campaign : ℕ)
      → committed front campaign ≤ budget_at (budgets_after terms front) campaign
  pub chosen : (before : List Entry) (a : Ask) (after : List Entry) → history ≡ before ++ Entry.Ask a ∷ after → StandsSettled terms before a
  pub taken_once : (front : List Turn) (turn : Turn) (back : List Turn) → turns ≡ front ++ turn ∷ back → IsTakenOnce terms start front turn

-- so are the books at each front of a history, by the history alone
abbrev pub HasBooksAlong : Terms → List Entry → Type 0
HasBooksAlong terms history = (front back : List Entry) → history ≡ front ++ back → HasBooks terms front [] front
