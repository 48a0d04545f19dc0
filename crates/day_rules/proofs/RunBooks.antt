-- The books of a run over turns, and those of each front of a legal history.
use Rattle.std.proofs.Common.{◌≡◌, List, [], ◌∷◌, ◌++◌, length, All, refl, sym, ap, ◌∙◌, append_assoc, subst}
use Rattle.std.proofs.lemmas.List.Elements.{All-nil, All-cons, All-head, All-tail}
use Rattle.day_rules.specs.declared.entry.Entry.{Entry}
use Rattle.day_rules.specs.Legal.{IsLegal}
use Rattle.day_rules.specs.Runs.{Turn, IsCall, AreTurns, after_turn, run}
use Rattle.day_rules.specs.Terms.{Terms}
use Rattle.day_rules.proofs.Choices.{stands_settled}
use Rattle.day_rules.proofs.Running.{run_legal, plain_books_hold, left_out}
use Rattle.day_rules.proofs.Within.{within_budget}
use Rattle.day_rules.specs.RunBooks.{HasBooks, HasBooksAlong}

-- a run over two lists of turns
pub run_append : (terms : Terms) (history : List Entry) (first rest : List Turn) → run terms history (first ++ rest) ≡ run terms (run terms history first) rest
run_append terms history [] rest = refl
run_append terms history (turn ∷ first) rest = run_append terms (after_turn terms history turn) first rest

all_left : {X : Type 0} (P : X → Type 0) (xs ys : List X) → All P (xs ++ ys) → All P xs
all_left P [] ys all = All-nil P
all_left P (x ∷ xs) ys all = All-cons P x xs (All-head P x (xs ++ ys) all) (all_left P xs ys (All-tail P x (xs ++ ys) all))

-- the books of what a run leaves
pub run_books : (terms : Terms) (start : List Entry) (turns : List Turn) (history : List Entry) → IsLegal terms start → AreTurns (length terms.budgets) turns → history ≡ run terms start turns → HasBooks terms start turns history
run_books terms start turns history begins well ran =
    subst (HasBooks terms start turns) (sym ran) (record {
      ran = refl;
      legal = legal;
      books = plain_books_hold terms start turns begins well;
      within = λ front back is. within_budget terms front (λ before e after at. legal before e (after ++ back) (is ∙ ap (λ h. h ++ back) at ∙ append_assoc before (e ∷ after) back));
      chosen = λ before a after is. stands_settled terms before a after (subst (IsLegal terms) is legal);
      taken_once = λ front turn back is.
          left_out terms start front turn begins
          (all_left (λ (t : Turn). IsCall (length terms.budgets) t.call) (front ++ turn ∷ []) back (subst (AreTurns (length terms.budgets)) (is ∙ sym (append_assoc front (turn ∷ []) back)) well));
    })
  where
    legal : IsLegal terms (run terms start turns)
    legal = run_legal terms start turns begins well

-- the books of each front of a legal history
pub books_along : (terms : Terms) (history : List Entry) → IsLegal terms history → HasBooksAlong terms history
books_along terms history legal front back is =
    run_books terms front [] front
    (λ before e after at. legal before e (after ++ back) (is ∙ ap (λ h. h ++ back) at ∙ append_assoc before (e ∷ after) back))
    (All-nil (λ (t : Turn). IsCall (length terms.budgets) t.call)) refl
