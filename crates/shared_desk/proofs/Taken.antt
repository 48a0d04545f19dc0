-- What each turn of a pass leaves of the history that it is called at.
use Rattle.std.proofs.Common.{List, [], ◌∷◌, ◌++◌, length, refl, sym, ap, ◌∙◌, append_assoc}
use Rattle.std.proofs.lemmas.List.Elements.{All-nil, All-cons}
use Rattle.day_rules.specs.DayState.{IsDay}
use Rattle.day_rules.specs.Legal.{IsLegal}
use Rattle.day_rules.specs.Runs.{IsCall, Turn as DayTurn, run}
use Rattle.day_rules.specs.declared.entry.Entry.{Entry}
use Rattle.day_rules.proofs.RunBooks.{books_along, run_books}
use Rattle.adx_desk.specs.Histories.{DeskTerms}
use Rattle.adx_desk.specs.Shared.{IsTakenAt, IsTurnAt, day_turn, terms_in}
use Rattle.adx_desk.specs.declared.shared.OpenedWith.{OpenedWith}
use Rattle.adx_desk.specs.declared.turn.Turn.{Turn}
use Rattle.shared_desk.specs.Callers.{DeskPass, IsRightPass, entry_of}
use Rattle.turnstile.specs.Turns.{AreAllRight, Stand}
use Rattle.turnstile.specs.declared.noted.Noted.{Noted}

-- a turn of a legal history
pub taken_at : (terms : DeskTerms) (history : List Entry) (turn : Turn) → IsLegal terms.day history → IsTurnAt terms history turn → IsTakenAt terms history turn
taken_at terms history turn legal is =
    let is_call : DayTurn → Type 0 = λ t. IsCall (length terms.day.budgets) t.call in
    run_books terms.day history (day_turn turn ∷ []) (run terms.day history (day_turn turn ∷ [])) legal
    (All-cons is_call (day_turn turn) [] is.takes (All-nil is_call)) refl

-- each of the turns at its front
pub all_taken : (terms : DeskTerms) (history : List Entry) (ns : List (Noted Turn)) → IsLegal terms.day history → AreAllRight (IsTurnAt terms) history ns → AreAllRight (IsTakenAt terms) history ns
all_taken terms history ns legal right k n is =
    let r = right k n is in record {
      before = r.before;
      begins = r.begins;
      length_is = r.length_is;
      is_right = taken_at terms r.before n.turn
          (λ b e a at. legal b e (a ++ r.begins.0) (sym r.begins.1 ∙ ap (λ h. h ++ r.begins.0) at ∙ append_assoc b (e ∷ a) r.begins.0)) r.is_right;
    }

-- a pass, by what a turnstile knows of it
pub right_pass : (opened : OpenedWith) (p : DeskPass) → IsDay (terms_in opened).day p.seen → AreAllRight (IsTurnAt (terms_in opened)) p.seen p.turns → Stand entry_of p.seen p.turns → IsRightPass opened p
right_pass opened p day right stand = record {
  legal = day;
  turns = right;
  stand = stand;
  books = books_along (terms_in opened).day p.seen day.legal;
  taken = all_taken (terms_in opened) p.seen p.turns day.legal right;
}
