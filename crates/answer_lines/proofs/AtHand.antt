-- The ask that an answer is about is in the history that its call leaves, and is at hand before that.
use Rattle.std.proofs.Common.{◌≡◌, List, [], ◌∷◌, ◌++◌, length, Bool, true, false, if◌then◌else◌, Some, refl}
use Rattle.day_rules.specs.declared.ask.Ask.{Ask}
use Rattle.day_rules.specs.declared.entry.Entry.{Entry}
use Rattle.day_rules.specs.Books.{ask_at}
use Rattle.day_rules.specs.Replies.{Reply}
use Rattle.answer_lines.specs.Answers.{IsAtHand}

-- the entry after a history
at_end : (history : List Entry) (a : Ask) → ask_at (history ++ Entry.Ask a ∷ []) (length history) ≡ Some a
at_end [] a = refl
at_end (e ∷ es) a = at_end es a

either : (history : List Entry) (b : Bool) (r s : Reply) → IsAtHand history r → IsAtHand history s → IsAtHand history (if b then r else s)
either history true r s first second = first
either history false r s first second = second
