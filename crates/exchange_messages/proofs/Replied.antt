-- A reply by what was answered and written.
use Rattle.std.proofs.Common.{◌≡◌, ℕ, List, [], ◌++◌, Result, Ok, Err, OnOk, ap, ap₂, ◌∙◌}
use Rattle.answer_lines.proofs.Chains.{and_then}
use Rattle.http_service.specs.declared.answer.Answer.{Answer}
use Rattle.exchange_messages.specs.Courses.{reply_of}

-- an answer whose body was written into an empty text
pub reply_is : (a b : Answer) (before after body : List ℕ) → a ≡ b → before ≡ [] → after ≡ before ++ body → reply_of a after ≡ reply_of b body
reply_is a b before after body is empty wrote = ap₂ reply_of is (wrote ∙ ap (λ (xs : List ℕ). xs ++ body) empty)

-- one without a body
pub bare_is : (a b : Answer) (before : List ℕ) → a ≡ b → before ≡ [] → reply_of a before ≡ reply_of b []
bare_is a b before is empty = ap₂ reply_of is empty

-- the last piece of a text, where it was written
pub last_piece : {T E : Type 0} (result : Result T E) (start front piece mid now : List ℕ) → OnOk result (now ≡ mid ++ piece) → mid ≡ start ++ front → OnOk result (now ≡ start ++ (front ++ piece))
last_piece (Ok x) start front piece mid now more so_far = and_then start front piece mid now more so_far
last_piece (Err e) start front piece mid now more so_far = tt
