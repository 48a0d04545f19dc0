-- That what a call is made of is a valid URL.
use Rattle.std.proofs.Common.{◌≡◌, List, ℕ, Option, Some, None, Result, Ok, Err, ap, sym, ◌∙◌, subst}
use Rattle.std.specs.Prelude.{IfOk, IfSome, unwrap_or}
use Rattle.std.specs.Result.{result_ok}
use Rattle.url.specs.Parser.{Parsed, parse_url}
use Rattle.url.specs.Parts.{IsValid, Parts}
use Rattle.adx_units.specs.declared.memory.OutOfMemory.{OutOfMemory}
use Rattle.outbox.specs.declared.calling.Call.{Call}
use Rattle.outbox.specs.Calls.{IsValidAs}

from_ok : (a b : Parts) → ◌≡◌ {A = Parsed Parts} (Ok a) (Ok b) → a ≡ b
from_ok a b e = ap (λ (r : Parsed Parts). unwrap_or (result_ok r) a) e

valid_as : (url : List ℕ) (q : Parts) → parse_url None url ≡ Ok q → IsValid q → IsValidAs url
valid_as url q read valid p is = subst IsValid (from_ok q p (sym read ∙ is)) valid

pub valid_call : (url : List ℕ) (q : Parts) (r : Result (Option Call) OutOfMemory) → parse_url None url ≡ Ok q → IsValid q → IfOk r (λ c. IfSome c (λ _. IsValidAs url))
valid_call url q (Ok (Some c)) read valid = valid_as url q read valid
valid_call url q (Ok None) read valid = tt
valid_call url q (Err wanting) read valid = tt
