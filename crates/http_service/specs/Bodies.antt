-- What is answered where nothing is offered, and why a message is refused. This project's own: JSON (RFC 8259) in its
-- one compact spelling.
use Rattle.std.specs.Prelude.{ℕ, List, ◌++◌, codes, false}
use Rattle.adx_units.specs.JsonTexts.{text_spelling}
use Rattle.http_service.specs.declared.answer.Answer.{Answer}
use Rattle.http_service.specs.declared.answer.Methods.{Methods}

-- the answer with a status, which says no more
abbrev pub plain : ℕ → Answer
plain status = record { status = status; openrtb = false; allow = Methods.Unsaid }

-- the answer to a method that the methods said here don't include (RFC 9110, section 15.5.6)
abbrev pub disallowed : Methods → Answer
disallowed methods = record { status = 405; openrtb = false; allow = methods }

-- the body that says why a message is refused
abbrev pub refused_body : List ℕ → List ℕ
refused_body why = codes "{\"answer\":\"refused\",\"why\":" ++ text_spelling why ++ codes "}"
