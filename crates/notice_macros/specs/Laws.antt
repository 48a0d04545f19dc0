-- What expansion is of a template in pieces, stated of the definition: these laws together fix it.
use Rattle.std.specs.Prelude.{◌≡◌, ◌∷◌, ◌++◌, List, ℕ, false, None, Some}
use Rattle.std.specs.List.{before_first, list_any}
use Rattle.notice_macros.specs.declared.macros.Macro.{Macro}
use Rattle.notice_macros.specs.declared.values.Values.{Values}
use Rattle.notice_macros.specs.declared.place.Place.{Place}
use Rattle.notice_macros.specs.Macros.{macro_of}
use Rattle.notice_macros.specs.Expansion.{closing, dollar, opening, expansion, is_closing, is_dollar, macro_at, substitute}

-- a text without `$` stays
abbrev pub PlainTextStays : Type 0
PlainTextStays = (p : Place) (v : Values) (t : List ℕ) → list_any is_dollar t ≡ false → expansion p v t ≡ t

-- a macro, wherever it is, becomes its value; what comes before and after it is expanded on its own
abbrev pub MacrosAreReplaced : Type 0
MacrosAreReplaced =
    (p : Place) (v : Values) (before token behind : List ℕ) (m : Macro)
    → list_any is_dollar token ≡ false
    → list_any is_closing token ≡ false
    → macro_of token ≡ Some m
    → expansion p v (before ++ dollar ∷ (opening ∷ (token ++ closing ∷ behind))) ≡ expansion p v before ++ (substitute p v m ++ expansion p v behind)

-- a `$` stays where no macro comes first in the text after it, up to the next `$`
abbrev pub OtherDollarsStay : Type 0
OtherDollarsStay =
    (p : Place) (v : Values) (before behind : List ℕ)
    → macro_at (before_first is_dollar behind) ≡ None
    → expansion p v (before ++ dollar ∷ behind) ≡ expansion p v before ++ dollar ∷ expansion p v behind

-- a text without `$` and without `}` after a template stays after its expansion
abbrev pub TextBehindStays : Type 0
TextBehindStays =
    (p : Place) (v : Values) (t s : List ℕ)
    → list_any is_dollar s ≡ false
    → list_any is_closing s ≡ false
    → expansion p v (t ++ s) ≡ expansion p v t ++ s
