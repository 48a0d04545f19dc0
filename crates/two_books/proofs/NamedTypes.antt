-- Types that the crate of the macros doesn't export, named by its functions.
use Rattle.notice_macros.specs.Expansion.{expansion, substitute}

abbrev FirstOf : {A B : Type 0} → (A → B) → Type 0
FirstOf {A} f = A

abbrev ThirdOf : {A B C D : Type 0} → (A → B → C → D) → Type 0
ThirdOf {A} {B} {C} f = C

-- where a template is expanded
abbrev pub APlace : Type 0
APlace = FirstOf expansion

-- a macro
abbrev pub AMacro : Type 0
AMacro = ThirdOf substitute
