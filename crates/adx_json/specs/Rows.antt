-- A table for each kind of object: its members' names, of what form each has to be, the fault where it isn't, and the
-- field of a value that it is. One table gives both the first fault of an object and what the object says. This
-- project's own.
use Rattle.std.specs.Prelude.{◌≡◌, ℕ, List, [], ◌∷◌, ◌++◌, Bool, false, is_some, Option, Some, None, Result, Ok, Err, if◌then◌else◌}
use Rattle.std.specs.List.{AllZip}
use Rattle.adx_json.specs.Tree.{Tree}
use Rattle.adx_json.specs.Values.{items_in, text_in, text_or_empty, are_texts_if_given, texts_in}

-- a form: whether a value, which may be absent, is of it, and what such a value is
pub record Form (V : Type 0) : Type 0 where
  pub is : Option Tree → Bool
  pub value : Option Tree → V

abbrev pub form : {V : Type 0} → (Option Tree → Bool) → (Option Tree → V) → Form V
form is value = record { is = is; value = value }

-- a row of the table for an X: the fault that an object has by it, and what an object says by it. An object that is
-- absent has no members
pub record Row (X F : Type 0) : Type 1 where
  pub fault : Option Tree → Option F
  pub says : Option Tree → X → Type 0

abbrev pub unless : {F : Type 0} → Bool → F → Option F
unless b f = if b then None else Some f

-- how a member is found by its name in an object that may be absent: where null counts as absent, or where null is there
abbrev pub Lookup : Type 0
Lookup = List ℕ → Option Tree → Option Tree

-- the member is of that form, or else the object has that fault; it is that field
abbrev pub row : {X V F : Type 0} → Lookup → List ℕ → Form V → (X → V) → F → Row X F
row under name of field f = record {
  fault = λ o. unless (of.is (under name o)) f;
  says = λ o x. field x ≡ of.value (under name o);
}

-- the member passes that test, or else the object has that fault
abbrev pub test : {X F : Type 0} → Lookup → List ℕ → (Option Tree → Bool) → F → Row X F
test under name passes f = record { fault = λ o. unless (passes (under name o)) f; says = λ o x. Unit {0} }

-- the member, whatever it is, is that field
abbrev pub value : {X V F : Type 0} → Lookup → List ℕ → (Option Tree → V) → (X → V) → Row X F
value under name of field = record { fault = λ o. None; says = λ o x. field x ≡ of (under name o) }

-- the object passes that test, or else has that fault
abbrev pub test_whole : {X F : Type 0} → (Option Tree → Bool) → (Option Tree → F) → Row X F
test_whole passes f = record { fault = λ o. unless (passes o) (f o); says = λ o x. Unit {0} }

-- the object, by several members, is that field
abbrev pub value_whole : {X V F : Type 0} → (Option Tree → V) → (X → V) → Row X F
value_whole of field = record { fault = λ o. None; says = λ o x. field x ≡ of o }

-- a row about an object's member, itself an object
abbrev pub within : {X F : Type 0} → Lookup → List ℕ → Row X F → Row X F
within under name r = record { fault = λ o. r.fault (under name o); says = λ o x. r.says (under name o) x }

-- a row that depends on the object
abbrev pub depending : {X F : Type 0} → (Option Tree → Row X F) → Row X F
depending r = record { fault = λ o. (r o).fault o; says = λ o x. (r o).says o x }

abbrev pub or_else : {F : Type 0} → Option F → Option F → Option F
or_else None later = later
or_else (Some f) later = Some f

-- the fault of the first row by which the object has one
abbrev pub first_fault : {X F : Type 0} → List (Row X F) → Option Tree → Option F
first_fault [] o = None
first_fault (r ∷ rs) o = or_else (r.fault o) (first_fault rs o)

-- what the object says by each row
abbrev pub Says : {X F : Type 0} → List (Row X F) → Option Tree → X → Type 0
Says [] o x = Unit {0}
Says (r ∷ rs) o x = r.says o x × Says rs o x

-- the first fault of some objects, each by the table that holds for it after those before it
abbrev pub first_among : {X F : Type 0} → (List Tree → List (Row X F)) → List Tree → List Tree → Option F
first_among rows before [] = None
first_among rows before (t ∷ ts) = or_else (first_fault (rows before) (Some t)) (first_among rows (before ++ t ∷ []) ts)

-- the items of a list, each tested by the table that holds for it after those before it; those that count are that
-- field, in their order
abbrev pub each : {X Y F : Type 0} → Lookup → List ℕ → (List Tree → List (Row Y F)) → (List Tree → List Tree) → (X → List Y) → Row X F
each under name rows those field = record {
  fault = λ o. first_among rows [] (items_in (under name o));
  says = λ o x. AllZip (λ t y. Says (rows []) (Some t) y) (those (items_in (under name o))) (field x);
}

-- all of them
abbrev pub all_count : List Tree → List Tree
all_count ts = ts

-- a reader answers a value of which that is said, where there is no fault, and else the fault. A fault for want of
-- memory, which `lacks_memory` picks out, says nothing of what was read
abbrev pub Answers : {X F : Type 0} → (F → Bool) → Option F → (X → Type 0) → Result X F → Type 0
Answers lacks_memory fault IsSaid (Ok x) = (fault ≡ None) × IsSaid x
Answers lacks_memory fault IsSaid (Err e) = lacks_memory e ≡ false → fault ≡ Some e

-- the same by an object's table
abbrev pub Reads : {X F : Type 0} → (F → Bool) → List (Row X F) → Tree → Result X F → Type 0
Reads lacks_memory rows t result = Answers lacks_memory (first_fault rows (Some t)) (Says rows (Some t)) result

-- usual forms

-- a text that has to be there
abbrev pub a_text : Form (List ℕ)
a_text = form (λ v. is_some (text_in v)) text_or_empty

-- a list of texts, empty where it is absent
abbrev pub texts : Form (List (List ℕ))
texts = form are_texts_if_given texts_in
