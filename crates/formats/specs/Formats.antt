-- A format as a value: which values have a spelling, which spelling, and what is read at the front of bytes.
-- A document's grammar is one such value, made by the combinators below. This project's own.
use Rattle.std.specs.Prelude.{◌≡◌, ℕ, zero, suc, Bool, List, [], ◌∷◌, ◌++◌, length, take, drop, Option, Some, None, All, ◌⊎◌, nat_lt, ◌==◌, if◌then◌else◌}
use Rattle.std.proofs.Common.{inl, inr}
use Rattle.std.specs.List.{flat_map}
use Rattle.formats.specs.Parts.{◌>>=◌, behind_word, behind_byte, none_left}

-- what is read at the front of bytes: the value, and the bytes after it
abbrev pub Reads : Type 0 → Type 0
Reads X = List ℕ → Option (X × List ℕ)

-- a format as a value: which values have a spelling, which one, what is read, and what may follow a spelling so
-- that its end is seen
pub record Format (X : Type 0) : Type 1 where
  -- the values that have a spelling
  pub Fits : X → Type 0
  -- their spelling
  pub write : X → List ℕ
  -- a spelling at the front, and what is after it
  pub reads : Reads X
  -- what may come after a spelling, so that it's seen where it ends
  pub Ends : List ℕ → Type 0

-- What is read is spelled so, and nothing else is; what is spelled so is read, whatever may follow.
pub record IsExact {X : Type 0} (f : Format X) : Type 0 where
  pub takes : (bytes : List ℕ) (x : X) (rest : List ℕ) → f.reads bytes ≡ Some (x, rest) → (bytes ≡ f.write x ++ rest) × f.Fits x
  pub again : (x : X) (rest : List ℕ) → f.Fits x → f.Ends rest → f.reads (f.write x ++ rest) ≡ Some (x, rest)

-- a value's spelling put after what was there
pub record Adds {X : Type 0} (f : Format X) (old new : List ℕ) (x : X) : Type 0 where
  pub added : new ≡ old ++ f.write x
  pub fits : f.Fits x

-- anything may come after it
abbrev pub IsFree : {X : Type 0} → Format X → Type 0
IsFree f = (rest : List ℕ) → f.Ends rest

-- ---- one part out of others

-- a part after a word
abbrev pub behind : {X : Type 0} → List ℕ → Format X → Format X
behind word f = record {
  Fits = f.Fits;
  write = λ x. word ++ f.write x;
  reads = λ bytes. behind_word word bytes >>= f.reads;
  Ends = f.Ends;
}

-- a part and a byte after it
abbrev pub ended_by : {X : Type 0} → ℕ → Format X → Format X
ended_by b f = record {
  Fits = f.Fits;
  write = λ x. f.write x ++ b ∷ [];
  reads = λ bytes. f.reads bytes >>= λ x. behind_byte b x.1 >>= λ rest. Some (x.0, rest);
  Ends = λ rest. Unit {0};
}

-- no byte at all
abbrev pub nothing : Format (Unit {0})
nothing = record { Fits = λ x. Unit {0}; write = λ x. []; reads = λ bytes. Some (tt, bytes); Ends = λ rest. Unit {0} }

-- two parts, one after the other
infixr 5 ◌⊗◌
-- one format after the other
abbrev pub ◌⊗◌ : {X Y : Type 0} → Format X → Format Y → Format (X × Y)
f ⊗ g = record {
  Fits = λ p. f.Fits p.0 × g.Fits p.1;
  write = λ p. f.write p.0 ++ g.write p.1;
  reads = λ bytes. f.reads bytes >>= λ x. g.reads x.1 >>= λ y. Some ((x.0, y.0), y.1);
  Ends = g.Ends;
}

-- a value that is made of a part's
abbrev pub made : {X Y : Type 0} → (X → Y) → (Y → X) → Format X → Format Y
made make parts f = record {
  Fits = λ y. f.Fits (parts y);
  write = λ y. f.write (parts y);
  reads = λ bytes. f.reads bytes >>= λ x. Some (make x.0, x.1);
  Ends = f.Ends;
}

-- a part whose value passes a test
abbrev pub such : {X : Type 0} → (X → Type 0) → (X → Bool) → Format X → Format X
such P test f = record {
  Fits = λ x. f.Fits x × P x;
  write = f.write;
  reads = λ bytes. f.reads bytes >>= λ x. if test x.0 then Some x else None;
  Ends = f.Ends;
}

-- ---- choices

-- one of two properties, by which of two kinds of value it is
abbrev pub either_fits : {X Y : Type 0} → (X → Type 0) → (Y → Type 0) → X ⊎ Y → Type 0
either_fits P Q (inl x) = P x
either_fits P Q (inr y) = Q y

-- one of two spellings, in the same way
abbrev pub either_bytes : {X Y : Type 0} → (X → List ℕ) → (Y → List ℕ) → X ⊎ Y → List ℕ
either_bytes s t (inl x) = s x
either_bytes s t (inr y) = t y

-- what was read, as the first kind
abbrev pub on_left : {X Y : Type 0} → Option (X × List ℕ) → Option ((X ⊎ Y) × List ℕ)
on_left o = o >>= λ x. Some (inl x.0, x.1)

-- what was read, as the second kind
abbrev pub on_right : {X Y : Type 0} → Option (Y × List ℕ) → Option ((X ⊎ Y) × List ℕ)
on_right o = o >>= λ y. Some (inr y.0, y.1)

-- a byte that says the kind of what is after it, or one of other kinds
abbrev pub kind_reads : {X Y : Type 0} → ℕ → Reads X → Reads Y → Reads (X ⊎ Y)
kind_reads tag f g [] = None
kind_reads tag f g (b ∷ bytes) = if b == tag then on_left (f bytes) else on_right (g (b ∷ bytes))

-- a byte `tag` and then a value of the first format, or a value of the second, which begins with another byte
-- Example: with tag 1, `1 7` is a value of the first format spelled `7`, and `2 7` is one of the second.
abbrev pub kind : {X Y : Type 0} → ℕ → Format X → Format Y → Format (X ⊎ Y)
kind tag f g = record {
  Fits = either_fits f.Fits g.Fits;
  write = either_bytes (λ x. tag ∷ f.write x) g.write;
  reads = kind_reads tag f.reads g.reads;
  Ends = λ rest. f.Ends rest × g.Ends rest;
}

-- a last kind
abbrev pub last_kind_reads : {X : Type 0} → ℕ → Reads X → Reads X
last_kind_reads tag f [] = None
last_kind_reads tag f (b ∷ bytes) = if b == tag then f bytes else None

-- a value after a byte that says its kind, with no further kind
abbrev pub last_kind : {X : Type 0} → ℕ → Format X → Format X
last_kind tag f = record {
  Fits = f.Fits;
  write = λ x. tag ∷ f.write x;
  reads = last_kind_reads tag f.reads;
  Ends = f.Ends;
}

-- a word that says what is after it, or one of other parts
abbrev pub word_reads : {X Y : Type 0} → Option (List ℕ) → Reads X → Option (Y × List ℕ) → Option ((X ⊎ Y) × List ℕ)
word_reads (Some rest) f others = on_left (f rest)
word_reads None f others = on_right others

-- a word and then a value of the first format, or a value of the second, whose spelling doesn't begin with that word
-- Example: with the word `win `, `win 3` is the first format's `3`, and `bill 3` is the second format's.
abbrev pub worded : {X Y : Type 0} → List ℕ → Format X → Format Y → Format (X ⊎ Y)
worded word f g = record {
  Fits = either_fits f.Fits g.Fits;
  write = either_bytes (λ x. word ++ f.write x) g.write;
  reads = λ bytes. word_reads (behind_word word bytes) f.reads (g.reads bytes);
  Ends = λ rest. f.Ends rest × g.Ends rest;
}

-- ---- lists

-- so many bytes
abbrev pub bytes_reads : ℕ → Reads (List ℕ)
bytes_reads n bytes = if nat_lt (length bytes) n then None else Some (take n bytes, drop n bytes)

-- n bytes, as they are
abbrev pub bytes_of : ℕ → Format (List ℕ)
bytes_of n = record { Fits = λ l. length l ≡ n; write = λ l. l; reads = bytes_reads n; Ends = λ rest. Unit {0} }

-- bytes after their number
abbrev pub sized : Format ℕ → Format (List ℕ)
sized count = record {
  Fits = λ l. count.Fits (length l);
  write = λ l. count.write (length l) ++ l;
  reads = λ bytes. count.reads bytes >>= λ n. bytes_reads n.0 n.1;
  Ends = λ rest. Unit {0};
}

-- so many parts, one after the other
unfoldable pub many_reads : {X : Type 0} → Reads X → ℕ → Reads (List X)
many_reads part zero bytes = Some ([], bytes)
many_reads part (suc n) bytes = do
  first ← part bytes
  others ← many_reads part n first.1
  Some (first.0 ∷ others.0, others.1)

-- parts after their number
abbrev pub counted : {X : Type 0} → Format ℕ → Format X → Format (List X)
counted count part = record {
  Fits = λ xs. count.Fits (length xs) × All part.Fits xs;
  write = λ xs. count.write (length xs) ++ flat_map part.write xs;
  reads = λ bytes. count.reads bytes >>= λ n. many_reads part.reads n.0 n.1;
  Ends = λ rest. Unit {0};
}

-- ---- a whole run of bytes, as a line

-- the value that all of the bytes spell
abbrev pub whole_reads : {X : Type 0} → Format X → List ℕ → Option X
whole_reads f bytes = f.reads bytes >>= λ x. none_left x.1 >>= λ u. Some x.0
