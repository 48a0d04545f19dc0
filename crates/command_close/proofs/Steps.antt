-- Pieces of a document, one after another.
use Rattle.std.proofs.Common.{◌≡◌, ◌∙◌, ◌<◌, ◌+◌, ℕ, List, [], ◌∷◌, ◌++◌, length, take, map, get_or, slice_index_or, Option, Result, Ok, Err, sym, ap, subst, append_assoc, append-nil, arith}
use Rattle.std.proofs.lemmas.List.{get_or-map, length-map, take_more}
use Rattle.std.proofs.lemmas.List.FromFn.{get_or-enumerate_from, length-enumerate_from}
use Rattle.std.proofs.lemmas.List.Concat.{flat_map-append}
use Rattle.std.specs.List.{enumerate_from, flat_map}
use Rattle.adx_io.specs.declared.stop.Stop.{Stop}
use Rattle.formats.specs.Parts.{ended}
use Rattle.history_runs.specs.Putting.{PutsBytes, PutsFront, PutsPiece}
use Rattle.history_runs.proofs.Putting.{front_on, puts_first, puts_more}

-- a piece after another
pub steps_on : (h0 h1 h2 : Option (List ℕ)) (o0 o1 o2 x y : List ℕ) (result : Result (Unit {0}) Stop)
    → PutsFront h0 h1 (o0 ++ x) o1 → PutsPiece h1 h2 (o1 ++ y) o2 result → PutsPiece h0 h2 (o0 ++ (x ++ y)) o2 result
steps_on h0 h1 h2 o0 o1 o2 x y (Ok done) first step =
    subst (λ (b : List ℕ). PutsFront h0 h2 b o2) (append_assoc o0 x y) (front_on h0 h1 h2 (o0 ++ x) o1 y o2 first step)
steps_on h0 h1 h2 o0 o1 o2 x y (Err stop) first step =
    subst (λ (b : List ℕ). PutsBytes h0 h2 b (Err stop)) (sym (append_assoc first.front o1 y) ∙ ap (λ (b : List ℕ). b ++ y) (sym first.split) ∙ append_assoc o0 x y)
    (puts_more h0 h1 h2 first.front (o1 ++ y) (Err stop) first.took step)

-- the first piece was cut short
pub stops_first : (h0 h1 : Option (List ℕ)) (o0 x y : List ℕ) (stop : Stop) → PutsBytes h0 h1 (o0 ++ x) (Err stop) → PutsBytes h0 h1 (o0 ++ (x ++ y)) (Err stop)
stops_first h0 h1 o0 x y stop puts =
    subst (λ (b : List ℕ). PutsBytes h0 h1 b (Err stop)) (append_assoc o0 x y) (puts_first h0 h1 (o0 ++ x) y stop puts)

-- more was written after what is still to be put
pub written_more : (h0 h1 : Option (List ℕ)) (o0 o1 o2 x y : List ℕ) → PutsFront h0 h1 (o0 ++ x) o1 → o2 ≡ o1 ++ y → PutsFront h0 h1 (o0 ++ (x ++ y)) o2
written_more h0 h1 o0 o1 o2 x y first is = record {
  front = first.front;
  took = first.took;
  split = sym (append_assoc o0 x y) ∙ ap (λ (b : List ℕ). b ++ y) first.split ∙ append_assoc first.front o1 y ∙ ap (λ (b : List ℕ). first.front ++ b) (sym is);
}

-- memory was refused before it was
pub unwritten_more : (h0 h1 : Option (List ℕ)) (o0 o1 x y : List ℕ) → PutsFront h0 h1 (o0 ++ x) o1 → PutsBytes h0 h1 (o0 ++ (x ++ y)) (Err Stop.OutOfMemory)
unwritten_more h0 h1 o0 o1 x y first =
    (first.front, o1 ++ y, sym (append_assoc o0 x y) ∙ ap (λ (b : List ℕ). b ++ y) first.split ∙ append_assoc first.front o1 y, first.took)

-- one line more of some lines
pub one_more : (lines : List (List ℕ)) (i : ℕ) → i < length lines → flat_map ended (take (i + 1) lines) ≡ flat_map ended (take i lines) ++ ended (slice_index_or lines i [])
one_more lines i within =
    ap (flat_map ended) (take_more lines i [] within)
    ∙ flat_map-append ended (take i lines) (get_or lines i [] ∷ [])
    ∙ ap (λ (b : List ℕ). flat_map ended (take i lines) ++ b) (append-nil (ended (get_or lines i [])))

-- as many lines as there are values
pub numbered_length : {X : Type 0} (line : ℕ × X → List ℕ) (xs : List X) → length (map line (enumerate_from 0 xs)) ≡ length xs
numbered_length line xs = length-map (enumerate_from 0 xs) line ∙ length-enumerate_from 0 xs

-- the line of a value
pub numbered_at : {X : Type 0} (line : ℕ × X → List ℕ) (xs : List X) (i : ℕ) (d : X) → i < length xs → slice_index_or (map line (enumerate_from 0 xs)) i [] ≡ line (i, get_or xs i d)
numbered_at {X} line xs i d within =
    let start : 0 + i ≡ i = omega arith in
    get_or-map line (enumerate_from 0 xs) i (0, d) [] (omega (arith, length-enumerate_from 0 xs, within))
    ∙ ap line (get_or-enumerate_from 0 xs i (0, d) within ∙ ap (λ (n : ℕ). (n, get_or xs i d)) start)
