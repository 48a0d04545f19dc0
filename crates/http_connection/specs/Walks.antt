-- How far a head was read, by its lines; private clauses alone cite this file.
use Rattle.std.specs.Prelude.{ℕ, ◌+◌, List, [], ◌∷◌, Bool, true, false}
use Rattle.http_connection.specs.HeadEnds.{is_empty_line}
use Rattle.http_connection.specs.declared.head.Walk.{Walk}

-- one line more, which is empty or not
abbrev pub step : Walk → Bool → Walk
step Walk.Blank true = Walk.Blank
step Walk.Blank false = Walk.Full 0
step (Walk.Full n) true = Walk.Over n
step (Walk.Full n) false = Walk.Full (n + 1)
step (Walk.Over n) b = Walk.Over n

-- lines more
abbrev pub walk : Walk → List (List ℕ) → Walk
walk w [] = w
walk w (line ∷ lines) = walk (step w (is_empty_line line)) lines

-- how many lines were counted
abbrev pub count_of : Walk → ℕ
count_of Walk.Blank = 0
count_of (Walk.Full n) = n
count_of (Walk.Over n) = n
