-- Private, cited by the rows of an outbox alone: what each call keeps at each number.
use Rattle.std.specs.Prelude.{◌≡◌, ℕ, ◌-◌, List, map, filter, Bool, true, nat_lt, if◌then◌else◌, ◌&&◌, ◌||◌, Option, Some, None, is_some, slice_get, option_and_then, cond}
use Rattle.std.specs.List.{list_any}
use Rattle.std.specs.Option.{option_or}
use Rattle.std.specs.Ordering.{nat_cmp}
use Rattle.std.specs.BTreeMap.{is_at}
use Rattle.outbox.specs.declared.row.Row.{Row}
use Rattle.outbox.specs.Rows.{may_be_ended, may_be_told}
use Rattle.outbox.specs.Following.{RowsState, deadline_in, row_in}

-- something else at a number, and what was at each other
abbrev pub put_at : {X : Type 0} → ℕ → Option X → (ℕ → Option X) → ℕ → Option X
put_at n x f q = cond (is_at (nat_cmp n) q) x (f q)

-- nothing is kept of an award any more
pub record Ends (n : ℕ) (old new : RowsState) : Type 0 where
  pub rows : (q : ℕ) → row_in new q ≡ put_at n None (row_in old) q
  pub deadlines : (q : ℕ) → deadline_in new q ≡ put_at n None (deadline_in old) q

-- nor of any of these awards
pub record EndsAll (numbers : List ℕ) (old new : RowsState) : Type 0 where
  pub rows : (q : ℕ) → row_in new q ≡ cond (list_any (λ n. is_at (nat_cmp n) q) numbers) None (row_in old q)
  pub deadlines : (q : ℕ) → deadline_in new q ≡ cond (list_any (λ n. is_at (nat_cmp n) q) numbers) None (deadline_in old q)

-- a row whose win was counted, where what ends it may still ask for a post
abbrev pub won_row : Bool → Row → Option Row
won_row is_open r = if is_open && may_be_ended r then Some (record r { won = true }) else None

-- a row that was billed, where its win may still be told
abbrev pub billed_row : Row → Option Row
billed_row r = if may_be_told r then Some r else None

-- the deadline of a row, while that is kept
abbrev pub beside : Option Row → Option ℕ → Option ℕ
beside None deadline = None
beside (Some r) deadline = deadline

-- the win of an award was counted
pub record IsWon (n : ℕ) (old new : RowsState) : Type 0 where
  pub rows : (q : ℕ) → row_in new q ≡ put_at n (option_and_then (won_row (is_some (deadline_in old n))) (row_in old n)) (row_in old) q
  pub deadlines : (q : ℕ) → deadline_in new q ≡ put_at n
      (beside (option_and_then (won_row (is_some (deadline_in old n))) (row_in old n)) (deadline_in old n))
      (deadline_in old) q

-- the bill of an award was counted
pub record IsBilled (n : ℕ) (old new : RowsState) : Type 0 where
  pub rows : (q : ℕ) → row_in new q ≡ put_at n (option_and_then billed_row (row_in old n)) (row_in old) q
  pub deadlines : (q : ℕ) → deadline_in new q ≡ put_at n None (deadline_in old) q

-- a new award is kept where a post of it may come
abbrev pub made_row : Row → Option Row
made_row r = if may_be_ended r || may_be_told r then Some r else None

abbrev pub made_deadline : Row → Option ℕ
made_deadline r = if may_be_ended r || may_be_told r then Some r.deadline else None

-- what is at a number: below the first, and where nothing new is, what was there
abbrev pub added : {X : Type 0} → ℕ → (Row → Option X) → List Row → (ℕ → Option X) → ℕ → Option X
added first f made old q =
    if nat_lt q first then old q else option_or (option_and_then f (slice_get made (q - first))) (old q)

-- new awards, numbered from the first
pub record IsMade (first : ℕ) (made : List Row) (old new : RowsState) : Type 0 where
  pub rows : (q : ℕ) → row_in new q ≡ added first made_row made (row_in old) q
  pub deadlines : (q : ℕ) → deadline_in new q ≡ added first made_deadline made (deadline_in old) q

-- a new award, at its number
pub record IsMadeAt (n : ℕ) (made : Row) (old new : RowsState) : Type 0 where
  pub rows : (q : ℕ) → row_in new q ≡ put_at n (option_or (made_row made) (row_in old n)) (row_in old) q
  pub deadlines : (q : ℕ) → deadline_in new q ≡ put_at n (option_or (made_deadline made) (deadline_in old n)) (deadline_in old) q

-- below a number it is as it was
pub record IsPartOf (first : ℕ) (old new : RowsState) : Type 0 where
  pub rows : (q : ℕ) → nat_lt q first ≡ true → row_in new q ≡ row_in old q
  pub deadlines : (q : ℕ) → nat_lt q first ≡ true → deadline_in new q ≡ deadline_in old q

-- nothing is kept from the first number on
pub record IsForgotten (first : ℕ) (old new : RowsState) : Type 0 where
  pub rows : (q : ℕ) → row_in new q ≡ (if nat_lt q first then row_in old q else None)
  pub deadlines : (q : ℕ) → deadline_in new q ≡ (if nat_lt q first then deadline_in old q else None)

-- the numbers of the deadlines before a moment, in order
abbrev pub due_numbers : ℕ → List (ℕ × ℕ) → List ℕ
due_numbers now deadlines = map (λ (p : ℕ × ℕ). p.0) (filter (λ (p : ℕ × ℕ). nat_lt p.1 now) deadlines)
