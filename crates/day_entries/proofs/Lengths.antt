-- How many bytes an entry has, by format.
use Rattle.std.proofs.Common.{◌≡◌, ◌⊎◌, inl, inr, ℕ, suc, ◌^◌, ◌<◌, ◌≤◌, length, Bool, true, false, cond, eqb, refl, arith}
use Rattle.formats.proofs.Lengths.{few_long, groups_most}
use Rattle.day_rules.specs.declared.entry.Entry.{Entry}
use Rattle.day_entries.specs.declared.numbers.Numbers.{Numbers}
use Rattle.day_entries.specs.Entries.{IsNoticeOrMoment, entry, entry_bytes}
use Rattle.day_entries.specs.Numbers.{long, numbers_of, wide}

award_in : (grouped : Bool) (n : ℕ) → n < 2 ^ 32 → suc (length ((long (cond grouped Numbers.Grouped Numbers.Fixed)).write n)) ≤ cond grouped 6 5
award_in true n few = omega (arith, few_long n few)
award_in false n few = omega arith

moment_in : (grouped : Bool) (now : ℕ) → suc (length ((wide (cond grouped Numbers.Grouped Numbers.Fixed)).write now)) ≤ cond grouped 11 9
moment_in true now = omega (arith, groups_most 10 now)
moment_in false now = omega arith

module _ (format : ℕ) where
  pub win_bytes : (n : ℕ) → n < 2 ^ 32 → length (entry_bytes format (Entry.Win n)) ≤ cond (eqb format 2) 6 5
  unfolding entry
  win_bytes n few = award_in (eqb format 2) n few

  pub bill_bytes : (n : ℕ) → n < 2 ^ 32 → length (entry_bytes format (Entry.Bill n)) ≤ cond (eqb format 2) 6 5
  unfolding entry
  bill_bytes n few = award_in (eqb format 2) n few

  pub loss_bytes : (n : ℕ) → n < 2 ^ 32 → length (entry_bytes format (Entry.Loss n)) ≤ cond (eqb format 2) 6 5
  unfolding entry
  loss_bytes n few = award_in (eqb format 2) n few

  pub moment_bytes : (now : ℕ) → length (entry_bytes format (Entry.Expire now)) ≤ cond (eqb format 2) 11 9
  unfolding entry
  moment_bytes now = moment_in (eqb format 2) now

  few_in : (numbers : Numbers) (n : ℕ) → (suc (length ((long numbers).write n)) ≤ 11) × (suc (length ((wide numbers).write n)) ≤ 11)
  few_in Numbers.Fixed n = (omega arith, omega arith)
  few_in Numbers.Grouped n = (omega (arith, groups_most 10 n), omega (arith, groups_most 10 n))

  -- an entry of a notice or a moment, whatever its number
  pub notice_bytes : (e : Entry) → IsNoticeOrMoment e → length (entry_bytes format e) ≤ 11
  unfolding entry
  notice_bytes (Entry.Ask a) kind = absurd kind
  notice_bytes (Entry.Win n) kind = (few_in (numbers_of format) n).0
  notice_bytes (Entry.Bill n) kind = (few_in (numbers_of format) n).0
  notice_bytes (Entry.Loss n) kind = (few_in (numbers_of format) n).0
  notice_bytes (Entry.Expire now) kind = (few_in (numbers_of format) now).1
  notice_bytes (Entry.Budget campaign number budget) kind = absurd kind

  -- each entry has a byte
  pub some_bytes : (e : Entry) → 1 ≤ length (entry_bytes format e)
  unfolding entry
  some_bytes (Entry.Ask a) = omega arith
  some_bytes (Entry.Win n) = omega arith
  some_bytes (Entry.Bill n) = omega arith
  some_bytes (Entry.Loss n) = omega arith
  some_bytes (Entry.Expire now) = omega arith
  some_bytes (Entry.Budget campaign number budget) = omega arith

one_of_two : (grouped : Bool) (e : Entry) → let there = (entry (cond grouped Numbers.Grouped Numbers.Fixed)).write e in (there ≡ entry_bytes 1 e) ⊎ (there ≡ entry_bytes 2 e)
one_of_two true e = inr refl
one_of_two false e = inl refl

-- an entry is spelled as in one of the two formats
pub in_a_format : (format : ℕ) (e : Entry) → (entry_bytes format e ≡ entry_bytes 1 e) ⊎ (entry_bytes format e ≡ entry_bytes 2 e)
in_a_format format e = one_of_two (eqb format 2) e
