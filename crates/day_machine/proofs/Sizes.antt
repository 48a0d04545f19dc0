-- How long the records of entries are, by format.
use Rattle.std.proofs.Common.{inl, inr, ℕ, ◌+◌, ◌*◌, ◌^◌, ◌<◌, ◌≤◌, length, Bool, true, false, cond, eqb, List, ap, arith}
use Rattle.day_rules.specs.declared.entry.Entry.{Entry}
use Rattle.day_entries.specs.Entries.{entry_bytes}
use Rattle.day_entries.proofs.Lengths.{bill_bytes, in_a_format, loss_bytes, moment_bytes, win_bytes}
use Rattle.day_machine.specs.Held.{expiry_record, held, longest_held, longest_record, notice_record, record_size}
use Rattle.day_machine.specs.declared.held.TheConstants.{EXPIRY_IN_GROUPS, EXPIRY_RECORD, NOTICE_IN_GROUPS, NOTICE_RECORD, RECORD_OVERHEAD}

award_in : (grouped : Bool) (bytes : ℕ) → bytes ≤ cond grouped 6 5 → bytes + RECORD_OVERHEAD ≤ cond grouped NOTICE_IN_GROUPS NOTICE_RECORD
award_in true bytes few = omega (arith, few)
award_in false bytes few = omega (arith, few)

moment_in : (grouped : Bool) (bytes : ℕ) → bytes ≤ cond grouped 11 9 → bytes + RECORD_OVERHEAD ≤ cond grouped EXPIRY_IN_GROUPS EXPIRY_RECORD
moment_in true bytes few = omega (arith, few)
moment_in false bytes few = omega (arith, few)

pub win_most : (format n : ℕ) → n < 2 ^ 32 → record_size format (Entry.Win n) ≤ notice_record format
win_most format n few = award_in (eqb format 2) (length (entry_bytes format (Entry.Win n))) (win_bytes format n few)

pub bill_most : (format n : ℕ) → n < 2 ^ 32 → record_size format (Entry.Bill n) ≤ notice_record format
bill_most format n few = award_in (eqb format 2) (length (entry_bytes format (Entry.Bill n))) (bill_bytes format n few)

pub loss_most : (format n : ℕ) → n < 2 ^ 32 → record_size format (Entry.Loss n) ≤ notice_record format
loss_most format n few = award_in (eqb format 2) (length (entry_bytes format (Entry.Loss n))) (loss_bytes format n few)

pub expiry_most : (format now : ℕ) → record_size format (Entry.Expire now) ≤ expiry_record format
expiry_most format now = moment_in (eqb format 2) (length (entry_bytes format (Entry.Expire now))) (moment_bytes format now)

-- ---- the two formats side by side

-- a record isn't longer than in the format in which it is longest
pub record_longest : (format : ℕ) (e : Entry) → record_size format e ≤ longest_record e
record_longest format e =
    elim (in_a_format format e) [
      | inl first ↦ omega (arith, ap (λ (l : List ℕ). length l) first)
      | inr second ↦ omega (arith, ap (λ (l : List ℕ). length l) second)
    ]

held_in : (grouped : Bool) (ends wins : ℕ) → cond grouped EXPIRY_IN_GROUPS EXPIRY_RECORD * ends + cond grouped NOTICE_IN_GROUPS NOTICE_RECORD * wins ≤ EXPIRY_IN_GROUPS * ends + NOTICE_IN_GROUPS * wins
held_in true ends wins = omega arith
held_in false ends wins = omega arith

-- no more is held than in the format in which that is most
pub held_longest : (format : ℕ) (history : List Entry) → held format history ≤ longest_held history
held_longest format history = held_in (eqb format 2) _ _
