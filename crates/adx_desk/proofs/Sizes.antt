-- How many bytes the records of a history have.
use Rattle.std.proofs.Common.{◌≡◌, ℕ, ◌+◌, ◌*◌, ◌<◌, ◌≤◌, List, [], ◌∷◌, length, refl, ◌∙◌, ap, arith, length-append, mul-le-mul_right}
use Rattle.std.specs.List.{sum_by}
use Rattle.std.proofs.lemmas.List.Sums.{sum_by-append, sum_by-cons}
use Rattle.day_entries.specs.Entries.{entry_bytes, entries_bytes}
use Rattle.day_entries.proofs.Lengths.{some_bytes}
use Rattle.day_rules.specs.declared.entry.Entry.{Entry}
use Rattle.day_rules.specs.Terms.{Terms}
use Rattle.day_machine.specs.Held.{longest_record, record_size}
use Rattle.day_machine.proofs.Sizes.{record_longest}
use Rattle.adx_desk.specs.Loading.{TakesFront}

-- so few bytes for each of so few awards
pub few_beside : (k n : ℕ) → k ≤ 27 → n ≤ 1024 → k * n ≤ 27648
few_beside k n few small = let most = mul-le-mul_right n few in omega (arith, most, small)

module _ (format : ℕ) where
  -- entries in one record have fewer bytes than in a record each
  pub entries_sizes : (es : List Entry) → length (entries_bytes format es) + 5 * length es ≡ sum_by (record_size format) es
  entries_sizes [] = refl
  entries_sizes (e ∷ es) = omega (arith, entries_sizes es, length-append (entry_bytes format e) (entries_bytes format es), sum_by-cons (record_size format) e es)

  -- entries have bytes
  pub bytes_some : (es : List Entry) → 0 < length es → 0 < length (entries_bytes format es)
  bytes_some [] some = absurd (omega (arith, some))
  bytes_some (e ∷ es) some = omega (arith, some_bytes format e, length-append (entry_bytes format e) (entries_bytes format es))

  -- and no more than in the longer of the two formats
  pub sizes_longest : (es : List Entry) → sum_by (record_size format) es ≤ sum_by longest_record es
  sizes_longest [] = omega arith
  sizes_longest (e ∷ es) =
      omega (arith, sizes_longest es, record_longest format e, sum_by-cons (record_size format) e es, sum_by-cons longest_record e es)

  -- A reader that moved by a record, which added its entries: in all by no more than a record for each entry takes.
  pub moved_on : (terms : Terms) (old new : List Entry) (payload : List ℕ) (first : List Entry) (from at next : ℕ) → TakesFront format terms old new payload [] → next ≤ at + (length payload + 5)
      → at + sum_by longest_record first ≤ from + sum_by longest_record old → next + sum_by longest_record first ≤ from + sum_by longest_record new
  moved_on terms old new payload first from at next f moved so_far =
      let all : sum_by longest_record new ≡ sum_by longest_record old + sum_by longest_record f.front = ap (sum_by longest_record) f.added ∙ sum_by-append longest_record old f.front in
      omega (arith, f.some, moved, so_far, all, entries_sizes f.front, sizes_longest f.front, ap length f.split, length-append (entries_bytes format f.front) [])
