-- The faults of a desk are at most what its disk's count rose by, and none where it stays.
use Rattle.std.proofs.Common.{◌≡◌, inl, inr, ℕ, ◌≤◌, Option, arith, sym, ◌∙◌}
use Rattle.std.specs.Prelude.{Result, Ok, Err}
use Rattle.adx_io.specs.Fakes.{counted}
use Rattle.adx_io.specs.Streams.{Rises}
use Rattle.day_rules.specs.declared.entry.Entry.{Entry}
use Rattle.adx_desk.specs.declared.fault.DeskFault.{DeskFault}
use Rattle.adx_desk.specs.Desks.{DeskState}
use Rattle.adx_desk.specs.Endings.{EndsAsk, EndsNotice, IsWithinRise}
use Rattle.adx_desk.specs.Fields.{AreCounted}

risen : (since before now faults more : ℕ) → before ≤ now → Rises before now → more ≡ counted faults → AreCounted since faults before → AreCounted since more now
risen since before now faults more later rose is known = (go rose known.0, λ none. absurd (omega (arith, none, is)))
  where
    go : Rises before now → IsWithinRise since faults before → IsWithinRise since more now
    go (inl rose) (inl within) = inl (omega (arith, rose, is, within))
    go (inr last) (inl within) = inr (omega (arith, last))
    go rose (inr last) = inr (omega (arith, later, last))

same : (since before now faults more : ℕ) → now ≡ before → more ≡ faults → AreCounted since faults before → AreCounted since more now
same since before now faults more stays is known = (go known.0, λ none. stays ∙ known.1 (sym is ∙ none))
  where
    go : IsWithinRise since faults before → IsWithinRise since more now
    go (inl within) = inl (omega (arith, stays, is, within))
    go (inr last) = inr (omega (arith, stays, last))

pub notice_within : {T : Type 0} (since before now : ℕ) (old new : DeskState) (r : Result T DeskFault) → EndsNotice before now old new r → AreCounted since old.faults before → AreCounted since new.faults now
notice_within since before now old new (Ok answer) ends within = same since before now old.faults new.faults ends.disk ends.desk within
notice_within since before now old new (Err DeskFault.DiskFault) ends within = risen since before now old.faults new.faults ends.later ends.risen ends.counted within
notice_within since before now old new (Err (DeskFault.JournalFull size)) ends within = absurd ends
notice_within since before now old new (Err (DeskFault.BadEntry at)) ends within = absurd ends
notice_within since before now old new (Err (DeskFault.OtherRoster kept)) ends within = absurd ends
notice_within since before now old new (Err (DeskFault.NotAJournal at)) ends within = absurd ends
notice_within since before now old new (Err (DeskFault.BadLength at)) ends within = absurd ends
notice_within since before now old new (Err DeskFault.OutOfMemory) ends within = absurd ends

pub ask_within : {T : Type 0} (since before now : ℕ) (old new : DeskState) (entry : Option Entry) (r : Result T DeskFault) → EndsAsk before now old new entry r → AreCounted since old.faults before → AreCounted since new.faults now
ask_within since before now old new entry (Ok done) ends within = same since before now old.faults new.faults ends.1.disk ends.1.desk within
ask_within since before now old new entry (Err DeskFault.DiskFault) ends within = risen since before now old.faults new.faults ends.1.later ends.1.risen ends.1.counted within
ask_within since before now old new entry (Err (DeskFault.JournalFull size)) ends within = same since before now old.faults new.faults ends.1.disk ends.1.desk within
ask_within since before now old new entry (Err (DeskFault.BadEntry at)) ends within = absurd ends
ask_within since before now old new entry (Err (DeskFault.OtherRoster kept)) ends within = absurd ends
ask_within since before now old new entry (Err (DeskFault.NotAJournal at)) ends within = absurd ends
ask_within since before now old new entry (Err (DeskFault.BadLength at)) ends within = absurd ends
ask_within since before now old new entry (Err DeskFault.OutOfMemory) ends within = same since before now old.faults new.faults ends.disk ends.desk within
