-- A notice counts where the ruling on its award says so.
use Rattle.std.proofs.Common.{◌≡◌, ℕ, ◌<◌, List, length, sym, inl, inr, arith, Some, slice_get}
use Rattle.std.proofs.lemmas.Option.{slice_get_cases}
use Rattle.notice_book.specs.declared.award.Award.{Award}
use Rattle.notice_book.specs.declared.kind.NoticeKind.{NoticeKind}
use Rattle.notice_book.specs.declared.ruling.Ruling.{Ruling}
use Rattle.notice_book.specs.Rules.{ruling_of}
use Rattle.notice_book.specs.AwardList.{Counts}

pub counts_at : (kind : NoticeKind) (n : ℕ) (awards : List Award) → n < length awards → ((w : Award) → slice_get awards n ≡ Some w → Ruling.Counted ≡ ruling_of kind w) → Counts kind n awards
counts_at kind n awards within rules = elim ((slice_get_cases awards n).1) [
  | inl at ↦ record { award = at.0; known = at.2; counted = sym (rules at.0 at.2) }
  | inr past ↦ absurd (omega (arith, past.0))
]
