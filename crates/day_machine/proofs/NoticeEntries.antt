-- The entries that notices and ticks add are of a notice or a moment.
use Rattle.std.proofs.Common.{◌≡◌, ℕ, List, Bool, true, false, cond, refl, Option, Some, None, IfSome, slice_get}
use Rattle.notice_book.specs.declared.award.Award.{Award}
use Rattle.notice_book.specs.declared.kind.NoticeKind.{NoticeKind}
use Rattle.notice_book.specs.declared.ruling.Ruling.{Ruling}
use Rattle.notice_book.specs.Rules.{ruling_of}
use Rattle.day_entries.specs.Entries.{IsNoticeOrMoment}
use Rattle.day_rules.specs.declared.answer.Answer.{Answer}
use Rattle.day_rules.specs.declared.entry.Entry.{Entry}
use Rattle.day_rules.specs.Books.{awards_of}
use Rattle.day_rules.specs.Entries.{entry_of_notice}
use Rattle.day_rules.specs.Replies.{Reply, answered, is_of_auction, known_reply, notice_reply, ruled_reply, tick_reply}
use Rattle.day_rules.proofs.Following.{notice_entry, tick_entry}
use Rattle.day_machine.specs.Answered.{entry_if, is_counted}

pub kind_of : (kind : NoticeKind) (n : ℕ) → IsNoticeOrMoment (entry_of_notice kind n)
kind_of NoticeKind.Win n = tt
kind_of NoticeKind.Bill n = tt
kind_of NoticeKind.Loss n = tt

-- the entry that a notice adds, and a tick's
pub notice_kind : (history : List Entry) (kind : NoticeKind) (auction : List ℕ) (n : ℕ) → IfSome (notice_reply history kind auction n).entry IsNoticeOrMoment
notice_kind history kind auction n = notice_entry history kind auction n IsNoticeOrMoment (λ c. kind_of kind n)

pub tick_kind : (history : List Entry) (now : ℕ) → IfSome (tick_reply history now).entry IsNoticeOrMoment
tick_kind history now = tick_entry history now IsNoticeOrMoment (λ some. tt)

-- the reply to a notice has an entry where its answer is that the notice counts, and nowhere else
ruled_counted : (history : List Entry) (kind : NoticeKind) (n : ℕ) (r : Ruling) → entry_if (is_counted (ruled_reply history kind n r).answer) kind n ≡ (ruled_reply history kind n r).entry
ruled_counted history kind n Ruling.Counted = refl
ruled_counted history kind n Ruling.Repeat = refl
ruled_counted history kind n (Ruling.Conflict end) = refl

either_counted : (b : Bool) (r : Reply) (kind : NoticeKind) (n : ℕ) → entry_if (is_counted r.answer) kind n ≡ r.entry → entry_if (is_counted (cond b r (answered Answer.Unknown)).answer) kind n ≡ (cond b r (answered Answer.Unknown)).entry
either_counted true r kind n is = is
either_counted false r kind n is = refl

known_counted : (history : List Entry) (kind : NoticeKind) (auction : List ℕ) (n : ℕ) (o : Option Award) → entry_if (is_counted (known_reply history kind auction n o).answer) kind n ≡ (known_reply history kind auction n o).entry
known_counted history kind auction n None = refl
known_counted history kind auction n (Some w) =
    either_counted (is_of_auction history auction w) (ruled_reply history kind n (ruling_of kind w)) kind n (ruled_counted history kind n (ruling_of kind w))

pub counted_entry : (history : List Entry) (kind : NoticeKind) (auction : List ℕ) (n : ℕ) → entry_if (is_counted (notice_reply history kind auction n).answer) kind n ≡ (notice_reply history kind auction n).entry
counted_entry history kind auction n = known_counted history kind auction n (slice_get (awards_of history) n)
