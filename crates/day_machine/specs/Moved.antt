-- Private, cited by the day's ledger alone: the accounts after a notice moved the charge of an award.
use Rattle.std.specs.Prelude.{List}
use Rattle.campaign_book.specs.Accounts.{Account, billed_at, released_at}
use Rattle.notice_book.specs.declared.award.Award.{Award}
use Rattle.notice_book.specs.declared.kind.NoticeKind.{NoticeKind}

abbrev pub moved : NoticeKind → Award → List Account → List Account
moved NoticeKind.Win w accounts = accounts
moved NoticeKind.Bill w accounts = billed_at w.campaign w.charge.0 accounts
moved NoticeKind.Loss w accounts = released_at w.campaign w.charge.0 accounts
