use Rattle.std.proofs.Common.{sym, subst}
use Rattle.day_entries.specs.Entries.{IsNoticeOrMoment}
use Rattle.day_rules.specs.declared.entry.Entry.{Entry}
use Rattle.day_machine.proofs.NoticeEntries.{kind_of}
use Rattle.day_machine.proofs.waiting.Waiting.entry.Goals as goal

pub returns-clause-kind : goal.returns-clause-kind
returns-clause-kind c = subst (λ (e : Entry). IsNoticeOrMoment e) (sym c.entry_of.ensures) (kind_of c.self.inside.kind c.self.inside.award)
