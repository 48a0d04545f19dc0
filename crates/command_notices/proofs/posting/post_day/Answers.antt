use Rattle.std.proofs.Common.{List, inl, refl, sym, subst}
use Rattle.day_rules.specs.DayState.{IsDay}
use Rattle.day_rules.specs.declared.entry.Entry.{Entry}
use Rattle.history_runs.proofs.Opened.{stands_lent}
use Rattle.command_notices.specs.Posting.{TriesPosts}
use Rattle.command_notices.proofs.posting.post_day.Goals as goal

pub post_history-end-requires : goal.post_history-end-requires
post_history-end-requires g c =
    let terms = c.in-Ok.desk.desk.terms.day in
    record { day = (terms, subst (IsDay terms) (sym c.entries.ensures.history) c.entries.ensures.legal) }

pub returns-in-Ok-clause-day : goal.returns-in-Ok-clause-day
returns-in-Ok-clause-day g c =
    let desk = c.in-Ok.desk in let opened = c.in-Ok.ensures in let end = c.post_history-end in inl (
      desk.desk.history,
      stands_lent g.D.Disk (λ disk. disk) c.args.roster.now c.args.disk desk c.args.disk c.close.result refl (sym c.close.ensures.disk) opened.opens opened.legal.legal opened.same_count,
      subst (λ (history : List Entry). TriesPosts g.L.Link history c.args.link.now end.new.link end.result) c.entries.ensures.history end.ensures,
    )
