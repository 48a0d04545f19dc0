-- The day of what was opened, or its lack of room.
use Rattle.std.proofs.Common.{rules, arith, ◌≡◌, ◌+◌, length, min, refl, sym, ◌∙◌, ap, subst}
use Rattle.adx_io.specs.Streams.{last_count}
use Rattle.day_journal.specs.Tails.{size_of}
use Rattle.day_rules.specs.Legal.{IsLegal}
use Rattle.day_rules.specs.Terms.{Terms}
use Rattle.adx_desk.specs.Desks.{DeskKeeps, DeskState}
use Rattle.day_machine.specs.Held.{held}
use Rattle.adx_desk.specs.Histories.{DeskTerms, IsHistoryOf}
use Rattle.adx_desk.specs.Openings.{RefusesDesk}
use Rattle.adx_desk.proofs.OpenedDays.{opened_full, opened_history, opened_keeps}
use Rattle.adx_desk.proofs.opening.day_behind.Goals as goal

pub returns-in-Ok-of-clause-history : goal.returns-in-Ok-of-clause-history
returns-in-Ok-of-clause-history g c file told behind durable =
    let D = g.D.Disk in
    let terms : DeskTerms = record { day = c.args.day.terms; digest = c.args.digest.now } in
    let new = c.journal_of.new.day in
    let legal = subst (λ (t : Terms). IsLegal t new.history) c.journal_of.ensures.terms c.in-Ok.ensures.legal.legal in
    let disk = c.journal_of.new.disk in
    subst (λ (d : DeskState). IsHistoryOf terms file d.history) (sym c.in-Ok-of.ensures.desk)
    (opened_history terms file (D.reads disk) (D.may_leave disk) c.in-Ok.journal new.history (c.in-Ok.ensures.opened file told behind durable) legal c.in-Ok-of.ensures.room)

pub returns-in-Ok-of-clause-keeps : goal.returns-in-Ok-of-clause-keeps
returns-in-Ok-of-clause-keeps g c file told behind durable tail =
    let D = g.D.Disk in
    let terms : DeskTerms = record { day = c.args.day.terms; digest = c.args.digest.now } in
    let new = c.journal_of.new.day in
    let legal = subst (λ (t : Terms). IsLegal t new.history) c.journal_of.ensures.terms c.in-Ok.ensures.legal.legal in
    let disk = c.journal_of.new.disk in
    let desk = c.in-Ok-of.ensures.desk
    ∙ ap (λ (t : Terms). record { terms = record { day = t; digest = c.args.digest.now }; history = new.history; journal = c.in-Ok.journal; faults = 0 }) c.journal_of.ensures.terms in
    subst (λ (d : DeskState). DeskKeeps (D.may_leave disk) d tail) (sym desk)
    (opened_keeps terms file (D.reads disk) (D.may_leave disk) c.in-Ok.journal new.history 0 (c.in-Ok.ensures.opened file told behind durable) legal c.in-Ok-of.ensures.room tail)

pub returns-in-Err-of-clause-refused : goal.returns-in-Err-of-clause-refused
returns-in-Err-of-clause-refused g c file told behind durable =
    let D = g.D.Disk in
    let terms : DeskTerms = record { day = c.args.day.terms; digest = c.args.digest.now } in
    let new = c.journal_of.new.day in
    let legal = subst (λ (t : Terms). IsLegal t new.history) c.journal_of.ensures.terms c.in-Ok.ensures.legal.legal in
    let disk = c.journal_of.new.disk in
    let full = c.in-Err-of.ensures.full in
    let short : length c.args.digest.now ≡ 32 = first_of (omega arith, search rules) in
    let size = min (size_of c.in-Ok.journal + held c.in-Ok.journal.format new.history) last_count in
    subst (RefusesDesk terms file) (sym full.1)
    (opened_full terms file (D.reads disk) (D.may_leave disk) c.in-Ok.journal new.history size (c.in-Ok.ensures.opened file told behind durable) legal short full.0 refl).0

pub returns-in-Err-of-clause-untouched : goal.returns-in-Err-of-clause-untouched
returns-in-Err-of-clause-untouched g c file told behind durable is =
    let D = g.D.Disk in
    let terms : DeskTerms = record { day = c.args.day.terms; digest = c.args.digest.now } in
    let new = c.journal_of.new.day in
    let legal = subst (λ (t : Terms). IsLegal t new.history) c.journal_of.ensures.terms c.in-Ok.ensures.legal.legal in
    let disk = c.journal_of.new.disk in
    let full = c.in-Err-of.ensures.full in
    let short : length c.args.digest.now ≡ 32 = first_of (omega arith, search rules) in
    let size = min (size_of c.in-Ok.journal + held c.in-Ok.journal.format new.history) last_count in
    (opened_full terms file (D.reads disk) (D.may_leave disk) c.in-Ok.journal new.history size (c.in-Ok.ensures.opened file told behind durable) legal short full.0 refl).1
