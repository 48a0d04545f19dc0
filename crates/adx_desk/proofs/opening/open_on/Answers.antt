-- By what the journal's opening left, and what was read after it.
use Rattle.std.proofs.Common.{Err, sym, ap, subst}
use Rattle.adx_desk.specs.Histories.{DeskTerms}
use Rattle.adx_desk.specs.Opened.{GivesUp}
use Rattle.adx_desk.proofs.OpenedOn.{Began, gives_up_first, gives_up_on, opens_on}
use Rattle.adx_desk.proofs.opening.open_on.Goals as goal

pub returns-in-Ok-day_behind-clause-opens : goal.returns-in-Ok-day_behind-clause-opens
returns-in-Ok-day_behind-clause-opens g c =
    let D = g.D.Disk in
    let terms : DeskTerms = record { day = c.args.day.terms; digest = c.args.digest.now } in
    let old = c.args.disk.now in
    let mid = c.open.new.disk in
    let began : Began D.reads D.may_leave D.moment D.left_since terms old mid c.in-Ok.opening = record {
      reading = c.in-Ok.ensures.reading;
      behind = c.in-Ok.ensures.behind;
      durable = c.in-Ok.ensures.durable;
      run = c.open.ensures.any_moment;
    } in
    opens_on D.reads D.may_leave D.moment D.left_since terms old mid c.day_behind.new.disk c.in-Ok.opening c.in-Ok-day_behind.kept.desk began
    c.in-Ok-day_behind.ensures.terms c.in-Ok-day_behind.ensures.faults c.in-Ok-day_behind.ensures.history c.in-Ok-day_behind.ensures.keeps c.day_behind.ensures.any_moment

pub returns-in-Err-day_behind-clause-gives_up : goal.returns-in-Err-day_behind-clause-gives_up
returns-in-Err-day_behind-clause-gives_up g c =
    let D = g.D.Disk in
    let terms : DeskTerms = record { day = c.args.day.terms; digest = c.args.digest.now } in
    let old = c.args.disk.now in
    let mid = c.open.new.disk in
    let began : Began D.reads D.may_leave D.moment D.left_since terms old mid c.in-Ok.opening = record {
      reading = c.in-Ok.ensures.reading;
      behind = c.in-Ok.ensures.behind;
      durable = c.in-Ok.ensures.durable;
      run = c.open.ensures.any_moment;
    } in
    gives_up_on D.reads D.may_leave D.moment D.left_since terms old mid c.day_behind.new.disk c.in-Ok.opening c.in-Err-day_behind.fault began
    c.in-Err-day_behind.ensures.refused c.in-Err-day_behind.ensures.untouched c.day_behind.ensures.any_moment

pub returns-in-Err-clause-gives_up : goal.returns-in-Err-clause-gives_up
returns-in-Err-clause-gives_up g c =
    let D = g.D.Disk in
    let terms : DeskTerms = record { day = c.args.day.terms; digest = c.args.digest.now } in
    let old = c.args.disk.now in
    let new = c.open.new.disk in
    subst (GivesUp D.reads D.may_leave D.moment D.left_since terms old new) (sym c.from.ensures)
    (gives_up_first D.reads D.may_leave D.moment D.left_since terms old new c.in-Err.fault (λ at is. c.in-Err.ensures.no_place at (ap Err is))
    (λ at is. c.in-Err.ensures.untouched at (ap Err is)) c.in-Err.ensures.refused c.open.ensures.any_moment)
