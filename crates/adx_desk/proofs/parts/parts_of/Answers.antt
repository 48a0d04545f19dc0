use Rattle.std.proofs.Common.{ap, subst}
use Rattle.day_rules.specs.Terms.{Terms}
use Rattle.adx_desk.specs.Histories.{DeskTerms}
use Rattle.adx_desk.specs.Opened.{GivesUp, Opens}
use Rattle.adx_desk.specs.Rosters.{desk_terms}
use Rattle.adx_desk.proofs.OpenedOn.{gives_up_nothing}
use Rattle.adx_desk.proofs.parts.parts_of.Goals as goal

pub returns-in-Ok-open_on-clause-opens : goal.returns-in-Ok-open_on-clause-opens
returns-in-Ok-open_on-clause-opens g c =
    let D = g.D.Disk in
    subst (λ (t : DeskTerms). Opens D.reads D.may_leave D.moment D.left_since t c.args.disk.now c.open_on.new.disk c.in-Ok-open_on.kept.desk)
    (ap (λ (t : Terms). record { day = t; digest = c.args.roster.now.digest }) c.in-Ok.ensures.terms) c.in-Ok-open_on.ensures.opens

pub returns-in-Err-open_on-clause-gives_up : goal.returns-in-Err-open_on-clause-gives_up
returns-in-Err-open_on-clause-gives_up g c =
    let D = g.D.Disk in
    subst (λ (t : DeskTerms). GivesUp D.reads D.may_leave D.moment D.left_since t c.args.disk.now c.open_on.new.disk c.in-Err-open_on.fault)
    (ap (λ (t : Terms). record { day = t; digest = c.args.roster.now.digest }) c.in-Ok.ensures.terms) c.in-Err-open_on.ensures.gives_up

pub returns-in-Err-clause-gives_up : goal.returns-in-Err-clause-gives_up
returns-in-Err-clause-gives_up g c =
    let D = g.D.Disk in
    gives_up_nothing D.reads D.may_leave D.moment D.left_since (desk_terms c.args.roster.now) c.args.disk.now (g.met.D.Disk.only_now c.args.disk.now)
