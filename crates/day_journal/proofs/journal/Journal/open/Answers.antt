use Rattle.std.proofs.Common.{◌≡◌, ◌<◌, ◌^◌, ℕ, [], length, false, sym, ◌∙◌, ap, subst}
use Rattle.std.proofs.lemmas.Result.{err_from_is_err_and}
use Rattle.day_journal.specs.Openings.{OpeningState, StandsBehind, WindowState}
use Rattle.day_journal.specs.Starts.{BeginsJournal, Looked, StandsAsRead}
use Rattle.day_journal.proofs.Begun.{as_before, begun_on, looked_at}
use Rattle.day_journal.proofs.Moments.{started}
use Rattle.day_journal.proofs.Reading.{behind_head}
use Rattle.day_journal.proofs.journal.Journal.open.Goals as goal

pub returns-in_err-window-clause-any_moment : goal.returns-in_err-window-clause-any_moment
returns-in_err-window-clause-any_moment g c =
    let D = g.D.Disk in
    let old = c.args.disk.now in
    started D.moment D.left_since old (StandsAsRead (D.may_leave old) (D.reads old)) (λ f left. as_before (D.reads old) (D.may_leave old) f (g.met.D.Disk.only_now old f left))

pub returns-in_err-look-clause-any_moment : goal.returns-in_err-look-clause-any_moment
returns-in_err-look-clause-any_moment g c =
    let D = g.D.Disk in
    looked_at D.reads D.may_leave D.moment D.left_since c.args.disk.now c.look_at.new.disk c.look_at.ensures.no_more

pub returns-in_err-found-clause-any_moment : goal.returns-in_err-found-clause-any_moment
returns-in_err-found-clause-any_moment g c =
    let D = g.D.Disk in
    let mid = c.look_at.new.disk in
    let looked : Looked c.in_ok-look.look.size c.in_ok-look.look.start (D.reads mid) (D.may_leave mid) = record { durable = c.in_ok-look.ensures.durable; found = c.in_ok-look.ensures.found } in
    begun_on D.reads D.may_leave D.moment D.left_since c.args.disk.now mid c.finish.new.disk c.in_ok-look.ensures.same c.look_at.ensures.no_more (c.finish.ensures.kept looked)

pub returns-in_err-found-clause-refused : goal.returns-in_err-found-clause-refused
returns-in_err-found-clause-refused g c =
    let D = g.D.Disk in
    let mid = c.look_at.new.disk in
    let looked : Looked c.in_ok-look.look.size c.in_ok-look.look.start (D.reads mid) (D.may_leave mid) = record { durable = c.in_ok-look.ensures.durable; found = c.in_ok-look.ensures.found } in
    let p = err_from_is_err_and c.from_residual-in_err-found.result c.from_residual-in_err-found.ensures.1 in
    rw (p.1, p.2) (λ file told. c.in_err-found.ensures.refused looked file (c.in_ok-look.ensures.same ∙ told))

pub returns-clause-any_moment : goal.returns-clause-any_moment
returns-clause-any_moment g c =
    let D = g.D.Disk in
    let mid = c.look_at.new.disk in
    let looked : Looked c.in_ok-look.look.size c.in_ok-look.look.start (D.reads mid) (D.may_leave mid) = record { durable = c.in_ok-look.ensures.durable; found = c.in_ok-look.ensures.found } in
    begun_on D.reads D.may_leave D.moment D.left_since c.args.disk.now mid c.finish.new.disk c.in_ok-look.ensures.same c.look_at.ensures.no_more (c.finish.ensures.kept looked)

pub returns-clause-behind : goal.returns-clause-behind
returns-clause-behind g c file told =
    let D = g.D.Disk in
    let mid = c.look_at.new.disk in
    let looked : Looked c.in_ok-look.look.size c.in_ok-look.look.start (D.reads mid) (D.may_leave mid) = record { durable = c.in_ok-look.ensures.durable; found = c.in_ok-look.ensures.found } in
    let begins : BeginsJournal c.in_ok-found.found.format c.in_ok-found.found.size file = c.in_ok-found.ensures.behind looked file told in
    let addressed : length file < 2 ^ 64 = subst (λ (n : ℕ). n < 2 ^ 64) begins.length_is c.begun.ensures.fits in
    let state : c.begun.result ≡ record { format = c.in_ok-found.found.format; window = record { at = 9; bytes = [] }; size = c.in_ok-found.found.size; closed = false } =
    c.begun.ensures.value ∙ ap (λ (w : WindowState). record { format = c.in_ok-found.found.format; window = w; size = c.in_ok-found.found.size; closed = false }) c.in_ok-window.ensures in
    subst (λ (o : OpeningState). StandsBehind file o []) (sym state) (behind_head c.in_ok-found.found.format file c.in_ok-found.found.size begins.known begins.front begins.length_is addressed)

pub returns-clause-durable : goal.returns-clause-durable
returns-clause-durable g c =
    let D = g.D.Disk in
    let mid = c.look_at.new.disk in
    c.in_ok-found.ensures.durable (record { durable = c.in_ok-look.ensures.durable; found = c.in_ok-look.ensures.found })

pub returns-clause-reading : goal.returns-clause-reading
returns-clause-reading g c file told =
    let D = g.D.Disk in
    c.in_ok-found.ensures.reading (record { durable = c.in_ok-look.ensures.durable; found = c.in_ok-look.ensures.found }) file (c.in_ok-look.ensures.same ∙ told)
