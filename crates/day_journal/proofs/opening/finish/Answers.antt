use Rattle.std.proofs.Common.{inl, inr, take, subst}
use Rattle.day_journal.specs.Starts.{IsStart}
use Rattle.day_journal.proofs.Begun.{begins_new, cleared_file, looked_cleared, looked_uncleared, made_on, reads_new, uncleared_file, unfinished}
use Rattle.day_journal.proofs.NewFile.{unfinished_cleared}
use Rattle.day_journal.proofs.Reading.{no_head}
use Rattle.day_journal.proofs.opening.finish.Goals as goal

pub returns-in_err-make_cleared-in-Cleared-clause-kept : goal.returns-in_err-make_cleared-in-Cleared-clause-kept
returns-in_err-make_cleared-in-Cleared-clause-kept g c l =
    let D = g.D.Disk in
    let each = looked_cleared c.args.look.size c.args.look.start (D.reads c.args.disk.now) (D.may_leave c.args.disk.now) c.in-Cleared.is l in
    made_on D.reads D.may_leave D.moment D.left_since c.args.disk.now c.make_cleared.new.disk l.durable (λ f left. unfinished_cleared f (each f left)) (c.make_cleared.ensures.kept each)

pub returns-in_err-make_uncleared-in-Uncleared-clause-kept : goal.returns-in_err-make_uncleared-in-Uncleared-clause-kept
returns-in_err-make_uncleared-in-Uncleared-clause-kept g c l =
    let D = g.D.Disk in
    let each = looked_uncleared c.args.look.size c.args.look.start (D.reads c.args.disk.now) (D.may_leave c.args.disk.now) c.in-Uncleared.is l in
    made_on D.reads D.may_leave D.moment D.left_since c.args.disk.now c.make_uncleared.new.disk l.durable (λ f left. unfinished f (each f left)) (c.make_uncleared.ensures.kept each)

pub returns-in_ok-make_cleared-in-Cleared-clause-kept : goal.returns-in_ok-make_cleared-in-Cleared-clause-kept
returns-in_ok-make_cleared-in-Cleared-clause-kept g c l =
    let D = g.D.Disk in
    let each = looked_cleared c.args.look.size c.args.look.start (D.reads c.args.disk.now) (D.may_leave c.args.disk.now) c.in-Cleared.is l in
    made_on D.reads D.may_leave D.moment D.left_since c.args.disk.now c.make_cleared.new.disk l.durable (λ f left. unfinished_cleared f (each f left)) (c.make_cleared.ensures.kept each)

pub returns-in_ok-make_cleared-in-Cleared-clause-behind : goal.returns-in_ok-make_cleared-in-Cleared-clause-behind
returns-in_ok-make_cleared-in-Cleared-clause-behind g c l file told =
    let D = g.D.Disk in
    let each = looked_cleared c.args.look.size c.args.look.start (D.reads c.args.disk.now) (D.may_leave c.args.disk.now) c.in-Cleared.is l in
    begins_new file (c.in_ok-make_cleared-in-Cleared.ensures.made each file (g.met.D.Disk.read_is_left c.make_cleared.new.disk file told))

pub returns-in_ok-make_uncleared-in-Uncleared-clause-kept : goal.returns-in_ok-make_uncleared-in-Uncleared-clause-kept
returns-in_ok-make_uncleared-in-Uncleared-clause-kept g c l =
    let D = g.D.Disk in
    let each = looked_uncleared c.args.look.size c.args.look.start (D.reads c.args.disk.now) (D.may_leave c.args.disk.now) c.in-Uncleared.is l in
    made_on D.reads D.may_leave D.moment D.left_since c.args.disk.now c.make_uncleared.new.disk l.durable (λ f left. unfinished f (each f left)) (c.make_uncleared.ensures.kept each)

pub returns-in_ok-make_uncleared-in-Uncleared-clause-behind : goal.returns-in_ok-make_uncleared-in-Uncleared-clause-behind
returns-in_ok-make_uncleared-in-Uncleared-clause-behind g c l file told =
    let D = g.D.Disk in
    let each = looked_uncleared c.args.look.size c.args.look.start (D.reads c.args.disk.now) (D.may_leave c.args.disk.now) c.in-Uncleared.is l in
    begins_new file (c.in_ok-make_uncleared-in-Uncleared.ensures.made each file (g.met.D.Disk.read_is_left c.make_uncleared.new.disk file told))

pub returns-in-Journal-clause-behind : goal.returns-in-Journal-clause-behind
returns-in-Journal-clause-behind g c l file told =
    let had = l.found file told in
    let is = subst (IsStart (take 11 file)) c.in-Journal.is had.1 in
    record { known = is.0; length_is = had.0; front = is.1 }

pub returns-in-Other-clause-refused : goal.returns-in-Other-clause-refused
returns-in-Other-clause-refused g c l file told =
    let had = l.found file told in
    no_head file c.in-Other.at (subst (IsStart (take 11 file)) c.in-Other.is had.1)

pub returns-in_ok-make_cleared-in-Cleared-clause-reading : goal.returns-in_ok-make_cleared-in-Cleared-clause-reading
returns-in_ok-make_cleared-in-Cleared-clause-reading g c l file told =
    let D = g.D.Disk in
    let each = looked_cleared c.args.look.size c.args.look.start (D.reads c.args.disk.now) (D.may_leave c.args.disk.now) c.in-Cleared.is l in
    let had = l.found file told in
    inr (
      unfinished_cleared file (cleared_file file (subst (IsStart (take 11 file)) c.in-Cleared.is had.1)),
      reads_new (D.reads c.args.disk.now) (D.reads c.make_cleared.new.disk) (D.may_leave c.make_cleared.new.disk) file c.make_cleared.ensures.told told
          (g.met.D.Disk.read_is_left c.make_cleared.new.disk) (c.in_ok-make_cleared-in-Cleared.ensures.made each),
    )

pub returns-in_ok-make_uncleared-in-Uncleared-clause-reading : goal.returns-in_ok-make_uncleared-in-Uncleared-clause-reading
returns-in_ok-make_uncleared-in-Uncleared-clause-reading g c l file told =
    let D = g.D.Disk in
    let each = looked_uncleared c.args.look.size c.args.look.start (D.reads c.args.disk.now) (D.may_leave c.args.disk.now) c.in-Uncleared.is l in
    let had = l.found file told in
    inr (
      unfinished file (uncleared_file file (subst (IsStart (take 11 file)) c.in-Uncleared.is had.1)),
      reads_new (D.reads c.args.disk.now) (D.reads c.make_uncleared.new.disk) (D.may_leave c.make_uncleared.new.disk) file c.make_uncleared.ensures.told told
          (g.met.D.Disk.read_is_left c.make_uncleared.new.disk) (c.in_ok-make_uncleared-in-Uncleared.ensures.made each),
    )

pub returns-in-Journal-clause-reading : goal.returns-in-Journal-clause-reading
returns-in-Journal-clause-reading g c l file told = inl told
