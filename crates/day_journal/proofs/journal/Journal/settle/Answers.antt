use Rattle.std.proofs.Common.{◌≡◌, true, rules, sym, ap, subst, arith}
use Rattle.day_journal.specs.Disks.{Each, LeavesOnly}
use Rattle.adx_io.specs.Frames.{body}
use Rattle.day_journal.specs.Places.{opened, IsClosed}
use Rattle.day_journal.specs.Tails.{HasTail, Keeps, WithOrWithout, JournalState}
use Rattle.day_journal.proofs.Keeping.{doubt_tail, doubted_payload, still_in_doubt, closed_keeps, gated_shut, tail_stands}
use Rattle.day_journal.proofs.Moments.{weaker}
use Rattle.day_journal.proofs.journal.Journal.settle.Goals as goal

pub returns-in_err-set_gate-clause-kept : goal.returns-in_err-set_gate-clause-kept
returns-in_err-set_gate-clause-kept g c ps t k =
    let D = g.D.Disk in
    let gate = c.self.inside.gate in
    let f = c.self.inside.format in
    let same : f ≡ c.args.self.now.format = ap (λ (j : JournalState). j.format) c.self.view_is in
    let doubt : c.self.inside.in_doubt ≡ true = search rules in
    let was : Keeps (D.may_leave c.args.disk.now) (record { format = f; gate = gate; in_doubt = c.self.inside.in_doubt }) ps t = subst (λ (j : JournalState). Keeps (D.may_leave c.args.disk.now) j ps t) (sym c.self.view_is) k in
    let has = doubt_tail _ f gate _ ps t doubt was in
    let is_payload = doubted_payload _ f gate _ ps t doubt was in
    let after = c.set_gate.ensures.kept (opened f ps) (body t) (sym was.place) has in
    let now = still_in_doubt _ (D.may_leave c.set_gate.new.disk) f gate _ ps t doubt was after.0 in (
      subst (λ (j : JournalState). Keeps (D.may_leave c.set_gate.new.disk) j ps t) c.self.view_is now,
      subst (λ n. LeavesOnly D.moment D.left_since c.args.disk.now c.set_gate.new.disk (WithOrWithout n ps t)) same
          (weaker D.moment D.left_since c.args.disk.now c.set_gate.new.disk (HasTail (opened f ps) (body t)) (WithOrWithout f ps t) after.1 (λ file h. tail_stands f ps t file was.known was.each is_payload h)),
    )

pub returns-clause-kept : goal.returns-clause-kept
returns-clause-kept g c ps t k =
    let D = g.D.Disk in
    let gate = c.self.inside.gate in
    let f = c.self.inside.format in
    let same : f ≡ c.args.self.now.format = ap (λ (j : JournalState). j.format) c.self.view_is in
    let doubt : c.self.inside.in_doubt ≡ true = search rules in
    let was : Keeps (D.may_leave c.args.disk.now) (record { format = f; gate = gate; in_doubt = c.self.inside.in_doubt }) ps t = subst (λ (j : JournalState). Keeps (D.may_leave c.args.disk.now) j ps t) (sym c.self.view_is) k in
    let has = doubt_tail _ f gate _ ps t doubt was in
    let is_payload = doubted_payload _ f gate _ ps t doubt was in
    let after = c.set_gate.ensures.kept (opened f ps) (body t) (sym was.place) has in
    let shut : Each (D.may_leave c.set_gate.new.disk) (IsClosed (opened f ps)) = λ file left. gated_shut 0 (opened f ps) (body t) file (omega arith) (c.in_ok-set_gate.ensures.set (opened f ps) (body t) (sym was.place) has file left) in (
      closed_keeps (D.may_leave c.set_gate.new.disk) f gate ps t was.known was.place was.each shut,
      subst (λ n. LeavesOnly D.moment D.left_since c.args.disk.now c.set_gate.new.disk (WithOrWithout n ps t)) same
          (weaker D.moment D.left_since c.args.disk.now c.set_gate.new.disk (HasTail (opened f ps) (body t)) (WithOrWithout f ps t) after.1 (λ file h. tail_stands f ps t file was.known was.each is_payload h)),
    )
