use Rattle.std.proofs.Common.{◌≡◌, inl, inr, Bool, false, rules, sym, subst, ap, ◌∙◌}
use Rattle.std.proofs.lemmas.Result.{IfOk-from_err, IfOk-at_ok, IfErr-at_err}
use Rattle.day_journal.specs.Disks.{Each, LeavesOnly}
use Rattle.adx_io.specs.Frames.{body}
use Rattle.day_journal.specs.Places.{IsFormat, opened, IsClosed}
use Rattle.day_journal.specs.Tails.{HasShutTail, Keeps, WithOrWithout, WithAtMostOne, JournalState}
use Rattle.day_journal.proofs.Keeping.{closed_keeps, closed_ends, on_err, with_first, with_new, record_length}
use Rattle.day_journal.proofs.Moments.{joined}
use Rattle.day_journal.proofs.journal.Journal.put.Goals as goal

pub returns-in_err-stage-clause-kept : goal.returns-in_err-stage-clause-kept
returns-in_err-stage-clause-kept g c ps t p is_payload spelled k =
    let D = g.D.Disk in
    let F = c.args.self.now.format in
    let R = WithAtMostOne F ps t p in
    let first = c.settle.ensures.kept ps t k in
    let gate = c.self.inside.gate in
    let f = c.self.inside.format in
    let same_format : f ≡ F = ap (λ (j : JournalState). j.format) c.self.view_is ∙ c.settle.ensures.format in
    let mid : Keeps (D.may_leave c.settle.new.disk) (record { format = f; gate = gate; in_doubt = c.self.inside.in_doubt }) ps t = subst (λ (j : JournalState). Keeps (D.may_leave c.settle.new.disk) j ps t) (sym c.self.view_is) first.0 in
    let sure : c.self.inside.in_doubt ≡ false = search rules in
    let closed = closed_ends _ f gate _ ps t sure mid in
    let second = c.stage.ensures.kept (opened f ps) (sym mid.place) closed in
    let now : Keeps (D.may_leave c.stage.new.disk) (record { format = f; gate = gate; in_doubt = false }) ps t = closed_keeps (D.may_leave c.stage.new.disk) f gate ps t mid.known mid.place mid.each second.0 in
    let same : record { format = f; gate = gate; in_doubt = false } ≡ c.settle.new.self = ap (λ (b : Bool). record { format = f; gate = gate; in_doubt = b }) (sym sure) ∙ c.self.view_is in (
      subst (λ n. LeavesOnly D.moment D.left_since c.args.disk.now c.stage.new.disk (WithAtMostOne n ps t p)) same_format
          (joined D.moment D.left_since c.args.disk.now c.settle.new.disk c.stage.new.disk (WithOrWithout f ps t) (IsClosed (opened f ps)) (WithAtMostOne f ps t p)
          (subst (λ n. LeavesOnly D.moment D.left_since c.args.disk.now c.settle.new.disk (WithOrWithout n ps t)) (sym same_format) first.1) second.1 (with_first f ps t p)
          (λ file h. inl (inr (record { known = mid.known; each = mid.each; closed = h })))),
      IfOk-from_err c.from_residual-in_err-stage.result _ c.from_residual-in_err-stage.ensures.0,
      on_err _ (inl (subst (λ (j : JournalState). Keeps (D.may_leave c.stage.new.disk) j ps t) same now)),
    )

pub returns-in_err-open_gate-clause-kept : goal.returns-in_err-open_gate-clause-kept
returns-in_err-open_gate-clause-kept g c ps t p is_payload spelled k =
    let D = g.D.Disk in
    let F = c.args.self.now.format in
    let first = c.settle.ensures.kept ps t k in
    let gate = c.self.inside.gate in
    let f = c.self.inside.format in
    let same_format : f ≡ F = ap (λ (j : JournalState). j.format) c.self.view_is ∙ c.settle.ensures.format in
    let mid : Keeps (D.may_leave c.settle.new.disk) (record { format = f; gate = gate; in_doubt = c.self.inside.in_doubt }) ps t = subst (λ (j : JournalState). Keeps (D.may_leave c.settle.new.disk) j ps t) (sym c.self.view_is) first.0 in
    let sure : c.self.inside.in_doubt ≡ false = search rules in
    let closed = closed_ends _ f gate _ ps t sure mid in
    let second = c.stage.ensures.kept (opened f ps) (sym mid.place) closed in
    let staged = c.in_ok-stage.ensures.staged (opened f ps) (body p) (sym mid.place) spelled closed in
    let G = c.settle.new.self.format in
    let own : f ≡ G = ap (λ (j : JournalState). j.format) c.self.view_is in
    let third = c.open_gate.ensures.kept ps p first.0.known first.0.place mid.each is_payload (record_length p c.args.record_bytes.now spelled)
    (subst (λ n. Each (D.may_leave c.stage.new.disk) (HasShutTail (opened n ps) (body p))) own staged) in
    let run = joined D.moment D.left_since c.args.disk.now c.settle.new.disk c.stage.new.disk (WithOrWithout F ps t) (IsClosed (opened f ps)) (WithAtMostOne F ps t p) first.1 second.1 (with_first F ps t p)
    (λ file h. inl (inr (record { known = subst IsFormat same_format mid.known; each = mid.each; closed = subst (λ n. IsClosed (opened n ps) file) same_format h }))) in
    let last = subst (λ n. LeavesOnly D.moment D.left_since c.stage.new.disk c.open_gate.new.disk (WithOrWithout n ps p)) c.settle.ensures.format third.0 in (
      joined D.moment D.left_since c.args.disk.now c.stage.new.disk c.open_gate.new.disk (WithAtMostOne F ps t p) (WithOrWithout F ps p) (WithAtMostOne F ps t p) run last (λ file h. h) (with_new F ps t p),
      IfOk-from_err c.from_residual-in_err-open_gate.result _ c.from_residual-in_err-open_gate.ensures.0,
      on_err _ (inr (IfErr-at_err _ c.in_err-open_gate.was third.2)),
    )

pub returns-clause-kept : goal.returns-clause-kept
returns-clause-kept g c ps t p is_payload spelled k =
    let D = g.D.Disk in
    let F = c.args.self.now.format in
    let first = c.settle.ensures.kept ps t k in
    let gate = c.self.inside.gate in
    let f = c.self.inside.format in
    let same_format : f ≡ F = ap (λ (j : JournalState). j.format) c.self.view_is ∙ c.settle.ensures.format in
    let mid : Keeps (D.may_leave c.settle.new.disk) (record { format = f; gate = gate; in_doubt = c.self.inside.in_doubt }) ps t = subst (λ (j : JournalState). Keeps (D.may_leave c.settle.new.disk) j ps t) (sym c.self.view_is) first.0 in
    let sure : c.self.inside.in_doubt ≡ false = search rules in
    let closed = closed_ends _ f gate _ ps t sure mid in
    let second = c.stage.ensures.kept (opened f ps) (sym mid.place) closed in
    let staged = c.in_ok-stage.ensures.staged (opened f ps) (body p) (sym mid.place) spelled closed in
    let G = c.settle.new.self.format in
    let own : f ≡ G = ap (λ (j : JournalState). j.format) c.self.view_is in
    let third = c.open_gate.ensures.kept ps p first.0.known first.0.place mid.each is_payload (record_length p c.args.record_bytes.now spelled)
    (subst (λ n. Each (D.may_leave c.stage.new.disk) (HasShutTail (opened n ps) (body p))) own staged) in
    let run = joined D.moment D.left_since c.args.disk.now c.settle.new.disk c.stage.new.disk (WithOrWithout F ps t) (IsClosed (opened f ps)) (WithAtMostOne F ps t p) first.1 second.1 (with_first F ps t p)
    (λ file h. inl (inr (record { known = subst IsFormat same_format mid.known; each = mid.each; closed = subst (λ n. IsClosed (opened n ps) file) same_format h }))) in
    let last = subst (λ n. LeavesOnly D.moment D.left_since c.stage.new.disk c.open_gate.new.disk (WithOrWithout n ps p)) c.settle.ensures.format third.0 in (
      joined D.moment D.left_since c.args.disk.now c.stage.new.disk c.open_gate.new.disk (WithAtMostOne F ps t p) (WithOrWithout F ps p) (WithAtMostOne F ps t p) run last (λ file h. h) (with_new F ps t p),
      IfOk-at_ok _ c.in_ok-open_gate.was third.1,
      record {},
    )
