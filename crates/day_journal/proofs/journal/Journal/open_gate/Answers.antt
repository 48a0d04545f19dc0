use Rattle.std.proofs.Common.{◌≡◌, ◌+◌, ◌++◌, [], ◌∷◌, length, true, sym, ap, subst, ◌∙◌}
use Rattle.std.proofs.lemmas.List.Elements.{All-push}
use Rattle.std.proofs.lemmas.Result.{IfOk-from_err}
use Rattle.day_journal.specs.Disks.{Each, LeavesOnly}
use Rattle.adx_io.specs.Frames.{body}
use Rattle.day_journal.specs.Places.{IsFormat, IsPayload, opened, IsClosed}
use Rattle.day_journal.specs.Tails.{HasShutTail, HasTail, Keeps, WithOrWithout, JournalState}
use Rattle.day_journal.proofs.Keeping.{closed_keeps, shut_tail, gated_open, tail_stands, place_after, on_err}
use Rattle.day_journal.proofs.Moments.{weaker}
use Rattle.day_journal.proofs.journal.Journal.open_gate.Goals as goal

pub returns-in_err-set_gate-clause-kept : goal.returns-in_err-set_gate-clause-kept
returns-in_err-set_gate-clause-kept g c ps p known_now place each is_payload len staged_now =
    let D = g.D.Disk in
    let gate = c.self.inside.gate in
    let f = c.self.inside.format in
    let same : f ≡ c.args.self.now.format = ap (λ (j : JournalState). j.format) c.self.view_is in
    let known : IsFormat f = subst IsFormat (sym same) known_now in
    let there : gate ≡ length (opened f ps) = ap (λ (j : JournalState). j.gate) c.self.view_is ∙ (place ∙ ap (λ k. length (opened k ps)) (sym same)) in
    let staged : Each (D.may_leave c.args.disk.now) (HasShutTail (opened f ps) (body p)) =
    subst (λ k. Each (D.may_leave c.args.disk.now) (HasShutTail (opened k ps) (body p))) (sym same) staged_now in
    let has : Each (D.may_leave c.args.disk.now) (HasTail (opened f ps) (body p)) = λ file left. shut_tail (opened f ps) (body p) file (staged file left) in
    let after = c.set_gate.ensures.kept (opened f ps) (body p) (sym there) has in
    let now : Keeps (D.may_leave c.set_gate.new.disk) (record { format = f; gate = gate; in_doubt = true }) ps p = record { known = known; place = there; each = each; doubted = λ _. is_payload; ends = after.0 } in (
      subst (λ k. LeavesOnly D.moment D.left_since c.args.disk.now c.set_gate.new.disk (WithOrWithout k ps p)) same
          (weaker D.moment D.left_since c.args.disk.now c.set_gate.new.disk (HasTail (opened f ps) (body p)) (WithOrWithout f ps p) after.1 (λ file h. tail_stands f ps p file known each is_payload h)),
      IfOk-from_err c.from_residual.result _ c.from_residual.ensures.0,
      on_err _ now,
    )

pub returns-clause-kept : goal.returns-clause-kept
returns-clause-kept g c ps p known_now place each is_payload len staged_now =
    let D = g.D.Disk in
    let gate = c.self.inside.gate in
    let f = c.self.inside.format in
    let same : f ≡ c.args.self.now.format = ap (λ (j : JournalState). j.format) c.self.view_is in
    let known : IsFormat f = subst IsFormat (sym same) known_now in
    let there : gate ≡ length (opened f ps) = ap (λ (j : JournalState). j.gate) c.self.view_is ∙ (place ∙ ap (λ k. length (opened k ps)) (sym same)) in
    let staged : Each (D.may_leave c.args.disk.now) (HasShutTail (opened f ps) (body p)) =
    subst (λ k. Each (D.may_leave c.args.disk.now) (HasShutTail (opened k ps) (body p))) (sym same) staged_now in
    let has : Each (D.may_leave c.args.disk.now) (HasTail (opened f ps) (body p)) = λ file left. shut_tail (opened f ps) (body p) file (staged file left) in
    let after = c.set_gate.ensures.kept (opened f ps) (body p) (sym there) has in
    let shut : Each (D.may_leave c.set_gate.new.disk) (IsClosed (opened f (ps ++ p ∷ []))) = λ file left. gated_open f ps p file (c.in_ok-set_gate.ensures.set (opened f ps) (body p) (sym there) has file left) in (
      subst (λ k. LeavesOnly D.moment D.left_since c.args.disk.now c.set_gate.new.disk (WithOrWithout k ps p)) same
          (weaker D.moment D.left_since c.args.disk.now c.set_gate.new.disk (HasTail (opened f ps) (body p)) (WithOrWithout f ps p) after.1 (λ file h. tail_stands f ps p file known each is_payload h)),
      (λ t. closed_keeps (D.may_leave c.set_gate.new.disk) f (gate + c.args.len) (ps ++ p ∷ []) t known (place_after f ps p gate c.args.len there len) (All-push IsPayload ps p each is_payload) shut),
      record {},
    )
