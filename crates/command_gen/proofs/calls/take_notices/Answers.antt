-- A bill twice: one call after the other.
use Rattle.std.proofs.Common.{ℕ, [], ◌∷◌, Err, sym, subst}
use Rattle.std.proofs.lemmas.Result.{err_from_is_err_and}
use Rattle.day_rules.specs.Replies.{Call, notice}
use Rattle.notice_book.specs.declared.kind.NoticeKind.{NoticeKind}
use Rattle.command_gen.specs.Generated.{notices_by}
use Rattle.command_gen.specs.Taking.{TakesCalls}
use Rattle.command_gen.proofs.Taking.{takes_early, takes_then}
use Rattle.command_gen.proofs.calls.take_notices.Goals as goal

pub returns-in_err-take_notice-in-3-clause-takes : goal.returns-in_err-take_notice-in-3-clause-takes
returns-in_err-take_notice-in-3-clause-takes g c =
    let old = c.args.desk.now in
    let new = c.take_notice-in-3.new.desk in
    let bill : Call = notice NoticeKind.Bill c.args.auction.now c.args.award in
    let p = err_from_is_err_and c.from_residual.result c.from_residual.ensures.1 in
    rw (p.1, p.2)
    (subst (λ (n : ℕ). TakesCalls g.D.Disk.faults g.D.Disk.may_leave g.D.Disk.moment g.D.Disk.left_since old new (notices_by n c.args.auction.now c.args.award) (Err c.in_err-take_notice-in-3.field-0.0)) (sym c.in-3.is)
    (takes_early g.D.Disk.faults g.D.Disk.may_leave g.D.Disk.moment g.D.Disk.left_since old new (bill ∷ []) (bill ∷ []) c.in_err-take_notice-in-3.field-0.0 c.in_err-take_notice-in-3.ensures.takes))

pub returns-in_ok-take_notice-in-3-clause-takes : goal.returns-in_ok-take_notice-in-3-clause-takes
returns-in_ok-take_notice-in-3-clause-takes g c =
    let old = c.args.desk.now in
    let mid = c.take_notice-in-3.new.desk in
    let new = c.take_notice-in-3-2.new.desk in
    let bill : Call = notice NoticeKind.Bill c.args.auction.now c.args.award in
    let result = c.take_notice-in-3-2.result in
    subst (λ (n : ℕ). TakesCalls g.D.Disk.faults g.D.Disk.may_leave g.D.Disk.moment g.D.Disk.left_since old new (notices_by n c.args.auction.now c.args.award) result) (sym c.in-3.is)
    (takes_then g.D.Disk.faults g.D.Disk.may_leave g.D.Disk.moment g.D.Disk.left_since old mid new (bill ∷ []) (bill ∷ []) result c.in_ok-take_notice-in-3.ensures.takes c.take_notice-in-3-2.ensures.takes)
