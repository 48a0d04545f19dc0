-- The refusal, or some front of it, after all that was put.
use Rattle.std.proofs.Common.{[], refl, sym, ◌∙◌, take, drop, arith, append-nil}
use Rattle.std.proofs.lemmas.List.{take-append-drop}
use Rattle.http_service.specs.Replies.{refusal_bytes}
use Rattle.exchange_http.proofs.Causes.{cause_err, cause_of_write, cause_ok}
use Rattle.exchange_http.proofs.Ended.{refusal_failed, refusal_put}
use Rattle.exchange_http.proofs.ending.refuse_by.Goals as goal

pub returns-in-Ok-put_out-clause-ends : goal.returns-in-Ok-put_out-clause-ends
returns-in-Ok-put_out-clause-ends g c = (
  refl,
  refusal_put (g.O.Outlet.held c.args.outlet.now) (g.O.Outlet.sunk c.put_out.new.self) (g.O.Outlet.held c.put_out.new.self) (g.O.Outlet.left c.put_out.new.self) c.args.fault c.args.status c.requires.status (c.put_out.ensures.held ∙ c.in-Ok.ensures.written) (g.met.O.Outlet.is_held c.put_out.new.self)
      c.in-Ok-put_out.ensures.all.0,
)

pub returns-in-Ok-put_out-clause-cause : goal.returns-in-Ok-put_out-clause-cause
returns-in-Ok-put_out-clause-cause g c = cause_ok (g.O.Outlet.faults c.args.outlet.now) (g.O.Outlet.faults c.refuse.new.self) (g.O.Outlet.faults c.put_out.new.self) _ _ c.in-Ok.ensures.cause.passed c.in-Ok-put_out.ensures.cause

pub returns-in-Err-put_out-clause-ends : goal.returns-in-Err-put_out-clause-ends
returns-in-Err-put_out-clause-ends g c =
    refusal_failed (g.O.Outlet.held c.args.outlet.now) (g.O.Outlet.sunk c.put_out.new.self) (g.O.Outlet.held c.put_out.new.self) (refusal_bytes c.args.status) [] (g.O.Outlet.left c.put_out.new.self) c.args.fault c.args.status (g.O.Outlet.least c.put_out.new.self) c.requires.status (sym (append-nil (refusal_bytes c.args.status)))
    (c.put_out.ensures.held ∙ c.in-Ok.ensures.written) (g.met.O.Outlet.is_held c.put_out.new.self) (omega (arith, c.in-Err-put_out.ensures.failed.1, c.in-Ok.ensures.same.1, c.requires.settled.all)) (g.met.O.Outlet.is_least c.put_out.new.self)

pub returns-in-Err-put_out-clause-cause : goal.returns-in-Err-put_out-clause-cause
returns-in-Err-put_out-clause-cause g c = cause_err (g.O.Outlet.faults c.args.outlet.now) (g.O.Outlet.faults c.refuse.new.self) (g.O.Outlet.faults c.put_out.new.self) _ _ c.in-Ok.ensures.cause.passed c.in-Err-put_out.ensures.cause

pub returns-in-Err-clause-ends : goal.returns-in-Err-clause-ends
returns-in-Err-clause-ends g c =
    let n = c.in-Err.ensures.written.0 in
    refusal_failed (g.O.Outlet.held c.args.outlet.now) (g.O.Outlet.sunk c.refuse.new.self) (g.O.Outlet.held c.refuse.new.self) (take n (refusal_bytes c.args.status)) (drop n (refusal_bytes c.args.status)) (g.O.Outlet.left c.refuse.new.self) c.args.fault c.args.status (g.O.Outlet.least c.refuse.new.self) c.requires.status
    (sym (take-append-drop n (refusal_bytes c.args.status))) c.in-Err.ensures.written.2 (g.met.O.Outlet.is_held c.refuse.new.self) (omega (arith, c.in-Err.ensures.same.1, c.requires.settled.all)) (g.met.O.Outlet.is_least c.refuse.new.self)

pub returns-in-Err-clause-cause : goal.returns-in-Err-clause-cause
returns-in-Err-clause-cause g c = cause_of_write (g.O.Outlet.faults c.args.outlet.now) (g.O.Outlet.faults c.refuse.new.self) _ _ c.in-Err.ensures.cause
