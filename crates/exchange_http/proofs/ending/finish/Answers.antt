-- All replies are put, and then the connection ends.
use Rattle.exchange_http.specs.Running.{EndsOver, ended}
use Rattle.exchange_messages.specs.Floors.{IsMomentOf}
use Rattle.fan_out.specs.Lanes.{works}
use Rattle.exchange_http.proofs.Along.{if_ok_by, on_err_by}
use Rattle.exchange_http.proofs.Causes.{cause_after, ends_so}
use Rattle.exchange_http.proofs.Ended.{over_ends, over_fails}
use Rattle.exchange_http.proofs.ending.finish.Goals as goal

pub returns-in-Ok-clause-ends : goal.returns-in-Ok-clause-ends
returns-in-Ok-clause-ends g c =
    if_ok_by (EndsOver (g.O.Outlet.held c.put_all_out.new.keeping.outlet) (g.O.Outlet.sunk c.end_so.new.outlet) c.args.over) c.end_so.result c.end_so.ensures.ends
    (λ end is start lanes tape tape_now before w.
    over_ends g.Y.DayDesk (works g.L.Link) (IsMomentOf (g.C.Clock.moment c.args.floor.now.clock.now)) c.args.floor.now.roster.now start lanes tape tape_now before c.put_all_out.new.floor.desk
    c.put_all_out.new.floor.lanes.now.items (g.O.Outlet.held c.put_all_out.new.keeping.outlet) (g.O.Outlet.sunk c.end_so.new.outlet) (g.O.Outlet.least c.put_all_out.new.keeping.outlet) (g.O.Outlet.waiting c.put_all_out.new.keeping.outlet) c.args.over end
    (c.in-Ok.ensures.goes_on start lanes tape tape_now (ended c.args.over) before w) is)

pub returns-in-Ok-clause-by : goal.returns-in-Ok-clause-by
returns-in-Ok-clause-by g c =
    if_ok_by (EndsOver (g.O.Outlet.held c.put_all_out.new.keeping.outlet) (g.O.Outlet.sunk c.end_so.new.outlet) c.args.over) c.end_so.result c.end_so.ensures.ends (λ end is. ends_so (g.O.Outlet.held c.put_all_out.new.keeping.outlet) (g.O.Outlet.sunk c.end_so.new.outlet) c.args.over end is)

pub returns-in-Ok-clause-cause : goal.returns-in-Ok-clause-cause
returns-in-Ok-clause-cause g c = cause_after (g.O.Outlet.faults c.args.keeping.now.outlet) (g.O.Outlet.faults c.put_all_out.new.keeping.outlet) (g.O.Outlet.faults c.end_so.new.outlet) c.end_so.result c.in-Ok.ensures.cause.passed c.end_so.ensures.cause

pub returns-in-Ok-clause-fails : goal.returns-in-Ok-clause-fails
returns-in-Ok-clause-fails g c =
    on_err_by (EndsOver (g.O.Outlet.held c.put_all_out.new.keeping.outlet) (g.O.Outlet.sunk c.end_so.new.outlet) c.args.over) c.end_so.result c.end_so.ensures.ends
    (λ failed is start lanes tape tape_now before w.
    over_fails g.Y.DayDesk (works g.L.Link) (IsMomentOf (g.C.Clock.moment c.args.floor.now.clock.now)) c.args.floor.now.roster.now start lanes tape tape_now before c.put_all_out.new.floor.desk
    c.put_all_out.new.floor.lanes.now.items (g.O.Outlet.held c.put_all_out.new.keeping.outlet) (g.O.Outlet.sunk c.end_so.new.outlet) (g.O.Outlet.least c.put_all_out.new.keeping.outlet) (g.O.Outlet.waiting c.put_all_out.new.keeping.outlet) c.args.over failed
    (c.in-Ok.ensures.goes_on start lanes tape tape_now (ended c.args.over) before w) is)

pub returns-in-Err-clause-fails : goal.returns-in-Err-clause-fails
returns-in-Err-clause-fails g c = λ start lanes tape tape_now before w. c.in-Err.ensures.fails start lanes tape tape_now (ended c.args.over) before w
