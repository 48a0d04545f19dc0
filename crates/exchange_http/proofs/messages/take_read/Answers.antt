-- A message that was read is taken, and more may come or none.
use Rattle.std.proofs.Common.{refl, sym, ◌∙◌}
use Rattle.http_connection.specs.Answers.{Shows}
use Rattle.exchange_messages.specs.Floors.{IsMomentOf}
use Rattle.fan_out.specs.Lanes.{works}
use Rattle.exchange_http.proofs.Causes.{reads_nothing}
use Rattle.exchange_http.proofs.Nexts.{next_last, next_on, next_stops}
use Rattle.exchange_http.proofs.messages.take_read.Goals as goal

pub returns-then-message-clause-gives : goal.returns-then-message-clause-gives
returns-then-message-clause-gives g c =
    λ start lanes tape tape_old tape_now ahead ahead_now count before m less shows one advances w.
    next_on g.Y.DayDesk (works g.L.Link) (IsMomentOf (g.C.Clock.moment c.args.floor.now.clock.now)) c.args.floor.now.roster.now start lanes tape tape_old tape_now ahead ahead_now count before c.args.floor.now.desk c.args.floor.now.lanes.now.items c.args.keeping.now.waiting.batch.calls (g.O.Outlet.held c.args.keeping.now.outlet) (g.O.Outlet.least c.args.keeping.now.outlet) (g.O.Outlet.waiting c.args.keeping.now.outlet) c.take_message.new.floor.desk c.take_message.new.floor.lanes.now.items c.take_message.new.keeping.waiting.batch.calls (g.O.Outlet.held c.take_message.new.keeping.outlet) (g.O.Outlet.least c.take_message.new.keeping.outlet) (g.O.Outlet.waiting c.take_message.new.keeping.outlet) m (sym (Shows.keep shows) ∙ c.if-message.true) less one advances
    (λ coming way. c.in-Ok.ensures.goes_on start lanes tape tape_now coming before m shows way) w

pub returns-then-message-clause-causes : goal.returns-then-message-clause-causes
returns-then-message-clause-causes g c = λ faults. (refl, c.in-Ok.ensures.causes)

pub returns-else-message-clause-gives : goal.returns-else-message-clause-gives
returns-else-message-clause-gives g c =
    λ start lanes tape tape_old tape_now ahead ahead_now count before m less shows one advances w.
    next_last g.Y.DayDesk (works g.L.Link) (IsMomentOf (g.C.Clock.moment c.args.floor.now.clock.now)) c.args.floor.now.roster.now start lanes tape tape_old tape_now ahead ahead_now count before c.args.floor.now.desk c.args.floor.now.lanes.now.items c.args.keeping.now.waiting.batch.calls (g.O.Outlet.held c.args.keeping.now.outlet) (g.O.Outlet.least c.args.keeping.now.outlet) (g.O.Outlet.waiting c.args.keeping.now.outlet) c.take_message.new.floor.desk c.take_message.new.floor.lanes.now.items c.take_message.new.keeping.waiting.batch.calls (g.O.Outlet.held c.take_message.new.keeping.outlet) (g.O.Outlet.least c.take_message.new.keeping.outlet) (g.O.Outlet.waiting c.take_message.new.keeping.outlet) m (sym (Shows.keep shows) ∙ c.if-message.false) less one advances
    (λ coming way. c.in-Ok.ensures.goes_on start lanes tape tape_now coming before m shows way) w

pub returns-else-message-clause-causes : goal.returns-else-message-clause-causes
returns-else-message-clause-causes g c = λ faults. (refl, c.in-Ok.ensures.causes)

pub returns-in-Err-clause-gives : goal.returns-in-Err-clause-gives
returns-in-Err-clause-gives g c =
    λ start lanes tape tape_old tape_now ahead ahead_now count before m less shows one advances w.
    next_stops g.Y.DayDesk (works g.L.Link) (IsMomentOf (g.C.Clock.moment c.args.floor.now.clock.now)) c.args.floor.now.roster.now start lanes tape tape_old tape_now ahead ahead_now count before c.args.floor.now.desk c.args.floor.now.lanes.now.items c.args.keeping.now.waiting.batch.calls (g.O.Outlet.held c.args.keeping.now.outlet) (g.O.Outlet.least c.args.keeping.now.outlet) (g.O.Outlet.waiting c.args.keeping.now.outlet) m less one advances
    (λ coming way. c.in-Err.ensures.stops start lanes tape tape_now coming before m shows way) w

pub returns-in-Err-clause-causes : goal.returns-in-Err-clause-causes
returns-in-Err-clause-causes g c = λ faults. reads_nothing faults (g.O.Outlet.faults c.args.keeping.now.outlet) (g.O.Outlet.faults c.take_message.new.keeping.outlet) c.in-Err.stop c.in-Err.ensures.causes
