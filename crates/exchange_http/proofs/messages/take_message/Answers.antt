-- A message is taken by what it wants.
use Rattle.std.proofs.Common.{◌≡◌, ℕ, List, Result, Ok, IfOk, sym, ap, ◌∙◌, subst}
use Rattle.std.specs.Cow.{cow_str_bytes}
use Rattle.adx_units.specs.declared.memory.OutOfMemory.{OutOfMemory}
use Rattle.http_connection.specs.Answers.{Shows}
use Rattle.http_connection.specs.Messages.{Request}
use Rattle.http_connection.specs.declared.conn.Message.{Message}
use Rattle.http_grammar.specs.Requests.{is_kept}
use Rattle.notice_book.specs.declared.kind.NoticeKind.{NoticeKind}
use Rattle.exchange_messages.specs.Meanings.{Means, notifies}
use Rattle.exchange_http.specs.Running.{before_one}
use Rattle.exchange_messages.specs.Floors.{IsMomentOf}
use Rattle.fan_out.specs.Lanes.{works}
use Rattle.exchange_messages.specs.Wants.{Wants}
use Rattle.exchange_messages.specs.declared.wanted.Wanted.{Wanted}
use Rattle.exchange_http.proofs.Along.{on_err, on_ok}
use Rattle.exchange_http.proofs.Causes.{settled_sunk}
use Rattle.exchange_http.proofs.OneMore.{kept_not, none_made, one_given_up}
use Rattle.exchange_http.proofs.messages.take_message.Goals as goal

-- what a message wants, by what was found of it
wants_it : (result : Result Wanted OutOfMemory) (shown : Message) (w : Wanted) → result ≡ Ok w → IfOk result (λ x. (m : Request) → Shows shown m → Wants m x) → (m : Request) → Shows shown m → Wants m w
wants_it result shown w is found = subst (λ (r : Result Wanted OutOfMemory). IfOk r (λ x. (m : Request) → Shows shown m → Wants m x)) is found

-- its auction as a text
means_text : (m : Request) (kind : NoticeKind) (auction text : List ℕ) (award : ℕ) → text ≡ auction → Means m (notifies kind auction award) → Means m (notifies kind text award)
means_text m kind auction text award is means = subst (λ (b : List ℕ). Means m (notifies kind b award)) (sym is) means

pub returns-in-Ok-clause-goes_on : goal.returns-in-Ok-clause-goes_on
returns-in-Ok-clause-goes_on g c =
    λ start lanes tape tape_now coming before m shows w.
    c.in-Ok.ensures.goes_on start lanes tape tape_now coming before m (means_text m c.in-Ok-Notice.kind (cow_str_bytes c.in-Ok-Notice.auction) c.as_str.result.now c.in-Ok-Notice.award c.as_str.ensures.value (wants_it c.wanted_by.result c.args.message.now (Wanted.Notice c.in-Ok-Notice.kind c.in-Ok-Notice.auction c.in-Ok-Notice.award) (c.in-Ok-Notice.is ∙ ap Ok c.in-Ok-Notice.field-0-is) c.wanted_by.ensures m shows), kept_not c.args.message.now.keep (is_kept m.head) (Shows.keep shows)) w

pub returns-in-Ok-Notice-clause-stops : goal.returns-in-Ok-Notice-clause-stops
returns-in-Ok-Notice-clause-stops g c =
    λ start lanes tape tape_now coming before m shows w.
    c.in-Err-take_notice.ensures.fails start lanes tape tape_now coming before m (means_text m c.in-Ok-Notice.kind (cow_str_bytes c.in-Ok-Notice.auction) c.as_str.result.now c.in-Ok-Notice.award c.as_str.ensures.value (wants_it c.wanted_by.result c.args.message.now (Wanted.Notice c.in-Ok-Notice.kind c.in-Ok-Notice.auction c.in-Ok-Notice.award) (c.in-Ok-Notice.is ∙ ap Ok c.in-Ok-Notice.field-0-is) c.wanted_by.ensures m shows), kept_not c.args.message.now.keep (is_kept m.head) (Shows.keep shows)) w

pub returns-in-Ok-Other-clause-goes_on : goal.returns-in-Ok-Other-clause-goes_on
returns-in-Ok-Other-clause-goes_on g c =
    on_ok c.take_other.result c.take_other.ensures.goes_on (λ step start lanes tape tape_now coming before m shows w. step start lanes tape tape_now coming before m (shows, wants_it c.wanted_by.result c.args.message.now (Wanted.Other c.in-Ok-Other.other) (c.in-Ok-Other.is ∙ ap Ok c.in-Ok-Other.field-0-is) c.wanted_by.ensures m shows) w)

pub returns-in-Ok-Other-clause-stops : goal.returns-in-Ok-Other-clause-stops
returns-in-Ok-Other-clause-stops g c =
    on_err c.take_other.result c.take_other.ensures.stops (λ stop step start lanes tape tape_now coming before m shows w. step start lanes tape tape_now coming before m (shows, wants_it c.wanted_by.result c.args.message.now (Wanted.Other c.in-Ok-Other.other) (c.in-Ok-Other.is ∙ ap Ok c.in-Ok-Other.field-0-is) c.wanted_by.ensures m shows) w)

pub returns-in-Ok-put_all_out-clause-stops : goal.returns-in-Ok-put_all_out-clause-stops
returns-in-Ok-put_all_out-clause-stops g c =
    λ start lanes tape tape_now coming before m shows w.
    one_given_up g.Y.DayDesk (works g.L.Link) (IsMomentOf (g.C.Clock.moment c.args.floor.now.clock.now)) c.args.floor.now.roster.now g.met.Y.DayDesk.join start lanes tape tape_now coming before c.put_all_out.new.floor.desk c.put_all_out.new.floor.desk c.put_all_out.new.floor.lanes.now.items c.put_all_out.new.floor.lanes.now.items (g.O.Outlet.held c.put_all_out.new.keeping.outlet) (g.O.Outlet.sunk c.put_all_out.new.keeping.outlet) (g.O.Outlet.least c.put_all_out.new.keeping.outlet) (g.O.Outlet.waiting c.put_all_out.new.keeping.outlet) m
    (c.in-Ok-put_all_out.ensures.goes_on start lanes tape tape_now (before_one m coming) before w)
    (settled_sunk (g.O.Outlet.held c.put_all_out.new.keeping.outlet) (g.O.Outlet.sunk c.put_all_out.new.keeping.outlet) (g.O.Outlet.left c.put_all_out.new.keeping.outlet) (g.O.Outlet.least c.put_all_out.new.keeping.outlet) c.in-Ok-put_all_out.ensures.settled (g.met.O.Outlet.is_held c.put_all_out.new.keeping.outlet) (g.met.O.Outlet.is_least c.put_all_out.new.keeping.outlet))
    (none_made g.Y.DayDesk (works g.L.Link) (IsMomentOf (g.C.Clock.moment c.args.floor.now.clock.now)) c.args.floor.now.roster.now c.put_all_out.new.floor.desk c.put_all_out.new.floor.lanes.now.items m (g.met.Y.DayDesk.none c.put_all_out.new.floor.desk))

pub returns-clause-stops : goal.returns-clause-stops
returns-clause-stops g c = λ start lanes tape tape_now coming before m shows w. c.in-Err-put_all_out.ensures.fails start lanes tape tape_now (before_one m coming) before w

pub returns-in-Ok-put_all_out-clause-causes : goal.returns-in-Ok-put_all_out-clause-causes
returns-in-Ok-put_all_out-clause-causes g c = c.in-Ok-put_all_out.ensures.cause.passed
