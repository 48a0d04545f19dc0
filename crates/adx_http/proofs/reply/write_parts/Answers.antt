-- The parts of the reply, one after another.
use Rattle.std.proofs.Common.{[], sym, ◌∙◌}
use Rattle.adx_http.specs.Replies.{reply_bytes}
use Rattle.adx_http.proofs.Holding.{begun, written, half_written}
use Rattle.adx_http.proofs.reply.write_parts.Goals as goal

pub returns-then-finish-clause-taken : goal.returns-then-finish-clause-taken
returns-then-finish-clause-taken g c =
    let old = g.K.Sink.held c.args.sink.now in
    let before = g.K.Sink.faults c.args.sink.now in
    let a = c.push_status.ensures.holds old before [] (begun old before c.new-gathered.result c.new-gathered.ensures.failed c.new-gathered.ensures.len) in
    let b = c.push_fields.ensures.holds old before _ a in
    let d = c.push.ensures.holds old before _ b in
    let e = c.push_body.ensures.holds old before _ d in
    let f = c.finish.ensures.holds old before _ e in
    (half_written old (g.K.Sink.held c.finish.new.sink) before (g.K.Sink.faults c.finish.new.sink) c.finish.new.self (reply_bytes c.args.reply.now) _ (sym c.finish.ensures.result ∙ c.if-finish.true) f).0

pub returns-then-finish-clause-cause : goal.returns-then-finish-clause-cause
returns-then-finish-clause-cause g c =
    let old = g.K.Sink.held c.args.sink.now in
    let before = g.K.Sink.faults c.args.sink.now in
    let a = c.push_status.ensures.holds old before [] (begun old before c.new-gathered.result c.new-gathered.ensures.failed c.new-gathered.ensures.len) in
    let b = c.push_fields.ensures.holds old before _ a in
    let d = c.push.ensures.holds old before _ b in
    let e = c.push_body.ensures.holds old before _ d in
    let f = c.finish.ensures.holds old before _ e in
    (half_written old (g.K.Sink.held c.finish.new.sink) before (g.K.Sink.faults c.finish.new.sink) c.finish.new.self (reply_bytes c.args.reply.now) _ (sym c.finish.ensures.result ∙ c.if-finish.true) f).1

pub returns-else-finish-clause-taken : goal.returns-else-finish-clause-taken
returns-else-finish-clause-taken g c =
    let old = g.K.Sink.held c.args.sink.now in
    let before = g.K.Sink.faults c.args.sink.now in
    let a = c.push_status.ensures.holds old before [] (begun old before c.new-gathered.result c.new-gathered.ensures.failed c.new-gathered.ensures.len) in
    let b = c.push_fields.ensures.holds old before _ a in
    let d = c.push.ensures.holds old before _ b in
    let e = c.push_body.ensures.holds old before _ d in
    let f = c.finish.ensures.holds old before _ e in
    let sound = sym c.finish.ensures.result ∙ c.if-finish.false in
    (written old (g.K.Sink.held c.finish.new.sink) before (g.K.Sink.faults c.finish.new.sink) c.finish.new.self (reply_bytes c.args.reply.now) _ sound (c.finish.ensures.len sound) f).0

pub returns-else-finish-clause-cause : goal.returns-else-finish-clause-cause
returns-else-finish-clause-cause g c =
    let old = g.K.Sink.held c.args.sink.now in
    let before = g.K.Sink.faults c.args.sink.now in
    let a = c.push_status.ensures.holds old before [] (begun old before c.new-gathered.result c.new-gathered.ensures.failed c.new-gathered.ensures.len) in
    let b = c.push_fields.ensures.holds old before _ a in
    let d = c.push.ensures.holds old before _ b in
    let e = c.push_body.ensures.holds old before _ d in
    let f = c.finish.ensures.holds old before _ e in
    let sound = sym c.finish.ensures.result ∙ c.if-finish.false in
    (written old (g.K.Sink.held c.finish.new.sink) before (g.K.Sink.faults c.finish.new.sink) c.finish.new.self (reply_bytes c.args.reply.now) _ sound (c.finish.ensures.len sound) f).1
