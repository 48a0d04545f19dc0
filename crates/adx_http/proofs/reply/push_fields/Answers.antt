-- The field lines, one after another.
use Rattle.std.proofs.Common.{◌≡◌, length, decimal, codes, not, ◌==◌, subst, ◌∙◌}
use Rattle.adx_http.specs.Gathering.{Holds}
use Rattle.adx_http.specs.Replies.{when, field_line, has_type, has_body}
use Rattle.adx_http.proofs.Holding.{joined_five}
use Rattle.adx_http.proofs.reply.push_fields.Goals as goal

pub returns-clause-holds : goal.returns-clause-holds
returns-clause-holds g c = λ old before bytes h.
    let r = c.args.reply.now in
    let text : c.as_bytes-length.result.now ≡ decimal (length r.body.now) = c.as_bytes-length.ensures.value ∙ c.format.ensures.text in
    let a = c.push_field.ensures.holds old before bytes h in
    let b = c.push_field-2.ensures.holds old before _ a in
    let d = c.push_field-3.ensures.holds old before _ b in
    let e = c.push_field-4.ensures.holds old before _ d in
    let f = c.push_field-5.ensures.holds old before _ e in
    subst (λ all. Holds old before (g.K.Sink.held c.push_field-5.new.sink) (g.K.Sink.faults c.push_field-5.new.sink) c.push_field-5.new.gathered all)
    (joined_five bytes
    (when (has_type r) (field_line (codes "Content-Type") (codes "application/json")))
    (when r.openrtb (field_line (codes "x-openrtb-version") (codes "2.6")))
    (when (not (length r.allow.now == 0)) (field_line (codes "Allow") r.allow.now))
    (when (has_body r) (field_line (codes "Content-Length") (decimal (length r.body.now))))
    (when r.close (field_line (codes "Connection") (codes "close"))))
    (rw (c.has_type.ensures, c.is_empty.ensures, c.has_body.ensures, text) at f)
