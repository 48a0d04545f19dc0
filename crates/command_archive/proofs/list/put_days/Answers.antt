-- What the keeper answered was put, or memory was refused.
use Rattle.std.proofs.Common.{◌≡◌, ◌∙◌, [], refl, rules, string_bytes}
use Rattle.command_archive.specs.Lists.{unlisted}
use Rattle.command_archive.proofs.Listed.{listed_as}
use Rattle.command_archive.proofs.list.put_days.Goals as goal

pub returns-in-Ok-clause-lists : goal.returns-in-Ok-clause-lists
returns-in-Ok-clause-lists g c =
    let d = c.in-Ok.ensures.listed in
    let same : c.as_str.result.now ≡ string_bytes c.list_days-listed.new.out = search rules in
    let empty : string_bytes c.new-out.result ≡ [] = search rules in
    listed_as g.P.Keeper c.args.query.now c.args.keeper.now c.list_days-listed.new.keeper (g.K.Sink.held c.args.sink.now) (g.K.Sink.held c.put_end.new.sink)
    c.as_str-seat.result.now c.as_str-cid.result.now c.as_str-first.result.now c.as_str-last.result.now (string_bytes c.new-out.result) c.as_str.result.now c.in-Ok.end c.outcome_of.result c.put_end.result
    c.as_str-seat.ensures.value c.as_str-cid.ensures.value c.as_str-first.ensures.value c.as_str-last.ensures.value
    (d.0, same ∙ d.1, d.2) empty c.in-Ok.ensures.cause c.outcome_of.ensures c.put_end.ensures.puts c.put_end.ensures.may

pub returns-clause-lists : goal.returns-clause-lists
returns-clause-lists g c = (unlisted, record { memory = refl; kept = c.in-Err.ensures.refused; faults = c.in-Err.ensures.stands }, refl)
