use Rattle.std.proofs.Common.{sym, ap, ◌∙◌, subst}
use Rattle.std.specs.List.{prefix_len}
use Rattle.std.specs.Str.{IsCharBoundary}
use Rattle.adx_units.specs.JsonTexts.{is_bare}
use Rattle.adx_units.proofs.Bare.{run_passes, run_stops, bare_boundary}
use Rattle.adx_units.proofs.escape.bare_run.Goals as goal

pub split_at-requires : goal.split_at-requires
split_at-requires c =
    let len = c.bare_len-len.ensures ∙ ap (prefix_len is_bare) c.as_bytes.ensures.value in
    subst (IsCharBoundary c.args.text.now) (sym len) (bare_boundary c.args.text.now)

pub returns-clause-bare : goal.returns-clause-bare
returns-clause-bare c =
    let len = c.bare_len-len.ensures ∙ ap (prefix_len is_bare) c.as_bytes.ensures.value in
    rw (c.split_at.ensures.front, len) (run_passes is_bare c.args.text.now)

pub returns-clause-stops : goal.returns-clause-stops
returns-clause-stops c =
    let len = c.bare_len-len.ensures ∙ ap (prefix_len is_bare) c.as_bytes.ensures.value in
    rw (c.split_at.ensures.back, len) (run_stops is_bare c.args.text.now)
