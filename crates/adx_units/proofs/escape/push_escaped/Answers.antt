use Rattle.std.proofs.Common.{◌≡◌, ◌++◌, length, drop, string_bytes, sym, ap, ◌∙◌, subst}
use Rattle.std.specs.List.{flat_map}
use Rattle.std.specs.Str.{IsUtf8}
use Rattle.adx_units.specs.JsonTexts.{escape}
use Rattle.adx_units.proofs.Escapes.{runs_end, runs_more, behind_escaped}
use Rattle.adx_units.proofs.escape.push_escaped.Goals as goal

pub returns-in_default : goal.returns-in_default
returns-in_default c =
    runs_end (string_bytes c.runs.out) (string_bytes c.push_str.new.self) c.runs.left.now c.bare_run.result.0.now c.bare_run.result.1.now _ c.in_ok-push_str.ensures.bytes c.bare_run.ensures.whole c.bare_run.ensures.bare (sym (ap length c.as_bytes.ensures.value) ∙ c.in_default.ensures.cases) c.runs.invariant.0

pub range_from-left-requires : goal.range_from-left-requires
range_from-left-requires c some =
    let first = sym c.as_bytes.ensures.value ∙ c.in-Some.ensures.cases.0 in
    let text : IsUtf8 c.bare_run.result.1.now = subst IsUtf8 c.as_bytes.ensures.value c.as_bytes.ensures.utf8 in
    behind_escaped c.bare_run.result.1.now c.in-Some.byte.now c.in-Some.field-0-1.now text first c.bare_run.ensures.stops

pub runs-preserved : goal.runs-preserved
runs-preserved c =
    let first = sym c.as_bytes.ensures.value ∙ c.in-Some.ensures.cases.0 in
    let left : c.range_from-left.result.now ≡ c.in-Some.field-0-1.now = c.range_from-left.ensures.value ∙ ap (drop 1) first in (
      ap (λ bs. string_bytes c.push_escape.new.out ++ flat_map escape bs) left
          ∙ runs_more (string_bytes c.runs.out) (string_bytes c.push_str.new.self) (string_bytes c.push_escape.new.out) c.runs.left.now c.bare_run.result.0.now c.bare_run.result.1.now _ c.in-Some.byte.now c.in-Some.field-0-1.now c.in_ok-push_str.ensures.bytes c.bare_run.ensures.whole c.bare_run.ensures.bare first c.in_ok-push_escape.ensures c.runs.invariant.0,
      c.range_from-left.utf8,
    )
