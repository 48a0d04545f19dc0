use Rattle.std.proofs.Common.{sym, ap, ◌∙◌, not}
use Rattle.std.specs.List.{list_any}
use Rattle.adx_json.specs.Repeats.{stays}
use Rattle.adx_json.proofs.Stays.{all_stay}
use Rattle.adx_json.proofs.repeats.last_of_many.Goals as goal

pub returns-then-not-has_repeats : goal.returns-then-not-has_repeats
returns-then-not-has_repeats c = all_stay c.args.members.items
    (ap (λ ms. list_any not (stays ms)) (sym c.as_slice.ensures.value) ∙ ap (list_any not) (sym c.in_ok-told.ensures ∙ sym c.as_slice-2.ensures.value) ∙ sym c.has_repeats.ensures ∙ c.if-not-has_repeats.true)
