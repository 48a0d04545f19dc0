-- One more reason.
use Rattle.std.proofs.Common.{◌++◌, map, take, get_or, decimal, string_bytes, sym, ap, refl, ◌∙◌, append_assoc, arith}
use Rattle.std.specs.List.{join_with_byte}
use Rattle.adx_units.specs.declared.offer.Offer.{Offer}
use Rattle.allocator_core.specs.Choice.{no_offer}
use Rattle.answer_lines.specs.Steps.{comma_behind}
use Rattle.answer_lines.proofs.Joined.{joined_more}
use Rattle.answer_lines.proofs.awards.push_reasons.Goals as goal

pub loop-place-preserved : goal.loop-place-preserved
loop-place-preserved c =
    let i = c.loop-place.place in
    let xs = c.args.offers.now in
    let f = λ (o : Offer). decimal o.reason in
    let before = join_with_byte 44 (map f (take i xs)) in
    c.in_ok-push_next_reason.ensures ∙ ap (λ b. b ++ (comma_behind i ++ f (get_or xs i no_offer))) c.loop-place.invariant
    ∙ append_assoc (string_bytes c.args.out.now) before (comma_behind i ++ f (get_or xs i no_offer))
    ∙ ap (λ b. string_bytes c.args.out.now ++ b) (sym (joined_more f xs i no_offer (get_or xs i no_offer) (omega arith) refl))
