use Rattle.day_rules.proofs.Texts.{one_more_text}
use Rattle.shared_desk_tests.proofs.days.texts.Goals as goal

pub loop-place-preserved : goal.loop-place-preserved
loop-place-preserved c =
    rw c.in_ok-push.ensures.items
    (one_more_text c.loop-place.kept.items c.loop-place.place c.in_ok-texts_of.field-0 c.loop-place.invariant.0 c.loop-place.invariant.1 c.loop-place.invariant.2 c.in_ok-texts_of.ensures.bid c.in_ok-texts_of.ensures.short)
