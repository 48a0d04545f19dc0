-- A batch that was emptied, or that a notice joined.
use Rattle.std.proofs.Common.{◌≡◌, ◌+◌, ◌≤◌, List, [], ◌∷◌, ◌++◌, length, Bool, true, false, MatchBool, None, refl, sym, ap, ◌∙◌, subst, arith}
use Rattle.std.specs.List.{IsDistinct}
use Rattle.day_rules.specs.Laws.{Arrival}
use Rattle.day_machine.specs.Batches.{AreApart, BatchState, MayJoin, joined}
use Rattle.day_machine.specs.BatchFields.{AreCalls}
use Rattle.day_machine.specs.declared.batch.TheConstants.{BATCH_LIMIT}
use Rattle.day_machine.proofs.Calls.{more_calls}

-- no notice is apart from others
none_apart : AreApart []
unfolding IsDistinct
none_apart = tt

pub empty_apart : (calls : List Arrival) → calls ≡ [] → AreApart calls
empty_apart calls none = subst AreApart (sym none) none_apart

-- a batch that was emptied waits, has room and is apart
pub emptied : (b : BatchState) → b ≡ record { calls = []; answers = None } → (b.answers ≡ None) × (length b.calls ≤ BATCH_LIMIT) × AreApart b.calls
emptied b is = (ap (λ (s : BatchState). s.answers) is, subst (λ (s : BatchState). length s.calls ≤ BATCH_LIMIT) (sym is) (omega arith), empty_apart b.calls (ap (λ (s : BatchState). s.calls) is))

-- a batch that a notice joined, or that is as it was, waits, has room and is apart
pub joins : (b : Bool) (old new : BatchState) (x : Arrival) → MatchBool b (MayJoin old x × (new ≡ joined old x)) ((MayJoin old x → ⊥) × (new ≡ old)) → old.answers ≡ None → length old.calls ≤ BATCH_LIMIT → AreApart old.calls
    → (new.answers ≡ None) × (length new.calls ≤ BATCH_LIMIT) × AreApart new.calls
joins true old new x clause waits few apart =
    let may = clause.0 in
    let is : new.calls ≡ old.calls ++ x ∷ [] = ap (λ (s : BatchState). s.calls) clause.1 in
    let are : AreCalls old.calls [] false BATCH_LIMIT BATCH_LIMIT = record { few = few; calls_room = omega arith; answers_room = omega arith; apart = apart; waits = λ ran. refl } in
    let more = more_calls old.calls new.calls [] false BATCH_LIMIT BATCH_LIMIT BATCH_LIMIT x.award x are may.room refl may.new is refl in
    (ap (λ (s : BatchState). s.answers) clause.1 ∙ waits, more.few, more.apart)
joins false old new x clause waits few apart =
    let is = clause.1 in
    (ap (λ (s : BatchState). s.answers) is ∙ waits, subst (λ (s : BatchState). length s.calls ≤ BATCH_LIMIT) (sym is) few, subst (λ (s : BatchState). AreApart s.calls) (sym is) apart)
