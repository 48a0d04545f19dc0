-- What the fields of a batch keep.
use Rattle.std.proofs.Common.{◌≡◌, ℕ, ◌<◌, ◌≤◌, List, [], ◌∷◌, ◌++◌, map, length, Bool, true, false, ◌||◌, eqb, refl, sym, ◌∙◌, ap, subst, arith, inl, inr, Some, None, length-append}
use Rattle.std.specs.Cmp.{IsEquivalence}
use Rattle.std.specs.List.{IsDistinct, list_any}
use Rattle.std.proofs.lemmas.Bool.{cases_Bool, eq-eqb, eqb-true, false≢true, false_from_ne_true, true≢false}
use Rattle.std.proofs.lemmas.List.{map-append}
use Rattle.std.proofs.lemmas.Map.Keys.{IsDistinct-push}
use Rattle.std.proofs.lemmas.Option.{none-some, same_Some}
use Rattle.day_rules.specs.declared.answer.Answer.{Answer}
use Rattle.day_rules.specs.Laws.{Arrival}
use Rattle.day_machine.specs.Batches.{AreApart}
use Rattle.day_machine.specs.BatchFields.{AreCalls, answers_by}
use Rattle.day_machine.specs.declared.batch.TheConstants.{BATCH_LIMIT}

apart_none : AreApart []
unfolding IsDistinct
apart_none = tt

-- without calls
pub no_calls : (calls : List Arrival) (answers : List Answer) (call_room answer_room : ℕ) → calls ≡ [] → answers ≡ [] → BATCH_LIMIT ≤ call_room → BATCH_LIMIT ≤ answer_room → AreCalls calls answers false call_room answer_room
no_calls calls answers call_room answer_room none unanswered calls_room answers_room = record {
  few = omega (arith, ap length none);
  calls_room = calls_room;
  answers_room = answers_room;
  apart = subst AreApart (sym none) apart_none;
  waits = λ ran. unanswered;
}

same_eqb : (n m : ℕ) → eqb n m ≡ eqb m n
same_eqb n m = elim (cases_Bool (eqb n m)) [
  | inl same ↦ same ∙ sym (eq-eqb m n (sym (eqb-true n m same)))
  | inr other ↦ other ∙ sym (false_from_ne_true (eqb m n) (λ same. false≢true (sym other ∙ eq-eqb n m (sym (eqb-true m n same)))))
]

number_laws : IsEquivalence eqb
number_laws = record {
  refl = λ n. eq-eqb n n refl;
  symm = same_eqb;
  congr = λ n m k same. ap (λ (x : ℕ). eqb x k) (eqb-true n m same);
}

any_number : (n : ℕ) (calls : List Arrival) → list_any (eqb n) (map (λ (c : Arrival). c.award) calls) ≡ list_any (λ (c : Arrival). eqb n c.award) calls
any_number n [] = refl
any_number n (c ∷ cs) = ap (λ (b : Bool). eqb n c.award || b) (any_number n cs)

-- with one call more
pub more_calls : (calls new : List Arrival) (answers : List Answer) (ran : Bool) (call_room more_room answer_room n : ℕ) (call : Arrival) → AreCalls calls answers ran call_room answer_room → length calls < BATCH_LIMIT
    → call.award ≡ n → list_any (λ (c : Arrival). eqb n c.award) calls ≡ false → new ≡ calls ++ call ∷ [] → more_room ≡ call_room → AreCalls new answers ran more_room answer_room
more_calls calls new answers ran call_room more_room answer_room n call are few number other is room =
    let award : Arrival → ℕ = λ c. c.award in
    let lacks : list_any (eqb call.award) (map award calls) ≡ false = any_number call.award calls ∙ (ap (λ (m : ℕ). list_any (λ (c : Arrival). eqb m c.award) calls) number ∙ other) in
    let pushed : IsDistinct eqb (map award calls ++ call.award ∷ []) = IsDistinct-push number_laws (map award calls) call.award are.apart lacks in
    record {
      few = omega (arith, few, ap length is, length-append calls (call ∷ []));
      calls_room = omega (arith, room, are.calls_room);
      answers_room = are.answers_room;
      apart = subst (λ (l : List ℕ). IsDistinct eqb l) (sym (ap (map award) is ∙ map-append award calls (call ∷ []))) pushed;
      waits = are.waits;
    }

-- a batch without answers didn't run
pub not_ran : (ran : Bool) (answers : List Answer) → answers_by ran answers ≡ None → ran ≡ false
not_ran true answers none = absurd (none-some answers (sym none))
not_ran false answers none = refl

-- a batch with answers ran, and has them
pub ran_with : (ran : Bool) (answers wanted : List Answer) → answers_by ran answers ≡ Some wanted → answers ≡ wanted
ran_with true answers wanted is = same_Some answers wanted is
ran_with false answers wanted is = absurd (none-some wanted is)

-- a batch that ran
pub ran_calls : (calls : List Arrival) (answers new : List Answer) (ran : Bool) (call_room answer_room new_room : ℕ) → AreCalls calls answers ran call_room answer_room → BATCH_LIMIT ≤ new_room → AreCalls calls new true call_room new_room
ran_calls calls answers new ran call_room answer_room new_room are room = record {
  few = are.few;
  calls_room = are.calls_room;
  answers_room = room;
  apart = are.apart;
  waits = λ waits. absurd (true≢false waits);
}
