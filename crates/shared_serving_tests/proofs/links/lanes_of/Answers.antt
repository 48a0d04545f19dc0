-- One lane more.
use Rattle.std.proofs.Common.{◌≡◌, ◌<◌, ℕ, zero, suc, ◌+◌, List, [], ◌∷◌, ◌++◌, All, map, take, length, get_or, sym, ap, ◌∙◌, subst, arith, add-one}
use Rattle.std.proofs.lemmas.List.{map-append}
use Rattle.std.proofs.lemmas.List.Elements.{All-append, All-cons, All-nil}
use Rattle.deal_floor.specs.declared.place.Place.{Place}
use Rattle.fan_out.specs.declared.answer.TheConstants.{ANSWER_LIMIT}
use Rattle.fan_out.specs.declared.lane.Lane.{Lane}
use Rattle.shared_serving_tests.proofs.links.lanes_of.Goals as goal

taken_more : (xs : List Place) (i : ℕ) (x : Place) → i < length xs → x ≡ get_or xs i x → take i xs ++ x ∷ [] ≡ take (suc i) xs
taken_more [] i x within is = absurd (omega (arith, within))
taken_more (y ∷ xs) zero x within is = ap (λ (z : Place). z ∷ []) is
taken_more (y ∷ xs) (suc i) x within is = ap (λ (l : List Place). y ∷ l) (taken_more xs i x (omega (arith, within)) is)

lane_more : {L : Type 0} (lanes lanes_now : List (Lane L)) (x : Lane L) (bidders : List Place) (i : ℕ) (p : Place) → i < length bidders → p ≡ get_or bidders i p → x.place ≡ p → lanes_now ≡ lanes ++ x ∷ []
    → map (λ (y : Lane L). y.place) lanes ≡ take i bidders → map (λ (y : Lane L). y.place) lanes_now ≡ take (i + 1) bidders
lane_more {L} lanes lanes_now x bidders i p within at is now places =
    ap (map (λ (y : Lane L). y.place)) now ∙ map-append (λ (y : Lane L). y.place) lanes (x ∷ []) ∙ ap (λ (l : List Place). l ++ x.place ∷ []) places
    ∙ ap (λ (q : Place). take i bidders ++ q ∷ []) is ∙ taken_more bidders i p within at ∙ ap (λ (n : ℕ). take n bidders) (sym (add-one i))

limit_more : {L : Type 0} (lanes lanes_now : List (Lane L)) (x : Lane L) → lanes_now ≡ lanes ++ x ∷ [] → x.conn.limit ≡ ANSWER_LIMIT → All (λ (y : Lane L). y.conn.limit ≡ ANSWER_LIMIT) lanes → All (λ (y : Lane L). y.conn.limit ≡ ANSWER_LIMIT) lanes_now
limit_more {L} lanes lanes_now x now is all =
    let P = λ (y : Lane L). y.conn.limit ≡ ANSWER_LIMIT in
    subst (All P) (sym now) (All-append P lanes (x ∷ []) all (All-cons P x [] is (All-nil P)))

pub loop-place-preserved : goal.loop-place-preserved
loop-place-preserved c =
    let i = c.loop-place.invariant in record {
      places = lane_more c.loop-place.lanes.items c.push.new.self.items c.in-Ok.lane c.as_slice-bidders.result.now c.loop-place.place-index c.place-item.result (omega arith) c.place-item.is c.in-Ok.ensures.place c.in_ok-push-in-Ok.ensures.items i.places;
      limits = limit_more c.loop-place.lanes.items c.push.new.self.items c.in-Ok.lane c.in_ok-push-in-Ok.ensures.items c.in-Ok.ensures.limit i.limits;
    }
