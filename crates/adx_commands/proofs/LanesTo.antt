-- The lanes to the first bidders of a roster, and one more.
use Rattle.std.proofs.Common.{◌≡◌, ◌∙◌, refl, sym, ap, ap₂, subst, ℕ, ◌+◌, ◌<◌, ◌≤◌, List, [], ◌∷◌, ◌++◌, length, take, get_or, Bool, true, false, IsTrue}
use Rattle.std.proofs.lemmas.List.{length-map, map-append, take_all, take_more}
use Rattle.std.proofs.lemmas.List.Elements.{All-nil, All-cons, All-append}
use Rattle.adx_links.specs.Links.{Course, next_start}
use Rattle.deal_floor.specs.declared.place.Place.{Place}
use Rattle.fan_out.specs.declared.answer.TheConstants.{ANSWER_LIMIT}
use Rattle.fan_out.specs.declared.lane.Lane.{Lane}
use Rattle.adx_commands.specs.RosterLinks.{AreLanesTo, begins_with, course_of, plan_of, texts_of}
use Rattle.adx_commands.specs.declared.link.RosterLink.{RosterLink}

-- the texts of some bidders and of one more
texts_more : (places : List Place) (p : Place) (replies : List (List (List ℕ))) → texts_of (places ++ p ∷ []) replies ≡ texts_of places replies ++ get_or replies (length places) [] ∷ []
texts_more [] p [] = refl
texts_more [] p (texts ∷ replies) = refl
texts_more (q ∷ places) p [] = ap (λ (rest : List (List (List ℕ))). [] ∷ rest) (texts_more places p [])
texts_more (q ∷ places) p (texts ∷ replies) = ap (λ (rest : List (List (List ℕ))). texts ∷ rest) (texts_more places p replies)

-- no lane leads to no bidder
pub no_lanes : (replies : List (List (List ℕ))) → AreLanesTo [] (texts_of [] replies) []
no_lanes replies = record { places_are = refl; limits = All-nil (λ (l : Lane RosterLink). l.conn.limit ≡ ANSWER_LIMIT); courses = refl }

-- one lane more
lane_more : (places : List Place) (texts : List (List (List ℕ))) (lanes : List (Lane RosterLink)) (p : Place) (t : List (List ℕ)) (l : Lane RosterLink) → AreLanesTo places texts lanes
    → l.place ≡ p → l.conn.limit ≡ ANSWER_LIMIT → course_of l.link ≡ begins_with t → AreLanesTo (places ++ p ∷ []) (texts ++ t ∷ []) (lanes ++ l ∷ [])
lane_more places texts lanes p t l are place limit course =
    let IsLimited : Lane RosterLink → Type 0 = λ lane. lane.conn.limit ≡ ANSWER_LIMIT in record {
      places_are = map-append (λ (lane : Lane RosterLink). lane.place) lanes (l ∷ []) ∙ ap₂ (λ (ps : List Place) (q : Place). ps ++ q ∷ []) are.places_are place;
      limits = All-append IsLimited lanes (l ∷ []) are.limits (All-cons IsLimited l [] limit (All-nil IsLimited));
      courses = map-append (λ (lane : Lane RosterLink). course_of lane.link) lanes (l ∷ []) ∙ ap₂ (λ (cs : List Course) (c : Course). cs ++ c ∷ []) are.courses course ∙ sym (map-append begins_with texts (t ∷ []));
    }

-- there are as many lanes as bidders
pub lanes_counted : (places : List Place) (texts : List (List (List ℕ))) (lanes : List (Lane RosterLink)) → AreLanesTo places texts lanes → length lanes ≡ length places
lanes_counted places texts lanes are = sym (length-map lanes (λ (l : Lane RosterLink). l.place)) ∙ ap length are.places_are

-- the lanes to the first bidders, and that to the next
pub lanes_more : (places : List Place) (replies : List (List (List ℕ))) (i : ℕ) (lanes : List (Lane RosterLink)) (p : Place) (l : Lane RosterLink) → i < length places → get_or places i p ≡ p
    → AreLanesTo (take i places) (texts_of (take i places) replies) lanes → l.place ≡ p → l.conn.limit ≡ ANSWER_LIMIT → course_of l.link ≡ begins_with (get_or replies (length lanes) [])
    → AreLanesTo (take (i + 1) places) (texts_of (take (i + 1) places) replies) (lanes ++ l ∷ [])
lanes_more places replies i lanes p l within here are place limit course =
    let next : take (i + 1) places ≡ take i places ++ p ∷ [] = take_more places i p within ∙ ap (λ (q : Place). take i places ++ q ∷ []) here in
    let counted : length lanes ≡ length (take i places) = lanes_counted (take i places) (texts_of (take i places) replies) lanes are in
    subst (λ (ps : List Place). AreLanesTo ps (texts_of ps replies) (lanes ++ l ∷ [])) (sym next)
    (subst (λ (ts : List (List (List ℕ))). AreLanesTo (take i places ++ p ∷ []) ts (lanes ++ l ∷ [])) (sym (texts_more (take i places) p replies))
    (lane_more (take i places) (texts_of (take i places) replies) lanes p (get_or replies (length (take i places)) []) l are place limit
    (course ∙ ap (λ (n : ℕ). begins_with (get_or replies n [])) counted)))

-- the lanes to all of them
pub lanes_all : (places : List Place) (replies : List (List (List ℕ))) (i : ℕ) (lanes : List (Lane RosterLink)) → length places ≤ i → AreLanesTo (take i places) (texts_of (take i places) replies) lanes → AreLanesTo places (texts_of places replies) lanes
lanes_all places replies i lanes past are = subst (λ (ps : List Place). AreLanesTo ps (texts_of ps replies) lanes) (take_all i places past) are

-- no start of such a plan fails
pub starts : (texts : List (List ℕ)) → IsTrue (next_start (plan_of texts)).start_fails → ◌≡◌ {A = Bool} false true
starts [] fails = fails
starts (text ∷ texts) fails = fails
