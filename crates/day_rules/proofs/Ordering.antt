-- The order of notices: what an arrival does to the awards, and that two arrivals of different awards commute.
use Rattle.std.proofs.Common.{◌≡◌, ◌≢◌, ℕ, ◌+◌, ◌<◌, List, [], ◌∷◌, map, length, Bool, true, false, cond, ◌&&◌, eqb, refl, sym, ap, ◌∙◌, subst, inl, inr, arith, Option, Some, None}
use Rattle.std.specs.List.{enumerate_from, list_any, slice_get}
use Rattle.std.specs.Option.{option_map, option_map_or, option_and_then}
use Rattle.std.proofs.lemmas.Option.{none-some, same_Some}
use Rattle.std.proofs.lemmas.Bool.{cases_Bool, cond-true, cond-false, cond_both, eqb-true, ne_eqb, and_left, and_right}
use Rattle.std.specs.Str.{bytes_eq}
use Rattle.notice_book.specs.declared.award.Award.{Award}
use Rattle.notice_book.specs.declared.kind.NoticeKind.{NoticeKind}
use Rattle.notice_book.specs.declared.ruling.Ruling.{Ruling}
use Rattle.notice_book.specs.AwardList.{noticed}
use Rattle.notice_book.specs.Rules.{ruling_of, noticed_award}
use Rattle.day_rules.specs.declared.answer.Answer.{Answer}
use Rattle.day_rules.specs.declared.entry.Entry.{Entry}
use Rattle.day_rules.specs.Entries.{notice_of, counts, asked}
use Rattle.day_rules.specs.Books.{awards_of}
use Rattle.day_rules.specs.Terms.{Terms}
use Rattle.day_rules.specs.Legal.{IsLegal}
use Rattle.day_rules.specs.Replies.{Reply, with_entry, is_of_auction, notice_place, ruled_reply, known_reply}
use Rattle.day_rules.specs.Laws.{Arrival, arrival_reply, after_arrival, after_arrivals, Commute}
use Rattle.day_rules.proofs.Lists.{get_numbered, get-append_left}
use Rattle.day_rules.proofs.Pushing.{map_same, is_counted, awards_notice}
use Rattle.day_rules.proofs.Noticing.{place_kept, repeat_stands}
use Rattle.day_rules.proofs.Money.{numbered_twice}
use Rattle.day_rules.proofs.Selling.{award_placed}
use Rattle.day_rules.proofs.Following.{notice_follows}
use Rattle.day_rules.proofs.Running.{added_legal}

pub arrival_legal : (terms : Terms) (history : List Entry) (x : Arrival) → IsLegal terms history → IsLegal terms (after_arrival history x)
arrival_legal terms history x legal =
    added_legal terms history (arrival_reply history x).entry legal (notice_follows terms history x.kind x.auction x.award)

-- the award of a number after an arrival
abbrev pub arrived : List Entry → Arrival → ℕ × Award → Award
arrived history x p =
    cond (eqb p.0 x.award && (is_of_auction history x.auction p.1 && is_counted (ruling_of x.kind p.1))) (noticed_award x.kind p.1) p.1

numbered_id : {X : Type 0} (n : ℕ) (xs : List X) → map (λ (p : ℕ × X). p.1) (enumerate_from n xs) ≡ xs
numbered_id n [] = refl
numbered_id {X} n (x ∷ xs) = ap (λ (t : List X). x ∷ t) (numbered_id (n + 1) xs)

-- where the notice of the arrival changes no award
arrived_same : (history : List Entry) (x : Arrival) (ws : List Award) → ((k : ℕ) (w : Award) → slice_get ws k ≡ Some w → k ≡ x.award → (is_of_auction history x.auction w && is_counted (ruling_of x.kind w)) ≡ false) → ws ≡ map (arrived history x) (enumerate_from 0 ws)
arrived_same history x ws none =
    sym (numbered_id 0 ws)
    ∙ map_same (λ (p : ℕ × Award). p.1) (arrived history x) 0 ws (λ k w at.
    let same : 0 + k ≡ k = omega arith in
    let late : (eqb (0 + k) x.award && (is_of_auction history x.auction w && is_counted (ruling_of x.kind w))) ≡ false =
    elim (cases_Bool (eqb (0 + k) x.award)) [
      | inl here ↦ and_right (eqb (0 + k) x.award) _ (none k w at (sym same ∙ eqb-true (0 + k) x.award here))
      | inr there ↦ and_left (eqb (0 + k) x.award) _ there
    ] in
    sym (cond-false _ (noticed_award x.kind w) w late))

only_here : (ws : List Award) (n k : ℕ) (v w : Award) → slice_get ws n ≡ Some v → slice_get ws k ≡ Some w → k ≡ n → v ≡ w
only_here ws n k v w at there same = same_Some v w (sym at ∙ (ap (slice_get ws) (sym same) ∙ there))

-- where it counts
arrived_counted : (history : List Entry) (x : Arrival) (v : Award) → slice_get (awards_of history) x.award ≡ Some v → is_of_auction history x.auction v ≡ true → ruling_of x.kind v ≡ Ruling.Counted → noticed x.kind x.award (awards_of history) ≡ map (arrived history x) (enumerate_from 0 (awards_of history))
arrived_counted history x v at of counted =
    let ws : List Award = awards_of history in
    map_same (λ (p : ℕ × Award). cond (eqb p.0 x.award) (noticed_award x.kind p.1) p.1) (arrived history x) 0 ws (λ k w there.
    let same : 0 + k ≡ k = omega arith in
    elim (cases_Bool (eqb (0 + k) x.award)) [
      | inl here ↦
          let is : v ≡ w = only_here ws x.award k v w at there (sym same ∙ eqb-true (0 + k) x.award here) in
          let P : Award → Type 0 = λ u. (is_of_auction history x.auction u && is_counted (ruling_of x.kind u)) ≡ true in
          let both : P v = rw (of, counted) refl in
          cond-true (eqb (0 + k) x.award) (noticed_award x.kind w) w here
          ∙ sym (cond-true (eqb (0 + k) x.award && (is_of_auction history x.auction w && is_counted (ruling_of x.kind w))) (noticed_award x.kind w) w (rw here (subst P is both)))
      | inr apart ↦
          cond-false (eqb (0 + k) x.award) (noticed_award x.kind w) w apart
          ∙ sym (cond-false (eqb (0 + k) x.award && (is_of_auction history x.auction w && is_counted (ruling_of x.kind w))) (noticed_award x.kind w) w (and_left (eqb (0 + k) x.award) _ apart))
    ])

abbrev Arrives : List Entry → Arrival → Option Entry → Type 0
Arrives history x o = awards_of (with_entry history o) ≡ map (arrived history x) (enumerate_from 0 (awards_of history))

arrived_ruled : (history : List Entry) (x : Arrival) (v : Award) (r : Ruling) → slice_get (awards_of history) x.award ≡ Some v → is_of_auction history x.auction v ≡ true → ruling_of x.kind v ≡ r → Arrives history x (ruled_reply history x.kind x.award r).entry
arrived_ruled history x v Ruling.Counted at of is =
    awards_notice history x.kind x.award (record { award = v; known = at; counted = is }) ∙ arrived_counted history x v at of is
arrived_ruled history x v Ruling.Repeat at of is =
    arrived_same history x (awards_of history) (λ k w there same.
    let P : Award → Type 0 = λ u. (is_of_auction history x.auction u && is_counted (ruling_of x.kind u)) ≡ false in
    subst P (only_here (awards_of history) x.award k v w at there same) (and_right (is_of_auction history x.auction v) _ (ap is_counted is)))
arrived_ruled history x v (Ruling.Conflict end) at of is =
    arrived_same history x (awards_of history) (λ k w there same.
    let P : Award → Type 0 = λ u. (is_of_auction history x.auction u && is_counted (ruling_of x.kind u)) ≡ false in
    subst P (only_here (awards_of history) x.award k v w at there same) (and_right (is_of_auction history x.auction v) _ (ap is_counted is)))

arrived_known : (history : List Entry) (x : Arrival) (o : Option Award) → slice_get (awards_of history) x.award ≡ o → Arrives history x (known_reply history x.kind x.auction x.award o).entry
arrived_known history x None at =
    arrived_same history x (awards_of history) (λ k w there same.
    absurd (none-some w (sym at ∙ (ap (slice_get (awards_of history)) (sym same) ∙ there))))
arrived_known history x (Some v) at =
    let Q : Reply → Type 0 = λ r. Arrives history x r.entry in
    cond_both (is_of_auction history x.auction v) _ _ Q
    (λ of. arrived_ruled history x v (ruling_of x.kind v) at of refl)
    (λ other. arrived_same history x (awards_of history) (λ k w there same.
    let P : Award → Type 0 = λ u. (is_of_auction history x.auction u && is_counted (ruling_of x.kind u)) ≡ false in
    subst P (only_here (awards_of history) x.award k v w at there same) (and_left (is_of_auction history x.auction v) _ other)))

pub arrival_awards : (history : List Entry) (x : Arrival) → awards_of (after_arrival history x) ≡ map (arrived history x) (enumerate_from 0 (awards_of history))
arrival_awards history x = arrived_known history x (slice_get (awards_of history) x.award) refl

-- an arrival leaves the asks where they are
auction_with : (history : List Entry) (o : Option Entry) (auction : List ℕ) (w : Award) → w.ask < length history → is_of_auction (with_entry history o) auction w ≡ is_of_auction history auction w
auction_with history None auction w within = refl
auction_with history (Some e) auction w within =
    ap (λ (x : Option Entry). option_map_or (λ a. bytes_eq a.auction auction) (option_and_then asked x) false) (get-append_left history (e ∷ []) w.ask within)

pub auction_kept : (history : List Entry) (x : Arrival) (auction : List ℕ) (w : Award) → w.ask < length history → is_of_auction (after_arrival history x) auction w ≡ is_of_auction history auction w
auction_kept history x auction w within = auction_with history (arrival_reply history x).entry auction w within

-- and the other awards as they are
other_award : (history : List Entry) (y : Arrival) (n : ℕ) (o : Option Award) → eqb n y.award ≡ false → option_map (λ w. arrived history y (n, w)) o ≡ o
other_award history y n None apart = refl
other_award history y n (Some w) apart =
    ap (λ (v : Award). Some v) (cond-false _ (noticed_award y.kind w) w (and_left (eqb n y.award) _ apart))

award_kept : (history : List Entry) (y : Arrival) (n : ℕ) → (n ≡ y.award → ⊥) → slice_get (awards_of (after_arrival history y)) n ≡ slice_get (awards_of history) n
award_kept history y n apart =
    ap (λ (ws : List Award). slice_get ws n) (arrival_awards history y)
    ∙ (get_numbered (arrived history y) (awards_of history) n
    ∙ other_award history y n (slice_get (awards_of history) n) (ne_eqb n y.award apart))

-- so it leaves the answers to notices of other awards as they are
place_with : (history : List Entry) (o : Option Entry) (kind : NoticeKind) (n : ℕ) → list_any (counts (notice_of kind n)) history ≡ true → notice_place (with_entry history o) (notice_of kind n) ≡ notice_place history (notice_of kind n)
place_with history None kind n stands = refl
place_with history (Some e) kind n stands = place_kept history e (notice_of kind n) stands

ruled_alike : (terms : Terms) (history : List Entry) (o : Option Entry) (kind : NoticeKind) (n : ℕ) (w : Award) (r : Ruling) → IsLegal terms history → slice_get (awards_of history) n ≡ Some w → ruling_of kind w ≡ r → (ruled_reply (with_entry history o) kind n r).answer ≡ (ruled_reply history kind n r).answer
ruled_alike terms history o kind n w Ruling.Counted legal at is = refl
ruled_alike terms history o kind n w Ruling.Repeat legal at is =
    ap (λ (place : ℕ). Answer.Repeat place) (place_with history o kind n (repeat_stands terms history kind n w legal at is))
ruled_alike terms history o kind n w (Ruling.Conflict end) legal at is = refl

answer_alike : (b : Bool) (r s t : Reply) → r.answer ≡ s.answer → (cond b r t).answer ≡ (cond b s t).answer
answer_alike true r s t is = is
answer_alike false r s t is = refl

known_alike : (terms : Terms) (history : List Entry) (e : Option Entry) (x : Arrival) (o : Option Award) → IsLegal terms history → slice_get (awards_of history) x.award ≡ o → (known_reply (with_entry history e) x.kind x.auction x.award o).answer ≡ (known_reply history x.kind x.auction x.award o).answer
known_alike terms history e x None legal at = refl
known_alike terms history e x (Some w) legal at =
    let next : List Entry = with_entry history e in
    let answer : Bool → Reply → Answer = λ b r. (cond b r (record { answer = Answer.Unknown; entry = None })).answer in
    let of : is_of_auction next x.auction w ≡ is_of_auction history x.auction w =
    auction_with history e x.auction w (award_placed history x.award w at) in
    ap (λ (b : Bool). answer b (ruled_reply next x.kind x.award (ruling_of x.kind w))) of
    ∙ answer_alike (is_of_auction history x.auction w) (ruled_reply next x.kind x.award (ruling_of x.kind w)) (ruled_reply history x.kind x.award (ruling_of x.kind w)) (record { answer = Answer.Unknown; entry = None })
    (ruled_alike terms history e x.kind x.award w (ruling_of x.kind w) legal at refl)

pub answer_kept : (terms : Terms) (history : List Entry) (x y : Arrival) → IsLegal terms history → (x.award ≡ y.award → ⊥) → (arrival_reply (after_arrival history y) x).answer ≡ (arrival_reply history x).answer
answer_kept terms history x y legal apart =
    ap (λ (o : Option Award). (known_reply (after_arrival history y) x.kind x.auction x.award o).answer) (award_kept history y x.award apart)
    ∙ known_alike terms history (arrival_reply history y).entry x (slice_get (awards_of history) x.award) legal refl

-- both arrivals, award by award
two_arrived : (history : List Entry) (x y : Arrival) (k : ℕ) (w : Award) → (x.award ≡ y.award → ⊥) → w.ask < length history → arrived (after_arrival history x) y (k, arrived history x (k, w)) ≡ arrived (after_arrival history y) x (k, arrived history y (k, w))
two_arrived history x y k w apart within =
    elim (cases_Bool (eqb k x.award)) [
      | inl here ↦
          let other : eqb k y.award ≡ false = ne_eqb k y.award (λ same. apart (sym (eqb-true k x.award here) ∙ same)) in
          let v : Award = arrived history x (k, w) in
          let is : arrived (after_arrival history y) x (k, w) ≡ v =
          ap (λ (b : Bool). cond (eqb k x.award && (b && is_counted (ruling_of x.kind w))) (noticed_award x.kind w) w) (auction_kept history y x.auction w within) in
          cond-false _ (noticed_award y.kind v) v (and_left (eqb k y.award) _ other)
          ∙ (sym is
          ∙ sym (ap (λ (u : Award). arrived (after_arrival history y) x (k, u)) (cond-false _ (noticed_award y.kind w) w (and_left (eqb k y.award) _ other))))
      | inr there ↦
          let v : Award = arrived history y (k, w) in
          let is : arrived (after_arrival history x) y (k, w) ≡ v =
          ap (λ (b : Bool). cond (eqb k y.award && (b && is_counted (ruling_of y.kind w))) (noticed_award y.kind w) w) (auction_kept history x y.auction w within) in
          ap (λ (u : Award). arrived (after_arrival history x) y (k, u)) (cond-false _ (noticed_award x.kind w) w (and_left (eqb k x.award) _ there))
          ∙ (is
          ∙ sym (cond-false _ (noticed_award x.kind v) v (and_left (eqb k x.award) _ there)))
    ]

awards_twice : (history : List Entry) (x y : Arrival) → awards_of (after_arrivals history (x ∷ y ∷ [])) ≡ map (λ (p : ℕ × Award). arrived (after_arrival history x) y (p.0, arrived history x p)) (enumerate_from 0 (awards_of history))
awards_twice history x y =
    arrival_awards (after_arrival history x) y
    ∙ (ap (λ (ws : List Award). map (arrived (after_arrival history x) y) (enumerate_from 0 ws)) (arrival_awards history x)
    ∙ numbered_twice (arrived history x) (arrived (after_arrival history x) y) 0 (awards_of history))

pub commute : (terms : Terms) (history : List Entry) (x y : Arrival) → IsLegal terms history → x.award ≢ y.award → Commute history x y
commute terms history x y legal apart = record {
  first = answer_kept terms history x y legal apart;
  second = answer_kept terms history y x legal (λ same. apart (sym same));
  awards = awards_twice history x y
      ∙ (map_same (λ (p : ℕ × Award). arrived (after_arrival history x) y (p.0, arrived history x p)) (λ (p : ℕ × Award). arrived (after_arrival history y) x (p.0, arrived history y p)) 0 (awards_of history)
      (λ k w at. two_arrived history x y (0 + k) w apart (award_placed history k w at))
      ∙ sym (awards_twice history y x));
}
