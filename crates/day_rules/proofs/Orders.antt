-- Every order of notices gives the same ends and the same money, where no open award gets both a bill and a loss.
use Rattle.std.proofs.Common.{◌≡◌, ℕ, ◌+◌, ◌<◌, List, [], ◌∷◌, map, length, Bool, true, false, cond, ◌&&◌, ◌||◌, eqb, refl, sym, ap, ◌∙◌, subst, arith, Option, Some, None}
use Rattle.std.specs.List.{enumerate_from, list_any, slice_get, sum_by}
use Rattle.std.specs.Prelude.{IsPermutation}
use Rattle.std.specs.Option.{option_map, option_map_or, option_or}
use Rattle.std.specs.Str.{bytes_eq}
use Rattle.std.proofs.lemmas.Option.{none-some, same_Some}
use Rattle.std.proofs.lemmas.Bool.{or_left, or_right, false_from_ne_true, false≢true}
use Rattle.std.proofs.lemmas.List.Sorted.{list_any-IsPermutation}
use Rattle.notice_book.specs.declared.award.Award.{Award}
use Rattle.notice_book.specs.declared.award.End.{End}
use Rattle.notice_book.specs.declared.kind.NoticeKind.{NoticeKind}
use Rattle.notice_book.specs.Rules.{is_open, is_billed, ruling, ruling_of, noticed_award}
use Rattle.day_rules.specs.declared.entry.Entry.{Entry}
use Rattle.day_rules.specs.Entries.{notice_of, same_kind, is_same_notice}
use Rattle.day_rules.specs.Books.{awards_of, ask_at, charge_where}
use Rattle.day_rules.specs.Terms.{Terms}
use Rattle.day_rules.specs.Legal.{IsLegal}
use Rattle.day_rules.specs.Replies.{is_of_auction}
use Rattle.day_rules.specs.Laws.{Arrival, after_arrival, after_arrivals, has_arrival, is_notice_of, AgreeOnEnds, AreSameBooks}
use Rattle.allocator_core.proofs.Lists.{sum_by-map}
use Rattle.day_rules.proofs.Lists.{get_numbered, or_none}
use Rattle.day_rules.proofs.Money.{numbered_twice}
use Rattle.day_rules.proofs.Pushing.{map_same, is_counted}
use Rattle.day_rules.proofs.Selling.{award_placed}
use Rattle.day_rules.proofs.Ordering.{arrived, arrival_awards, arrival_legal, auction_kept}

-- the award without its won mark
abbrev unwon : Award → Award
unwon w = record w { won = false }

abbrev has_known : List Entry → NoticeKind → ℕ → Award → List Arrival → Bool
has_known history kind n w xs = list_any (is_notice_of history kind n w) xs

-- how an open award ends by its notices
abbrev end_from : Bool → Bool → Option End
end_from bills loses = cond bills (Some End.Billed) (cond loses (Some End.Lost) None)

abbrev end_after : List Entry → List Arrival → ℕ → Award → Option End → Option End
end_after history xs n w end =
    option_or end (end_from (has_known history NoticeKind.Bill n w xs) (has_known history NoticeKind.Loss n w xs))

-- an award after all the arrivals, without its won mark
abbrev ended : List Entry → List Arrival → ℕ × Award → Award
ended history xs p = record p.1 { won = false; end = end_after history xs p.0 p.1 p.1.end }

list_any_same : {X : Type 0} (p q : X → Bool) (xs : List X) → ((x : X) → p x ≡ q x) → list_any p xs ≡ list_any q xs
list_any_same p q [] same = refl
list_any_same p q (x ∷ xs) same =
    ap (λ (b : Bool). b || list_any p xs) (same x) ∙ ap (λ (b : Bool). q x || b) (list_any_same p q xs same)

win_end : (b : Bool) (v : Award) → (cond b (noticed_award NoticeKind.Win v) v).end ≡ v.end
win_end true v = refl
win_end false v = refl

uncounted : (u v : Award) (here of : Bool) → (cond (here && (of && false)) u v).end ≡ v.end
uncounted u v true true = refl
uncounted u v true false = refl
uncounted u v false of = refl

-- one more notice of an award that has an end
has_end : (kind : NoticeKind) (won : Bool) (x : End) (v : Award) (here of : Bool) → v.won ≡ won → v.end ≡ Some x → (cond (here && (of && is_counted (ruling kind won (Some x)))) (noticed_award kind v) v).end ≡ Some x
has_end NoticeKind.Win won x v here of won_is end_is = win_end (here && (of && is_counted (ruling NoticeKind.Win won (Some x)))) v ∙ end_is
has_end NoticeKind.Bill won End.Billed v here of won_is end_is = uncounted (noticed_award NoticeKind.Bill v) v here of ∙ end_is
has_end NoticeKind.Bill won End.Lost v here of won_is end_is = uncounted (noticed_award NoticeKind.Bill v) v here of ∙ end_is
has_end NoticeKind.Bill won End.Expired v here of won_is end_is = uncounted (noticed_award NoticeKind.Bill v) v here of ∙ end_is
has_end NoticeKind.Loss won End.Billed v here of won_is end_is = uncounted (noticed_award NoticeKind.Loss v) v here of ∙ end_is
has_end NoticeKind.Loss won End.Lost v here of won_is end_is = uncounted (noticed_award NoticeKind.Loss v) v here of ∙ end_is
has_end NoticeKind.Loss won End.Expired v here of won_is end_is = uncounted (noticed_award NoticeKind.Loss v) v here of ∙ end_is

-- what one more notice makes of an end, beside those that come
step_end : (kind : NoticeKind) (v : Award) (end : Option End) (here of bills loses : Bool) → v.end ≡ end → (kind ≡ NoticeKind.Loss → here ≡ true → of ≡ true → end ≡ None → bills ≡ false) → option_or (cond (here && (of && is_counted (ruling kind v.won end))) (noticed_award kind v) v).end (end_from bills loses) ≡ option_or end (end_from ((same_kind NoticeKind.Bill kind && here && of) || bills) ((same_kind NoticeKind.Loss kind && here && of) || loses))
step_end kind v (Some x) here of bills loses is apart =
    ap (λ (o : Option End). option_or o (end_from bills loses)) (has_end kind v.won x v here of refl is)
step_end NoticeKind.Win v None here of bills loses is apart =
    ap (λ (o : Option End). option_or o (end_from bills loses)) (win_end (here && (of && is_counted (ruling NoticeKind.Win v.won None))) v ∙ is)
step_end NoticeKind.Bill v None true true bills loses is apart = refl
step_end NoticeKind.Bill v None true false bills loses is apart = ap (λ (o : Option End). option_or o (end_from bills loses)) is
step_end NoticeKind.Bill v None false of bills loses is apart = ap (λ (o : Option End). option_or o (end_from bills loses)) is
step_end NoticeKind.Loss v None true true bills loses is apart =
    sym (ap (λ (b : Bool). end_from b true) (apart refl refl refl refl))
step_end NoticeKind.Loss v None true false bills loses is apart = ap (λ (o : Option End). option_or o (end_from bills loses)) is
step_end NoticeKind.Loss v None false of bills loses is apart = ap (λ (o : Option End). option_or o (end_from bills loses)) is

-- an arrival changes the win and the end of an award alone
rest_same : (b : Bool) (kind : NoticeKind) (w : Award) (end : Option End) → record (cond b (noticed_award kind w) w) { won = false; end = end } ≡ record w { won = false; end = end }
rest_same false kind w end = refl
rest_same true NoticeKind.Win w end = refl
rest_same true NoticeKind.Bill w end = refl
rest_same true NoticeKind.Loss w end = refl

ask_same : (b : Bool) (kind : NoticeKind) (w : Award) → (cond b (noticed_award kind w) w).ask ≡ w.ask
ask_same false kind w = refl
ask_same true NoticeKind.Win w = refl
ask_same true NoticeKind.Bill w = refl
ask_same true NoticeKind.Loss w = refl

auction_of_ask : (history : List Entry) (auction : List ℕ) (v w : Award) → v.ask ≡ w.ask → is_of_auction history auction v ≡ is_of_auction history auction w
auction_of_ask history auction v w same =
    ap (λ (place : ℕ). option_map_or (λ a. bytes_eq a.auction auction) (ask_at history place) false) same

known_same : (history : List Entry) (x : Arrival) (kind : NoticeKind) (n : ℕ) (w : Award) (xs : List Arrival) → w.ask < length history → has_known (after_arrival history x) kind n (arrived history x (n, w)) xs ≡ has_known history kind n w xs
known_same history x kind n w xs within =
    let v : Award = arrived history x (n, w) in
    let counted : Bool = eqb n x.award && (is_of_auction history x.auction w && is_counted (ruling_of x.kind w)) in
    list_any_same (is_notice_of (after_arrival history x) kind n v) (is_notice_of history kind n w) xs (λ y.
    ap (λ (b : Bool). is_same_notice (notice_of kind n) (notice_of y.kind y.award) && b)
    (auction_of_ask (after_arrival history x) y.auction v w (ask_same counted x.kind w) ∙ auction_kept history x y.auction w within))

later_arrives : (history : List Entry) (kind : NoticeKind) (n : ℕ) (w : Award) (x : Arrival) (xs : List Arrival) → has_arrival history kind n w xs → has_arrival history kind n w (x ∷ xs)
later_arrives history kind n w x xs has = or_right (is_notice_of history kind n w x) _ has

-- where an open award gets its loss no bill of it comes
no_bill : (history : List Entry) (x : Arrival) (xs : List Arrival) (n : ℕ) (w : Award) → AgreeOnEnds history (x ∷ xs) → slice_get (awards_of history) n ≡ Some w → x.kind ≡ NoticeKind.Loss → eqb n x.award ≡ true → is_of_auction history x.auction w ≡ true → w.end ≡ None → has_known history NoticeKind.Bill n w xs ≡ false
no_bill history x xs n w agree at kind here of none =
    false_from_ne_true (has_known history NoticeKind.Bill n w xs) (λ has.
    let bill : has_arrival history NoticeKind.Bill n w (x ∷ xs) = later_arrives history NoticeKind.Bill n w x xs has in
    let P : NoticeKind → Type 0 = λ k. (is_same_notice (notice_of NoticeKind.Loss n) (notice_of k x.award) && is_of_auction history x.auction w) ≡ true in
    let own : P NoticeKind.Loss = rw (here, of) refl in
    let loss : has_arrival history NoticeKind.Loss n w (x ∷ xs) = or_left (is_notice_of history NoticeKind.Loss n w x) _ (subst P (sym kind) own) in
    agree n w at (ap is_open none) bill loss)

-- an award that is open after an arrival was open before it
was_open_by : (b : Bool) (kind : NoticeKind) (w : Award) → is_open (cond b (noticed_award kind w) w).end ≡ true → is_open w.end ≡ true
was_open_by false kind w still = still
was_open_by true NoticeKind.Win w still = still
was_open_by true NoticeKind.Bill w still = absurd (false≢true still)
was_open_by true NoticeKind.Loss w still = absurd (false≢true still)

was_there : (history : List Entry) (x : Arrival) (n : ℕ) (v : Award) (o : Option Award) → option_map (λ w. arrived history x (n, w)) o ≡ Some v → (w : Award) × (o ≡ Some w) × (arrived history x (n, w) ≡ v)
was_there history x n v None at = absurd (none-some v at)
was_there history x n v (Some w) at = (w, refl, same_Some (arrived history x (n, w)) v at)

agree_later : (history : List Entry) (x : Arrival) (xs : List Arrival) → AgreeOnEnds history (x ∷ xs) → AgreeOnEnds (after_arrival history x) xs
agree_later history x xs agree n v at still bill loss =
    let there = was_there history x n v (slice_get (awards_of history) n) (sym (get_numbered (arrived history x) (awards_of history) n) ∙ (sym (ap (λ (ws : List Award). slice_get ws n) (arrival_awards history x)) ∙ at)) in
    let w : Award = there.0 in
    let counted : Bool = eqb n x.award && (is_of_auction history x.auction w && is_counted (ruling_of x.kind w)) in
    let was : is_open (cond counted (noticed_award x.kind w) w).end ≡ true = ap (λ (u : Award). is_open u.end) there.2 ∙ still in
    let same : (kind : NoticeKind) → has_known (after_arrival history x) kind n v xs ≡ has_known history kind n w xs = λ kind.
    ap (λ (u : Award). has_known (after_arrival history x) kind n u xs) (sym there.2) ∙ known_same history x kind n w xs (award_placed history n w there.1) in
    agree n w there.1 (was_open_by counted x.kind w was)
    (later_arrives history NoticeKind.Bill n w x xs (sym (same NoticeKind.Bill) ∙ bill))
    (later_arrives history NoticeKind.Loss n w x xs (sym (same NoticeKind.Loss) ∙ loss))

-- the step at one award
ended_step : (history : List Entry) (x : Arrival) (xs : List Arrival) (n : ℕ) (w : Award) → AgreeOnEnds history (x ∷ xs) → slice_get (awards_of history) n ≡ Some w → ended (after_arrival history x) xs (n, arrived history x (n, w)) ≡ ended history (x ∷ xs) (n, w)
ended_step history x xs n w agree at =
    let next : List Entry = after_arrival history x in
    let here : Bool = eqb n x.award in
    let of : Bool = is_of_auction history x.auction w in
    let counted : Bool = here && (of && is_counted (ruling_of x.kind w)) in
    let v : Award = arrived history x (n, w) in
    let bills : Bool = has_known history NoticeKind.Bill n w xs in
    let loses : Bool = has_known history NoticeKind.Loss n w xs in
    let within : w.ask < length history = award_placed history n w at in
    let one : end_after next xs n v v.end ≡ option_or v.end (end_from bills loses) =
    ap (λ (b : Bool). option_or v.end (end_from b (has_known next NoticeKind.Loss n v xs))) (known_same history x NoticeKind.Bill n w xs within)
    ∙ ap (λ (b : Bool). option_or v.end (end_from bills b)) (known_same history x NoticeKind.Loss n w xs within) in
    let two : option_or v.end (end_from bills loses) ≡ end_after history (x ∷ xs) n w w.end =
    step_end x.kind w w.end here of bills loses refl (λ kind same names none. no_bill history x xs n w agree at kind same names none) in
    rest_same counted x.kind w (end_after next xs n v v.end)
    ∙ ap (λ (end : Option End). record w { won = false; end = end }) (one ∙ two)

unwon_by : {X Y : Type 0} (f : X → Y) (n : ℕ) (xs : List X) → map f xs ≡ map (λ (p : ℕ × X). f p.1) (enumerate_from n xs)
unwon_by f n [] = refl
unwon_by {X} {Y} f n (x ∷ xs) = ap (λ (t : List Y). f x ∷ t) (unwon_by f (n + 1) xs)

-- the awards after all arrivals, by their ends before and the notices that come
pub ends_after : (terms : Terms) (history : List Entry) (xs : List Arrival) → IsLegal terms history → AgreeOnEnds history xs → map unwon (awards_of (after_arrivals history xs)) ≡ map (ended history xs) (enumerate_from 0 (awards_of history))
ends_after terms history [] legal agree =
    unwon_by unwon 0 (awards_of history)
    ∙ map_same (λ (p : ℕ × Award). unwon p.1) (ended history []) 0 (awards_of history) (λ k w at. ap (λ (o : Option End). record w { won = false; end = o }) (sym (or_none w.end)))
ends_after terms history (x ∷ xs) legal agree =
    let next : List Entry = after_arrival history x in
    let ws : List Award = awards_of history in
    ends_after terms next xs (arrival_legal terms history x legal) (agree_later history x xs agree)
    ∙ (ap (λ (vs : List Award). map (ended next xs) (enumerate_from 0 vs)) (arrival_awards history x)
    ∙ (numbered_twice (arrived history x) (ended next xs) 0 ws
    ∙ map_same (λ (p : ℕ × Award). ended next xs (p.0, arrived history x p)) (ended history (x ∷ xs)) 0 ws
    (λ k w at. ended_step history x xs (0 + k) w agree (ap (slice_get ws) (omega arith) ∙ at))))

-- every order of them
agree_ordered : (history : List Entry) (xs ys : List Arrival) → IsPermutation xs ys → AgreeOnEnds history xs → AgreeOnEnds history ys
agree_ordered history xs ys moved agree n w at still bill loss =
    agree n w at still
    (list_any-IsPermutation (is_notice_of history NoticeKind.Bill n w) xs ys moved ∙ bill)
    (list_any-IsPermutation (is_notice_of history NoticeKind.Loss n w) xs ys moved ∙ loss)

ended_ordered : (history : List Entry) (xs ys : List Arrival) (n : ℕ) (w : Award) → IsPermutation xs ys → ended history xs (n, w) ≡ ended history ys (n, w)
ended_ordered history xs ys n w moved =
    let build : Bool → Bool → Award = λ bills loses. record w { won = false; end = option_or w.end (end_from bills loses) } in
    ap (λ (b : Bool). build b (has_known history NoticeKind.Loss n w xs)) (list_any-IsPermutation (is_notice_of history NoticeKind.Bill n w) xs ys moved)
    ∙ ap (build (has_known history NoticeKind.Bill n w ys)) (list_any-IsPermutation (is_notice_of history NoticeKind.Loss n w) xs ys moved)

ends_of : (ws : List Award) → map (λ w. w.end) ws ≡ map (λ w. w.end) (map unwon ws)
ends_of [] = refl
ends_of (w ∷ ws) = ap (λ (t : List (Option End)). w.end ∷ t) (ends_of ws)

money_of : (test : Option End → Bool) (campaign : ℕ) (ws vs : List Award) → map unwon ws ≡ map unwon vs → sum_by (charge_where test campaign) ws ≡ sum_by (charge_where test campaign) vs
money_of test campaign ws vs same =
    let f : Award → ℕ = charge_where test campaign in
    sym (sum_by-map f unwon ws) ∙ (ap (sum_by f) same ∙ sum_by-map f unwon vs)

pub order_is_free : (terms : Terms) (history : List Entry) (xs ys : List Arrival) → IsLegal terms history → IsPermutation xs ys → AgreeOnEnds history xs → AreSameBooks (after_arrivals history xs) (after_arrivals history ys)
order_is_free terms history xs ys legal moved agree =
    let one : List Award = awards_of (after_arrivals history xs) in
    let other : List Award = awards_of (after_arrivals history ys) in
    let same : map unwon one ≡ map unwon other =
    ends_after terms history xs legal agree
    ∙ (map_same (ended history xs) (ended history ys) 0 (awards_of history) (λ k w at. ended_ordered history xs ys (0 + k) w moved)
    ∙ sym (ends_after terms history ys legal (agree_ordered history xs ys moved agree))) in
    record {
      ends = ends_of one ∙ (ap (map (λ (w : Award). w.end)) same ∙ sym (ends_of other));
      reserved = λ campaign. money_of is_open campaign one other same;
      billed = λ campaign. money_of is_billed campaign one other same;
    }
