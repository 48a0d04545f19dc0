-- The awards of a history entry by entry, what they charge, and how many they are.
use Rattle.std.proofs.Common.{◌≡◌, ℕ, zero, suc, ◌+◌, ◌<◌, ◌≤◌, List, [], ◌∷◌, ◌++◌, map, length, take, drop, get_or, Bool, cond, refl, sym, ap, ap₂, ◌∙◌, subst, arith, is_some, Option, Some, None, option_map}
use Rattle.std.specs.List.{All, cons_option, enumerate_from, find, flat_map, range_with_len}
use Rattle.std.proofs.lemmas.List.{append-nil, append_assoc, drop_more, length-append, length-map, length-take-le, map-append, take-append-drop, take_more}
use Rattle.std.proofs.lemmas.Grind.{flat_map-append}
use Rattle.std.proofs.lemmas.List.Elements.{All-head, All-tail}
use Rattle.std.proofs.lemmas.List.Sums.{sum_by-cons}
use Rattle.adx_units.specs.declared.offer.Offer.{Offer}
use Rattle.notice_book.specs.declared.award.Award.{Award}
use Rattle.notice_book.specs.declared.kind.NoticeKind.{NoticeKind}
use Rattle.day_rules.specs.declared.ask.Ask.{Ask}
use Rattle.day_rules.specs.declared.entry.Entry.{Entry}
use Rattle.day_rules.specs.Books.{award_of, awarded_offers, awards_of, left_by, made, made_by, sale_of}
use Rattle.day_rules.specs.DayState.{IsDay}
use Rattle.day_rules.specs.Legal.{IsLegal, MayFollow}
use Rattle.day_rules.specs.Terms.{Terms}
use Rattle.day_rules.proofs.Asking.{awards_ask, awards_budget}
use Rattle.day_rules.proofs.Counting.{day_awards}
use Rattle.day_rules.proofs.Histories.{legal_front, legal_last}
use Rattle.day_rules.proofs.Pushing.{awards_moment, awards_notice}
use Rattle.bid_record.specs.declared.rows.Charge.{Charge}
use Rattle.served_record.specs.Served.{admitted, charge_of, chosen_of, is_awarded}
use Rattle.served_record.specs.Steps.{Fits, award_for, awards_after, awards_for, imps_of, is_award, sold_by, sold_for, sold_in, sold_of}
use Rattle.served_record.proofs.Asked.{AskIsSettled, SellsOnce, all_settled, ask_settled, awarded_admitted}
use Rattle.served_record.proofs.Lists.{placed_found}

-- what an ask sold, impression by impression
pub sold_all : (place : ℕ) (a : Ask) (imps : List ℕ) → SellsOnce a → map (award_of place) (flat_map (λ imp. map (sale_of a) (awarded_offers a.offers imp)) imps) ≡ awards_for place a imps
sold_all place a [] once = refl
sold_all place a (imp ∷ imps) once =
    map-append (award_of place) (map (sale_of a) (awarded_offers a.offers imp)) (flat_map (λ imp. map (sale_of a) (awarded_offers a.offers imp)) imps)
    ∙ ap₂ (λ (xs ys : List Award). xs ++ ys)
    (ap (λ (os : List Offer). map (award_of place) (map (sale_of a) os)) (once imp) ∙ one (find (is_award imp) a.offers))
    (sold_all place a imps once)
  where
    one : (o : Option Offer) → map (award_of place) (map (sale_of a) (cons_option o [])) ≡ cons_option (option_map (λ o. award_of place (sale_of a o)) o) []
    one None = refl
    one (Some o) = refl

-- the awards after an entry
pub awards_push : (terms : Terms) (history : List Entry) (e : Entry) → IsLegal terms history → MayFollow terms history e → awards_of (history ++ e ∷ []) ≡ awards_after (length history) e (awards_of history)
awards_push terms history (Entry.Ask a) legal follows =
    awards_ask terms history a legal
    ∙ ap (λ (ws : List Award). awards_of history ++ ws) (sold_all (length history) a (imps_of a) (ask_settled terms history a legal follows).once)
awards_push terms history (Entry.Win n) legal follows = awards_notice history NoticeKind.Win n follows
awards_push terms history (Entry.Bill n) legal follows = awards_notice history NoticeKind.Bill n follows
awards_push terms history (Entry.Loss n) legal follows = awards_notice history NoticeKind.Loss n follows
awards_push terms history (Entry.Expire now) legal follows = awards_moment history now
awards_push terms history (Entry.Budget k change budget) legal follows = awards_budget history k change budget

-- the awards of the first entries, one entry more

pub no_awards : [] ≡ awards_of []
unfolding awards_of
no_awards = refl

pub all_taken : {X : Type 0} (xs : List X) (i : ℕ) → length xs ≤ i → take i xs ≡ xs
all_taken [] zero h = refl
all_taken [] (suc i) h = refl
all_taken (x ∷ xs) zero h = absurd (omega arith)
all_taken {X} (x ∷ xs) (suc i) h = ap (λ (t : List X). x ∷ t) (all_taken xs i (omega arith))

cut_at : (history : List Entry) (i : ℕ) (e : Entry) → i < length history → e ≡ get_or history i e → take i history ++ e ∷ drop (i + 1) history ≡ history
cut_at history i e below is =
    ap (λ (f : Entry). take i history ++ f ∷ drop (i + 1) history) is
    ∙ (ap (λ (t : List Entry). take i history ++ t) (sym (drop_more history i e below)) ∙ take-append-drop i history)

-- the first entries are a day's, which the next one may follow
pub record IsNext (terms : Terms) (front : List Entry) (e : Entry) : Type 0 where
  pub day : IsDay terms front
  pub follows : MayFollow terms front e

pub next_follows : (terms : Terms) (history : List Entry) (i : ℕ) (e : Entry) → IsDay terms history → i < length history → e ≡ get_or history i e → IsNext terms (take i history) e
next_follows terms history i e day below is =
    let legal : IsLegal terms (take i history ++ e ∷ drop (i + 1) history) = subst (IsLegal terms) (sym (cut_at history i e below is)) day.legal in
    record {
      day = record { terms_ok = day.terms_ok; legal = legal_front terms (take i history) (e ∷ drop (i + 1) history) legal };
      follows = legal_last terms (take i history) e (drop (i + 1) history) legal;
    }

pub awards_more : (terms : Terms) (history : List Entry) (i : ℕ) (e : Entry) (ws vs : List Award) → IsDay terms history → i < length history → e ≡ get_or history i e → ws ≡ awards_of (take i history) → vs ≡ awards_after i e ws → vs ≡ awards_of (take (i + 1) history)
awards_more terms history i e ws vs day below is before after =
    let next = next_follows terms history i e day below is in
    let long : length (take i history) ≡ i = length-take-le i history (omega arith) in
    let one : take i history ++ e ∷ [] ≡ take (i + 1) history =
    ap (λ (f : Entry). take i history ++ f ∷ []) is ∙ sym (take_more history i e below) in
    after
    ∙ (ap (awards_after i e) before
    ∙ (ap (λ (k : ℕ). awards_after k e (awards_of (take i history))) (sym long)
    ∙ (sym (awards_push terms (take i history) e next.day.legal next.follows) ∙ ap awards_of one)))

-- one impression more of what an ask sold
range_more : (from n : ℕ) → range_with_len from (n + 1) ≡ range_with_len from n ++ (from + n) ∷ []
range_more from zero = ap (λ (k : ℕ). k ∷ []) (omega arith)
range_more from (suc n) =
    let more : suc n + 1 ≡ suc (n + 1) = omega arith in
    ap (range_with_len from) more
    ∙ ap (λ (t : List ℕ). from ∷ t) (range_more (from + 1) n ∙ ap (λ (k : ℕ). range_with_len (from + 1) n ++ k ∷ []) (omega arith))

pub sold_one : (place : ℕ) (a : Ask) (imp : ℕ) (old ws vs : List Award) → ws ≡ old ++ awards_for place a (range_with_len 0 imp) → vs ≡ ws ++ cons_option (award_for place a imp) [] → vs ≡ old ++ awards_for place a (range_with_len 0 (imp + 1))
sold_one place a imp old ws vs before after =
    let f : ℕ → List Award = λ imp. cons_option (award_for place a imp) [] in
    let front : List Award = awards_for place a (range_with_len 0 imp) in
    after
    ∙ (ap (λ (t : List Award). t ++ f imp) before
    ∙ (append_assoc old front (f imp)
    ∙ ap (λ (t : List Award). old ++ t)
    (sym (ap (flat_map f) (range_more 0 imp)
    ∙ (flat_map-append f (range_with_len 0 imp) ((0 + imp) ∷ [])
    ∙ ap (λ (t : List Award). front ++ t) (append-nil (f (0 + imp)) ∙ ap f (omega arith)))))))

pub few_sold : (o : Option Award) → length (cons_option o []) ≤ 1
few_sold None = omega arith
few_sold (Some w) = omega arith

-- an entry that may follow fits
pub entry_fits : (terms : Terms) (history : List Entry) (e : Entry) → IsDay terms history → MayFollow terms history e → Fits (awards_of history) e
entry_fits terms history (Entry.Ask a) day follows = record {
  now = follows.well_formed.now;
  few = let imps = follows.well_formed.few_imps in omega (arith, day_awards terms history day);
}
entry_fits terms history (Entry.Win n) day follows = follows
entry_fits terms history (Entry.Bill n) day follows = follows
entry_fits terms history (Entry.Loss n) day follows = follows
entry_fits terms history (Entry.Expire now) day follows = tt
entry_fits terms history (Entry.Budget k change budget) day follows = tt

-- what an award charges, and whom
abbrev pub award_charge : Award → Charge
award_charge w = record { campaign = w.campaign; charge = w.charge }

-- what the awarded offer of an impression charges
abbrev pub charge_at : Ask → ℕ → Option Charge
charge_at a imp = option_map charge_of (find (is_award imp) a.offers)

abbrev pub charges_for : Ask → List ℕ → List Charge
charges_for a imps = flat_map (λ imp. cons_option (charge_at a imp) []) imps

abbrev pub charges_by : Entry → List Charge
charges_by (Entry.Ask a) = charges_for a (imps_of a)
charges_by (Entry.Win n) = []
charges_by (Entry.Bill n) = []
charges_by (Entry.Loss n) = []
charges_by (Entry.Expire now) = []
charges_by (Entry.Budget k change budget) = []

abbrev pub charges_in : List Entry → List Charge
charges_in es = flat_map charges_by es

charged_for : (place : ℕ) (a : Ask) (imps : List ℕ) → map award_charge (awards_for place a imps) ≡ charges_for a imps
charged_for place a [] = refl
charged_for place a (imp ∷ imps) =
    map-append award_charge (cons_option (award_for place a imp) []) (awards_for place a imps)
    ∙ ap₂ (λ (xs ys : List Charge). xs ++ ys) (one (find (is_award imp) a.offers)) (charged_for place a imps)
  where
    one : (o : Option Offer) → map award_charge (cons_option (option_map (λ o. award_of place (sale_of a o)) o) []) ≡ cons_option (option_map charge_of o) []
    one None = refl
    one (Some o) = refl

made_charges : (campaigns place : ℕ) (e : Entry) → AskIsSettled campaigns e → map award_charge (made_by place e) ≡ charges_by e
made_charges campaigns place (Entry.Ask a) s = ap (map award_charge) (sold_all place a (imps_of a) s.once) ∙ charged_for place a (imps_of a)
made_charges campaigns place (Entry.Win n) s = refl
made_charges campaigns place (Entry.Bill n) s = refl
made_charges campaigns place (Entry.Loss n) s = refl
made_charges campaigns place (Entry.Expire now) s = refl
made_charges campaigns place (Entry.Budget k change budget) s = refl

all_made : (campaigns place : ℕ) (es : List Entry) → All (AskIsSettled campaigns) es → map award_charge (flat_map (λ (p : ℕ × Entry). made_by p.0 p.1) (enumerate_from place es)) ≡ charges_in es
all_made campaigns place [] s = refl
all_made campaigns place (e ∷ es) s =
    let P : Entry → Type 0 = AskIsSettled campaigns in
    map-append award_charge (made_by place e) (flat_map (λ (p : ℕ × Entry). made_by p.0 p.1) (enumerate_from (place + 1) es))
    ∙ ap₂ (λ (xs ys : List Charge). xs ++ ys) (made_charges campaigns place e (All-head P e es s)) (all_made campaigns (place + 1) es (All-tail P e es s))

left_charges : (history : List Entry) (n : ℕ) (ws : List Award) → map award_charge (map (left_by history) (enumerate_from n ws)) ≡ map award_charge ws
left_charges history n [] = refl
left_charges history n (w ∷ ws) = ap (λ (t : List Charge). award_charge w ∷ t) (left_charges history (n + 1) ws)

-- what the awards of a legal history charge
pub awards_charge : (terms : Terms) (history : List Entry) → IsLegal terms history → map award_charge (awards_of history) ≡ charges_in history
unfolding awards_of
awards_charge terms history legal =
    left_charges history 0 (made history) ∙ all_made (length terms.budgets) 0 history (all_settled terms history legal)

-- how many offers are chosen

chosen_awarded : (a : Ask) (imp : ℕ) → is_some (chosen_of a imp) ≡ is_some (find (is_award imp) a.offers)
chosen_awarded a imp = placed_found is_awarded (admitted imp a.offers) ∙ ap is_some (awarded_admitted imp a.offers)

pub sold_long : (a : Ask) (imps : List ℕ) → sold_of a imps ≡ length (charges_for a imps)
sold_long a [] = refl
sold_long a (imp ∷ imps) =
    let here : sold_for a imp ≡ length (cons_option (charge_at a imp) []) = ap (λ (b : Bool). cond b 1 0) (chosen_awarded a imp) ∙ one (find (is_award imp) a.offers) in
    omega (arith, sum_by-cons (sold_for a) imp imps, sold_long a imps, length-append (cons_option (charge_at a imp) []) (charges_for a imps))
  where
    one : (o : Option Offer) → cond (is_some o) 1 0 ≡ length (cons_option (option_map charge_of o) [])
    one None = refl
    one (Some o) = refl

pub entry_long : (e : Entry) → sold_by e ≡ length (charges_by e)
entry_long (Entry.Ask a) = sold_long a (imps_of a)
entry_long (Entry.Win n) = refl
entry_long (Entry.Bill n) = refl
entry_long (Entry.Loss n) = refl
entry_long (Entry.Expire now) = refl
entry_long (Entry.Budget k change budget) = refl

pub sold_in_long : (es : List Entry) → sold_in es ≡ length (charges_in es)
sold_in_long [] = refl
sold_in_long (e ∷ es) =
    omega (arith, sum_by-cons sold_by e es, entry_long e, sold_in_long es, length-append (charges_by e) (charges_in es))

-- there are as many chosen offers as awards
pub sold_awards : (terms : Terms) (history : List Entry) → IsLegal terms history → sold_in history ≡ length (awards_of history)
sold_awards terms history legal =
    omega (arith, sold_in_long history, ap (λ (t : List Charge). length t) (awards_charge terms history legal), length-map (awards_of history) award_charge)
