-- What the asks of a legal history are like: formed, and with one award of each impression at most.
use Rattle.std.proofs.Common.{◌≡◌, ℕ, List, [], ◌∷◌, length, Bool, true, false, ◌&&◌, ◌||◌, eqb, refl, sym, ap, ◌∙◌, Option, Some, None}
use Rattle.std.specs.List.{All, cons_option, filter, find}
use Rattle.std.proofs.lemmas.Bool.{eqb-true, false≢true}
use Rattle.std.proofs.lemmas.List.Elements.{All-append, All-cons, All-nil}
use Rattle.adx_units.specs.declared.offer.Offer.{Offer}
use Rattle.allocator_core.specs.declared.reason.TheConstants.{AWARDED, LOST_TO_HIGHER, OVER_BUDGET}
use Rattle.day_rules.specs.declared.ask.Ask.{Ask}
use Rattle.day_rules.specs.declared.entry.Entry.{Entry}
use Rattle.day_rules.specs.Asks.{IsWellFormed}
use Rattle.day_rules.specs.Laws.{StandsSettled, choice_for}
use Rattle.day_rules.specs.Legal.{AskMayFollow, IsLegal, MayFollow}
use Rattle.day_rules.specs.Terms.{Terms}
use Rattle.day_rules.proofs.Choices.{stands_settled}
use Rattle.day_rules.proofs.Histories.{legal_induction, legal_push}
use Rattle.served_record.specs.Served.{admitted, is_admitted, is_awarded}
use Rattle.served_record.specs.Steps.{is_award}
use Rattle.served_record.proofs.Lists.{filter_one, find_filter}

-- at most one offer of each impression is awarded
abbrev pub SellsOnce : Ask → Type 0
SellsOnce a = (imp : ℕ) → filter (is_award imp) a.offers ≡ cons_option (find (is_award imp) a.offers) []

pub record IsSettled (campaigns : ℕ) (a : Ask) : Type 0 where
  pub formed : IsWellFormed campaigns a
  pub once : SellsOnce a

-- the asks of entries
abbrev pub AskIsSettled : ℕ → Entry → Type 0
AskIsSettled campaigns (Entry.Ask a) = IsSettled campaigns a
AskIsSettled campaigns (Entry.Win n) = Unit {0}
AskIsSettled campaigns (Entry.Bill n) = Unit {0}
AskIsSettled campaigns (Entry.Loss n) = Unit {0}
AskIsSettled campaigns (Entry.Expire now) = Unit {0}
AskIsSettled campaigns (Entry.Budget k change budget) = Unit {0}

award_parts : (imp : ℕ) (o : Offer) → is_award imp o ≡ true → (o.reason ≡ AWARDED) × (o.imp ≡ imp)
award_parts imp o h =
    (eqb-true o.reason AWARDED (both_first (eqb o.reason AWARDED) (eqb o.imp imp) h), eqb-true o.imp imp (both_second (eqb o.reason AWARDED) (eqb o.imp imp) h))
  where
    both_first : (b c : Bool) → (b && c) ≡ true → b ≡ true
    both_first true c h = refl
    both_first false c h = h

    both_second : (b c : Bool) → (b && c) ≡ true → c ≡ true
    both_second true c h = h
    both_second false c h = absurd (false≢true h)

same_place : (i j : ℕ) → Some i ≡ Some j → i ≡ j
same_place i j h = ap unwrapped h
  where
    unwrapped : Option ℕ → ℕ
    unwrapped None = 0
    unwrapped (Some k) = k

pub sells_once : (terms : Terms) (before : List Entry) (a : Ask) → StandsSettled terms before a → SellsOnce a
sells_once terms before a s imp =
    filter_one (is_award imp) a.offers (λ i j x y at also first second.
    let one = award_parts imp x first in
    let two = award_parts imp y second in
    let chosen : ℕ → Option ℕ = choice_for terms before a in
    let here : chosen imp ≡ Some i = ap chosen (sym one.1) ∙ (s.awarded i x at).0 one.0 in
    let there : chosen imp ≡ Some j = ap chosen (sym two.1) ∙ (s.awarded j y also).0 two.0 in
    same_place i j (sym here ∙ there))

pub ask_settled : (terms : Terms) (before : List Entry) (a : Ask) → IsLegal terms before → AskMayFollow terms before a → IsSettled (length terms.budgets) a
ask_settled terms before a legal follows = record {
  formed = follows.well_formed;
  once = sells_once terms before a (stands_settled terms before a [] (legal_push terms before (Entry.Ask a) legal follows));
}

entry_settled : (terms : Terms) (before : List Entry) (e : Entry) → IsLegal terms before → MayFollow terms before e → AskIsSettled (length terms.budgets) e
entry_settled terms before (Entry.Ask a) legal follows = ask_settled terms before a legal follows
entry_settled terms before (Entry.Win n) legal follows = tt
entry_settled terms before (Entry.Bill n) legal follows = tt
entry_settled terms before (Entry.Loss n) legal follows = tt
entry_settled terms before (Entry.Expire now) legal follows = tt
entry_settled terms before (Entry.Budget k change budget) legal follows = tt

-- each ask of a legal history is formed, and sells each impression once at most
pub all_settled : (terms : Terms) (history : List Entry) → IsLegal terms history → All (AskIsSettled (length terms.budgets)) history
all_settled terms history legal =
    let P : Entry → Type 0 = AskIsSettled (length terms.budgets) in
    legal_induction terms (All P) (All-nil P)
    (λ h e before follows so_far. All-append P h (e ∷ []) so_far (All-cons P e [] (entry_settled terms h e before follows) (All-nil P)))
    history legal

-- an awarded offer is one of the admitted ones
pub awarded_admitted : (imp : ℕ) (offers : List Offer) → find is_awarded (admitted imp offers) ≡ find (is_award imp) offers
awarded_admitted imp offers = find_filter is_awarded (is_admitted imp) (is_award imp) offers (λ o. by (eqb o.reason AWARDED) (eqb o.reason LOST_TO_HIGHER || eqb o.reason OVER_BUDGET) (eqb o.imp imp))
  where
    by : (a r i : Bool) → (((a || r) && i) && a) ≡ (a && i)
    by true r true = refl
    by true r false = refl
    by false true true = refl
    by false true false = refl
    by false false i = refl
