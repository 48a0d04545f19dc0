-- The numbers of an ask's awards are not past the last one.
use Rattle.std.proofs.Common.{◌≡◌, ◌≤◌, ℕ, zero, suc, ◌+◌, List, [], ◌∷◌, ◌++◌, map, filter, length, length-append, Bool, true, false, cond, ◌==◌, ◌&&◌, Option, Some, None, option_map, option_and_then, IfSome, Bor, refl, sym, ap, ap₂, ◌∙◌, lit≤, arith}
use Rattle.std.specs.List.{enumerate_from, flat_map, range_with_len}
use Rattle.std.proofs.lemmas.List.{length-map}
use Rattle.adx_units.specs.declared.offer.Offer.{Offer}
use Rattle.allocator_core.specs.declared.reason.TheConstants.{AWARDED}
use Rattle.answer_lines.specs.Answers.{ask_told, place_told}
use Rattle.day_rules.proofs.Asking.{awards_length}
use Rattle.day_rules.proofs.Counting.{few_awards, sales_few}
use Rattle.day_rules.specs.Books.{ask_at, awarded_offers, awards_of, bid_count, made, sale_of, sales_of}
use Rattle.day_rules.specs.Legal.{AskMayFollow, IsLegal}
use Rattle.day_rules.specs.Terms.{AreTerms, Terms}
use Rattle.day_rules.specs.declared.answer.Answer.{Answer}
use Rattle.day_rules.specs.declared.ask.Ask.{Ask}
use Rattle.day_rules.specs.declared.entry.Entry.{Entry}
use Rattle.day_rules.specs.declared.limits.TheConstants.{MAX_BIDS}
use Rattle.script_lines.specs.declared.limits.TheConstants.{LAST_AWARD}
use Rattle.exchange_messages.specs.Sales.{is_award_for, sold_bids}
use Rattle.exchange_messages.specs.Selling.{MayBeTold}

long_if : {A B : Type 0} (b : Bool) (x : A) (xs : List A) (y : B) (ys : List B) → length xs ≡ length ys → length (cond b (x ∷ xs) xs) ≡ length (cond b (y ∷ ys) ys)
long_if true x xs y ys h = omega (arith, h)
long_if false x xs y ys h = h

awards_long : (imp n : ℕ) (offers : List Offer) → length (filter (is_award_for imp) (enumerate_from n offers)) ≡ length (awarded_offers offers imp)
awards_long imp n [] = refl
awards_long imp n (o ∷ os) =
    long_if (o.reason == AWARDED && o.imp == imp) (n, o) (filter (is_award_for imp) (enumerate_from (n + 1) os)) o (awarded_offers os imp) (awards_long imp (n + 1) os)

flat_long : {A B : Type 0} (f : ℕ → List A) (g : ℕ → List B) → ((i : ℕ) → length (f i) ≡ length (g i)) → (numbers : List ℕ) → length (flat_map f numbers) ≡ length (flat_map g numbers)
flat_long f g each [] = refl
flat_long f g each (i ∷ numbers) =
    length-append (f i) (flat_map f numbers) ∙ ap₂ (λ m n. m + n) (each i) (flat_long f g each numbers) ∙ sym (length-append (g i) (flat_map g numbers))

-- the awards with their places are as many as the sales
pub sold_long : (a : Ask) → length (sold_bids a) ≡ length (sales_of a)
sold_long a =
    flat_long (λ imp. filter (is_award_for imp) (enumerate_from 0 a.offers)) (λ imp. map (sale_of a) (awarded_offers a.offers imp))
    (λ imp. awards_long imp 0 a.offers ∙ sym (length-map (awarded_offers a.offers imp) (sale_of a))) (range_with_len 0 (length a.imps))

-- the ask at a place splits its history
at_split : (history : List Entry) (place : ℕ) (a : Ask) → ask_at history place ≡ Some a → (before : List Entry) × (after : List Entry) × (history ≡ before ++ Entry.Ask a ∷ after)
at_split (Entry.Ask b ∷ es) zero a at = let same : b ≡ a = cc at in ([], es, ap (λ x. Entry.Ask x ∷ es) same)
at_split (e ∷ es) (suc place) a at = let s = at_split es place a at in (e ∷ s.0, s.1, ap (λ xs. e ∷ xs) s.2)
at_split history place a at = absurd (cc at)

fits : (first before awards bids offers sold sales limit most cap : ℕ) → before ≡ first → awards ≡ before → awards ≤ bids → bids + offers ≤ limit → limit ≤ most → sold ≡ sales → sales ≤ offers → most ≤ cap → first + sold ≤ cap
fits first before awards bids offers sold sales limit most cap e long few within under same less small = omega arith

-- an ask that is in a legal history may be answered
pub may_be_told : (terms : Terms) (history : List Entry) (place : ℕ) (a : Ask) → AreTerms terms → IsLegal terms history → ask_at history place ≡ Some a → MayBeTold a
may_be_told terms history place a are legal at =
    let s = at_split history place a at in
    let follows : AskMayFollow terms s.0 a = legal s.0 (Entry.Ask a) s.1 s.2 in
    let first : length (made s.0) ≡ a.first = ap (λ (b : Ask). b.first) follows.is_settled in
    record {
      imps = follows.well_formed.few_imps;
      offers = follows.well_formed.few_offers;
      numbers = fits a.first (length (made s.0)) (length (awards_of s.0)) (bid_count s.0) (length a.offers) (length (sold_bids a)) (length (sales_of a)) terms.limits.bids MAX_BIDS (LAST_AWARD + 1)
          first (awards_length s.0) (few_awards s.0) follows.bids are.bids (sold_long a) (sales_few a) (lit≤ tt);
    }

named_told : (terms : Terms) (history : List Entry) (place : Option ℕ) (a : Ask) → AreTerms terms → IsLegal terms history → option_and_then (ask_at history) place ≡ Some a → MayBeTold a
named_told terms history None a are legal at = absurd (cc at)
named_told terms history (Some place) a are legal at = may_be_told terms history place a are legal at

-- so is the ask that an answer is about
pub told_fits : (terms : Terms) (history : List Entry) (answer : Answer) (a : Ask) → AreTerms terms → IsLegal terms history → ask_told history answer ≡ Some a → MayBeTold a
told_fits terms history answer a are legal at = named_told terms history (place_told answer) a are legal at

-- what holds of each ask that an option shows holds of the one that it lends
pub lent_fits : (o : Option (Bor Ask)) → ((a : Ask) → option_map (λ x. x.now) o ≡ Some a → MayBeTold a) → IfSome o (λ a. MayBeTold a.now)
lent_fits None h = tt
lent_fits (Some x) h = h x.now refl
