-- What a history sold, entry by entry, and by its awards.
use Rattle.std.proofs.Common.{◌≡◌, ◌∙◌, ℕ, zero, suc, ◌+◌, ◌<◌, List, [], ◌∷◌, ◌++◌, map, length, take, get_or, Bool, true, false, cond, Option, Some, None, refl, sym, ap, ap₂, arith, append_assoc, append-nil}
use Rattle.std.specs.List.{cons_option, enumerate_from, filter_map, flat_map, range_with_len}
use Rattle.std.specs.Option.{option_map_or}
use Rattle.std.specs.Prelude.{option_and_then, option_map, slice_get}
use Rattle.std.proofs.lemmas.List.{get_or_default, length-take, map-append, take_more}
use Rattle.std.proofs.lemmas.List.Concat.{flat_map-append}
use Rattle.std.proofs.lemmas.List.Elements.{filter_map-append}
use Rattle.std.proofs.lemmas.Option.{slice_get-map}
use Rattle.adx_units.specs.declared.offer.Offer.{Offer}
use Rattle.command_reconcile.specs.declared.bill.Bill.{Bill}
use Rattle.command_reconcile.specs.DayBills.{billed_award, day_bills, entry_bill, owed_bill}
use Rattle.command_reconcile.specs.Sales.{is_sold, owed_sale, sale_bill, sale_by, sale_of, sold, sold_at, sold_by, sold_for, sold_of}
use Rattle.command_reconcile.specs.declared.day_bills.Sale.{Sale}
use Rattle.day_rules.proofs.Lists.{enumerate-append}
use Rattle.day_rules.specs.Books.{award_of, awarded_offers, made, made_by, sales_of}
use Rattle.day_rules.specs.Books.{sale_of as offer_sale}
use Rattle.day_rules.specs.Entries.{asked}
use Rattle.day_rules.specs.declared.ask.Ask.{Ask}
use Rattle.day_rules.specs.declared.entry.Entry.{Entry}
use Rattle.deal_floor.specs.declared.campaign.Campaign.{Campaign}
use Rattle.notice_book.specs.declared.award.Award.{Award}

-- ---- a list that grows at a turn of a loop

joined : {Y : Type 0} (start front last mid new : List Y) → mid ≡ start ++ front → new ≡ mid ++ last → new ≡ start ++ (front ++ last)
joined start front last mid new before now = now ∙ (ap (λ (t : List _). t ++ last) before ∙ append_assoc start front last)

pub flat_more : {X Y : Type 0} (f : X → List Y) (start : List Y) (xs : List X) (i : ℕ) (x : X) (mid new : List Y) → i < length xs → get_or xs i x ≡ x → mid ≡ start ++ flat_map f (take i xs) → new ≡ mid ++ f x → new ≡ start ++ flat_map f (take (i + 1) xs)
flat_more {X} {Y} f start xs i x mid new within here before now =
    joined start (flat_map f (take i xs)) (f x) mid new before now
    ∙ ap (λ (t : List Y). start ++ t)
    (sym (ap (flat_map f) (take_more xs i x within ∙ ap (λ (y : X). take i xs ++ y ∷ []) here)
    ∙ (flat_map-append f (take i xs) (x ∷ []) ∙ ap (λ (t : List Y). flat_map f (take i xs) ++ t) (append-nil (f x)))))

-- the same with the item at its place whatever the default
pub flat_next : {X Y : Type 0} (f : X → List Y) (start : List Y) (xs : List X) (i : ℕ) (d : X) (mid new : List Y) → i < length xs → mid ≡ start ++ flat_map f (take i xs) → new ≡ mid ++ f (get_or xs i d) → new ≡ start ++ flat_map f (take (i + 1) xs)
flat_next f start xs i d mid new within before now = flat_more f start xs i (get_or xs i d) mid new within (get_or_default xs i (get_or xs i d) d within) before now

range_join : (from n : ℕ) → range_with_len from (n + 1) ≡ range_with_len from n ++ (from + n) ∷ []
range_join from zero = ap (λ k. k ∷ []) (omega arith)
range_join from (suc k) =
    let e : suc k + 1 ≡ suc (k + 1) = omega arith in
    ap (range_with_len from) e
    ∙ (ap (λ (t : List ℕ). from ∷ t) (range_join (from + 1) k)
    ∙ ap (λ j. from ∷ (range_with_len (from + 1) k ++ j ∷ [])) (omega arith))

pub range_more : {Y : Type 0} (f : ℕ → List Y) (start : List Y) (i : ℕ) (mid new : List Y) → mid ≡ start ++ flat_map f (range_with_len 0 i) → new ≡ mid ++ f i → new ≡ start ++ flat_map f (range_with_len 0 (i + 1))
range_more {Y} f start i mid new before now =
    joined start (flat_map f (range_with_len 0 i)) (f i) mid new before now
    ∙ ap (λ (t : List Y). start ++ t)
    (sym (ap (flat_map f) (range_join 0 i)
    ∙ (flat_map-append f (range_with_len 0 i) ((0 + i) ∷ [])
    ∙ ap (λ (t : List Y). flat_map f (range_with_len 0 i) ++ t) (append-nil (f (0 + i)) ∙ ap f (omega arith)))))

pub numbered_more : {X Y : Type 0} (f : ℕ × X → List Y) (xs : List X) (i : ℕ) (x : X) (mid new : List Y) → i < length xs → get_or xs i x ≡ x → mid ≡ flat_map f (enumerate_from 0 (take i xs)) → new ≡ mid ++ f (i, x) → new ≡ flat_map f (enumerate_from 0 (take (i + 1) xs))
numbered_more {X} {Y} f xs i x mid new within here before now =
    let front : List X = take i xs in
    let more : take (i + 1) xs ≡ front ++ x ∷ [] = take_more xs i x within ∙ ap (λ (y : X). front ++ y ∷ []) here in
    let place : 0 + length front ≡ i = omega (arith, length-take i xs) in
    now ∙ (ap (λ (t : List Y). t ++ f (i, x)) before
    ∙ sym (ap (λ (l : List X). flat_map f (enumerate_from 0 l)) more
    ∙ (ap (flat_map f) (enumerate-append 0 front (x ∷ []) ∙ ap (λ (k : ℕ). enumerate_from 0 front ++ (k, x) ∷ []) place)
    ∙ (flat_map-append f (enumerate_from 0 front) ((i, x) ∷ [])
    ∙ ap (λ (t : List Y). flat_map f (enumerate_from 0 front) ++ t) (append-nil (f (i, x)))))))

pub optional_more : {X Y : Type 0} (f : X → Option Y) (xs : List X) (i : ℕ) (x : X) (mid new : List Y) → i < length xs → get_or xs i x ≡ x → mid ≡ filter_map f (take i xs) → new ≡ mid ++ cons_option (f x) [] → new ≡ filter_map f (take (i + 1) xs)
optional_more {X} {Y} f xs i x mid new within here before now =
    now ∙ (ap (λ (t : List Y). t ++ cons_option (f x) []) before
    ∙ sym (ap (filter_map f) (take_more xs i x within ∙ ap (λ (y : X). take i xs ++ y ∷ []) here) ∙ filter_map-append f (take i xs) (x ∷ [])))

-- ---- what was sold, by the awards

map_flat : {X A B : Type 0} (g : A → B) (f : X → List A) (xs : List X) → map g (flat_map f xs) ≡ flat_map (λ x. map g (f x)) xs
map_flat g f [] = refl
map_flat {X} {A} {B} g f (x ∷ xs) = map-append g (f x) (flat_map f xs) ∙ ap (λ (t : List B). map g (f x) ++ t) (map_flat g f xs)

flat_same : {X A : Type 0} (f g : X → List A) → ((x : X) → f x ≡ g x) → (xs : List X) → flat_map f xs ≡ flat_map g xs
flat_same f g same [] = refl
flat_same {X} {A} f g same (x ∷ xs) = ap₂ (λ (s t : List A). s ++ t) (same x) (flat_same f g same xs)

module _ (place : ℕ) (a : Ask) (imp : ℕ) where
  abbrev told : List Offer → List Sale
  told offers = map sale_of (map (award_of place) (map (offer_sale a) offers))

  one_more : (b : Bool) (o : Offer) (os kept : List Offer) → flat_map (sold_at place imp) os ≡ told kept → cond b (sale_by place o ∷ []) [] ++ flat_map (sold_at place imp) os ≡ told (cond b (o ∷ kept) kept)
  one_more true o os kept same = ap (λ (t : List Sale). sale_by place o ∷ t) same
  one_more false o os kept same = same

  offers_sold : (offers : List Offer) → flat_map (sold_at place imp) offers ≡ told (awarded_offers offers imp)
  offers_sold [] = refl
  offers_sold (o ∷ os) = one_more (is_sold imp o) o os (awarded_offers os imp) (offers_sold os)

ask_sold : (place : ℕ) (a : Ask) → sold_of place a ≡ map sale_of (map (award_of place) (sales_of a))
ask_sold place a =
    let imps : List ℕ = range_with_len 0 (length a.imps) in
    flat_same (sold_for place a.offers) (λ imp. told place a imp (awarded_offers a.offers imp)) (λ imp. offers_sold place a imp a.offers) imps
    ∙ sym (ap (map sale_of) (map_flat (award_of place) (λ imp. map (offer_sale a) (awarded_offers a.offers imp)) imps)
    ∙ map_flat sale_of (λ imp. map (award_of place) (map (offer_sale a) (awarded_offers a.offers imp))) imps)

entry_sold : (p : ℕ × Entry) → sold_by p ≡ map sale_of (made_by p.0 p.1)
entry_sold p = by (asked p.1)
  where
    by : (o : Option Ask) → option_map_or (sold_of p.0) o [] ≡ map sale_of (option_map_or (λ a. map (award_of p.0) (sales_of a)) o [])
    by None = refl
    by (Some a) = ask_sold p.0 a

sold_is : (history : List Entry) → sold history ≡ map sale_of (made history)
sold_is history =
    flat_same sold_by (λ p. map sale_of (made_by p.0 p.1)) entry_sold (enumerate_from 0 history)
    ∙ sym (map_flat sale_of (λ (p : ℕ × Entry). made_by p.0 p.1) (enumerate_from 0 history))

module _ (campaigns : List Campaign) (bidder : ℕ) (history : List Entry) where
  owed_same : (w : Option Award) → option_and_then (owed_sale campaigns bidder history) (option_map sale_of w) ≡ option_and_then (owed_bill campaigns bidder history) w
  owed_same None = refl
  owed_same (Some w) = refl

  bill_same : (e : Entry) → sale_bill campaigns bidder history (sold history) e ≡ entry_bill campaigns bidder history e
  bill_same e = by (billed_award e)
    where
      by : (o : Option ℕ) → option_and_then (owed_sale campaigns bidder history) (option_and_then (slice_get (sold history)) o) ≡ option_and_then (owed_bill campaigns bidder history) (option_and_then (slice_get (made history)) o)
      by None = refl
      by (Some n) =
          ap (option_and_then (owed_sale campaigns bidder history)) (ap (λ (sales : List Sale). slice_get sales n) (sold_is history) ∙ slice_get-map sale_of (made history) n)
          ∙ owed_same (slice_get (made history) n)

  bills_same : (es : List Entry) → filter_map (sale_bill campaigns bidder history (sold history)) es ≡ filter_map (entry_bill campaigns bidder history) es
  bills_same [] = refl
  bills_same (e ∷ es) = ap₂ (λ (b : Option Bill) (bs : List Bill). cons_option b bs) (bill_same e) (bills_same es)

  -- the bills that were gathered by what was sold are the history's
  pub bills_are : (sales : List Sale) (bills : List Bill) → sales ≡ sold history → bills ≡ filter_map (sale_bill campaigns bidder history sales) history → bills ≡ day_bills campaigns bidder history
  bills_are sales bills is gathered = gathered ∙ ap (λ (s : List Sale). filter_map (sale_bill campaigns bidder history s) history) is ∙ bills_same history
