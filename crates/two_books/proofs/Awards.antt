-- The bids that a history awarded are apart, and their charges are those of its awards.
use Rattle.std.proofs.Common.{◌≡◌, ◌≢◌, ℕ, zero, suc, ◌+◌, ◌<◌, List, [], ◌∷◌, ◌++◌, length, map, Bool, true, false, cond, ◌==◌, refl, sym, ap, ap₂, ◌∙◌, subst, arith, append-nil, All, Some, None}
use Rattle.std.specs.Prelude.{filter, find, slice_get, unwrap_or, bytes_eq}
use Rattle.std.specs.List.{enumerate_from, filter_map, flat_map, range_with_len}
use Rattle.std.specs.Option.{option_map}
use Rattle.std.proofs.lemmas.Bool.{and_parts, true≢false}
use Rattle.std.proofs.lemmas.Bool.Decides.{nat_tests}
use Rattle.std.proofs.lemmas.List.{map-append}
use Rattle.std.proofs.lemmas.List.Elements.{All-append, All-cons, All-head, All-nil, All-tail, All-weaker}
use Rattle.std.proofs.lemmas.Option.{same_Some, slice_get-map}
use Rattle.std.proofs.lemmas.Slice.Eq.{bytes_eq-Decides}
use Rattle.adx_units.specs.declared.offer.Offer.{Offer}
use Rattle.allocator_core.specs.declared.reason.TheConstants.{AWARDED}
use Rattle.day_rules.specs.Books.{Sale, award_of, awards_of, made, made_by, placed_ask, sale_of, sales_of}
use Rattle.day_rules.specs.Legal.{IsLegal, MayFollow}
use Rattle.day_rules.specs.Terms.{Terms}
use Rattle.day_rules.specs.declared.ask.Ask.{Ask}
use Rattle.day_rules.specs.declared.ask.Kept.{Kept}
use Rattle.day_rules.specs.declared.entry.Entry.{Entry}
use Rattle.day_rules.proofs.Histories.{legal_induction}
use Rattle.day_rules.proofs.Lists.{all_front}
use Rattle.day_rules.proofs.Selling.{WasMade, was_made}
use Rattle.notice_book.specs.declared.award.Award.{Award}
use Rattle.outbox.specs.Bids.{Bid, awarded, awarded_by, is_award, no_texts, texts_at}
use Rattle.outbox.proofs.Sold.{awarded_push, bids_are, bids_by, made_bid, map_map, sales_are, winners, winners_for}
use Rattle.two_books.proofs.Telling.{all_at}
use Rattle.two_books.specs.Settling.{AreApart, Distinct, IsApartEntry, burls}
use Rattle.two_books.proofs.Pairs.{IsOfKey, distinct_append, distinct_filter, distinct_keys, distinct_map, distinct_weaker, range_rises}

-- ---- the texts of two places

-- the URL of the texts of a place is a kept one or none
kept_or_none : (P : List ℕ → Type 0) (kept : List Kept) (place : ℕ) → P [] → All P (burls kept) → P (texts_at kept place).burl
kept_or_none P [] place none all = none
kept_or_none P (k ∷ kept) place none all = by (k.bid == place) (kept_or_none P kept place none (All-tail P k.burl (burls kept) all))
  where
    by : (t : Bool) → P (texts_at kept place).burl → P (Kept.burl (unwrap_or (cond t (Some k) (find (λ (x : Kept). x.bid == place) kept)) (no_texts place)))
    by true rest = All-head P k.burl (burls kept) all
    by false rest = rest

same_place : (a b c : ℕ) → (a == b) ≡ true → (a == c) ≡ true → b ≡ c
same_place a b c e f = grind (arith, nat_tests)

-- the URL of the texts that are kept of a place, by whether the first are
abbrev burl_if : Bool → Kept → List Kept → ℕ → List ℕ
burl_if t k kept place = Kept.burl (unwrap_or (cond t (Some k) (find (λ (x : Kept). x.bid == place) kept)) (no_texts place))

texts_apart : (kept : List Kept) (i j : ℕ) → Distinct AreApart (burls kept) → i ≢ j → AreApart (texts_at kept i).burl (texts_at kept j).burl
texts_apart [] i j h other = λ same. refl
texts_apart (k ∷ kept) i j h other = by (k.bid == i) (k.bid == j) refl refl (texts_apart kept i j h.1 other)
  where
    first : (place : ℕ) → AreApart k.burl (texts_at kept place).burl
    first place = kept_or_none (AreApart k.burl) kept place (λ same. same) h.0

    by : (s t : Bool) → (k.bid == i) ≡ s → (k.bid == j) ≡ t → AreApart (texts_at kept i).burl (texts_at kept j).burl → AreApart (burl_if s k kept i) (burl_if t k kept j)
    by true true e f rest = absurd (other (same_place k.bid i j e f))
    by true false e f rest = first j
    by false true e f rest = λ same. same ∙ first i (sym same)
    by false false e f rest = rest

-- ---- the bids of one ask

abbrev Placed : ℕ × Offer → ℕ × Offer → Type 0
Placed p q = p.0 ≢ q.0

module _ (a : Ask) where
  -- a winner for an impression, at its place among the offers
  record IsWinner (imp : ℕ) (p : ℕ × Offer) : Type 0 where
    pub at : slice_get a.offers p.0 ≡ Some p.1
    pub imp_is : p.1.imp ≡ imp

  other_winner : (i j : ℕ) (p q : ℕ × Offer) → IsWinner i p → IsWinner j q → i < j → Placed p q
  other_winner i j p q x y below same =
      let one : p.1 ≡ q.1 = same_Some p.1 q.1 (sym x.at ∙ (ap (slice_get a.offers) same ∙ y.at)) in
      let imps : i ≡ j = sym x.imp_is ∙ (ap (λ (o : Offer). o.imp) one ∙ y.imp_is) in
      absurd (omega (arith, imps, below))

  abbrev Key : ℕ → ℕ
  Key imp = imp

  -- offers after others, with their places
  offers_at : (n : ℕ) (os : List Offer) → ((k : ℕ) (o : Offer) → slice_get os k ≡ Some o → slice_get a.offers (n + k) ≡ Some o) → All (λ (p : ℕ × Offer). slice_get a.offers p.0 ≡ Some p.1) (enumerate_from n os)
  offers_at n [] here = All-nil (λ (p : ℕ × Offer). slice_get a.offers p.0 ≡ Some p.1)
  offers_at n (o ∷ os) here =
      All-cons (λ (p : ℕ × Offer). slice_get a.offers p.0 ≡ Some p.1) (n, o) (enumerate_from (n + 1) os)
      (subst (λ m. slice_get a.offers m ≡ Some o) (omega arith) (here 0 o refl))
      (offers_at (n + 1) os (λ k x is. subst (λ m. slice_get a.offers m ≡ Some x) (omega arith) (here (suc k) x is)))

  passed : (imp : ℕ) (ps : List (ℕ × Offer)) → All (λ (p : ℕ × Offer). slice_get a.offers p.0 ≡ Some p.1) ps → All (IsWinner imp) (filter (is_award imp) ps)
  passed imp [] all = All-nil (IsWinner imp)
  passed imp (p ∷ ps) all = by (is_award imp p) refl (passed imp ps (All-tail (λ (q : ℕ × Offer). slice_get a.offers q.0 ≡ Some q.1) p ps all))
    where
      one : (p.1.imp == imp) ≡ true → p.1.imp ≡ imp
      one e = grind (arith, nat_tests)

      by : (t : Bool) → is_award imp p ≡ t → All (IsWinner imp) (filter (is_award imp) ps) → All (IsWinner imp) (cond t (p ∷ filter (is_award imp) ps) (filter (is_award imp) ps))
      by true is rest =
          All-cons (IsWinner imp) p (filter (is_award imp) ps)
          (record { at = All-head (λ (q : ℕ × Offer). slice_get a.offers q.0 ≡ Some q.1) p ps all; imp_is = one (and_parts (p.1.reason == AWARDED) (p.1.imp == imp) is).1 }) rest
      by false is rest = rest

  places_apart : (n : ℕ) (os : List Offer) → Distinct Placed (enumerate_from n os)
  places_apart n [] = tt
  places_apart n (o ∷ os) = (later n (n + 1) os (omega arith), places_apart (n + 1) os)
    where
      later : (m k : ℕ) (xs : List Offer) → m < k → All (Placed (m, o)) (enumerate_from k xs)
      later m k [] below = All-nil (Placed (m, o))
      later m k (x ∷ xs) below = All-cons (Placed (m, o)) (k, x) (enumerate_from (k + 1) xs) (λ e. absurd (omega (arith, e, below))) (later m (k + 1) xs (omega (arith, below)))

  winners_of : (imp : ℕ) → IsOfKey Placed IsWinner Key (winners_for a) other_winner imp
  winners_of imp = record {
    each = passed imp (enumerate_from 0 a.offers) (offers_at 0 a.offers (λ k o is. subst (λ m. slice_get a.offers m ≡ Some o) (omega arith) is));
    distinct = distinct_filter Placed (is_award imp) (enumerate_from 0 a.offers) (places_apart 0 a.offers);
  }

  winners_apart : Distinct Placed (winners a)
  winners_apart =
      distinct_keys Placed IsWinner Key (winners_for a) other_winner 0 (range_with_len 0 (length a.imps)) (range_rises 0 (length a.imps)) (all (range_with_len 0 (length a.imps)))
    where
      all : (imps : List ℕ) → All (IsOfKey Placed IsWinner Key (winners_for a) other_winner) imps
      all [] = All-nil (IsOfKey Placed IsWinner Key (winners_for a) other_winner)
      all (i ∷ imps) = All-cons (IsOfKey Placed IsWinner Key (winners_for a) other_winner) i imps (winners_of i) (all imps)

-- two bids are of two auctions, or have URLs of their own
abbrev pub AreOthers : Bid → Bid → Type 0
AreOthers b c = b.auction ≡ c.auction → AreApart b.texts.burl c.texts.burl

ask_apart : (a : Ask) → Distinct AreApart (burls a.kept) → Distinct AreOthers (awarded_by a)
ask_apart a h =
    subst (Distinct AreOthers) (sym (bids_are a))
    (distinct_map AreOthers (made_bid a) (winners a)
    (distinct_weaker Placed (λ p q. AreOthers (made_bid a p) (made_bid a q)) (λ p q other auction. texts_apart a.kept p.0 q.0 h other) (winners a) (winners_apart a)))

-- ---- the bids of a history

abbrev Of : List ℕ → Bid → Type 0
Of auction b = b.auction ≡ auction

named_by : (a : Ask) (ps : List (ℕ × Offer)) → All (Of a.auction) (map (made_bid a) ps)
named_by a [] = All-nil (Of a.auction)
named_by a (p ∷ ps) = All-cons (Of a.auction) (made_bid a p) (map (made_bid a) ps) refl (named_by a ps)

ask_named : (a : Ask) → All (Of a.auction) (awarded_by a)
ask_named a = subst (All (Of a.auction)) (sym (bids_are a)) (named_by a (winners a))

abbrev NotOf : List ℕ → Bid → Type 0
NotOf auction b = b.auction ≢ auction

-- no bid is of an auction that was sought among asks and not found
none_of : (auction : List ℕ) (n : ℕ) (es : List Entry) → find (λ (p : ℕ × Ask). bytes_eq p.1.auction auction) (filter_map placed_ask (enumerate_from n es)) ≡ None → All (NotOf auction) (awarded es)
none_of auction n [] none = All-nil (NotOf auction)
none_of auction n (Entry.Ask b ∷ es) none = by (none_of auction (n + 1) es) (bytes_eq b.auction auction) refl none
  where
    rest : List (ℕ × Ask)
    rest = filter_map placed_ask (enumerate_from (n + 1) es)

    other : bytes_eq b.auction auction ≡ false → (c : Bid) → Of b.auction c → NotOf auction c
    other is c of same = true≢false (sym ((bytes_eq-Decides b.auction auction).1 (sym of ∙ same)) ∙ is)

    by : (find (λ (p : ℕ × Ask). bytes_eq p.1.auction auction) rest ≡ None → All (NotOf auction) (awarded es)) → (t : Bool) → bytes_eq b.auction auction ≡ t
        → cond t (Some (n, b)) (find (λ (p : ℕ × Ask). bytes_eq p.1.auction auction) rest) ≡ None → All (NotOf auction) (awarded_by b ++ awarded es)
    by later true is e = absurd (cc)
    by later false is e =
        All-append (NotOf auction) (awarded_by b) (awarded es) (All-weaker (Of b.auction) (NotOf auction) (other is) (awarded_by b) (ask_named b)) (later e)
none_of auction n (Entry.Win m ∷ es) none = none_of auction (n + 1) es none
none_of auction n (Entry.Bill m ∷ es) none = none_of auction (n + 1) es none
none_of auction n (Entry.Loss m ∷ es) none = none_of auction (n + 1) es none
none_of auction n (Entry.Expire now ∷ es) none = none_of auction (n + 1) es none
none_of auction n (Entry.Budget campaign change budget ∷ es) none = none_of auction (n + 1) es none

last_of_all : {X : Type 0} (P : X → Type 0) (xs : List X) (x : X) → All P (xs ++ x ∷ []) → P x
last_of_all P [] x all = All-head P x [] all
last_of_all P (y ∷ xs) x all = last_of_all P xs x (All-tail P y (xs ++ x ∷ []) all)

-- so far no two of the awarded bids have one URL for their bills in one auction
abbrev AreOtherwise : List Entry → Type 0
AreOtherwise history = All IsApartEntry history → Distinct AreOthers (awarded history)

no_more : (history : List Entry) (e : Entry) → awarded (history ++ e ∷ []) ≡ awarded history ++ [] → AreOtherwise history → AreOtherwise (history ++ e ∷ [])
no_more history e same before all =
    subst (Distinct AreOthers) (sym (same ∙ append-nil (awarded history))) (before (all_front IsApartEntry history (e ∷ []) all))

others_push : (terms : Terms) (history : List Entry) (e : Entry) → MayFollow terms history e → AreOtherwise history → AreOtherwise (history ++ e ∷ [])
others_push terms history (Entry.Ask a) follows before all =
    let own : Distinct AreApart (burls a.kept) = last_of_all IsApartEntry history (Entry.Ask a) all in
    subst (Distinct AreOthers) (sym (awarded_push history (Entry.Ask a)))
    (distinct_append AreOthers (awarded history) (awarded_by a) (before (all_front IsApartEntry history (Entry.Ask a ∷ []) all)) (ask_apart a own)
    (All-weaker (NotOf a.auction) (λ b. All (AreOthers b) (awarded_by a))
    (λ b not. All-weaker (Of a.auction) (AreOthers b) (λ c of same. absurd (not (same ∙ of))) (awarded_by a) (ask_named a))
    (awarded history) (none_of a.auction 0 history follows.new)))
others_push terms history (Entry.Win n) follows before all = no_more history (Entry.Win n) (awarded_push history (Entry.Win n)) before all
others_push terms history (Entry.Bill n) follows before all = no_more history (Entry.Bill n) (awarded_push history (Entry.Bill n)) before all
others_push terms history (Entry.Loss n) follows before all = no_more history (Entry.Loss n) (awarded_push history (Entry.Loss n)) before all
others_push terms history (Entry.Expire now) follows before all = no_more history (Entry.Expire now) (awarded_push history (Entry.Expire now)) before all
others_push terms history (Entry.Budget campaign change budget) follows before all =
    no_more history (Entry.Budget campaign change budget) (awarded_push history (Entry.Budget campaign change budget)) before all

pub all_others : (terms : Terms) (history : List Entry) → IsLegal terms history → All IsApartEntry history → Distinct AreOthers (awarded history)
all_others terms history legal = legal_induction terms AreOtherwise (λ all. tt) (λ h e _ follows before. others_push terms h e follows before) history legal

-- two awards whose bids are of one auction and have one URL are one
pub one_number : (bs : List Bid) (n m : ℕ) (b c : Bid) → Distinct AreOthers bs → slice_get bs n ≡ Some b → slice_get bs m ≡ Some c → b.auction ≡ c.auction → b.texts.burl ≡ c.texts.burl → b.texts.burl ≢ [] → n ≡ m
one_number [] n m b c h is at auction url some = absurd (cc)
one_number (x ∷ bs) zero zero b c h is at auction url some = refl
one_number (x ∷ bs) zero (suc m) b c h is at auction url some =
    let same : x ≡ b = same_Some x b is in
    let other : AreOthers x c = all_at (AreOthers x) bs m c h.0 at in
    absurd (some (ap (λ (y : Bid). y.texts.burl) (sym same) ∙ other (ap (λ (y : Bid). y.auction) same ∙ auction) (ap (λ (y : Bid). y.texts.burl) same ∙ url)))
one_number (x ∷ bs) (suc n) zero b c h is at auction url some =
    let same : x ≡ c = same_Some x c at in
    let other : AreOthers x b = all_at (AreOthers x) bs n b h.0 is in
    absurd (some (url ∙ (ap (λ (y : Bid). y.texts.burl) (sym same) ∙ other (ap (λ (y : Bid). y.auction) same ∙ sym auction) (ap (λ (y : Bid). y.texts.burl) same ∙ sym url))))
one_number (x ∷ bs) (suc n) (suc m) b c h is at auction url some = ap suc (one_number bs n m b c h.1 is at auction url some)

-- ---- charges

charge_by : Award → ℕ
charge_by w = w.charge.0

paid_by : Bid → ℕ
paid_by b = b.charge.0

ask_paid : (place : ℕ) (a : Ask) → map paid_by (awarded_by a) ≡ map charge_by (map (award_of place) (sales_of a))
unfolding charge_by paid_by
ask_paid place a =
    ap (map paid_by) (bids_are a)
    ∙ (map_map paid_by (made_bid a) (winners a)
    ∙ (sym (map_map charge_by (λ (p : ℕ × Offer). award_of place (sale_of a p.1)) (winners a))
    ∙ (ap (map charge_by) (sym (map_map (award_of place) (λ (p : ℕ × Offer). sale_of a p.1) (winners a)))
    ∙ ap (λ (ss : List Sale). map charge_by (map (award_of place) ss)) (sym (sales_are a)))))

entry_paid : (place : ℕ) (e : Entry) → map paid_by (bids_by e) ≡ map charge_by (made_by place e)
entry_paid place (Entry.Ask a) = ask_paid place a
entry_paid place (Entry.Win n) = refl
entry_paid place (Entry.Bill n) = refl
entry_paid place (Entry.Loss n) = refl
entry_paid place (Entry.Expire now) = refl
entry_paid place (Entry.Budget campaign change budget) = refl

all_paid : (n : ℕ) (es : List Entry) → map paid_by (awarded es) ≡ map charge_by (flat_map (λ (p : ℕ × Entry). made_by p.0 p.1) (enumerate_from n es))
all_paid n [] = refl
all_paid n (e ∷ es) =
    map-append paid_by (bids_by e) (awarded es)
    ∙ (ap₂ (λ (xs ys : List ℕ). xs ++ ys) (entry_paid n e) (all_paid (n + 1) es)
    ∙ sym (map-append charge_by (made_by n e) (flat_map (λ (p : ℕ × Entry). made_by p.0 p.1) (enumerate_from (n + 1) es))))

-- the charge of an award is that of its bid
pub same_charge : (history : List Entry) (n : ℕ) (b : Bid) (w : Award) → slice_get (awarded history) n ≡ Some b → slice_get (awards_of history) n ≡ Some w → b.charge.0 ≡ w.charge.0
unfolding charge_by paid_by
same_charge history n b w bid award =
    let was : WasMade history n w = was_made history n w award in
    let left : slice_get (map paid_by (awarded history)) n ≡ Some b.charge.0 = slice_get-map paid_by (awarded history) n ∙ ap (option_map paid_by) bid in
    let right : slice_get (map charge_by (made history)) n ≡ Some was.award.charge.0 = slice_get-map charge_by (made history) n ∙ ap (option_map charge_by) was.at in
    same_Some b.charge.0 was.award.charge.0 (sym left ∙ (ap (λ (l : List ℕ). slice_get l n) (all_paid 0 history) ∙ right)) ∙ sym (ap (λ (x : Award). x.charge.0) was.is)
