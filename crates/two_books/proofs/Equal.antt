-- Where nothing of a bill is left over, the two sums are one.
use Rattle.std.proofs.Common.{◌≡◌, ◌≢◌, ◌⊎◌, ℕ, zero, suc, ◌<◌, ◌≤◌, List, [], ◌∷◌, ◌++◌, length, map, get_or, take, Bool, true, false, cond, ◌==◌, ◌&&◌, ◌||◌, refl, sym, ap, ap₂, ◌∙◌, subst, arith, All, AllPairs, Option, Some, None, inl, inr}
use Rattle.std.specs.Prelude.{Result, bytes_eq, filter, slice_get, unwrap_or}
use Rattle.std.specs.List.{list_any}
use Rattle.std.specs.Option.{option_map, option_map_or}
use Rattle.std.proofs.lemmas.Bool.{and_parts, or_left, true≢false}
use Rattle.std.proofs.lemmas.Bool.Decides.{nat_tests}
use Rattle.std.proofs.lemmas.List.{take_all}
use Rattle.std.proofs.lemmas.List.Elements.{All-cons, All-head, All-nil, All-tail, filter_passes}
use Rattle.std.proofs.lemmas.List.Kept.{AllPairs-filter}
use Rattle.std.proofs.lemmas.Option.{get_or_from_slice_get, same_Some, slice_get-map, slice_get_within, unwrap_or-slice_get}
use Rattle.std.proofs.lemmas.Slice.Eq.{bytes_eq-Decides}
use Rattle.adx_units.specs.declared.memory.OutOfMemory.{OutOfMemory}
use Rattle.adx_units.specs.declared.units.Units.{Units}
use Rattle.bidder_core.specs.Answers.{notice_url}
use Rattle.bidder_core.specs.BidIds.{is_made}
use Rattle.bidder_core.specs.Ledger.{is_kind, is_of, is_same_notice, was_counted}
use Rattle.bidder_core.specs.declared.ledger.LedgerRow.{LedgerRow}
use Rattle.bidder_core.specs.declared.price_line.PriceLine.{PriceLine}
use Rattle.deal_floor.specs.declared.roster.Roster.{Roster}
use Rattle.bidder_core.specs.Seen.{BidderState}
use Rattle.day_rules.specs.Books.{awards_of}
use Rattle.day_rules.specs.Entries.{counts, notice_of}
use Rattle.day_rules.specs.Legal.{IsLegal}
use Rattle.day_rules.specs.Terms.{Terms}
use Rattle.day_rules.specs.declared.entry.Entry.{Entry}
use Rattle.day_rules.proofs.Histories.{legal_last}
use Rattle.day_rules.proofs.Lists.{pairs_head, pairs_tail}
use Rattle.day_rules.proofs.Noticing.{had_notice, notice_stands, stands}
use Rattle.notice_book.specs.AwardList.{Counts}
use Rattle.notice_book.specs.Rules.{is_billed}
use Rattle.notice_book.specs.declared.award.Award.{Award}
use Rattle.notice_book.specs.declared.kind.NoticeKind.{NoticeKind}
use Rattle.notice_macros.specs.Expansion.{url_expansion}
use Rattle.outbox.specs.Bids.{Bid, awarded, awarded_bids}
use Rattle.outbox.specs.Posts.{bill_post, posts_behind, posts_by, posts_of, values_of}
use Rattle.outbox.specs.declared.post.Post.{Post}
use Rattle.outbox.specs.declared.post.PostKind.{PostKind}
use Rattle.outbox.proofs.Followed.{posts_on}
use Rattle.outbox.proofs.Sold.{as_many, both, get_zip}
use Rattle.two_books.specs.Holding.{Holds, IsBilled, IsCharge, IsOwnUrl}
use Rattle.two_books.specs.Names.{IsNamed}
use Rattle.two_books.specs.Steps.{StepsTo}
use Rattle.two_books.specs.TwoBooks.{bills_in, billed_charge, day_sum, ledger_sum}
use Rattle.two_books.specs.Worlds.{IsNew, WorldState}
use Rattle.two_books.specs.declared.step.Step.{Step}
use Rattle.two_books.proofs.Agreeing.{kind_bill, named_by_url, same_notice}
use Rattle.two_books.proofs.Billed.{made_more}
use Rattle.two_books.proofs.Charges.{all_charged}
use Rattle.two_books.proofs.Keeping.{new_holds, steps_hold}
use Rattle.two_books.proofs.Owned.{IsOwnBid, own_awarded}
use Rattle.two_books.proofs.Sent.{back_of_all}
use Rattle.two_books.proofs.Telling.{all_at, awarded_on, get_front}
use Rattle.two_books.specs.EqualSums.{HasBurl, HasEachBill, HasNoBill, HasNothingLeft, HasRowIn, HasSums}
use Rattle.two_books.specs.Settling.{Among, Distinct, IsCounted, IsSettled, NamesBill, Settles}
use Rattle.two_books.proofs.Awards.{AreOthers, all_others, one_number, same_charge}
use Rattle.two_books.proofs.BillPages.{bill_url_some}
use Rattle.two_books.proofs.Settling.{new_settles, steps_settle}
use Rattle.two_books.proofs.Sums.{Member, all_picked, none_left, picked, some_picked, total, total_of}

-- ---- bills of a history

same_number : (n : ℕ) → (n == n) ≡ true
same_number n = grind (arith, nat_tests)

bill_stands : (history : List Entry) (place n : ℕ) → slice_get history place ≡ Some (Entry.Bill n) → stands history (notice_of NoticeKind.Bill n) ≡ true
bill_stands [] place n is = absurd (cc)
bill_stands (e ∷ history) zero n is =
    or_left (counts (notice_of NoticeKind.Bill n) e) (list_any (counts (notice_of NoticeKind.Bill n)) history)
    (ap (counts (notice_of NoticeKind.Bill n)) (same_Some e (Entry.Bill n) is) ∙ same_number n)
bill_stands (e ∷ history) (suc place) n is = by (counts (notice_of NoticeKind.Bill n) e) (bill_stands history place n is)
  where
    by : (t : Bool) → list_any (counts (notice_of NoticeKind.Bill n)) history ≡ true → (t || list_any (counts (notice_of NoticeKind.Bill n)) history) ≡ true
    by true rest = refl
    by false rest = rest

entry_is : (n : ℕ) (e : Entry) → counts (notice_of NoticeKind.Bill n) e ≡ true → e ≡ Entry.Bill n
entry_is n (Entry.Ask a) is = absurd (true≢false (sym is))
entry_is n (Entry.Win m) is = absurd (true≢false (sym is))
entry_is n (Entry.Bill m) is = let same : n ≡ m = grind (arith, nat_tests) in ap Entry.Bill (sym same)
entry_is n (Entry.Loss m) is = absurd (true≢false (sym is))
entry_is n (Entry.Expire now) is = absurd (true≢false (sym is))
entry_is n (Entry.Budget campaign change budget) is = absurd (true≢false (sym is))

-- the entry of a bill, between those before and after it
abbrev Stands : List Entry → ℕ → Type 0
Stands history n = (before after : List Entry) × (history ≡ before ++ Entry.Bill n ∷ after)

where_bill : (history : List Entry) (n : ℕ) → stands history (notice_of NoticeKind.Bill n) ≡ true → Stands history n
where_bill [] n is = absurd (true≢false (sym is))
where_bill (e ∷ history) n is = by (where_bill history n) (counts (notice_of NoticeKind.Bill n) e) refl is
  where
    by : (list_any (counts (notice_of NoticeKind.Bill n)) history ≡ true → Stands history n) → (t : Bool) → counts (notice_of NoticeKind.Bill n) e ≡ t
        → (t || list_any (counts (notice_of NoticeKind.Bill n)) history) ≡ true → Stands (e ∷ history) n
    by later true here found = ([], history, ap (λ (x : Entry). x ∷ history) (entry_is n e here))
    by later false here found =
        let (before, after, rest) = later found in
        (e ∷ before, after, ap (λ (l : List Entry). e ∷ l) rest)

-- an award that had the notice of its bill is billed
had_bill : (o : Option Award) (a : Award) → o ≡ Some a → had_notice NoticeKind.Bill o ≡ true → is_billed a.end ≡ true
had_bill o a is had = sym (ap (had_notice NoticeKind.Bill) is) ∙ had

some_at : {X : Type 0} (xs : List X) (n : ℕ) → n < length xs → (x : X) × (slice_get xs n ≡ Some x)
some_at [] n below = absurd (omega (arith, below))
some_at (x ∷ xs) zero below = (x, refl)
some_at (x ∷ xs) (suc n) below = some_at xs n (omega (arith, below))

both_are : (o : Option Bid) (p : Option Award) (b : Bid) (a : Award) → o ≡ Some b → p ≡ Some a → both o p ≡ Some (b, a)
both_are o p b a e f = ap₂ (λ (x : Option Bid) (y : Option Award). both x y) e f

long_some : (xs : List ℕ) → xs ≢ [] → (length xs == 0) ≡ false
long_some [] some = absurd (some refl)
long_some (x ∷ xs) some = grind (arith, nat_tests)

-- ---- the numbers of the awards of bills

abbrev numbers : (base : List ℕ) (history : List Entry) (rows : List LedgerRow) → All (IsBilled base history) rows → List ℕ
numbers base history [] all = []
numbers base history (r ∷ rows) all = (All-head (IsBilled base history) r rows all).at.award ∷ numbers base history rows (All-tail (IsBilled base history) r rows all)

abbrev IsBill : LedgerRow → Type 0
IsBill r = is_kind NoticeKind.Bill r.kind ≡ true

abbrev AreTwo : LedgerRow → LedgerRow → Type 0
AreTwo r s = is_same_notice r s ≡ false

pairs_distinct : (rows : List LedgerRow) → AllPairs AreTwo rows → Distinct AreTwo rows
pairs_distinct [] h = tt
pairs_distinct (r ∷ rows) h = (pairs_head AreTwo r rows h, pairs_distinct rows (pairs_tail AreTwo r rows h))

module _ (base : List ℕ) (history : List Entry) where
  abbrev Billed : LedgerRow → Type 0
  Billed r = IsBilled base history r

  two_awards : (r s : LedgerRow) (x : Billed r) (y : Billed s) → IsBill r → IsBill s → AreTwo r s → x.at.award ≢ y.at.award
  two_awards r s x y r_bill s_bill two same =
      let bid : x.at.bid ≡ y.at.bid = same_Some x.at.bid y.at.bid (sym x.at.awarded_as ∙ (ap (slice_get (awarded history)) same ∙ y.at.awarded_as)) in
      let auction : r.auction ≡ s.auction = sym x.at.auction ∙ (ap (λ (b : Bid). b.auction) bid ∙ y.at.auction) in
      let id : r.bid ≡ s.bid = named_by_url base r.bid s.bid (sym x.url ∙ (ap (λ (b : Bid). b.texts.burl) bid ∙ y.url)) in
      true≢false (sym (same_notice r s (kind_bill r.kind r_bill) (kind_bill s.kind s_bill) auction id) ∙ two)

  apart_from : (r : LedgerRow) (x : Billed r) (rows : List LedgerRow) (all : All Billed rows) → IsBill r → All IsBill rows → All (AreTwo r) rows → All (λ n. x.at.award ≢ n) (numbers base history rows all)
  apart_from r x [] all r_bill bills two = All-nil (λ n. x.at.award ≢ n)
  apart_from r x (s ∷ rows) all r_bill bills two =
      All-cons (λ n. x.at.award ≢ n) (All-head Billed s rows all).at.award (numbers base history rows (All-tail Billed s rows all))
      (two_awards r s x (All-head Billed s rows all) r_bill (All-head IsBill s rows bills) (All-head (AreTwo r) s rows two))
      (apart_from r x rows (All-tail Billed s rows all) r_bill (All-tail IsBill s rows bills) (All-tail (AreTwo r) s rows two))

  numbers_apart : (rows : List LedgerRow) (all : All Billed rows) → All IsBill rows → Distinct AreTwo rows → Distinct (λ n m. n ≢ m) (numbers base history rows all)
  numbers_apart [] all bills two = tt
  numbers_apart (r ∷ rows) all bills two = (
    apart_from r (All-head Billed r rows all) rows (All-tail Billed r rows all) (All-head IsBill r rows bills) (All-tail IsBill r rows bills) two.0,
    numbers_apart rows (All-tail Billed r rows all) (All-tail IsBill r rows bills) two.1,
  )

  -- ---- what each award weighs

  abbrev weights : List ℕ
  weights = map billed_charge (awards_of history)

  abbrev prices : List LedgerRow → List ℕ
  prices rows = map (λ (r : LedgerRow). r.price.0) rows

  abbrev AmongBills : List LedgerRow → ℕ → Type 0
  AmongBills rows n = HasRowIn history rows n

  weight_of : (n : ℕ) (a : Award) → slice_get (awards_of history) n ≡ Some a → get_or weights n 0 ≡ billed_charge a
  weight_of n a is = get_or_from_slice_get weights n (billed_charge a) 0 (slice_get-map billed_charge (awards_of history) n ∙ ap (option_map billed_charge) is)

  no_weight : (n : ℕ) → slice_get (awards_of history) n ≡ None → get_or weights n 0 ≡ 0
  no_weight n is = sym (unwrap_or-slice_get weights n 0) ∙ ap (λ (o : Option ℕ). unwrap_or o 0) (slice_get-map billed_charge (awards_of history) n ∙ ap (option_map billed_charge) is)

  module _ (terms : Terms) (legal : IsLegal terms history) where
    bill_weight : (r : LedgerRow) (x : Billed r) → get_or weights x.at.award 0 ≡ r.price.0
    bill_weight r x = by (slice_get (awards_of history) x.at.award) refl
      where
        had : had_notice NoticeKind.Bill (slice_get (awards_of history) x.at.award) ≡ true
        had = sym (notice_stands terms history legal NoticeKind.Bill x.at.award) ∙ bill_stands history x.place x.at.award x.at.entry

        by : (o : Option Award) → slice_get (awards_of history) x.at.award ≡ o → get_or weights x.at.award 0 ≡ r.price.0
        by None is = absurd (true≢false (sym had ∙ ap (had_notice NoticeKind.Bill) is))
        by (Some a) is =
            let billed : is_billed a.end ≡ true = had_bill (slice_get (awards_of history) x.at.award) a is had in
            weight_of x.at.award a is
            ∙ (ap (λ (t : Bool). cond t a.charge.0 0) billed
            ∙ (sym (same_charge history x.at.award x.at.bid a x.at.awarded_as is) ∙ ap (λ (u : Units). u.0) x.at.charge))

    picked_are : (rows : List LedgerRow) (all : All Billed rows) → picked (numbers base history rows all) weights ≡ prices rows
    picked_are [] all = refl
    picked_are (r ∷ rows) all = ap₂ (λ (n : ℕ) (l : List ℕ). n ∷ l) (bill_weight r (All-head Billed r rows all)) (picked_are rows (All-tail Billed r rows all))

  -- ---- the row of each of them

  one_later : (r : LedgerRow) (rows : List LedgerRow) (n : ℕ) → AmongBills rows n → AmongBills (r ∷ rows) n
  one_later r rows n k = record { place = suc k.place; row = k.row; listed = k.listed; bid = k.bid; awarded_as = k.awarded_as; auction = k.auction; charge = k.charge }

  pub its_row : (rows : List LedgerRow) (all : All Billed rows) (n : ℕ) → Member n (numbers base history rows all) → AmongBills rows n
  its_row [] all n among = absurd among
  its_row (r ∷ rows) all n (inl same) =
      let x : Billed r = All-head Billed r rows all in record {
        place = 0;
        row = r;
        listed = refl;
        bid = x.at.bid;
        awarded_as = ap (slice_get (awarded history)) same ∙ x.at.awarded_as;
        auction = x.at.auction;
        charge = x.at.charge;
      }
  its_row (r ∷ rows) all n (inr rest) = one_later r rows n (its_row rows (All-tail Billed r rows all) n rest)

  -- ---- each billed award is one of them

  module _ (apart : Distinct AreOthers (awarded history)) (m : ℕ) (b : Bid) (id : List ℕ) (is_b : slice_get (awarded history) m ≡ Some b) (url : b.texts.burl ≡ notice_url base id NoticeKind.Bill) (some : b.texts.burl ≢ []) where
    its_award : (r : LedgerRow) (x : Billed r) → is_of b.auction id r ≡ true → m ≡ x.at.award
    its_award r x is =
        let both_same = and_parts (bytes_eq r.auction b.auction) (bytes_eq r.bid id) is in
        let auction : r.auction ≡ b.auction = (bytes_eq-Decides r.auction b.auction).0 both_same.0 in
        let bid : r.bid ≡ id = (bytes_eq-Decides r.bid id).0 both_same.1 in
        one_number (awarded history) m x.at.award b x.at.bid apart is_b x.at.awarded_as (sym auction ∙ sym x.at.auction)
        (url ∙ (ap (λ (t : List ℕ). notice_url base t NoticeKind.Bill) (sym bid) ∙ sym x.url)) some

    among_bills : (rows : List LedgerRow) (all : All Billed rows) → list_any (λ (r : LedgerRow). is_of b.auction id r) rows ≡ true → Member m (numbers base history rows all)
    among_bills [] all found = absurd (true≢false (sym found))
    among_bills (r ∷ rows) all found = by (among_bills rows (All-tail Billed r rows all)) (is_of b.auction id r) refl found
      where
        by : (list_any (λ (s : LedgerRow). is_of b.auction id s) rows ≡ true → Member m (numbers base history rows (All-tail Billed r rows all))) → (t : Bool) → is_of b.auction id r ≡ t
            → (t || list_any (λ (s : LedgerRow). is_of b.auction id s) rows) ≡ true → Member m (numbers base history (r ∷ rows) all)
        by later true here f = inl (its_award r (All-head Billed r rows all) here)
        by later false here f = inr (later f)

-- what passes both tests passes the second among those that pass the first
any_kept : (p q : LedgerRow → Bool) (rows : List LedgerRow) → list_any (λ r. p r && q r) rows ≡ true → list_any q (filter p rows) ≡ true
any_kept p q [] found = found
any_kept p q (r ∷ rows) found = by (p r) (q r) refl found (any_kept p q rows)
  where
    by : (s t : Bool) → q r ≡ t → ((s && t) || list_any (λ x. p x && q x) rows) ≡ true → (list_any (λ x. p x && q x) rows ≡ true → list_any q (filter p rows) ≡ true) → list_any q (cond s (r ∷ filter p rows) (filter p rows)) ≡ true
    by true true is f rest = ap (λ (u : Bool). u || list_any q (filter p rows)) is
    by true false is f rest = ap (λ (u : Bool). u || list_any q (filter p rows)) is ∙ rest f
    by false t is f rest = rest f

-- ---- the bills of a world's ledger

module _ (w : WorldState) (h : Holds w) where
  abbrev history : List Entry
  history = w.exchange.day.history

  abbrev line : PriceLine
  line = w.bidder.line

  abbrev bills : List LedgerRow
  bills = bills_in w.bidder.rows

  abbrev places : List ℕ
  places = numbers line.base history bills h.ledger.billed

  abbrev is_bill : LedgerRow → Bool
  is_bill r = is_kind NoticeKind.Bill r.kind

  places_apart : Distinct (λ n m. n ≢ m) places
  places_apart =
      numbers_apart line.base history bills h.ledger.billed (filter_passes is_bill w.bidder.rows) (pairs_distinct bills (AllPairs-filter AreTwo is_bill w.bidder.rows h.ledger.once))

  ledger_is : ledger_sum w.bidder.rows ≡ total (picked places (weights line.base history))
  ledger_is = total_of (λ (r : LedgerRow). r.price.0) bills ∙ sym (ap total (picked_are line.base history w.exchange.day.terms h.day.legal bills h.ledger.billed))

  day_is : day_sum history ≡ total (weights line.base history)
  day_is = total_of billed_charge (awards_of history)

  pub sum_below : ledger_sum w.bidder.rows ≤ day_sum history
  sum_below = omega (arith, ledger_is, day_is, some_picked places (weights line.base history) places_apart)

  -- where the sums are equal, each billed award is among those of the ledger
  none_missing : ledger_sum w.bidder.rows ≡ day_sum history → (n : ℕ) (a : Award) → slice_get (awards_of history) n ≡ Some a → is_billed a.end ≡ true → Member n places
  none_missing equal n a is billed =
      let (b, bid) = some_at (awarded history) n (omega (arith, slice_get_within (awards_of history) n a is, as_many history)) in
      let charge : IsCharge b = all_at IsCharge (awarded history) n b (all_charged w.exchange.day.terms history h.day.legal) bid in
      let paid : b.charge.0 ≡ a.charge.0 = same_charge history n b a bid is in
      let weight : get_or (weights line.base history) n 0 ≡ a.charge.0 = weight_of line.base history n a is ∙ ap (λ (t : Bool). cond t a.charge.0 0) billed in
      none_left places (weights line.base history) places_apart (sym ledger_is ∙ (equal ∙ day_is)) n (omega (arith, charge.0, paid, weight))

  pub each_bill : ledger_sum w.bidder.rows ≡ day_sum history → HasEachBill history w.bidder.rows
  each_bill equal n a is billed = its_row line.base history bills h.ledger.billed n (none_missing equal n a is billed)

-- ---- where nothing of a bill is left over

module _ (w : WorldState) (h : Holds w) (s : Settles w) (left : HasNothingLeft w) where
  abbrev here : List Entry
  here = w.exchange.day.history

  abbrev known : PriceLine
  known = w.bidder.line

  abbrev Settled : Post → Type 0
  Settled p = IsSettled known w.exchange.outbox.pending w.exchange.outbox.undeliverable w.bidder.rows p

  all_told : All Settled (posts_of here)
  all_told =
      subst (λ (l : List Entry). All Settled (posts_of l)) (take_all (length here) here (omega arith))
      (subst (λ n. All Settled (posts_of (take n here))) left.followed s.told)

  no_bill_pending : (p : Post) (ps : List Post) → p.kind ≡ PostKind.Burl → HasNoBill ps → Among p ps → ⊥
  no_bill_pending p [] is none among = among
  no_bill_pending p (q ∷ ps) is none (inl same) = All-head (λ (x : Post). x.kind ≢ PostKind.Burl) q ps none (sym (ap (λ (x : Post). x.kind) same) ∙ is)
  no_bill_pending p (q ∷ ps) is none (inr among) = no_bill_pending p ps is (All-tail (λ (x : Post). x.kind ≢ PostKind.Burl) q ps none) among

  full_url : (b : Bid) (a : Award) → is_billed a.end ≡ true → HasBurl (b, a) → b.texts.burl ≢ []
  full_url b a billed (inl not) = absurd (true≢false (sym billed ∙ not))
  full_url b a billed (inr full) = full

  -- a bill whose post was settled was counted
  post_counted : (p : Post) → p.kind ≡ PostKind.Burl → Settled p → IsCounted known w.bidder.rows p
  post_counted p is (inl among) = absurd (no_bill_pending p w.exchange.outbox.pending is left.pending among)
  post_counted p is (inr (inl given_up)) = absurd (omega (arith, given_up, left.none_given_up))
  post_counted p is (inr (inr counted)) = counted

  -- a bill at its place, of a bid of the bidder's own
  record IsOwnBill (n : ℕ) (b : Bid) (id : List ℕ) : Type 0 where
    pub before : List Entry
    pub after : List Entry
    pub is : here ≡ before ++ Entry.Bill n ∷ after
    pub bid : slice_get (awarded before) n ≡ Some b
    pub own : IsOwnBid known.base (length known.prices) b
    pub charge : IsCharge b
    pub made : is_made (length known.prices) id ≡ true
    pub url : b.texts.burl ≡ notice_url known.base id NoticeKind.Bill

  abbrev told_url : Bid → List ℕ
  told_url b = url_expansion (values_of b (Some b.charge) 0) b.texts.burl

  abbrev bill_of : ℕ → Bid → Post
  bill_of place b = record { entry = place; kind = PostKind.Burl; url = told_url b }

  has_post : (place : ℕ) (b : Bid) → told_url b ≢ [] → bill_post place b ≡ bill_of place b ∷ []
  has_post place b some = ap (λ (t : Bool). cond t [] (bill_of place b ∷ [])) (long_some (told_url b) some)

  -- its post was settled, and so it was counted
  bill_counted : (n : ℕ) (b : Bid) (id : List ℕ) → IsOwnBill n b id → was_counted NoticeKind.Bill b.auction id w.bidder.rows ≡ true
  bill_counted n b id x =
      let place : ℕ = length x.before in
      let p : Post = bill_of place b in
      let full : told_url b ≢ [] =
      λ none. bill_url_some (values_of b (Some b.charge) 0) known.base id b.charge.0 refl (made_more (length known.prices) id known.few_prices x.made)
      (ap (url_expansion (values_of b (Some b.charge) 0)) (sym x.url) ∙ none) in
      let asks : posts_by x.before (Entry.Bill n) ≡ p ∷ [] = ap (λ (o : Option Bid). option_map_or (bill_post place) o []) x.bid ∙ has_post place b full in
      let rest : List Post = posts_behind (x.before ++ Entry.Bill n ∷ []) x.after in
      let posts : posts_of here ≡ posts_of x.before ++ (p ∷ rest) =
      ap (λ (l : List Entry). posts_of l) x.is ∙ (posts_on [] x.before (Entry.Bill n ∷ x.after) ∙ ap (λ (l : List Post). posts_of x.before ++ (l ++ rest)) asks) in
      let settled : Settled p = All-head Settled p rest (back_of_all Settled (posts_of x.before) (p ∷ rest) (subst (All Settled) posts all_told)) in
      let names : NamesBill known p =
      record { bid = b; id = id; made = x.made; auction = x.own.auction; charge = x.charge; url = ap (url_expansion (values_of b (Some b.charge) 0)) x.url } in
      post_counted p refl settled names

  -- a billed award is among those of the ledger
  counted_award : (n : ℕ) (a : Award) → slice_get (awards_of here) n ≡ Some a → is_billed a.end ≡ true → Member n (places w h)
  counted_award n a is billed =
      let found : stands here (notice_of NoticeKind.Bill n) ≡ true =
      notice_stands w.exchange.day.terms here h.day.legal NoticeKind.Bill n ∙ (ap (had_notice NoticeKind.Bill) is ∙ billed) in
      let (before, after, split) = where_bill here n found in
      let follows : Counts NoticeKind.Bill n (awards_of before) =
      legal_last w.exchange.day.terms before (Entry.Bill n) after (subst (IsLegal w.exchange.day.terms) split h.day.legal) in
      let below : n < length (awards_of before) = slice_get_within (awards_of before) n follows.award follows.known in
      let (b, bid) = some_at (awarded before) n (omega (arith, below, as_many before)) in
      let whole : slice_get (awarded here) n ≡ Some b =
      subst (λ (l : List Entry). slice_get (awarded l) n ≡ Some b) (sym split)
      (subst (λ (l : List Bid). slice_get l n ≡ Some b) (sym (awarded_on before (Entry.Bill n ∷ after))) (get_front (awarded before) (awarded (Entry.Bill n ∷ after)) n b bid)) in
      let own : IsOwnBid known.base (length known.prices) b = all_at (IsOwnBid known.base (length known.prices)) (awarded here) n b (own_awarded known.base (length known.prices) here h.own) whole in
      let charge : IsCharge b = all_at IsCharge (awarded here) n b (all_charged w.exchange.day.terms here h.day.legal) whole in
      let pair : slice_get (awarded_bids here) n ≡ Some (b, a) = get_zip (awarded here) (awards_of here) n ∙ both_are (slice_get (awarded here) n) (slice_get (awards_of here) n) b a whole is in
      let some : b.texts.burl ≢ [] = full_url b a billed (all_at HasBurl (awarded_bids here) n (b, a) left.urls pair) in
      by b whole some before after split bid own charge own.texts.burl
    where
      by : (b : Bid) → slice_get (awarded here) n ≡ Some b → b.texts.burl ≢ [] → (before after : List Entry) → here ≡ before ++ Entry.Bill n ∷ after → slice_get (awarded before) n ≡ Some b
          → IsOwnBid known.base (length known.prices) b → IsCharge b → IsOwnUrl known.base (length known.prices) NoticeKind.Bill b.texts.burl → Member n (places w h)
      by b whole some before after split bid own charge (inl none) = absurd (some none)
      by b whole some before after split bid own charge (inr (id, made, url)) =
          let counted : was_counted NoticeKind.Bill b.auction id w.bidder.rows ≡ true =
          bill_counted n b id (record { before = before; after = after; is = split; bid = bid; own = own; charge = charge; made = made; url = url }) in
          among_bills known.base here (all_others w.exchange.day.terms here h.day.legal s.apart) n b id whole url some (bills w h) h.ledger.billed
          (any_kept (λ (r : LedgerRow). is_kind NoticeKind.Bill r.kind) (λ (r : LedgerRow). is_of b.auction id r) w.bidder.rows counted)

  each_award : (n : ℕ) → Member n (places w h) ⊎ (get_or (weights known.base here) n 0 ≡ 0)
  each_award n = by (slice_get (awards_of here) n) refl
    where
      billed_or_not : (a : Award) → slice_get (awards_of here) n ≡ Some a → (t : Bool) → is_billed a.end ≡ t → Member n (places w h) ⊎ (get_or (weights known.base here) n 0 ≡ 0)
      billed_or_not a is true billed = inl (counted_award n a is billed)
      billed_or_not a is false not_yet = inr (weight_of known.base here n a is ∙ ap (λ (t : Bool). cond t a.charge.0 0) not_yet)

      by : (o : Option Award) → slice_get (awards_of here) n ≡ o → Member n (places w h) ⊎ (get_or (weights known.base here) n 0 ≡ 0)
      by None is = inr (no_weight known.base here n is)
      by (Some a) is = billed_or_not a is (is_billed a.end) refl

  pub sums_equal : ledger_sum w.bidder.rows ≡ day_sum here
  sums_equal =
      ledger_is w h ∙ (sym (all_picked (places w h) (weights known.base here) (places_apart w h) each_award) ∙ sym (day_is w h))

-- ---- at every moment

pub has_sums : (w : WorldState) → Holds w → Settles w → HasSums w
has_sums w h s = record {
  below = sum_below w h;
  equal = λ left. sums_equal w h s left;
  whole = each_bill w h;
}

pub new_both : (roster : Roster) (bidder : BidderState) (w : WorldState) → IsNew roster bidder w → bidder.rows ≡ [] → Holds w × Settles w
new_both roster bidder w new none = (new_holds roster bidder w new none, new_settles roster bidder w new)

pub steps_both : (t : Step) (result : Result (Unit {0}) OutOfMemory) (old new : WorldState) → IsNamed t → Holds old × Settles old → StepsTo t result old new → Holds new × Settles new
steps_both t result old new named both first = (steps_hold t result old new named both.0 first, steps_settle t result old new both.1 first)
