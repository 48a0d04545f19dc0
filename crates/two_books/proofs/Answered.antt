-- The bids that a bidder answers, as the exchange reads and keeps them: their notices go to the bidder's own URLs.
use Rattle.std.proofs.Common.{◌≡◌, ℕ, ◌+◌, ◌<◌, ◌≤◌, List, [], ◌∷◌, length, map, Bool, true, false, cond, codes, refl, sym, ap, subst, arith, All, Option, Some, None, inl, inr}
use Rattle.std.specs.Prelude.{IfSome, nat_le, nat_lt, unwrap_or}
use Rattle.std.specs.List.{AllZip, cons_option, enumerate_from, flat_map}
use Rattle.std.proofs.lemmas.List.Elements.{All-append, All-cons, All-head, All-map, All-nil, All-tail, All-take, All-weaker}
use Rattle.adx_json.specs.Tree.{Tree, list, object, text, items_of, members_of}
use Rattle.adx_units.specs.declared.offer.Offer.{Offer}
use Rattle.adx_json.specs.Rows.{Says}
use Rattle.adx_json.specs.Values.{given, list_items, text_or_empty}
use Rattle.adx_json.proofs.Listing.{Say}
use Rattle.rtb_request.specs.declared.bid_request.BidRequest.{BidRequest}
use Rattle.rtb_request.specs.declared.bid_request.TheConstants.{MOST_IMPS}
use Rattle.rtb_request.specs.declared.imp.Imp.{Imp}
use Rattle.rtb_response.specs.Answers.{IsAnswer, seat_rows}
use Rattle.rtb_response.specs.Bids.{bid_rows}
use Rattle.rtb_response.specs.declared.bid.Bid.{Bid}
use Rattle.rtb_response.specs.declared.bid_answer.BidAnswer.{BidAnswer}
use Rattle.rtb_response.specs.declared.bid_answer.SeatBid.{SeatBid}
use Rattle.deal_floor.specs.declared.campaign.Campaign.{Campaign}
use Rattle.script_lines.specs.Making.{SeatedBid, all_bids, ask_of, bids_of, bids_of_seat, kept_of, seated}
use Rattle.day_rules.specs.Asks.{is_winners, may_be_told, settled, settled_kept, stays, texts_of_loss}
use Rattle.day_rules.specs.Replies.{Reply, ask_reply, ask_reply_by, asks_with, bids_with, full, sale_reply, seen_in, settled_reply, text_with}
use Rattle.day_rules.specs.Terms.{Terms}
use Rattle.day_rules.specs.declared.answer.Seen.{Seen}
use Rattle.day_rules.specs.declared.answer.Which.{Which}
use Rattle.day_rules.specs.declared.ask.Ask.{Ask}
use Rattle.day_rules.specs.declared.ask.Kept.{Kept}
use Rattle.day_rules.specs.declared.entry.Entry.{Entry}
use Rattle.notice_book.specs.declared.kind.NoticeKind.{NoticeKind}
use Rattle.bidder_core.specs.Answers.{answer_for, answer_to, answer_tree, answer_with, auction_bids, bid_tree, imp_bids, offered}
use Rattle.bidder_core.specs.BidIds.{bid_id, is_made}
use Rattle.bidder_core.specs.declared.answer.TheConstants.{MOST_BIDS}
use Rattle.bidder_core.specs.declared.price_line.Price.{Price}
use Rattle.bidder_core.specs.declared.price_line.PriceLine.{PriceLine}
use Rattle.bidder_core.proofs.BidIds.{bid_id_made}
use Rattle.two_books.specs.Holding.{AreOwnTexts, IsOwnEntry, IsOwnUrl}
use Rattle.two_books.specs.Names.{IsName}
use Rattle.two_books.specs.Steps.{ReadsAnswer}

-- ---- lists

-- what holds of each, whatever is at its place
all_placed : {X Y : Type 0} (P : Y → Type 0) (f : ℕ × X → List Y) (bound n : ℕ) (xs : List X) → n + length xs ≤ bound
    → ((k : ℕ) (x : X) → k < bound → All P (f (k, x))) → All P (flat_map f (enumerate_from n xs))
all_placed P f bound n [] few each = All-nil P
all_placed P f bound n (x ∷ xs) few each =
    All-append P (f (n, x)) (flat_map f (enumerate_from (n + 1) xs)) (each n x (omega (arith, few))) (all_placed P f bound (n + 1) xs (omega (arith, few)) each)

flat_all : {X Y : Type 0} (P : X → Type 0) (Q : Y → Type 0) (f : X → List Y) → ((x : X) → P x → All Q (f x)) → (xs : List X) → All P xs → All Q (flat_map f xs)
flat_all P Q f each [] all = All-nil Q
flat_all P Q f each (x ∷ xs) all = All-append Q (f x) (flat_map f xs) (each x (All-head P x xs all)) (flat_all P Q f each xs (All-tail P x xs all))

pub items_back : (ts : List Tree) → list_items (items_of ts) ≡ ts
items_back [] = refl
items_back (t ∷ ts) = ap (λ (l : List Tree). t ∷ l) (items_back ts)

-- ---- what was read

-- the one seat of a bidder's own answer
abbrev pub seat_tree : List ℕ → List Tree → Tree
seat_tree seat bids = object (members_of ((codes "seat", text seat) ∷ (codes "bid", list (items_of bids)) ∷ []))

-- the one seat of an answer
pub one_seat : (u : Tree) (seats : List SeatBid) → AllZip (Say seat_rows) (u ∷ []) seats → All (λ (s : SeatBid). Says seat_rows (Some u) s) seats
one_seat u [] h = absurd h
one_seat u (s ∷ []) h = All-cons (λ (s : SeatBid). Says seat_rows (Some u) s) s [] h.0 (All-nil (λ (s : SeatBid). Says seat_rows (Some u) s))
one_seat u (s ∷ r ∷ rest) h = absurd h.1

zip_all : {A B : Type 0} (R : A → B → Type 0) (P : A → Type 0) (Q : B → Type 0) → ((x : A) (y : B) → R x y → P x → Q y)
    → (xs : List A) (ys : List B) → AllZip R xs ys → All P xs → All Q ys
zip_all R P Q on [] [] h all = All-nil Q
zip_all R P Q on [] (y ∷ ys) h all = absurd h
zip_all R P Q on (x ∷ xs) [] h all = absurd h
zip_all R P Q on (x ∷ xs) (y ∷ ys) h all = All-cons Q y ys (on x y h.0 (All-head P x xs all)) (zip_all R P Q on xs ys h.1 (All-tail P x xs all))

-- the URLs of a bid's notices are the bidder's own
record HasOwnUrls (base : List ℕ) (prices : ℕ) (win bill loss : List ℕ) : Type 0 where
  pub nurl : IsOwnUrl base prices NoticeKind.Win win
  pub burl : IsOwnUrl base prices NoticeKind.Bill bill
  pub lurl : IsOwnUrl base prices NoticeKind.Loss loss

module _ (line : PriceLine) where
  abbrev Own : List ℕ → List ℕ → List ℕ → Type 0
  Own nurl burl lurl = HasOwnUrls line.base (length line.prices) nurl burl lurl

  abbrev OwnTree : Tree → Type 0
  OwnTree t = Own (text_or_empty (given (codes "nurl") t)) (text_or_empty (given (codes "burl") t)) (text_or_empty (given (codes "lurl") t))

  abbrev OwnBid : Bid → Type 0
  OwnBid b = Own b.nurl b.burl b.lurl

  says_own : (t : Tree) (b : Bid) → Says bid_rows (Some t) b → OwnTree t → OwnBid b
  says_own t b says own = record {
    nurl = subst (IsOwnUrl line.base (length line.prices) NoticeKind.Win) (sym says.1.1.1.1.0) own.nurl;
    burl = subst (IsOwnUrl line.base (length line.prices) NoticeKind.Bill) (sym says.1.1.1.1.1.0) own.burl;
    lurl = subst (IsOwnUrl line.base (length line.prices) NoticeKind.Loss) (sym says.1.1.1.1.1.1.0) own.lurl;
  }

  abbrev OwnSeat : SeatBid → Type 0
  OwnSeat s = All OwnBid s.bids

  abbrev OwnSeated : SeatedBid → Type 0
  OwnSeated x = OwnBid x.bid

  abbrev OwnTexts : Kept → Type 0
  OwnTexts k = AreOwnTexts line.base (length line.prices) k

  abbrev OwnEntry : Entry → Type 0
  OwnEntry e = IsOwnEntry line.base (length line.prices) e

  -- ---- the bids of an answer

  bid_own : (i : ℕ) (imp : Imp) (j : ℕ) (p : Price) → i < MOST_IMPS → j < length line.prices → OwnTree (bid_tree line i imp j p)
  bid_own i imp j p few low =
      let made : is_made (length line.prices) (bid_id i j) ≡ true = bid_id_made (length line.prices) i j few low (omega (arith, line.few_prices)) in
      record { nurl = inr (bid_id i j, made, refl); burl = inr (bid_id i j, made, refl); lurl = inr (bid_id i j, made, refl) }

  offer_own : (i : ℕ) (imp : Imp) → i < MOST_IMPS → (j : ℕ) (p : Price) → j < length line.prices → All OwnTree (offered line i imp (j, p))
  offer_own i imp few j p low = by (nat_le imp.floor.0 p.price.0)
    where
      by : (t : Bool) → All OwnTree (cond t (bid_tree line i imp j p ∷ []) [])
      by true = All-cons OwnTree (bid_tree line i imp j p) [] (bid_own i imp j p few low) (All-nil OwnTree)
      by false = All-nil OwnTree

  imp_own : (i : ℕ) (imp : Imp) → i < MOST_IMPS → All OwnTree (imp_bids line (i, imp))
  imp_own i imp few = all_placed OwnTree (offered line i imp) (length line.prices) 0 line.prices (omega arith) (offer_own i imp few)

  auction_own : (imps : List Imp) → length imps ≤ MOST_IMPS → All OwnTree (auction_bids line imps)
  auction_own imps few =
      All-take OwnTree MOST_BIDS (flat_map (imp_bids line) (enumerate_from 0 imps)) (all_placed OwnTree (imp_bids line) MOST_IMPS 0 imps (omega (arith, few)) imp_own)

  -- a seat that was read of such bids
  seat_own : (bids : List Tree) → All OwnTree bids → (s : SeatBid) → AllZip (Say bid_rows) (list_items (items_of bids)) s.bids → OwnSeat s
  seat_own bids own s says =
      zip_all (Say bid_rows) OwnTree OwnBid says_own (list_items (items_of bids)) s.bids says (subst (All OwnTree) (sym (items_back bids)) own)

  tree_own : (auction : List ℕ) (bids : List Tree) (a : BidAnswer) → All OwnTree bids → IsAnswer auction (answer_tree auction line.seat bids) a
      → All OwnSeat a.seats
  tree_own auction bids a own read =
      All-weaker (λ (s : SeatBid). Says seat_rows (Some (seat_tree line.seat bids)) s) OwnSeat (λ s says. seat_own bids own s says.1.1.1.0)
      a.seats (one_seat (seat_tree line.seat bids) a.seats read.1.1.1.1.1.0)

  with_own : (auction : List ℕ) (bids : List Tree) (a : BidAnswer) (t : Tree) → All OwnTree bids → answer_with auction line.seat bids ≡ Some t
      → IsAnswer auction t a → All OwnSeat a.seats
  with_own auction [] a t own is read = absurd (cc)
  with_own auction (b ∷ bids) a t own is read =
      let same : answer_tree auction line.seat (b ∷ bids) ≡ t = ap (λ (o : Option Tree). unwrap_or o t) is in
      tree_own auction (b ∷ bids) a own (subst (λ (u : Tree). IsAnswer auction u a) (sym same) read)

  read_own : (auction : List ℕ) (imps : List Imp) → length imps ≤ MOST_IMPS → (o : Option Tree) (answer : Option BidAnswer)
      → answer_for line auction imps ≡ o → ReadsAnswer auction o answer → IfSome answer (λ a. All OwnSeat a.seats)
  read_own auction imps few None None is read = tt
  read_own auction imps few None (Some a) is read = absurd read
  read_own auction imps few (Some t) None is read = tt
  read_own auction imps few (Some t) (Some a) is read = with_own auction (auction_bids line imps) a t (auction_own imps few) is read

  -- ---- the ask that is made of them

  bids_own : (answer : Option BidAnswer) → IfSome answer (λ a. All OwnSeat a.seats) → All OwnSeated (bids_of (0, answer))
  bids_own None own = All-nil OwnSeated
  bids_own (Some a) own =
      flat_all OwnSeat OwnSeated (bids_of_seat 0 a.bidid) (λ s seat. All-map OwnSeated (seated 0 a.bidid s) s.bids seat) a.seats own

  all_own : (answer : Option BidAnswer) → IfSome answer (λ a. All OwnSeat a.seats) → All OwnSeated (all_bids (answer ∷ []))
  all_own answer own = All-append OwnSeated (bids_of (0, answer)) [] (bids_own answer own) (All-nil OwnSeated)

  kept_own : (n : ℕ) (xs : List SeatedBid) → All OwnSeated xs → All OwnTexts (map kept_of (enumerate_from n xs))
  kept_own n [] all = All-nil OwnTexts
  kept_own n (x ∷ xs) all =
      let own : OwnSeated x = All-head OwnSeated x xs all in
      All-cons OwnTexts (kept_of (n, x)) (map kept_of (enumerate_from (n + 1) xs)) (record { nurl = own.nurl; burl = own.burl; lurl = own.lurl })
      (kept_own (n + 1) xs (All-tail OwnSeated x xs all))

  -- ---- as the day settles it

  stays_own : (offers : List Offer) (k : Kept) → OwnTexts k → IfSome (stays offers k) OwnTexts
  stays_own offers k own = by (is_winners offers k) (may_be_told k)
    where
      by : (won told : Bool) → IfSome (cond won (Some k) (cond told (Some (texts_of_loss k)) None)) OwnTexts
      by true told = own
      by false true = record { nurl = inl refl; burl = inl refl; lurl = own.lurl }
      by false false = tt

  one_own : (o : Option Kept) (ks : List Kept) → IfSome o OwnTexts → All OwnTexts ks → All OwnTexts (cons_option o ks)
  one_own None ks own all = all
  one_own (Some k) ks own all = All-cons OwnTexts k ks own all

  settled_own : (offers : List Offer) (kept : List Kept) → All OwnTexts kept → All OwnTexts (settled_kept offers kept)
  settled_own offers [] all = All-nil OwnTexts
  settled_own offers (k ∷ kept) all =
      one_own (stays offers k) (settled_kept offers kept) (stays_own offers k (All-head OwnTexts k kept all)) (settled_own offers kept (All-tail OwnTexts k kept all))

  -- the entry of a reply to such an ask
  settled_entry : (terms : Terms) (history : List Entry) (a : Ask) → OwnEntry (Entry.Ask a) → IfSome (settled_reply terms.limits history a).entry OwnEntry
  settled_entry terms history a own = by (nat_lt terms.limits.auctions (asks_with history)) (nat_lt terms.limits.bids (bids_with history a)) (nat_lt terms.limits.text (text_with history a))
    where
      by : (x y z : Bool)
          → IfSome (Reply.entry (cond x (full Which.Auctions (asks_with history)) (cond y (full Which.Bids (bids_with history a)) (cond z (full Which.Text (text_with history a)) (sale_reply history a))))) OwnEntry
      by true y z = tt
      by false true z = tt
      by false false true = tt
      by false false false = own

  ask_entry : (seen : Seen) (terms : Terms) (history : List Entry) (a : Ask) → IsName a.auction → All OwnTexts a.kept
      → IfSome (ask_reply_by seen terms history a).entry OwnEntry
  ask_entry Seen.New terms history a name texts =
      settled_entry terms history (settled terms history a) (record { texts = settled_own (settled terms history a).offers a.kept texts; auction = name })
  ask_entry (Seen.Same place) terms history a name texts = tt
  ask_entry (Seen.Other kept) terms history a name texts = tt

  -- So it is with the bidder's own answer to a request.
  pub own_answer : (request : BidRequest) (campaigns : List Campaign) (answer : Option BidAnswer) (now : ℕ) (terms : Terms) (history : List Entry)
      → IsName request.id
      → ReadsAnswer request.id (answer_to line request) answer → IfSome (ask_reply terms history (ask_of request campaigns (answer ∷ []) now)).entry OwnEntry
  own_answer request campaigns answer now terms history name reads =
      let a : Ask = ask_of request campaigns (answer ∷ []) now in
      ask_entry (seen_in history a.auction a.digest) terms history a name
      (kept_own 0 (all_bids (answer ∷ [])) (all_own answer (read_own request.id request.imps request.few_imps (answer_to line request) answer refl reads)))
