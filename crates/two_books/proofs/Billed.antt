-- A message that was sent carries the ledger on to bills of the history alone.
use Rattle.std.proofs.Common.{◌≡◌, ◌⊎◌, ⊎_elim, ℕ, ◌≤◌, List, [], ◌∷◌, ◌++◌, length, Bool, true, false, not, cond, refl, sym, subst, arith, All, Option, Some, None, inl, inr, ◌&&◌}
use Rattle.std.specs.Prelude.{filter, nat_lt}
use Rattle.std.specs.List.{after_first, before_first, list_any}
use Rattle.std.proofs.lemmas.Bool.{and_from, and_parts, true≢false}
use Rattle.std.proofs.lemmas.Bool.Decides.{nat_tests}
use Rattle.std.proofs.lemmas.List.Elements.{All-append, All-cons, All-head, All-nil, All-tail, All-weaker, filter-append}
use Rattle.adx_units.specs.declared.price.TheConstants.{PRICE_LIMIT}
use Rattle.bidder_core.specs.Answers.{notice_url}
use Rattle.adx_units.specs.Number.{digits_value, is_whole}
use Rattle.rtb_request.specs.declared.bid_request.TheConstants.{MOST_IMPS}
use Rattle.bidder_core.specs.BidIds.{is_below, is_dash, is_made}
use Rattle.bidder_core.specs.Forms.{is_plain_base, is_url_mark}
use Rattle.bidder_core.specs.Ledger.{AreOnce, bidder_ruling, is_kind, known_ruling, rows_after, ruling_in}
use Rattle.bidder_core.proofs.Counted.{once_more}
use Rattle.notice_book.specs.declared.ruling.Ruling.{Ruling}
use Rattle.bidder_core.specs.Seen.{BidderState}
use Rattle.bidder_core.specs.declared.ledger.LedgerRow.{LedgerRow}
use Rattle.bidder_core.specs.declared.price_line.TheConstants.{MOST_PRICES}
use Rattle.bidder_core.specs.declared.ruling.BidderRuling.{BidderRuling}
use Rattle.day_rules.specs.declared.entry.Entry.{Entry}
use Rattle.http_connection.specs.Messages.{Request}
use Rattle.notice_book.specs.declared.kind.NoticeKind.{NoticeKind}
use Rattle.notice_macros.specs.Expansion.{url_expansion}
use Rattle.notice_macros.specs.declared.values.Values.{Values}
use Rattle.outbox.specs.Bids.{awarded}
use Rattle.outbox.specs.Calls.{IsValidAs, call_of}
use Rattle.outbox.specs.Posts.{values_of}
use Rattle.outbox.specs.declared.calling.Call.{Call}
use Rattle.outbox.specs.declared.post.Post.{Post}
use Rattle.two_books.specs.OwnMessages.{BeginWith, notice_of, notice_put}
use Rattle.two_books.proofs.Heard.{own_messages}
use Rattle.two_books.specs.OwnNotices.{HasPrice, IsUnmarked}
use Rattle.url.proofs.HostLemmas.{none_from_list_any}
use Rattle.two_books.specs.Delivering.{IsCarried, carried_on, carried_over}
use Rattle.two_books.specs.Holding.{IsBilled, IsCharge, IsLedgerOf, IsOwnEntry, IsSent}
use Rattle.two_books.specs.Names.{IsName}
use Rattle.two_books.specs.Telling.{Tells, TellsBill, TellsLoss, TellsWin}
use Rattle.two_books.specs.TwoBooks.{bills_in}
use Rattle.two_books.specs.Worlds.{message_of}
use Rattle.two_books.proofs.Telling.{all_told}

-- ---- what the types of a price line and of a bid say

not_true : (b : Bool) → not b ≡ true → b ≡ false
not_true true e = absurd (true≢false (sym e))
not_true false e = refl

no_mark : (b : ℕ) → is_url_mark b ≡ false → IsUnmarked b
no_mark b h = (λ e. grind (arith, nat_tests), λ e. grind (arith, nat_tests))

pub plain : (base : List ℕ) → is_plain_base base ≡ true → All IsUnmarked base
plain base h = All-weaker (λ b. is_url_mark b ≡ false) IsUnmarked no_mark base (none_from_list_any is_url_mark base (not_true (list_any is_url_mark base) h))

below_more : (bound most x : ℕ) → bound ≤ most → nat_lt x bound ≡ true → nat_lt x most ≡ true
below_more bound most x less h = grind (arith, nat_tests)

-- an id that a bidder with fewer prices makes is one that any bidder may make
pub made_more : (prices : ℕ) (id : List ℕ) → prices ≤ MOST_PRICES → is_made prices id ≡ true → is_made MOST_PRICES id ≡ true
made_more prices id few h =
    let front : Bool = is_below MOST_IMPS (before_first is_dash id) in
    let back : List ℕ = after_first is_dash id in
    let outer = and_parts (list_any is_dash id) (front && is_below prices back) h in
    let inner = and_parts front (is_below prices back) outer.1 in
    let last = and_parts (is_whole back) (nat_lt (digits_value back) prices) inner.1 in
    and_from (list_any is_dash id) (front && is_below MOST_PRICES back) outer.0
    (and_from front (is_below MOST_PRICES back) inner.0
    (and_from (is_whole back) (nat_lt (digits_value back) MOST_PRICES) last.0 (below_more prices MOST_PRICES (digits_value back) few last.1)))

-- ---- a notice is counted once

once_by : (t : Bool) (r : Ruling) (rows : List LedgerRow) (row : LedgerRow) → ruling_in row.kind row.auction row.bid rows ≡ r → AreOnce rows
    → AreOnce (rows_after (cond t (known_ruling r) BidderRuling.Unknown) row rows)
once_by true Ruling.Counted rows row is once = once_more rows row is once
once_by true Ruling.Repeat rows row is once = once
once_by true (Ruling.Conflict end) rows row is once = once
once_by false r rows row is once = once

once_on : (n : ℕ) (rows : List LedgerRow) (o : Option LedgerRow) → AreOnce rows → AreOnce (carried_on n rows o)
once_on n rows None once = once
once_on n rows (Some row) once = once_by (is_made n row.bid) (ruling_in row.kind row.auction row.bid rows) rows row refl once

pub once_all : (n : ℕ) (rows : List LedgerRow) (ms : List Request) → AreOnce rows → AreOnce (carried_over n rows ms)
once_all n rows [] once = once
once_all n rows (m ∷ ms) once = once_all n (carried_on n rows (notice_of m)) ms (once_on n rows (notice_of m) once)

-- ---- what a message reports

module _ (base : List ℕ) (prices : ℕ) (history : List Entry) (plain_base : All IsUnmarked base) (few_prices : prices ≤ MOST_PRICES) where
  -- a request reports no notice, or one that counts only where it is a bill of the history
  abbrev pub Adds : Request → Type 0
  Adds m = (notice_of m ≡ None) ⊎ ((row : LedgerRow) × (notice_of m ≡ Some row) × (is_kind NoticeKind.Bill row.kind ≡ true → IsBilled base history row))

  adds : (row : LedgerRow) → (is_kind NoticeKind.Bill row.kind ≡ true → IsBilled base history row) → (m : Request) → (notice_of m ≡ None) ⊎ (notice_of m ≡ Some row) → Adds m
  adds row counts m (inl none) = inl none
  adds row counts m (inr some) = inr (row, some, counts)

  -- the requests of a message of such a URL
  heard : (values : Values) (kind : NoticeKind) (id : List ℕ) (price : ℕ) (url : List ℕ) (c : Call) (ms : List Request)
      → IsName values.auction.now → is_made prices id ≡ true → HasPrice kind values.price price → 1 ≤ price → price ≤ PRICE_LIMIT
      → url ≡ url_expansion values (notice_url base id kind) → call_of url ≡ Some c → IsValidAs url → BeginWith c.request ms
      → (is_kind NoticeKind.Bill kind ≡ true → IsBilled base history (notice_put kind values.auction.now id price)) → All Adds ms
  heard values kind id price url c ms name made paid more bounded is call valid begin counts =
      All-weaker (λ m. (notice_of m ≡ None) ⊎ (notice_of m ≡ Some (notice_put kind values.auction.now id price))) Adds (adds (notice_put kind values.auction.now id price) counts) ms
      (own_messages values base id kind price c ms plain_base name.bytes name.utf8 name.some name.few
      paid more bounded (made_more prices id few_prices made)
      (subst (λ (u : List ℕ). call_of u ≡ Some c) is call) (subst IsValidAs is valid) begin)

  win_adds : (p : Post) (c : Call) (ms : List Request) → TellsWin base prices p → message_of p ≡ Some c → IsValidAs p.url → BeginWith c.request ms → All Adds ms
  win_adds p c ms w call valid begin =
      heard (values_of w.bid (Some w.bid.charge) 0) NoticeKind.Win w.id w.bid.charge.0 p.url c ms w.auction w.made refl w.charge.0 w.charge.1
      w.url call valid begin (λ e. absurd (true≢false (sym e)))

  bill_adds : (p : Post) (c : Call) (ms : List Request) → TellsBill base prices history p → message_of p ≡ Some c → IsValidAs p.url → BeginWith c.request ms → All Adds ms
  bill_adds p c ms w call valid begin =
      heard (values_of w.bid (Some w.bid.charge) 0) NoticeKind.Bill w.id w.bid.charge.0 p.url c ms w.auction w.made refl w.charge.0 w.charge.1
      w.url call valid begin
      (λ e. record {
        place = w.place;
        at = record { award = w.award; bid = w.bid; entry = w.entry; awarded_as = w.awarded_as; auction = refl; charge = refl };
        url = w.template;
      })

  loss_adds : (p : Post) (c : Call) (ms : List Request) → TellsLoss base prices p → message_of p ≡ Some c → IsValidAs p.url → BeginWith c.request ms → All Adds ms
  loss_adds p c ms w call valid begin =
      heard (values_of w.bid None w.loss) NoticeKind.Loss w.id 1 p.url c ms w.auction w.made tt (omega arith) (omega arith)
      w.url call valid begin (λ e. absurd (true≢false (sym e)))

  post_in : (front : List Post) (p : Post) (back : List Post) → All (Tells base prices history) (front ++ p ∷ back) → Tells base prices history p
  post_in [] p back all = All-head (Tells base prices history) p back all
  post_in (q ∷ front) p back all = post_in front p back (All-tail (Tells base prices history) q (front ++ p ∷ back) all)

  -- what is heard of a message that was sent
  pub sent_adds : (c : Call) (ms : List Request) → All (IsOwnEntry base prices) history → All IsCharge (awarded history) → IsSent history c → BeginWith c.request ms → All Adds ms
  sent_adds c ms own charges (p, (front, back, is), call, valid) begin =
      ⊎_elim (λ w. win_adds p c ms w call valid begin) (⊎_elim (λ w. bill_adds p c ms w call valid begin) (λ w. loss_adds p c ms w call valid begin))
      (post_in front p back (subst (All (Tells base prices history)) is (all_told base prices history own charges)))

  -- ---- the ledger

  abbrev pub AreBilled : List LedgerRow → Type 0
  AreBilled rows = All (IsBilled base history) (bills_in rows)

  one_row : (row : LedgerRow) (t : Bool) → is_kind NoticeKind.Bill row.kind ≡ t → (is_kind NoticeKind.Bill row.kind ≡ true → IsBilled base history row) → All (IsBilled base history) (cond t (row ∷ []) [])
  one_row row true is counts = All-cons (IsBilled base history) row [] (counts is) (All-nil (IsBilled base history))
  one_row row false is counts = All-nil (IsBilled base history)

  counted : (rows : List LedgerRow) (row : LedgerRow) → (is_kind NoticeKind.Bill row.kind ≡ true → IsBilled base history row) → AreBilled rows → AreBilled (rows ++ row ∷ [])
  counted rows row counts billed =
      let test : LedgerRow → Bool = λ r. is_kind NoticeKind.Bill r.kind in
      subst (All (IsBilled base history)) (sym (filter-append test rows (row ∷ [])))
      (All-append (IsBilled base history) (bills_in rows) (filter test (row ∷ [])) billed (one_row row (is_kind NoticeKind.Bill row.kind) refl counts))

  ruled : (ruling : BidderRuling) (rows : List LedgerRow) (row : LedgerRow) → (is_kind NoticeKind.Bill row.kind ≡ true → IsBilled base history row) → AreBilled rows → AreBilled (rows_after ruling row rows)
  ruled BidderRuling.Counted rows row counts billed = counted rows row counts billed
  ruled BidderRuling.Repeat rows row counts billed = billed
  ruled (BidderRuling.Conflict end) rows row counts billed = billed
  ruled BidderRuling.Unknown rows row counts billed = billed

  one_more : (n : ℕ) (rows : List LedgerRow) (m : Request) → Adds m → AreBilled rows → AreBilled (carried_on n rows (notice_of m))
  one_more n rows m (inl none) billed = subst (λ (o : Option LedgerRow). AreBilled (carried_on n rows o)) (sym none) billed
  one_more n rows m (inr (row, some, counts)) billed =
      subst (λ (o : Option LedgerRow). AreBilled (carried_on n rows o)) (sym some) (ruled (bidder_ruling n row.kind row.auction row.bid rows) rows row counts billed)

  pub all_more : (n : ℕ) (rows : List LedgerRow) (ms : List Request) → All Adds ms → AreBilled rows → AreBilled (carried_over n rows ms)
  all_more n rows [] all billed = billed
  all_more n rows (m ∷ ms) all billed = all_more n (carried_on n rows (notice_of m)) ms (All-tail Adds m ms all) (one_more n rows m (All-head Adds m ms all) billed)

  -- a bidder that heard a message that was sent, or some first of its requests
  pub carried_ledger : (c : Call) (ms : List Request) (old new : BidderState) → All (IsOwnEntry base prices) history → All IsCharge (awarded history) → IsSent history c → BeginWith c.request ms → IsCarried ms old new
      → IsLedgerOf base history old.rows → IsLedgerOf base history new.rows
  carried_ledger c ms old new own charges sent begin is ledger =
      subst (IsLedgerOf base history) (sym is.rows) (record {
        once = once_all (length old.line.prices) old.rows ms ledger.once;
        billed = all_more (length old.line.prices) old.rows ms (sent_adds c ms own charges sent begin) ledger.billed;
      })
