-- What each step settles, whichever way it ends.
use Rattle.std.proofs.Common.{◌≡◌, ◌≢◌, ◌⊎◌, ⊎_elim, ℕ, zero, suc, ◌+◌, ◌<◌, ◌≤◌, true, false, List, [], ◌∷◌, ◌++◌, length, take, drop, refl, sym, ap, ap₂, ◌∙◌, subst, append-nil, arith, All, Option, Some, None, Result, Ok, Err, inl, inr}
use Rattle.std.specs.Prelude.{IfSome}
use Rattle.std.specs.List.{before_first, slice_get}
use Rattle.std.specs.Option.{option_map_or}
use Rattle.std.specs.Str.{bytes_eq}
use Rattle.std.proofs.lemmas.Bool.{true≢false}
use Rattle.std.proofs.lemmas.Slice.Eq.{bytes_eq-Decides}
use Rattle.std.proofs.lemmas.List.{length-append, take_all, take-append-drop}
use Rattle.std.proofs.lemmas.List.Elements.{All-nil, All-push, All-weaker}
use Rattle.adx_units.specs.declared.memory.OutOfMemory.{OutOfMemory}
use Rattle.bidder_core.specs.Seen.{BidderState}
use Rattle.bidder_core.specs.declared.ledger.LedgerRow.{LedgerRow}
use Rattle.bidder_core.specs.declared.price_line.PriceLine.{PriceLine}
use Rattle.day_rules.specs.DayState.{DayState}
use Rattle.day_rules.specs.Entries.{change_of, entry_of_notice}
use Rattle.day_rules.specs.Replies.{budget_reply, notice, notice_reply, tick_reply, with_entry}
use Rattle.day_rules.specs.declared.entry.Entry.{Entry}
use Rattle.day_rules.proofs.Following.{notice_entry, tick_entry}
use Rattle.notice_book.specs.declared.kind.NoticeKind.{NoticeKind}
use Rattle.deal_floor.specs.declared.roster.Roster.{Roster}
use Rattle.outbox.specs.Following.{OutboxState}
use Rattle.outbox.specs.Posts.{posts_of}
use Rattle.outbox.specs.Calls.{IsValidAs}
use Rattle.outbox.specs.Pumping.{ComesTo, given_up_with, left_of, stays}
use Rattle.outbox.specs.declared.calling.Call.{Call}
use Rattle.outbox.specs.declared.outbox.TheConstants.{ANSWER_LIMIT}
use Rattle.outbox.specs.declared.post.Post.{Post}
use Rattle.outbox.specs.declared.report.Outcome.{Outcome}
use Rattle.outbox.proofs.Followed.{posts_on}
use Rattle.two_books.proofs.Budgets.{budget_entry}
use Rattle.two_books.specs.Exchanges.{ExchangeState, HasHistory, IsKept, IsNoticed, IsRestarted, auction_of, next_posts, not_followed}
use Rattle.two_books.specs.Steps.{AreTried, AtExchange, IsAcknowledged, IsAgain, IsPumped, StepsTo, Stops, StopsAcknowledging, StopsAgain, StopsPumping, Takes, due_posts}
use Rattle.two_books.specs.Delivering.{IsReplied}
use Rattle.two_books.specs.LateReplies.{Acknowledges, IsDecided, is_sent_as}
use Rattle.two_books.specs.Worlds.{IsNew, IsSendable, WorldState, message_of}
use Rattle.two_books.specs.declared.late.Late.{Late}
use Rattle.two_books.specs.declared.step.Fate.{Fate}
use Rattle.two_books.specs.declared.step.Step.{Step}
use Rattle.two_books.proofs.Sent.{as_list, entry_list}
use Rattle.two_books.specs.Settling.{Among, IsApartEntry, IsCounted, IsLateCounted, IsSettled, Settles}
use Rattle.two_books.proofs.Bids.{apart_answer}
use Rattle.two_books.proofs.Counted.{delivered_counts}
use Rattle.two_books.proofs.Telling.{all_at}
use Rattle.two_books.proofs.Growing.{Grows, all_grow, carried_grows, counted_still, cut_grows, grows_on, no_growth, same_growth}
use Rattle.two_books.proofs.PumpedSums.{Left, given_up_now, given_up_still, here_left, later_left, left_none, settled_on, tried_all}

abbrev history_of : WorldState → List Entry
history_of w = w.exchange.day.history

-- the posts of the entries that were followed are settled
abbrev Told : BidderState → OutboxState → List Entry → Type 0
Told b o history = All (IsSettled b.line o.pending o.undeliverable b.rows) (posts_of (take o.followed history))

take_front : (n : ℕ) (xs ys : List Entry) → n ≤ length xs → take n (xs ++ ys) ≡ take n xs
take_front zero [] [] h = refl
take_front zero [] (y ∷ ys) h = refl
take_front zero (x ∷ xs) ys h = refl
take_front (suc n) [] ys h = absurd (omega (arith, h))
take_front (suc n) (x ∷ xs) ys h = ap (λ (l : List Entry). x ∷ l) (take_front n xs ys (omega (arith, h)))

same_take : (n m : ℕ) (xs : List Entry) → n ≡ m → take n xs ≡ take m xs
same_take n m xs e = ap (λ (k : ℕ). take k xs) e

abbrev no_entry : List Entry
no_entry = []

take_none : (n : ℕ) → take n no_entry ≡ no_entry
take_none zero = refl
take_none (suc n) = refl

take_more : (n m : ℕ) (xs : List Entry) → take (n + m) xs ≡ take n xs ++ take m (drop n xs)
take_more zero m [] = same_take (zero + m) m [] (omega arith)
take_more zero m (x ∷ xs) = same_take (zero + m) m (x ∷ xs) (omega arith)
take_more (suc n) m [] = take_none (suc n + m) ∙ sym (take_none m)
take_more (suc n) m (x ∷ xs) = same_take (suc n + m) (suc (n + m)) (x ∷ xs) (omega arith) ∙ ap (λ (l : List Entry). x ∷ l) (take_more n m xs)

-- a world before its first step
pub new_settles : (r : Roster) (b : BidderState) (w : WorldState) → IsNew r b w → Settles w
new_settles r b w is =
    let none : w.exchange.outbox.followed ≡ 0 = is.exchange.followed.count in
    let empty : history_of w ≡ [] = is.exchange.history in
    record {
      front = omega (arith, none);
      apart = subst (All IsApartEntry) (sym empty) (All-nil IsApartEntry);
      told =
          subst (λ n. All (IsSettled w.bidder.line w.exchange.outbox.pending w.exchange.outbox.undeliverable w.bidder.rows) (posts_of (take n (history_of w)))) (sym none)
          (subst (λ (l : List Entry). All (IsSettled w.bidder.line w.exchange.outbox.pending w.exchange.outbox.undeliverable w.bidder.rows) (posts_of (take 0 l))) (sym empty)
          (All-nil (IsSettled w.bidder.line w.exchange.outbox.pending w.exchange.outbox.undeliverable w.bidder.rows)));
      late = subst (All (IsLateCounted w.bidder.line w.bidder.rows)) (sym is.replies) (All-nil (IsLateCounted w.bidder.line w.bidder.rows));
    }

-- ---- replies that are on their way

-- what was counted stays so
late_on : (old new : WorldState) → Grows old.bidder new.bidder → new.replies ≡ old.replies → Settles old → All (IsLateCounted new.bidder.line new.bidder.rows) new.replies
late_on old new g same s =
    subst (All (IsLateCounted new.bidder.line new.bidder.rows)) (sym same)
    (subst (λ (line : PriceLine). All (IsLateCounted line new.bidder.rows) old.replies) (sym g.line)
    (All-weaker (IsLateCounted old.bidder.line old.bidder.rows) (IsLateCounted old.bidder.line new.bidder.rows)
    (λ r counted p valid sent comes. counted_still old.bidder.line old.bidder new.bidder p g (counted p valid sent comes)) old.replies s.late))

-- the reply to a message that was delivered once more
late_brought : (c : Call) (reply : List ℕ) (b now : BidderState) → IsReplied c.request b reply now → IsLateCounted now.line now.rows (record { request = c.request; bytes = reply })
late_brought c reply b now replied p valid sent comes = by (message_of p) refl sent
  where
    by : (m : Option Call) → message_of p ≡ m → option_map_or (λ (d : Call). bytes_eq d.request c.request) m false ≡ true → IsCounted now.line now.rows p
    by None is same = absurd (true≢false (sym same))
    by (Some d) is same =
        let one : d.request ≡ c.request = (bytes_eq-Decides d.request c.request).0 same in
        delivered_counts ANSWER_LIMIT now.line p d b now reply is valid (subst (λ (bytes : List ℕ). IsReplied bytes b reply now) (sym one) replied) comes

-- ---- at the exchange

apart_with : (history : List Entry) (e : Option Entry) → All IsApartEntry history → IfSome e IsApartEntry → All IsApartEntry (with_entry history e)
apart_with history None all one = all
apart_with history (Some e) all one = All-push IsApartEntry history e all one

called : (e : Option Entry) (old new : WorldState) → AtExchange (HasHistory (with_entry (history_of old) e)) old new → IfSome e IsApartEntry → Settles old → Settles new
called e old new at one s =
    let longer : history_of new ≡ history_of old ++ entry_list e = at.exchange.history ∙ as_list (history_of old) e in
    let count : new.exchange.outbox.followed ≡ old.exchange.outbox.followed = ap (λ (o : OutboxState). o.followed) at.exchange.outbox in
    let size : length (history_of new) ≡ length (history_of old) + length (entry_list e) = ap length longer ∙ length-append (history_of old) (entry_list e) in
    let same : take old.exchange.outbox.followed (history_of new) ≡ take old.exchange.outbox.followed (history_of old) =
    ap (take old.exchange.outbox.followed) longer ∙ take_front old.exchange.outbox.followed (history_of old) (entry_list e) s.front in
    let O : Post → Type 0 = IsSettled old.bidder.line old.exchange.outbox.pending old.exchange.outbox.undeliverable old.bidder.rows in
    let there : Told old.bidder old.exchange.outbox (history_of new) = subst (λ (l : List Entry). All O (posts_of l)) (sym same) s.told in
    record {
      front = omega (arith, s.front, count, size);
      apart = subst (All IsApartEntry) (sym at.exchange.history) (apart_with (history_of old) e s.apart one);
      told =
          subst (λ (b : BidderState). Told b new.exchange.outbox (history_of new)) (sym at.bidder)
          (subst (λ (o : OutboxState). Told old.bidder o (history_of new)) (sym at.exchange.outbox) there);
      late = late_on old new (same_growth old.bidder new.bidder at.bidder) at.replies s;
    }

-- nothing but the bidder's ledger changed
grown : (old new : WorldState) → new.exchange ≡ old.exchange → Grows old.bidder new.bidder → All (IsLateCounted new.bidder.line new.bidder.rows) new.replies → Settles old → Settles new
grown old new same g late s =
    let moved : Told new.bidder old.exchange.outbox (history_of old) =
    subst (λ (line : PriceLine). All (IsSettled line old.exchange.outbox.pending old.exchange.outbox.undeliverable new.bidder.rows) (posts_of (take old.exchange.outbox.followed (history_of old)))) (sym g.line)
    (All-weaker (IsSettled old.bidder.line old.exchange.outbox.pending old.exchange.outbox.undeliverable old.bidder.rows)
    (IsSettled old.bidder.line old.exchange.outbox.pending old.exchange.outbox.undeliverable new.bidder.rows)
    (λ p t. ⊎_elim (λ among. inl among) (λ other. ⊎_elim (λ some. inr (inl some)) (λ counted. inr (inr (counted_still old.bidder.line old.bidder new.bidder p g counted))) other) t)
    (posts_of (take old.exchange.outbox.followed (history_of old))) s.told) in
    record {
      front = subst (λ (e : ExchangeState). e.outbox.followed ≤ length e.day.history) (sym same) s.front;
      apart = subst (λ (e : ExchangeState). All IsApartEntry e.day.history) (sym same) s.apart;
      told = subst (λ (e : ExchangeState). Told new.bidder e.outbox e.day.history) (sym same) moved;
      late = late;
    }

again : (message : Option Call) (old new : WorldState) → IsAgain message old new → Settles old → Settles new
again None old new same s = subst Settles (sym same) s
again (Some c) old new at s =
    let (ms, heard, is) = at.bidder in
    let g : Grows old.bidder new.bidder = carried_grows ms old.bidder new.bidder is in
    let L : Late → Type 0 = IsLateCounted new.bidder.line new.bidder.rows in
    let late : Late = record { request = c.request; bytes = at.reply } in
    let before : All L old.replies = late_on old (record old { bidder = new.bidder }) g refl s in
    grown old new at.exchange g (subst (All L) (sym at.replies) (All-push L old.replies late before (late_brought c at.reply old.bidder new.bidder at.replied))) s

stops_again : (message : Option Call) (old new : WorldState) → StopsAgain message old new → Settles old → Settles new
stops_again None old new same s = subst Settles (sym same) s
stops_again (Some c) old new at s =
    let (ms, begin, is) = at.bidder in
    let g : Grows old.bidder new.bidder = carried_grows ms old.bidder new.bidder is in
    grown old new at.exchange g (late_on old new g at.replies s) s

restarted : (old new : WorldState) → AtExchange IsRestarted old new → Settles old → Settles new
restarted old new at s =
    let none : new.exchange.outbox.followed ≡ 0 = at.exchange.followed.count in
    let Now : Post → Type 0 = IsSettled new.bidder.line new.exchange.outbox.pending new.exchange.outbox.undeliverable new.bidder.rows in
    record {
      front = omega (arith, none);
      apart = subst (λ (d : DayState). All IsApartEntry d.history) (sym at.exchange.day) s.apart;
      told = subst (λ n. All Now (posts_of (take n (history_of new)))) (sym none) (nothing (history_of new));
      late = late_on old new (same_growth old.bidder new.bidder at.bidder) at.replies s;
    }
  where
    nothing : (h : List Entry) → All (IsSettled new.bidder.line new.exchange.outbox.pending new.exchange.outbox.undeliverable new.bidder.rows) (posts_of (take 0 h))
    nothing [] = All-nil (IsSettled new.bidder.line new.exchange.outbox.pending new.exchange.outbox.undeliverable new.bidder.rows)
    nothing (e ∷ h) = All-nil (IsSettled new.bidder.line new.exchange.outbox.pending new.exchange.outbox.undeliverable new.bidder.rows)

noticed : (kind : NoticeKind) (n : ℕ) (auction : Option (List ℕ)) (old new : WorldState) → AtExchange (IsNoticed auction (λ a. notice kind a n)) old new → Settles old → Settles new
noticed kind n None old new at s =
    let g : Grows old.bidder new.bidder = same_growth old.bidder new.bidder at.bidder in grown old new at.exchange g (late_on old new g at.replies s) s
noticed kind n (Some auction) old new at s =
    called (notice_reply (history_of old) kind auction n).entry old new (record { exchange = at.exchange.has; messages = at.messages; bidder = at.bidder; replies = at.replies })
    (notice_entry (history_of old) kind auction n IsApartEntry (λ counts. by kind)) s
  where
    by : (k : NoticeKind) → IsApartEntry (entry_of_notice k n)
    by NoticeKind.Win = tt
    by NoticeKind.Bill = tt
    by NoticeKind.Loss = tt

-- ---- a pump

-- the posts of so many entries more
more_posts : (n : ℕ) (e : ExchangeState) → posts_of (take (e.outbox.followed + n) e.day.history) ≡ posts_of (take e.outbox.followed e.day.history) ++ next_posts n e
more_posts n e =
    ap (λ (l : List Entry). posts_of l) (take_more e.outbox.followed n e.day.history)
    ∙ posts_on [] (take e.outbox.followed e.day.history) (take n (not_followed e))

-- A pump that followed so many entries: the posts of a front of what was due were tried, and then some first requests of one
-- message more may have been heard.
pub record Pumped (entries : ℕ) (front back : List Post) (fates : List Fate) (outcomes : List Outcome) (settled : ℕ) (between : BidderState) (old new : WorldState) : Type 0 where
  pub due : front ++ back ≡ old.exchange.outbox.pending ++ next_posts entries old.exchange
  pub tried : AreTried front fates old.bidder outcomes between
  pub valid : All IsSendable front
  pub grows : Grows between new.bidder
  pub count : new.exchange.outbox.followed ≡ length (take (old.exchange.outbox.followed + entries) (history_of old))
  pub pending : new.exchange.outbox.pending ≡ left_of (front ++ back) (take settled outcomes)
  pub given_up : new.exchange.outbox.undeliverable ≡ given_up_with old.exchange.outbox.undeliverable (take settled outcomes)
  pub day : new.exchange.day ≡ old.exchange.day
  pub replies : new.replies ≡ old.replies

take_again : (n : ℕ) (xs : List Entry) → take (length (take n xs)) xs ≡ take n xs
take_again zero [] = refl
take_again zero (x ∷ xs) = refl
take_again (suc n) [] = refl
take_again (suc n) (x ∷ xs) = ap (λ (l : List Entry). x ∷ l) (take_again n xs)

front_short : (n : ℕ) (xs : List Entry) → length (take n xs) ≤ length xs
front_short zero [] = omega arith
front_short zero (x ∷ xs) = omega arith
front_short (suc n) [] = omega arith
front_short (suc n) (x ∷ xs) = omega (arith, front_short n xs)

pumped : (entries : ℕ) (front back : List Post) (fates : List Fate) (outcomes : List Outcome) (settled : ℕ) (between : BidderState) (old new : WorldState)
    → Pumped entries front back fates outcomes settled between old new → Settles old → Settles new
pumped entries front back fates outcomes settled between old new p s =
    let line : PriceLine = old.bidder.line in
    let e : ExchangeState = old.exchange in
    let os : List Outcome = take settled outcomes in
    let tried : Grows old.bidder between = all_grow front fates old.bidder outcomes between p.tried in
    let all : Grows old.bidder new.bidder = grows_on old.bidder between new.bidder tried p.grows in
    let left : (q : Post) → Left line q (left_of (front ++ back) os) os between → IsSettled line (left_of (front ++ back) os) (given_up_with e.outbox.undeliverable os) new.bidder.rows q =
    λ q l. ⊎_elim (λ among. inl among)
    (λ other. ⊎_elim (λ some. inr (inl (given_up_now e.outbox.undeliverable os some))) (λ counted. inr (inr (counted_still line between new.bidder q p.grows counted))) other) l in
    let due : (q : Post) → Among q (e.outbox.pending ++ next_posts entries e) → IsSettled line (left_of (front ++ back) os) (given_up_with e.outbox.undeliverable os) new.bidder.rows q =
    λ q among. left q (tried_all line q front back fates old.bidder outcomes between settled p.valid p.tried (subst (Among q) (sym p.due) among)) in
    let posts : All (IsSettled line (left_of (front ++ back) os) (given_up_with e.outbox.undeliverable os) new.bidder.rows) (posts_of (take e.outbox.followed (history_of old)) ++ next_posts entries e) =
    settled_on line (posts_of (take e.outbox.followed (history_of old))) e.outbox.pending (next_posts entries e) (left_of (front ++ back) os) e.outbox.undeliverable (given_up_with e.outbox.undeliverable os)
    old.bidder new.bidder due (given_up_still e.outbox.undeliverable os) all s.told in
    let by_pending = subst (λ (ps : List Post). All (IsSettled line ps (given_up_with e.outbox.undeliverable os) new.bidder.rows) (posts_of (take e.outbox.followed (history_of old)) ++ next_posts entries e)) (sym p.pending) posts in
    let by_count = subst (λ n. All (IsSettled line new.exchange.outbox.pending n new.bidder.rows) (posts_of (take e.outbox.followed (history_of old)) ++ next_posts entries e)) (sym p.given_up) by_pending in
    let by_line = subst (λ (l : PriceLine). All (IsSettled l new.exchange.outbox.pending new.exchange.outbox.undeliverable new.bidder.rows) (posts_of (take e.outbox.followed (history_of old)) ++ next_posts entries e)) (sym all.line) by_count in
    let followed : take new.exchange.outbox.followed (history_of old) ≡ take (e.outbox.followed + entries) (history_of old) =
    ap (λ n. take n (history_of old)) p.count ∙ take_again (e.outbox.followed + entries) (history_of old) in
    let by_posts : Told new.bidder new.exchange.outbox (history_of old) =
    subst (All (IsSettled new.bidder.line new.exchange.outbox.pending new.exchange.outbox.undeliverable new.bidder.rows)) (sym (ap (λ (l : List Entry). posts_of l) followed ∙ more_posts entries e)) by_line in
    record {
      front =
          subst (λ (d : DayState). new.exchange.outbox.followed ≤ length d.history) (sym p.day)
          (omega (arith, p.count, front_short (e.outbox.followed + entries) (history_of old)));
      apart = subst (λ (d : DayState). All IsApartEntry d.history) (sym p.day) s.apart;
      told = subst (λ (d : DayState). Told new.bidder new.exchange.outbox d.history) (sym p.day) by_posts;
      late = late_on old new all p.replies s;
    }

all_pumped : (fates : List Fate) (old new : WorldState) → IsPumped fates old new → Settles old → Settles new
all_pumped fates old new p s =
    let e : ExchangeState = old.exchange in
    let due : List Post = due_posts e in
    let os : List Outcome = p.outcomes in
    pumped (length (not_followed e)) due [] fates os (length os) new.bidder old new (record {
      due = append-nil due;
      tried = p.tried;
      valid = p.valid;
      grows = no_growth new.bidder;
      count = p.followed.count ∙ sym (ap length (take_more e.outbox.followed (length (not_followed e)) (history_of old) ∙ (ap (λ (l : List Entry). take e.outbox.followed (history_of old) ++ l) (take_all (length (not_followed e)) (not_followed e) (omega arith)) ∙ take-append-drop e.outbox.followed (history_of old))));
      pending = p.pending ∙ ap₂ (λ (ps : List Post) (l : List Outcome). left_of ps l) (sym (append-nil due)) (sym (take_all (length os) os (omega arith)));
      given_up = p.undeliverable ∙ ap (given_up_with e.outbox.undeliverable) (sym (take_all (length os) os (omega arith)));
      day = p.day;
      replies = p.replies;
    }) s

stopped : (fates : List Fate) (old new : WorldState) → StopsPumping fates old new → Settles old → Settles new
stopped fates old new p s =
    pumped p.entries p.front p.back p.fates p.outcomes p.settled p.between old new (record {
      due = p.due;
      tried = p.tried;
      valid = p.valid;
      grows = cut_grows _ p.back p.between p.more new.bidder p.cut;
      count = p.followed.count;
      pending = p.pending;
      given_up = p.undeliverable;
      day = p.day;
      replies = p.replies;
    }) s

-- ---- a late reply

-- among what is left, or counted, where what the reply says of the post that it decides of was counted
still_left : (line : PriceLine) (rows : List LedgerRow) (q post : Post) (front back : List Post) (o : Outcome) → ((p : Post) → p ≡ post → (stays o ≡ true) ⊎ IsCounted line rows p)
    → Among q (front ++ post ∷ back) → Among q (front ++ left_of (post ∷ back) (o ∷ [])) ⊎ IsCounted line rows q
still_left line rows q post [] back o decides (inl same) = by (decides q same)
  where
    by : (stays o ≡ true) ⊎ IsCounted line rows q → Among q (left_of (post ∷ back) (o ∷ [])) ⊎ IsCounted line rows q
    by (inl stay) = inl (here_left q post (stays o) (left_of back []) stay same)
    by (inr counted) = inr counted
still_left line rows q post [] back o decides (inr among) =
    inl (later_left q post (stays o) (left_of back []) (subst (Among q) (sym (left_none back)) among))
still_left line rows q post (f ∷ front) back o decides (inl same) = inl (inl same)
still_left line rows q post (f ∷ front) back o decides (inr among) =
    ⊎_elim (λ left. inl (inr left)) (λ counted. inr counted) (still_left line rows q post front back o decides among)

decided : (late : Late) (old new : WorldState) → IsLateCounted old.bidder.line old.bidder.rows late → AtExchange (Acknowledges late) old new → Settles old → Settles new
decided late old new counts at s = record {
  front = subst (λ (d : DayState). new.exchange.outbox.followed ≤ length d.history) (sym at.exchange.day) (subst (λ n. n ≤ length (history_of old)) (sym followed) s.front);
  apart = subst (λ (d : DayState). All IsApartEntry d.history) (sym at.exchange.day) s.apart;
  told =
      subst (λ (b : BidderState). Told b new.exchange.outbox (history_of new)) (sym at.bidder)
      (subst (λ (d : DayState). Told old.bidder new.exchange.outbox d.history) (sym at.exchange.day)
      (subst (λ n. All Now (posts_of (take n (history_of old)))) (sym followed) (All-weaker Was Now (λ q settled. again q at.exchange.outbox settled) (posts_of (take old.exchange.outbox.followed (history_of old))) s.told)));
  late = late_on old new (same_growth old.bidder new.bidder at.bidder) at.replies s;
}
  where
    line : PriceLine
    line = old.bidder.line

    Was : Post → Type 0
    Was q = IsSettled line old.exchange.outbox.pending old.exchange.outbox.undeliverable old.bidder.rows q

    Now : Post → Type 0
    Now q = IsSettled line new.exchange.outbox.pending new.exchange.outbox.undeliverable old.bidder.rows q

    same_count : IsDecided late old.exchange.outbox new.exchange.outbox → new.exchange.outbox.followed ≡ old.exchange.outbox.followed
    same_count (inl (none, same)) = ap (λ (o : OutboxState). o.followed) same
    same_count (inr d) = d.followed

    followed : new.exchange.outbox.followed ≡ old.exchange.outbox.followed
    followed = same_count at.exchange.outbox

    -- a success is of a bill that was counted, and any other reply leaves the post
    heard : (post : Post) → IsValidAs post.url → is_sent_as late.request post ≡ true → (o : Outcome) → o ≢ Outcome.Failed → ComesTo ANSWER_LIMIT late.bytes o → (p : Post) → p ≡ post
        → (stays o ≡ true) ⊎ IsCounted line old.bidder.rows p
    heard post valid sent Outcome.Delivered passed comes p same = inr (subst (IsCounted line old.bidder.rows) (sym same) (counts post valid sent comes))
    heard post valid sent Outcome.Failed passed comes p same = inl refl
    heard post valid sent Outcome.Answered passed comes p same = inl refl
    heard post valid sent Outcome.Undeliverable passed comes p same = absurd comes

    again : (q : Post) → IsDecided late old.exchange.outbox new.exchange.outbox → Was q → Now q
    again q (inl (none, same)) settled =
        subst (λ (o : OutboxState). IsSettled line o.pending o.undeliverable old.bidder.rows q) (sym same) settled
    again q (inr d) settled =
        ⊎_elim
        (λ among.
        ⊎_elim (λ left. inl (subst (Among q) (sym d.pending) left)) (λ counted. inr (inr counted))
        (still_left line old.bidder.rows q d.post (before_first (is_sent_as late.request) old.exchange.outbox.pending) d.back d.outcome
        (heard d.post d.valid d.asked d.outcome d.heard d.comes) (subst (Among q) d.split among)))
        (λ other.
        ⊎_elim (λ some. inr (inl (subst (λ n. 0 < n) (sym d.undeliverable) (given_up_still old.exchange.outbox.undeliverable (d.outcome ∷ []) some)))) (λ counted. inr (inr counted)) other)
        settled

acknowledged : (n : ℕ) (reply : Option Late) (old new : WorldState) → slice_get old.replies n ≡ reply → IsAcknowledged reply old new → Settles old → Settles new
acknowledged n None old new is same s = subst Settles (sym same) s
acknowledged n (Some late) old new is at s =
    decided late old new (all_at (IsLateCounted old.bidder.line old.bidder.rows) old.replies n late s.late is) at s

stops_acknowledging : (n : ℕ) (reply : Option Late) (old new : WorldState) → slice_get old.replies n ≡ reply → StopsAcknowledging reply old new → Settles old → Settles new
stops_acknowledging n None old new is same s = subst Settles (sym same) s
stops_acknowledging n (Some late) old new is (inl same) s = subst Settles (sym same) s
stops_acknowledging n (Some late) old new is (inr at) s = acknowledged n (Some late) old new is at s

-- ---- each step

takes_settle : (t : Step) (old new : WorldState) → Settles old → Takes t old new → Settles new
takes_settle (Step.Ask request now) old new s (answer, reads, at) =
    called _ old new (record { exchange = at.exchange.has; messages = at.messages; bidder = at.bidder; replies = at.replies })
    (apart_answer old.bidder.line request old.exchange.campaigns answer now old.exchange.day.terms (history_of old) reads) s
takes_settle (Step.Notice kind n) old new s at = noticed kind n (auction_of (history_of old) n) old new at s
takes_settle (Step.Tick now) old new s at =
    called (tick_reply (history_of old) now).entry old new (record { exchange = at.exchange.has; messages = at.messages; bidder = at.bidder; replies = at.replies })
    (tick_entry (history_of old) now IsApartEntry (λ some. tt)) s
takes_settle (Step.Budget campaign change budget) old new s at =
    let x = change_of campaign change budget in
    called (budget_reply old.exchange.day.terms (history_of old) x).entry old new (record { exchange = at.exchange.has; messages = at.messages; bidder = at.bidder; replies = at.replies })
    (budget_entry IsApartEntry (history_of old) x tt old.exchange.day.terms) s
takes_settle (Step.Pump fates) old new s p = all_pumped fates old new p s
takes_settle (Step.Again n) old new s at = again (slice_get old.messages n) old new at s
takes_settle (Step.Acknowledge n) old new s at = acknowledged n (slice_get old.replies n) old new refl at s
takes_settle Step.RestartExchange old new s at = restarted old new at s
takes_settle Step.RestartBidder old new s same = subst Settles (sym same) s

kept : (old new : WorldState) → AtExchange IsKept old new → Settles old → Settles new
kept old new at s = called None old new (record { exchange = at.exchange; messages = at.messages; bidder = at.bidder; replies = at.replies }) tt s

stops_settle : (t : Step) (old new : WorldState) → Settles old → Stops t old new → Settles new
stops_settle (Step.Ask request now) old new s at = kept old new at s
stops_settle (Step.Notice kind n) old new s at = kept old new at s
stops_settle (Step.Tick now) old new s at = kept old new at s
stops_settle (Step.Budget campaign change budget) old new s at = kept old new at s
stops_settle (Step.Pump fates) old new s p = stopped fates old new p s
stops_settle (Step.Again n) old new s at = stops_again (slice_get old.messages n) old new at s
stops_settle (Step.Acknowledge n) old new s at = stops_acknowledging n (slice_get old.replies n) old new refl at s
stops_settle Step.RestartExchange old new s same = subst Settles (sym same) s
stops_settle Step.RestartBidder old new s same = subst Settles (sym same) s

-- what a step did, whichever way it ended
pub steps_settle : (t : Step) (result : Result (Unit {0}) OutOfMemory) (old new : WorldState) → Settles old → StepsTo t result old new → Settles new
steps_settle t (Ok done) old new s did = takes_settle t old new s did
steps_settle t (Err wanting) old new s did = stops_settle t old new s did
