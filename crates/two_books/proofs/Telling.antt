-- Each post of a history says of a win, of the bill at its place, or of a loss.
use Rattle.std.proofs.Common.{◌≡◌, ℕ, zero, suc, List, [], ◌∷◌, ◌++◌, length, Bool, true, false, cond, refl, sym, ap, ◌∙◌, subst, append_assoc, All, Option, Some, None, inl, inr, ◌==◌}
use Rattle.std.specs.Prelude.{slice_get, unwrap_or}
use Rattle.std.specs.List.{flat_map, zip}
use Rattle.std.specs.Option.{option_map_or}
use Rattle.std.proofs.lemmas.List.Elements.{All-append, All-cons, All-head, All-nil, All-tail}
use Rattle.adx_units.specs.declared.offer.Offer.{Offer}
use Rattle.adx_units.specs.declared.units.Units.{Units}
use Rattle.allocator_core.specs.declared.reason.TheConstants.{AWARDED, LOST_TO_HIGHER}
use Rattle.day_rules.specs.Books.{awards_of}
use Rattle.day_rules.specs.Entries.{asked}
use Rattle.day_rules.specs.declared.ask.Ask.{Ask}
use Rattle.day_rules.specs.declared.ask.Kept.{Kept}
use Rattle.day_rules.specs.declared.entry.Entry.{Entry}
use Rattle.notice_book.specs.Rules.{is_due}
use Rattle.notice_book.specs.declared.award.Award.{Award}
use Rattle.notice_macros.specs.Expansion.{url_expansion}
use Rattle.outbox.specs.Bids.{Bid, awarded, awarded_by, bid_of}
use Rattle.outbox.specs.Posts.{bill_post, due_post, loss_post, lost_post, offer_post, post_of, posts_behind, posts_by, posts_of, values_of, win_post}
use Rattle.outbox.specs.declared.post.Post.{Post}
use Rattle.outbox.specs.declared.post.PostKind.{PostKind}
use Rattle.outbox.specs.declared.post.TheConstants.{OPPORTUNITY_EXPIRED}
use Rattle.notice_book.specs.declared.kind.NoticeKind.{NoticeKind}
use Rattle.two_books.specs.Holding.{AreOwnTexts, IsCharge, IsOwnAsk, IsOwnEntry, IsOwnUrl}
use Rattle.two_books.specs.Telling.{Tells}
use Rattle.two_books.proofs.Owned.{IsOwnBid, own_awarded}

-- ---- lists

pub all_at : {A : Type 0} (P : A → Type 0) (xs : List A) (n : ℕ) (x : A) → All P xs → slice_get xs n ≡ Some x → P x
all_at P [] n x all is = absurd (cc)
all_at P (y ∷ ys) zero x all is = let same : y ≡ x = ap (λ o. unwrap_or o y) is in subst P same (All-head P y ys all)
all_at P (y ∷ ys) (suc n) x all is = all_at P ys n x (All-tail P y ys all) is

pub get_front : {A : Type 0} (xs ys : List A) (n : ℕ) (x : A) → slice_get xs n ≡ Some x → slice_get (xs ++ ys) n ≡ Some x
get_front [] ys n x is = absurd (cc)
get_front (z ∷ xs) ys zero x is = is
get_front (z ∷ xs) ys (suc n) x is = get_front xs ys n x is

get_behind : {A : Type 0} (xs : List A) (x : A) (ys : List A) → slice_get (xs ++ x ∷ ys) (length xs) ≡ Some x
get_behind [] x ys = refl
get_behind (z ∷ xs) x ys = get_behind xs x ys

pub awarded_on : (before more : List Entry) → awarded (before ++ more) ≡ awarded before ++ awarded more
awarded_on [] more = refl
awarded_on (e ∷ before) more =
    ap (λ (t : List Bid). option_map_or awarded_by (asked e) [] ++ t) (awarded_on before more) ∙ sym (append_assoc (option_map_or awarded_by (asked e) []) (awarded before) (awarded more))

all_front : {A : Type 0} (P : A → Type 0) (xs ys : List A) → All P (xs ++ ys) → All P xs
all_front P [] ys all = All-nil P
all_front P (x ∷ xs) ys all = All-cons P x xs (All-head P x (xs ++ ys) all) (all_front P xs ys (All-tail P x (xs ++ ys) all))

-- ---- the post of a URL

-- a post is there only where the URL isn't empty
post_told : (P : Post → Type 0) (place : ℕ) (kind : PostKind) (url : List ℕ) → P (record { entry = place; kind = kind; url = url }) → All P (post_of place kind url)
post_told P place kind url h = by (length url == 0)
  where
    by : (t : Bool) → All P (cond t [] (record { entry = place; kind = kind; url = url } ∷ []))
    by true = All-nil P
    by false = All-cons P (record { entry = place; kind = kind; url = url }) [] h (All-nil P)

no_post : (P : Post → Type 0) (place : ℕ) (kind : PostKind) (b : Bid) (paid : Option Units) (loss : ℕ) (template : List ℕ) → template ≡ [] → All P (post_of place kind (url_expansion (values_of b paid loss) template))
no_post P place kind b paid loss template none =
    subst (λ (t : List ℕ). All P (post_of place kind (url_expansion (values_of b paid loss) t))) (sym none) (All-nil P)

-- ---- the posts of an entry

module _ (base : List ℕ) (prices : ℕ) where
  win_told : (history : List Entry) (place : ℕ) (b : Bid) → IsOwnBid base prices b → IsCharge b → All (Tells base prices history) (win_post place b)
  win_told history place b own charge = by own.texts.nurl
    where
      by : IsOwnUrl base prices NoticeKind.Win b.texts.nurl → All (Tells base prices history) (win_post place b)
      by (inl none) = no_post (Tells base prices history) place PostKind.Nurl b (Some b.charge) 0 b.texts.nurl none
      by (inr (id, made, is)) =
          post_told (Tells base prices history) place PostKind.Nurl (url_expansion (values_of b (Some b.charge) 0) b.texts.nurl)
          (inl (record { bid = b; id = id; made = made; auction = own.auction; charge = charge; url = ap (url_expansion (values_of b (Some b.charge) 0)) is }))

  bill_told : (history : List Entry) (place n : ℕ) (b : Bid) → slice_get history place ≡ Some (Entry.Bill n) → slice_get (awarded history) n ≡ Some b → IsOwnBid base prices b → IsCharge b
      → All (Tells base prices history) (bill_post place b)
  bill_told history place n b entry award own charge = by own.texts.burl
    where
      by : IsOwnUrl base prices NoticeKind.Bill b.texts.burl → All (Tells base prices history) (bill_post place b)
      by (inl none) = no_post (Tells base prices history) place PostKind.Burl b (Some b.charge) 0 b.texts.burl none
      by (inr (id, made, is)) =
          post_told (Tells base prices history) place PostKind.Burl (url_expansion (values_of b (Some b.charge) 0) b.texts.burl)
          (inr (inl (record {
            place = place;
            award = n;
            bid = b;
            id = id;
            made = made;
            auction = own.auction;
            charge = charge;
            entry = entry;
            awarded_as = award;
            template = is;
            url = ap (url_expansion (values_of b (Some b.charge) 0)) is;
          })))

  loss_told : (history : List Entry) (place loss : ℕ) (b : Bid) → IsOwnBid base prices b → All (Tells base prices history) (loss_post place loss b)
  loss_told history place loss b own = by own.texts.lurl
    where
      by : IsOwnUrl base prices NoticeKind.Loss b.texts.lurl → All (Tells base prices history) (loss_post place loss b)
      by (inl none) = no_post (Tells base prices history) place PostKind.Lurl b None loss b.texts.lurl none
      by (inr (id, made, is)) =
          post_told (Tells base prices history) place PostKind.Lurl (url_expansion (values_of b None loss) b.texts.lurl)
          (inr (inr (record { bid = b; id = id; loss = loss; made = made; auction = own.auction; url = ap (url_expansion (values_of b None loss)) is })))

  -- what a notice says of its award
  award_told : (P : Post → Type 0) (post : Bid → List Post) (o : Option Bid) → ((b : Bid) → o ≡ Some b → All P (post b)) → All P (option_map_or post o [])
  award_told P post None h = All-nil P
  award_told P post (Some b) h = h b refl

  -- what an ask says of the bids that it lost
  lost_told : (history : List Entry) (place : ℕ) (a : Ask) (k : Kept) → IsOwnAsk base prices a → AreOwnTexts base prices k → All (Tells base prices history) (lost_post place a k)
  lost_told history place a k own texts = offered (slice_get a.offers k.bid)
    where
      bid_told : (o : Offer) → All (Tells base prices history) (loss_post place o.reason (bid_of a k o))
      bid_told o = loss_told history place o.reason (bid_of a k o) (record { texts = texts; auction = own.auction })

      chosen : (o : Offer) (t : Bool) → All (Tells base prices history) (cond t [] (loss_post place o.reason (bid_of a k o)))
      chosen o true = All-nil (Tells base prices history)
      chosen o false = bid_told o

      offered : (o : Option Offer) → All (Tells base prices history) (option_map_or (offer_post place a k) o [])
      offered None = All-nil (Tells base prices history)
      offered (Some o) = chosen o (o.reason == AWARDED)

  lost_all : (history : List Entry) (place : ℕ) (a : Ask) (kept : List Kept) → IsOwnAsk base prices a → All (AreOwnTexts base prices) kept → All (Tells base prices history) (flat_map (lost_post place a) kept)
  lost_all history place a [] own all = All-nil (Tells base prices history)
  lost_all history place a (k ∷ kept) own all =
      All-append (Tells base prices history) (lost_post place a k) (flat_map (lost_post place a) kept) (lost_told history place a k own (All-head (AreOwnTexts base prices) k kept all))
      (lost_all history place a kept own (All-tail (AreOwnTexts base prices) k kept all))

  -- what a moment says of the awards that it ends
  due_told : (history : List Entry) (place now : ℕ) (b : Bid) (w : Award) → IsOwnBid base prices b → All (Tells base prices history) (due_post place now (b, w))
  due_told history place now b w own = by (is_due now w)
    where
      by : (t : Bool) → All (Tells base prices history) (cond t (loss_post place OPPORTUNITY_EXPIRED b) [])
      by true = loss_told history place OPPORTUNITY_EXPIRED b own
      by false = All-nil (Tells base prices history)

  due_all : (history : List Entry) (place now : ℕ) (bs : List Bid) (ws : List Award) → All (IsOwnBid base prices) bs → All (Tells base prices history) (flat_map (due_post place now) (zip bs ws))
  due_all history place now [] ws all = All-nil (Tells base prices history)
  due_all history place now (b ∷ bs) [] all = All-nil (Tells base prices history)
  due_all history place now (b ∷ bs) (w ∷ ws) all =
      All-append (Tells base prices history) (due_post place now (b, w)) (flat_map (due_post place now) (zip bs ws)) (due_told history place now b w (All-head (IsOwnBid base prices) b bs all))
      (due_all history place now bs ws (All-tail (IsOwnBid base prices) b bs all))

  -- ---- the posts of all entries

  -- what the entries before one say of the whole history
  pub record Within (history before : List Entry) (e : Entry) (more : List Entry) : Type 0 where
    pub is : history ≡ before ++ e ∷ more
    pub own : All (IsOwnEntry base prices) history
    pub charges : All IsCharge (awarded history)

  whole_award : (history before : List Entry) (e : Entry) (more : List Entry) (n : ℕ) (b : Bid) → Within history before e more → slice_get (awarded before) n ≡ Some b → slice_get (awarded history) n ≡ Some b
  whole_award history before e more n b w is =
      subst (λ (t : List Entry). slice_get (awarded t) n ≡ Some b) (sym w.is)
      (subst (λ (t : List Bid). slice_get t n ≡ Some b) (sym (awarded_on before (e ∷ more))) (get_front (awarded before) (awarded (e ∷ more)) n b is))

  own_of : (history before : List Entry) (e : Entry) (more : List Entry) (n : ℕ) (b : Bid) → Within history before e more → slice_get (awarded before) n ≡ Some b → IsOwnBid base prices b
  own_of history before e more n b w is = all_at (IsOwnBid base prices) (awarded history) n b (own_awarded base prices history w.own) (whole_award history before e more n b w is)

  charge_of : (history before : List Entry) (e : Entry) (more : List Entry) (n : ℕ) (b : Bid) → Within history before e more → slice_get (awarded before) n ≡ Some b → IsCharge b
  charge_of history before e more n b w is = all_at IsCharge (awarded history) n b w.charges (whole_award history before e more n b w is)

  here : (history before : List Entry) (e : Entry) (more : List Entry) → Within history before e more → slice_get history (length before) ≡ Some e
  here history before e more w = subst (λ (t : List Entry). slice_get t (length before) ≡ Some e) (sym w.is) (get_behind before e more)

  entry_own : (history before : List Entry) (e : Entry) (more : List Entry) → Within history before e more → IsOwnEntry base prices e
  entry_own history before e more w = all_at (IsOwnEntry base prices) history (length before) e w.own (here history before e more w)

  own_before : (history before : List Entry) (e : Entry) (more : List Entry) → Within history before e more → All (IsOwnBid base prices) (awarded before)
  own_before history before e more w =
      own_awarded base prices before (all_front (IsOwnEntry base prices) before (e ∷ more) (subst (All (IsOwnEntry base prices)) w.is w.own))

  entry_told : (history before : List Entry) (e : Entry) (more : List Entry) → Within history before e more → All (Tells base prices history) (posts_by before e)
  entry_told history before (Entry.Ask a) more w =
      let own : IsOwnAsk base prices a = entry_own history before (Entry.Ask a) more w in
      lost_all history (length before) a a.kept own own.texts
  entry_told history before (Entry.Win n) more w =
      award_told (Tells base prices history) (win_post (length before)) (slice_get (awarded before) n)
      (λ b is. win_told history (length before) b (own_of history before (Entry.Win n) more n b w is) (charge_of history before (Entry.Win n) more n b w is))
  entry_told history before (Entry.Bill n) more w =
      award_told (Tells base prices history) (bill_post (length before)) (slice_get (awarded before) n)
      (λ b is. bill_told history (length before) n b (here history before (Entry.Bill n) more w) (whole_award history before (Entry.Bill n) more n b w is)
      (own_of history before (Entry.Bill n) more n b w is) (charge_of history before (Entry.Bill n) more n b w is))
  entry_told history before (Entry.Loss n) more w =
      award_told (Tells base prices history) (loss_post (length before) LOST_TO_HIGHER) (slice_get (awarded before) n)
      (λ b is. loss_told history (length before) LOST_TO_HIGHER b (own_of history before (Entry.Loss n) more n b w is))
  entry_told history before (Entry.Expire now) more w =
      due_all history (length before) now (awarded before) (awards_of before) (own_before history before (Entry.Expire now) more w)
  entry_told history before (Entry.Budget campaign change budget) more w = All-nil (Tells base prices history)

  posts_told : (history before more : List Entry) → history ≡ before ++ more → All (IsOwnEntry base prices) history → All IsCharge (awarded history) → All (Tells base prices history) (posts_behind before more)
  posts_told history before [] is own charges = All-nil (Tells base prices history)
  posts_told history before (e ∷ more) is own charges =
      All-append (Tells base prices history) (posts_by before e) (posts_behind (before ++ e ∷ []) more)
      (entry_told history before e more (record { is = is; own = own; charges = charges }))
      (posts_told history (before ++ e ∷ []) more (is ∙ sym (append_assoc before (e ∷ []) more)) own charges)

  pub all_told : (history : List Entry) → All (IsOwnEntry base prices) history → All IsCharge (awarded history) → All (Tells base prices history) (posts_of history)
  all_told history own charges = posts_told history [] history refl own charges
