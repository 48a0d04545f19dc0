-- Messages that are sent one after the other.
use Rattle.std.proofs.Common.{◌≡◌, ◌≢◌, ℕ, zero, suc, List, [], ◌∷◌, ◌++◌, length, drop, take, ◌+◌, ◌<◌, ◌≤◌, get_or, refl, sym, ap, ◌∙◌, subst, append_assoc, append-nil, arith, length-append, All, Option, Some, None, Ok, Err, inl, inr, ◌⊎◌}
use Rattle.std.specs.List.{cons_option, filter_map}
use Rattle.std.specs.Prelude.{IfSome}
use Rattle.std.proofs.lemmas.List.Elements.{All-append, All-cons, All-nil, filter_map-append}
use Rattle.adx_units.specs.declared.memory.OutOfMemory.{OutOfMemory}
use Rattle.bidder_core.specs.Seen.{BidderState}
use Rattle.outbox.specs.Calls.{IsValidAs}
use Rattle.outbox.specs.declared.calling.Call.{Call}
use Rattle.outbox.specs.declared.post.Post.{Post}
use Rattle.two_books.specs.Playing.{ArePlayed, PlaysAll, PlaysPost, Prepares}
use Rattle.two_books.specs.Steps.{IsCutShort}
use Rattle.std.proofs.lemmas.List.{drop_more, take-append-drop, take_all, take_more}
use Rattle.two_books.specs.Worlds.{IsSendable, message_of}
use Rattle.two_books.specs.declared.replay.Reply.{Reply}
use Rattle.two_books.specs.declared.step.Fate.{Fate}

-- the fate after the first is the next
pub next_fate : (fates : List Fate) (n : ℕ) → get_or fates (suc n) Fate.Through ≡ get_or (drop 1 fates) n Fate.Through
next_fate [] zero = refl
next_fate [] (suc n) = refl
next_fate (f ∷ fates) n = refl

-- as many came back as were played
pub played_length : (cs : List Call) (fates : List Fate) (plan : List Reply) (b now : BidderState) → ArePlayed cs fates b plan now → length plan ≡ length cs
played_length [] fates [] b now played = refl
played_length [] fates (q ∷ plan) b now played = absurd played
played_length (d ∷ cs) fates [] b now played = absurd played
played_length (d ∷ cs) fates (q ∷ plan) b now (mid, prepares, rest) = ap suc (played_length cs (drop 1 fates) plan mid now rest)

-- one message more
pub played_more : (cs : List Call) (fates : List Fate) (plan : List Reply) (c : Call) (p : Reply) (b mid now : BidderState)
    → ArePlayed cs fates b plan mid → Prepares (get_or fates (length plan) Fate.Through) c.request mid p now → ArePlayed (cs ++ c ∷ []) fates b (plan ++ p ∷ []) now
played_more [] fates [] c p b mid now before one = (now, subst (λ (s : BidderState). Prepares (get_or fates 0 Fate.Through) c.request s p now) before one, refl)
played_more [] fates (q ∷ plan) c p b mid now before one = absurd before
played_more (d ∷ cs) fates [] c p b mid now before one = absurd before
played_more (d ∷ cs) fates (q ∷ plan) c p b mid now before one = (
  before.0,
  before.1,
  played_more cs (drop 1 fates) plan c p before.0 mid now before.2 (subst (λ f. Prepares f c.request mid p now) (next_fate fates (length plan)) one),
)

-- the messages of a front of posts were sent
pub record Stands (front : List Post) (fates : List Fate) (old_sent new_sent : List Call) (plan : List Reply) (b now : BidderState) : Type 0 where
  pub played : ArePlayed (filter_map message_of front) fates b plan now
  pub sent : new_sent ≡ old_sent ++ filter_map message_of front
  pub valid : All IsSendable front

pub stands_first : (fates : List Fate) (sent : List Call) (plan : List Reply) (b : BidderState) → plan ≡ [] → Stands [] fates sent sent plan b b
stands_first fates sent plan b none = record {
  played = subst (λ (l : List Reply). ArePlayed [] fates b l b) (sym none) refl;
  sent = sym (append-nil sent);
  valid = All-nil IsSendable;
}

grew : (sent : List Call) (c : Call) → sent ++ c ∷ [] ≡ sent → ⊥
grew sent c e = let n = ap length e in omega (arith, n, length-append sent (c ∷ []))

sendable : (p : Post) (o : Option Call) → message_of p ≡ o → IfSome o (λ c. IsValidAs p.url) → IsSendable p
sendable p o is valid = subst (λ (m : Option Call). IfSome m (λ c. IsValidAs p.url)) (sym is) valid

-- what was sent is of a valid URL
sent_valid : (p : Post) (c : Call) (sent sent_now : List Call) → sent_now ≡ sent ++ c ∷ [] → (sent_now ≡ sent) ⊎ IsValidAs p.url → IsValidAs p.url
sent_valid p c sent sent_now more (inl same) = absurd (grew sent c (sym more ∙ same))
sent_valid p c sent sent_now more (inr valid) = valid

-- the message of a post more, or none
messages_more : (front : List Post) (p : Post) (o : Option Call) → message_of p ≡ o → filter_map message_of (front ++ p ∷ []) ≡ filter_map message_of front ++ cons_option o []
messages_more front p o is =
    filter_map-append message_of front (p ∷ []) ∙ ap (λ (m : Option Call). filter_map message_of front ++ cons_option m []) is

-- one post more
pub stands_more : (front : List Post) (p : Post) (fates : List Fate) (sent sent_mid sent_now : List Call) (plan plan_now : List Reply) (b mid now : BidderState) (done : Unit {0})
    → Stands front fates sent sent_mid plan b mid
    → PlaysPost p.url (message_of p) (get_or fates (length plan) Fate.Through) (Ok done) sent_mid sent_now plan plan_now mid now
    → Stands (front ++ p ∷ []) fates sent sent_now plan_now b now
stands_more front p fates sent sent_mid sent_now plan plan_now b mid now done before one = by (message_of p) refl one
  where
    by : (o : Option Call) → message_of p ≡ o → PlaysPost p.url o (get_or fates (length plan) Fate.Through) (Ok done) sent_mid sent_now plan plan_now mid now → Stands (front ++ p ∷ []) fates sent sent_now plan_now b now
    by None is (same, kept, still) =
        let all : filter_map message_of (front ++ p ∷ []) ≡ filter_map message_of front = messages_more front p None is ∙ append-nil (filter_map message_of front) in
        record {
          played =
              subst (λ (cs : List Call). ArePlayed cs fates b plan_now now) (sym all)
              (subst (λ (l : List Reply). ArePlayed (filter_map message_of front) fates b l now) (sym kept)
              (subst (λ (s : BidderState). ArePlayed (filter_map message_of front) fates b plan s) (sym still) before.played));
          sent = same ∙ (before.sent ∙ ap (λ (cs : List Call). sent ++ cs) (sym all));
          valid = All-append IsSendable front (p ∷ []) before.valid (All-cons IsSendable p [] (sendable p None is tt) (All-nil IsSendable));
        }
    by (Some c) is ((more, (planned, plan_is, prepares)), known) =
        let all : filter_map message_of (front ++ p ∷ []) ≡ filter_map message_of front ++ c ∷ [] = messages_more front p (Some c) is in
        record {
          played =
              subst (λ (cs : List Call). ArePlayed cs fates b plan_now now) (sym all)
              (subst (λ (l : List Reply). ArePlayed (filter_map message_of front ++ c ∷ []) fates b l now) (sym plan_is)
              (played_more (filter_map message_of front) fates plan c planned b mid now before.played prepares));
          sent =
              more
              ∙ (ap (λ (cs : List Call). cs ++ c ∷ []) before.sent
              ∙ (append_assoc sent (filter_map message_of front) (c ∷ []) ∙ ap (λ (cs : List Call). sent ++ cs) (sym all)));
          valid =
              All-append IsSendable front (p ∷ []) before.valid
              (All-cons IsSendable p [] (sendable p (Some c) is (sent_valid p c sent_mid sent_now more known)) (All-nil IsSendable));
        }

-- memory was wanting at a post
pub stands_cut : (front : List Post) (p : Post) (back : List Post) (fates : List Fate) (sent sent_mid sent_now : List Call) (plan plan_now : List Reply) (b mid now : BidderState) (wanting : OutOfMemory)
    → Stands front fates sent sent_mid plan b mid
    → PlaysPost p.url (message_of p) (get_or fates (length plan) Fate.Through) (Err wanting) sent_mid sent_now plan plan_now mid now
    → PlaysAll (front ++ p ∷ back) fates (Err wanting) sent sent_now plan_now b now
stands_cut front p back fates sent sent_mid sent_now plan plan_now b mid now wanting before one = by (message_of p) refl one
  where
    -- the fate of the next message
    next : Fate
    next = get_or fates (length (filter_map message_of front)) Fate.Through

    not_held : get_or fates (length plan) Fate.Through ≢ Fate.Held → next ≢ Fate.Held
    not_held heard = subst (λ n. get_or fates n Fate.Through ≢ Fate.Held) (played_length (filter_map message_of front) fates plan b mid before.played) heard

    whole : (more : List Call) → plan_now ≡ plan → IsCutShort next (p ∷ back) mid more now → sent_now ≡ sent_mid ++ more → PlaysAll (front ++ p ∷ back) fates (Err wanting) sent sent_now plan_now b now
    whole more kept cut is = record {
      front = front;
      back = p ∷ back;
      between = mid;
      more = more;
      split = refl;
      all = tt;
      played = subst (λ (l : List Reply). ArePlayed (filter_map message_of front) fates b l mid) (sym kept) before.played;
      valid = before.valid;
      cut = cut;
      sent = is ∙ (ap (λ (cs : List Call). cs ++ more) before.sent ∙ append_assoc sent (filter_map message_of front) more);
    }

    by : (o : Option Call) → message_of p ≡ o → PlaysPost p.url o (get_or fates (length plan) Fate.Through) (Err wanting) sent_mid sent_now plan plan_now mid now → PlaysAll (front ++ p ∷ back) fates (Err wanting) sent sent_now plan_now b now
    by None is (same, kept, still) = whole [] kept (inl (refl, still)) (same ∙ sym (append-nil sent_mid))
    by (Some c) is ((kept, inl (same, still)), known) = whole [] kept (inl (refl, still)) (same ∙ sym (append-nil sent_mid))
    by (Some c) is ((kept, inr (more, heard, stops)), known) =
        whole (c ∷ []) kept
        (inr (p, back, c, refl, is, refl, sent_valid p c sent_mid sent_now more known, not_held heard, stops)) more

-- all were sent
pub stands_all : (posts : List Post) (fates : List Fate) (sent sent_now : List Call) (plan : List Reply) (b now : BidderState) (done : Unit {0})
    → Stands posts fates sent sent_now plan b now → PlaysAll posts fates (Ok done) sent sent_now plan b now
stands_all posts fates sent sent_now plan b now done before = record {
  front = posts;
  back = [];
  between = now;
  more = [];
  split = sym (append-nil posts);
  all = refl;
  played = before.played;
  valid = before.valid;
  cut = inl (refl, refl);
  sent = before.sent ∙ ap (λ (cs : List Call). sent ++ cs) (sym (append-nil (filter_map message_of posts)));
}

-- ---- one message

-- ---- one post

-- ---- the posts of a slice

pub next_stands : (posts : List Post) (i : ℕ) (p : Post) (fates : List Fate) (sent sent_mid sent_now : List Call) (plan plan_now : List Reply) (b mid now : BidderState) (done : Unit {0})
    → i < length posts → p ≡ get_or posts i p → Stands (take i posts) fates sent sent_mid plan b mid
    → PlaysPost p.url (message_of p) (get_or fates (length plan) Fate.Through) (Ok done) sent_mid sent_now plan plan_now mid now
    → Stands (take (i + 1) posts) fates sent sent_now plan_now b now
next_stands posts i p fates sent sent_mid sent_now plan plan_now b mid now done within is before one =
    subst (λ (ps : List Post). Stands ps fates sent sent_now plan_now b now)
    (sym (take_more posts i p within ∙ ap (λ (x : Post). take i posts ++ x ∷ []) (sym is)))
    (stands_more (take i posts) p fates sent sent_mid sent_now plan plan_now b mid now done before one)

pub next_stops : (posts : List Post) (i : ℕ) (p : Post) (fates : List Fate) (sent sent_mid sent_now : List Call) (plan plan_now : List Reply) (b mid now : BidderState) (wanting : OutOfMemory)
    → i < length posts → p ≡ get_or posts i p → Stands (take i posts) fates sent sent_mid plan b mid
    → PlaysPost p.url (message_of p) (get_or fates (length plan) Fate.Through) (Err wanting) sent_mid sent_now plan plan_now mid now
    → PlaysAll posts fates (Err wanting) sent sent_now plan_now b now
next_stops posts i p fates sent sent_mid sent_now plan plan_now b mid now wanting within is before one =
    subst (λ (ps : List Post). PlaysAll ps fates (Err wanting) sent sent_now plan_now b now)
    (ap (λ (t : List Post). take i posts ++ t) (sym (drop_more posts i p within ∙ ap (λ (x : Post). x ∷ drop (i + 1) posts) (sym is))) ∙ take-append-drop i posts)
    (stands_cut (take i posts) p (drop (i + 1) posts) fates sent sent_mid sent_now plan plan_now b mid now wanting before one)

pub end_stands : (posts : List Post) (i : ℕ) (fates : List Fate) (sent sent_now : List Call) (plan : List Reply) (b now : BidderState) (done : Unit {0})
    → length posts ≤ i → Stands (take i posts) fates sent sent_now plan b now → PlaysAll posts fates (Ok done) sent sent_now plan b now
end_stands posts i fates sent sent_now plan b now done all stands =
    stands_all posts fates sent sent_now plan b now done (subst (λ (ps : List Post). Stands ps fates sent sent_now plan b now) (take_all i posts all) stands)

-- ---- what comes of a message
