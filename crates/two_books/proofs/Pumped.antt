-- A pump, from what its parts did.
use Rattle.std.proofs.Common.{◌≡◌, ℕ, ◌+◌, ◌-◌, ◌<◌, ◌^◌, min, List, [], ◌∷◌, ◌++◌, length, take, drop, map, refl, sym, ap, ◌∙◌, subst, arith, append-nil, All, Result, Ok, Err, inl, inr, length-drop}
use Rattle.std.specs.List.{filter_map}
use Rattle.std.proofs.lemmas.List.{take_all}
use Rattle.std.proofs.lemmas.List.Elements.{All-nil}
use Rattle.adx_units.specs.declared.memory.OutOfMemory.{OutOfMemory}
use Rattle.bidder_core.specs.Seen.{BidderState}
use Rattle.day_rules.specs.declared.entry.Entry.{Entry}
use Rattle.outbox.specs.Following.{AreRowsOf, HasFollowed, OutboxState, RowsState}
use Rattle.outbox.specs.Pumping.{given_up_with, left_of}
use Rattle.outbox.specs.declared.calling.Call.{Call}
use Rattle.outbox.specs.declared.post.Post.{Post}
use Rattle.outbox.specs.declared.report.Outcome.{Outcome}
use Rattle.two_books.specs.Exchanges.{ExchangeState, FollowsOn, next_posts}
use Rattle.two_books.specs.Playing.{ArePlayed, PlaysAll}
use Rattle.two_books.specs.Pumps.{PumpsOver, PumpsPlan, PumpsTo}
use Rattle.two_books.specs.Replaying.{failing, link_of, most_faults, planned_of}
use Rattle.two_books.specs.Steps.{AreTried, IsCutShort, due_posts}
use Rattle.two_books.specs.Worlds.{IsSendable, message_of}
use Rattle.two_books.specs.declared.replay.Reply.{Reply}
use Rattle.two_books.specs.declared.step.Fate.{Fate}
use Rattle.two_books.proofs.Requests.{have_requests}
use Rattle.two_books.proofs.Tried.{GoesOn, TriesOver, TriesSome, all_given, tried_all, tried_some, untried}

-- all entries were followed
all_due : (e mid : ExchangeState) (done : Unit {0}) → FollowsOn (Ok done) e mid → mid.outbox.pending ≡ due_posts e
all_due e mid done f = f.pending ∙ ap (λ n. e.outbox.pending ++ next_posts n e) f.all

all_entries : (n : ℕ) (history : List Entry) → take (n + length (drop n history)) history ≡ history
all_entries n history = take_all (n + length (drop n history)) history (omega (arith, length-drop n history))

whole_history : (e mid : ExchangeState) (done : Unit {0}) → FollowsOn (Ok done) e mid → HasFollowed e.day.history mid.outbox
whole_history e mid done f =
    subst (λ (h : List Entry). HasFollowed h mid.outbox) (ap (λ n. take (e.outbox.followed + n) e.day.history) f.all ∙ all_entries e.outbox.followed e.day.history) f.followed

-- a pump changes neither how much was followed nor what is kept of awards
still_followed : (history : List Entry) (old new : OutboxState) → new.followed ≡ old.followed → new.kept ≡ old.kept → HasFollowed history old → HasFollowed history new
still_followed history old new count kept h = record {
  count = count ∙ h.count;
  rows = subst (λ (k : RowsState). AreRowsOf history k) (sym kept) h.rows;
}

-- all posts were played
pub record AllPlayed (posts : List Post) (fates : List Fate) (old_sent new_sent : List Call) (plan : List Reply) (b now : BidderState) : Type 0 where
  pub played : ArePlayed (filter_map message_of posts) fates b plan now
  pub sent : new_sent ≡ old_sent ++ filter_map message_of posts
  pub valid : All IsSendable posts

nothing_more : (fate : Fate) (back : List Post) (between : BidderState) (more : List Call) (now : BidderState) → back ≡ [] → IsCutShort fate back between more now → (more ≡ []) × (now ≡ between)
nothing_more fate back between more now none (inl cut) = cut
nothing_more fate back between more now none (inr (p, ps, c, is, message, one, valid, heard, stops)) = absurd (cc)

all_played : (posts : List Post) (fates : List Fate) (sent sent_now : List Call) (plan : List Reply) (b now : BidderState) (done : Unit {0}) → PlaysAll posts fates (Ok done) sent sent_now plan b now → AllPlayed posts fates sent sent_now plan b now
all_played posts fates sent sent_now plan b now done p =
    let none = nothing_more _ p.back p.between p.more now p.all p.cut in
    let whole : p.front ≡ posts = sym (p.split ∙ (ap (λ (t : List Post). p.front ++ t) p.all ∙ append-nil p.front)) in
    record {
      played =
          subst (λ (ps : List Post). ArePlayed (filter_map message_of ps) fates b plan now) whole
          (subst (λ (s : BidderState). ArePlayed (filter_map message_of p.front) fates b plan s) (sym none.1) p.played);
      sent =
          p.sent
          ∙ (ap (λ (m : List Call). sent ++ (filter_map message_of p.front ++ m)) none.0
          ∙ (ap (λ (m : List Call). sent ++ m) (append-nil (filter_map message_of p.front))
          ∙ ap (λ (ps : List Post). sent ++ filter_map message_of ps) whole));
      valid = subst (All IsSendable) whole p.valid;
    }

-- the link before its first start goes on with its whole plan
pub begins : (plan : List Reply) → failing (map planned_of plan) < most_faults → GoesOn (map planned_of plan) (link_of (map planned_of plan))
begins plan few = record { starts = refl; unmet_is = none (failing (map planned_of plan)); few = few }
  where
    none : (f : ℕ) → 0 + (f + 0) ≡ f
    none f = omega arith

whole_take : (posts : List Post) (n : ℕ) → n ≡ length posts → take n posts ≡ posts
whole_take posts n is = take_all n posts (omega (arith, is))

-- a pump that was done
pub pumped : (fates : List Fate) (e mid now : ExchangeState) (messages messages_now : List Call) (plan : List Reply) (b bidder : BidderState) (done : Unit {0})
    → FollowsOn (Ok done) e mid → PlaysAll mid.outbox.pending fates (Ok done) messages messages_now plan b bidder → PumpsPlan plan (Ok done) mid now
    → PumpsTo fates (Ok done) e now messages messages_now b bidder
pumped fates e mid now messages messages_now plan b bidder done follows plays pumps =
    let (r, (link, p)) = pumps.tried in
    let due : mid.outbox.pending ≡ due_posts e = all_due e mid done follows in
    let all : AllPlayed mid.outbox.pending fates messages messages_now plan b bidder = all_played mid.outbox.pending fates messages messages_now plan b bidder done plays in
    let os : List Outcome = p.outcomes in
    let over : TriesOver mid.outbox.pending os (link_of (map planned_of plan)) link =
    subst (λ (ps : List Post). TriesOver ps os (link_of (map planned_of plan)) link) (whole_take mid.outbox.pending (length os) p.all) p.tried in
    let tried : AreTried mid.outbox.pending fates b os bidder =
    tried_all have_requests mid.outbox.pending fates plan os b bidder (link_of (map planned_of plan)) link (begins plan pumps.few) all.played over in λ replies.
    record {
      outcomes = os;
      tried = subst (λ (ps : List Post). AreTried ps fates b os bidder) due tried;
      valid = subst (All IsSendable) due all.valid;
      followed = still_followed e.day.history mid.outbox now.outbox p.followed p.kept (whole_history e mid done follows);
      pending = p.pending ∙ ap (λ (ps : List Post). left_of ps os) due;
      undeliverable = p.given_up ∙ ap (λ n. given_up_with n os) follows.undeliverable;
      messages = all.sent ∙ ap (λ (ps : List Post). messages ++ filter_map message_of ps) due;
      replies = refl;
      day = pumps.day ∙ follows.day;
      campaigns = pumps.campaigns ∙ follows.campaigns;
    }

-- ---- for lack of memory

none_left : (ps : List Post) → ps ≡ left_of ps []
none_left [] = refl
none_left (p ∷ ps) = refl

pub none_given_up : (before : ℕ) → before ≡ given_up_with before []
none_given_up before = none before ((2 ^ 32 - 1) - before)
  where
    none : (a most : ℕ) → a ≡ a + min 0 most
    none a most = omega arith

-- not all entries could be followed
pub stops_following : (fates : List Fate) (e now : ExchangeState) (messages : List Call) (b : BidderState) (wanting : OutOfMemory) → FollowsOn (Err wanting) e now → PumpsTo fates (Err wanting) e now messages messages b b
stops_following fates e now messages b wanting f = λ replies. record {
  entries = f.entries;
  front = [];
  back = now.outbox.pending;
  fates = fates;
  as_given = all_given fates;
  outcomes = [];
  settled = 0;
  between = b;
  more = [];
  due = f.pending;
  tried = (refl, refl);
  valid = All-nil IsSendable;
  cut = inl (refl, refl);
  followed = f.followed;
  pending = none_left now.outbox.pending;
  undeliverable = f.undeliverable ∙ none_given_up e.outbox.undeliverable;
  messages = sym (append-nil messages);
  replies = refl;
  day = f.day;
  campaigns = f.campaigns;
}

-- not all messages could be sent
pub stops_playing : (fates : List Fate) (e mid : ExchangeState) (messages messages_now : List Call) (plan : List Reply) (b bidder : BidderState) (done : Unit {0}) (wanting : OutOfMemory)
    → FollowsOn (Ok done) e mid → PlaysAll mid.outbox.pending fates (Err wanting) messages messages_now plan b bidder → PumpsTo fates (Err wanting) e mid messages messages_now b bidder
stops_playing fates e mid messages messages_now plan b bidder done wanting f p =
    let t : TriesSome fates p.front [] b p.between = untried p.front fates plan b p.between p.played in λ replies.
    record {
      entries = f.entries;
      front = p.front;
      back = p.back;
      fates = t.fates;
      as_given = t.as_given;
      outcomes = t.outcomes;
      settled = 0;
      between = p.between;
      more = p.more;
      due = sym p.split ∙ f.pending;
      tried = t.tried;
      valid = p.valid;
      cut = p.cut;
      followed = f.followed;
      pending = p.split ∙ none_left (p.front ++ p.back);
      undeliverable = f.undeliverable ∙ none_given_up e.outbox.undeliverable;
      messages = p.sent;
      replies = refl;
      day = f.day;
      campaigns = f.campaigns;
    }

-- not all could be tried
pub stops_trying : (fates : List Fate) (e mid now : ExchangeState) (messages messages_now : List Call) (plan : List Reply) (b bidder : BidderState) (done : Unit {0}) (wanting : OutOfMemory)
    → FollowsOn (Ok done) e mid → PlaysAll mid.outbox.pending fates (Ok done) messages messages_now plan b bidder → PumpsPlan plan (Err wanting) mid now
    → PumpsTo fates (Err wanting) e now messages messages_now b bidder
stops_trying fates e mid now messages messages_now plan b bidder done wanting f plays pumps = by pumps.tried
  where
    all : AllPlayed mid.outbox.pending fates messages messages_now plan b bidder
    all = all_played mid.outbox.pending fates messages messages_now plan b bidder done plays

    made : (os : List Outcome) → TriesSome fates mid.outbox.pending os b bidder → now.outbox.pending ≡ left_of mid.outbox.pending os → now.outbox.undeliverable ≡ given_up_with mid.outbox.undeliverable os
        → now.outbox.followed ≡ mid.outbox.followed → now.outbox.kept ≡ mid.outbox.kept → PumpsTo fates (Err wanting) e now messages messages_now b bidder
    made os t pending given_up count kept = λ replies. record {
      entries = f.entries;
      front = mid.outbox.pending;
      back = [];
      fates = t.fates;
      as_given = t.as_given;
      outcomes = t.outcomes;
      settled = length os;
      between = bidder;
      more = [];
      due = append-nil mid.outbox.pending ∙ f.pending;
      tried = t.tried;
      valid = all.valid;
      cut = inl (refl, refl);
      followed = still_followed (take (e.outbox.followed + f.entries) e.day.history) mid.outbox now.outbox count kept f.followed;
      pending = pending ∙ (ap (λ (ps : List Post). left_of ps os) (sym (append-nil mid.outbox.pending)) ∙ ap (λ (o : List Outcome). left_of (mid.outbox.pending ++ []) o) (sym t.first));
      undeliverable = given_up ∙ (ap (λ n. given_up_with n os) f.undeliverable ∙ ap (λ (o : List Outcome). given_up_with e.outbox.undeliverable o) (sym t.first));
      messages = all.sent ∙ ap (λ (m : List Call). messages ++ m) (sym (append-nil (filter_map message_of mid.outbox.pending)));
      replies = refl;
      day = pumps.day ∙ f.day;
      campaigns = pumps.campaigns ∙ f.campaigns;
    }

    by : PumpsOver (map planned_of plan) (Err wanting) mid.outbox now.outbox → PumpsTo fates (Err wanting) e now messages messages_now b bidder
    by (link, p) =
        made p.outcomes (tried_some have_requests mid.outbox.pending fates plan p.outcomes b bidder (link_of (map planned_of plan)) link (begins plan pumps.few) all.played p.tried)
        p.pending p.given_up p.followed p.kept

-- ---- whichever way a pump ends

pub pump_ends : (fates : List Fate) (r : Result (Unit {0}) OutOfMemory) (e mid now : ExchangeState) (messages messages_now : List Call) (plan : List Reply) (b bidder : BidderState) (done again : Unit {0})
    → FollowsOn (Ok done) e mid → PlaysAll mid.outbox.pending fates (Ok again) messages messages_now plan b bidder → PumpsPlan plan r mid now
    → PumpsTo fates r e now messages messages_now b bidder
pump_ends fates (Ok end) e mid now messages messages_now plan b bidder done again follows plays pumps = pumped fates e mid now messages messages_now plan b bidder done follows plays pumps
pump_ends fates (Err wanting) e mid now messages messages_now plan b bidder done again follows plays pumps =
    stops_trying fates e mid now messages messages_now plan b bidder done wanting follows plays pumps
