-- The tries of an outbox over a link that answers replies, as what became of each message.
use Rattle.std.proofs.Common.{◌≡◌, ◌≢◌, ℕ, zero, suc, ◌+◌, ◌-◌, ◌<◌, ◌≤◌, List, [], ◌∷◌, length, take, drop, map, get_or, Bool, true, false, cond, refl, sym, ap, ◌∙◌, subst, arith, Option, Some, None, inl, inr, ◌⊎◌}
use Rattle.std.specs.List.{cons_option, filter_map}
use Rattle.std.proofs.lemmas.List.Sums.{sum_by-cons}
use Rattle.adx_io.specs.Streams.{last_count, own_place}
use Rattle.adx_links.specs.Links.{Plan, next_start}
use Rattle.adx_links.specs.declared.planned.Planned.{Planned}
use Rattle.bidder_core.specs.Seen.{BidderState}
use Rattle.outbox.specs.Calls.{call_of}
use Rattle.outbox.specs.Pumping.{AreTried as AreTriedOver, ComesTo, IsCaused, IsTried, TriesCall}
use Rattle.outbox.specs.declared.calling.Call.{Call}
use Rattle.outbox.specs.declared.outbox.TheConstants.{ANSWER_LIMIT}
use Rattle.outbox.specs.declared.post.Post.{Post}
use Rattle.outbox.specs.declared.report.Outcome.{Outcome}
use Rattle.two_books.specs.Playing.{ArePlayed, Prepares}
use Rattle.two_books.specs.Replaying.{ReplayState, course_of, failing, fails_of, faults_of, most_faults, planned_of, silent, unmet}
use Rattle.two_books.specs.Steps.{AreTried, Befalls, IsAsGiven, TriesPost, fates_behind, first_fate}
use Rattle.two_books.specs.Worlds.{message_of}
use Rattle.two_books.specs.declared.replay.Reply.{Reply}
use Rattle.two_books.specs.declared.step.Fate.{Fate}
use Rattle.two_books.proofs.Played.{next_fate}

-- tries over a link that answers replies
abbrev pub TriesOver : List Post → List Outcome → ReplayState → ReplayState → Type 0
TriesOver ps os l now = AreTriedOver (λ (k : ReplayState). None) (λ (k : ReplayState). Some (course_of k)) faults_of (λ _. own_place) ANSWER_LIMIT ps os l now

abbrev pub TriesOne : Option Call → Outcome → ReplayState → ReplayState → Type 0
TriesOne c o l now = TriesCall (λ (k : ReplayState). None) (λ (k : ReplayState). Some (course_of k)) faults_of (λ _. own_place) ANSWER_LIMIT c l now o

abbrev pub IsOne : Call → Outcome → ReplayState → ReplayState → Type 0
IsOne c o l now = IsTried (λ (k : ReplayState). None) (λ (k : ReplayState). Some (course_of k)) faults_of (λ _. own_place) ANSWER_LIMIT c l now o

-- each message has a request
abbrev pub HaveRequests : Type 0
HaveRequests = (url : List ℕ) (c : Call) → call_of url ≡ Some c → 0 < length c.request

-- ---- one start of the link

-- a link that goes on with this plan: no failure before it was passed over
pub record GoesOn (plan : List Planned) (l : ReplayState) : Type 0 where
  pub starts : l.starts ≡ plan
  pub unmet_is : unmet l ≡ failing plan
  pub few : failing plan < most_faults

one_more : (p : Planned) (plan : List Planned) → failing (p ∷ plan) ≡ cond (fails_of p) 1 0 + failing plan
one_more p plan = sum_by-cons (λ (y : Planned). cond (fails_of y) 1 0) p plan

-- a count that rises where a failure was met, and one that can't rise
met : (most u v f last : ℕ) → u ≡ 1 + f → f ≤ v → u < most → most < last → (most - u < most - v) ⊎ (most - v ≡ last) → v ≡ f
met most u v f last is less few below (inl risen) = omega (arith, is, less, few, risen)
met most u v f last is less few below (inr full) = omega (arith, below, full)

unmoved : (most u v f last : ℕ) → u ≡ f → f ≤ v → u < most → most < last → (most - u < most - v) ⊎ (most - v ≡ last) → ⊥
unmoved most u v f last is less few below (inl risen) = omega (arith, is, less, few, risen)
unmoved most u v f last is less few below (inr full) = omega (arith, below, full)

still : (most u v f : ℕ) → u ≡ f → f ≤ v → u < most → most - v ≡ most - u → v ≡ f
still most u v f is less few same = omega (arith, is, less, few, same)

most_below : most_faults < last_count
most_below = omega arith

-- what a try of a message comes to over a link whose next start is this: the link failed just where that start fails
pub record Answered (p : Planned) (plan : List Planned) (o : Outcome) (now : ReplayState) : Type 0 where
  pub on : GoesOn plan now
  pub failed : fails_of p ≡ true → o ≡ Outcome.Failed
  pub passed : fails_of p ≡ false → o ≢ Outcome.Failed
  pub comes : ComesTo ANSWER_LIMIT p.bytes o

pub answered : (c : Call) (o : Outcome) (l now : ReplayState) (p : Planned) (plan : List Planned) → GoesOn (p ∷ plan) l → 0 < length c.request → IsOne c o l now → Answered p plan o now
answered c o l now p plan goes some one = record {
  on = record { starts = starts; unmet_is = by (fails_of p) refl o refl one.cause; few = few_on };
  failed = fails;
  passed = λ not_fails. never not_fails o one.cause;
  comes = subst (λ (q : Planned). ComesTo ANSWER_LIMIT q.bytes o) next one.follows.comes;
}
  where
    next : next_start ((course_of l).plan) ≡ p
    next = ap (λ (ps : List Planned). get_or ps 0 silent) goes.starts

    starts : now.starts ≡ plan
    starts = ap (λ (k : Plan). k.starts) one.follows.plan ∙ ap (λ (ps : List Planned). drop 1 ps) goes.starts

    here : unmet l ≡ cond (fails_of p) 1 0 + failing plan
    here = goes.unmet_is ∙ one_more p plan

    few : unmet l < most_faults
    few = subst (λ n. n < most_faults) (sym goes.unmet_is) goes.few

    few_on : failing plan < most_faults
    few_on = less (cond (fails_of p) 1 0) (failing plan) (unmet l) most_faults here few
      where
        less : (x f u most : ℕ) → u ≡ x + f → u < most → f < most
        less x f u most is below = omega (arith, is, below)

    least : failing plan ≤ unmet now
    least = more (cond now.now.put_fails 1 0) now.missed (failing now.starts) (failing plan) (ap failing starts)
      where
        more : (x m g f : ℕ) → g ≡ f → f ≤ x + (g + m)
        more x m g f is = omega (arith, is)

    fails : fails_of p ≡ true → o ≡ Outcome.Failed
    fails yes_fails = one.planned.put some (ap (λ (q : Planned). q.put_fails) next ∙ yes_fails)

    plain : fails_of p ≡ false → unmet l ≡ failing plan
    plain not_fails = alone (cond (fails_of p) 1 0) (failing plan) (unmet l) here (ap {B = ℕ} (λ (b : Bool). cond b 1 0) not_fails)
      where
        alone : (x f u : ℕ) → u ≡ x + f → x ≡ 0 → u ≡ f
        alone x f u is none = omega (arith, is, none)

    never : fails_of p ≡ false → (q : Outcome) → IsCaused (faults_of l) (faults_of now) q → q ≢ Outcome.Failed
    never not_fails q cause is = unmoved most_faults (unmet l) (unmet now) (failing plan) last_count (plain not_fails) least few most_below (cause.failed is)

    by : (b : Bool) → fails_of p ≡ b → (q : Outcome) → o ≡ q → IsCaused (faults_of l) (faults_of now) q → unmet now ≡ failing plan
    by true is q same cause =
        met most_faults (unmet l) (unmet now) (failing plan) last_count (here ∙ ap {B = ℕ} (λ (b : Bool). cond b 1 0 + failing plan) is) least few most_below
        (cause.failed (sym same ∙ fails is))
    by false is q same cause =
        still most_faults (unmet l) (unmet now) (failing plan) (plain is) least few (cause.passed (never is q cause))

-- what becomes of a message that was tried
befalls : (fate : Fate) (c : Call) (r : Reply) (plan : List Planned) (o : Outcome) (b now : BidderState) (l_now : ReplayState)
    → Prepares fate c.request b r now → Answered (planned_of r) plan o l_now → Befalls fate c.request b o now
befalls Fate.Held c r plan o b now l_now (is, same) a = (a.failed (ap (λ (x : Reply). fails_of (planned_of x)) is), same)
befalls Fate.Mute c r plan o b now l_now (is, delivered) a = (a.failed (ap (λ (x : Reply). fails_of (planned_of x)) is), delivered)
befalls Fate.Through c r plan o b now l_now (reply, is, delivered, replied) a = (
  reply,
  delivered,
  replied,
  a.passed (ap (λ (x : Reply). fails_of (planned_of x)) is),
  subst (λ (x : Reply). ComesTo ANSWER_LIMIT ((planned_of x).bytes) o) is a.comes,
)

-- ---- all posts

-- all were tried
pub tried_all : HaveRequests → (ps : List Post) (fates : List Fate) (rs : List Reply) (os : List Outcome) (b now : BidderState) (l l_now : ReplayState)
    → GoesOn (map planned_of rs) l → ArePlayed (filter_map message_of ps) fates b rs now → TriesOver ps os l l_now → AreTried ps fates b os now
tried_all some [] fates [] [] b now l l_now goes played tried = (refl, played)
tried_all some [] fates [] (o ∷ os) b now l l_now goes played tried = absurd tried
tried_all some [] fates (r ∷ rs) os b now l l_now goes played tried = absurd played
tried_all some (q ∷ ps) fates rs [] b now l l_now goes played tried = absurd tried
tried_all some (q ∷ ps) fates rs (o ∷ os) b now l l_now goes played (mid, one, rest) =
    by (λ f k s on pd. tried_all some ps f k os s now mid l_now on pd rest) (message_of q) refl rs goes played one
  where
    by : ((f : List Fate) (k : List Reply) (s : BidderState) → GoesOn (map planned_of k) mid → ArePlayed (filter_map message_of ps) f s k now → AreTried ps f s os now)
        → (m : Option Call) → message_of q ≡ m → (rs : List Reply) → GoesOn (map planned_of rs) l → ArePlayed (cons_option m (filter_map message_of ps)) fates b rs now → TriesOne m o l mid → AreTried (q ∷ ps) fates b (o ∷ os) now
    by again None is rs goes played (undeliverable, same) =
        let behind : AreTried ps fates b os now = again fates rs b (subst (GoesOn (map planned_of rs)) (sym same) goes) played in
        subst (λ (m : Option Call). (s : BidderState) × TriesPost m (first_fate fates) b o s × AreTried ps (fates_behind m fates) s os now) (sym is) (b, (undeliverable, refl), behind)
    by again (Some c) is [] goes played tries = absurd played
    by again (Some c) is (r ∷ rs) goes (between, prepares, played) tries =
        let a : Answered (planned_of r) (map planned_of rs) o mid = answered c o l mid (planned_of r) (map planned_of rs) goes (some q.url c is) tries in
        let behind : AreTried ps (drop 1 fates) between os now = again (drop 1 fates) rs between a.on played in
        subst (λ (m : Option Call). (s : BidderState) × TriesPost m (first_fate fates) b o s × AreTried ps (fates_behind m fates) s os now) (sym is)
        (between, befalls (first_fate fates) c r (map planned_of rs) o b between mid prepares a, behind)

-- ---- where memory was wanting: the replies that weren't read are lost

-- the fate of a message whose reply was lost
abbrev pub lost_fate : Fate → Fate
lost_fate Fate.Held = Fate.Held
lost_fate Fate.Mute = Fate.Mute
lost_fate Fate.Through = Fate.Mute

lost : (fate : Fate) (c : Call) (r : Reply) (b now : BidderState) → Prepares fate c.request b r now → Befalls (lost_fate fate) c.request b Outcome.Failed now
lost Fate.Held c r b now (is, same) = (refl, same)
lost Fate.Mute c r b now (is, delivered) = (refl, delivered)
lost Fate.Through c r b now (reply, is, delivered, replied) = (refl, delivered)

lost_given : (fate : Fate) → IsAsGiven fate (lost_fate fate)
lost_given Fate.Held = inl refl
lost_given Fate.Mute = inl refl
lost_given Fate.Through = inr (refl, refl)

-- each of the fates is the one given in its place, or a reply was lost
abbrev pub AreAsGiven : List Fate → List Fate → Type 0
AreAsGiven given fates = (n : ℕ) → IsAsGiven (get_or given n Fate.Through) (get_or fates n Fate.Through)

pub all_given : (fates : List Fate) → AreAsGiven fates fates
all_given fates n = inl refl

given_on : (given fates : List Fate) (fate : Fate) → IsAsGiven (first_fate given) fate → AreAsGiven (drop 1 given) fates → AreAsGiven given (fate ∷ fates)
given_on given fates fate first rest zero = first
given_on given fates fate first rest (suc n) =
    subst (λ f. IsAsGiven f (get_or fates n Fate.Through)) (sym (next_fate given n)) (rest n)

-- the fates and outcomes with which posts were tried where memory was wanting, the first so many as they were over the link
pub record TriesSome (given : List Fate) (ps : List Post) (os : List Outcome) (b now : BidderState) : Type 0 where
  pub fates : List Fate
  pub as_given : AreAsGiven given fates
  pub outcomes : List Outcome
  pub tried : AreTried ps fates b outcomes now
  pub first : take (length os) outcomes ≡ os

-- a post that can't be sent, before these
none_some : (given : List Fate) (q : Post) (ps : List Post) (o : Outcome) (os : List Outcome) (b now : BidderState) → message_of q ≡ None → o ≡ Outcome.Undeliverable
    → (t : TriesSome given ps os b now) → AreTried (q ∷ ps) (TriesSome.fates t) b (o ∷ TriesSome.outcomes t) now
none_some given q ps o os b now is undeliverable t =
    subst (λ (m : Option Call). (s : BidderState) × TriesPost m (first_fate t.fates) b o s × AreTried ps (fates_behind m t.fates) s t.outcomes now) (sym is)
    (b, (undeliverable, refl), t.tried)

-- a message with its fate, before these
one_some : (fate : Fate) (q : Post) (c : Call) (ps : List Post) (fates : List Fate) (o : Outcome) (os : List Outcome) (b mid now : BidderState) → message_of q ≡ Some c
    → Befalls fate c.request b o mid → AreTried ps fates mid os now → AreTried (q ∷ ps) (fate ∷ fates) b (o ∷ os) now
one_some fate q c ps fates o os b mid now is befell tried =
    subst (λ (m : Option Call). (s : BidderState) × TriesPost m fate b o s × AreTried ps (fates_behind m (fate ∷ fates)) s os now) (sym is) (mid, befell, tried)

-- messages that were played and not tried
pub untried : (ps : List Post) (fates : List Fate) (rs : List Reply) (b now : BidderState) → ArePlayed (filter_map message_of ps) fates b rs now → TriesSome fates ps [] b now
untried [] fates [] b now played = record { fates = fates; as_given = all_given fates; outcomes = []; tried = (refl, played); first = refl }
untried [] fates (r ∷ rs) b now played = absurd played
untried (q ∷ ps) fates rs b now played = by (λ f k s pd. untried ps f k s now pd) (message_of q) refl rs played
  where
    by : ((f : List Fate) (k : List Reply) (s : BidderState) → ArePlayed (filter_map message_of ps) f s k now → TriesSome f ps [] s now)
        → (m : Option Call) → message_of q ≡ m → (rs : List Reply) → ArePlayed (cons_option m (filter_map message_of ps)) fates b rs now → TriesSome fates (q ∷ ps) [] b now
    by again None is rs played =
        let behind : TriesSome fates ps [] b now = again fates rs b played in
        record {
          fates = behind.fates;
          as_given = behind.as_given;
          outcomes = Outcome.Undeliverable ∷ behind.outcomes;
          tried = none_some fates q ps Outcome.Undeliverable [] b now is refl behind;
          first = refl;
        }
    by again (Some c) is [] played = absurd played
    by again (Some c) is (r ∷ rs) (between, prepares, played) =
        let fate : Fate = first_fate fates in
        let behind : TriesSome (drop 1 fates) ps [] between now = again (drop 1 fates) rs between played in
        record {
          fates = lost_fate fate ∷ behind.fates;
          as_given = given_on fates behind.fates (lost_fate fate) (lost_given fate) behind.as_given;
          outcomes = Outcome.Failed ∷ behind.outcomes;
          tried = one_some (lost_fate fate) q c ps behind.fates Outcome.Failed behind.outcomes b between now is (lost fate c r b between prepares) behind.tried;
          first = refl;
        }

-- messages that were played, of which some first were tried
pub tried_some : HaveRequests → (ps : List Post) (fates : List Fate) (rs : List Reply) (os : List Outcome) (b now : BidderState) (l l_now : ReplayState)
    → GoesOn (map planned_of rs) l → ArePlayed (filter_map message_of ps) fates b rs now → TriesOver (take (length os) ps) os l l_now → TriesSome fates ps os b now
tried_some some ps fates rs [] b now l l_now goes played tried = untried ps fates rs b now played
tried_some some [] fates rs (o ∷ os) b now l l_now goes played tried = absurd tried
tried_some some (q ∷ ps) fates rs (o ∷ os) b now l l_now goes played (mid, one, rest) =
    by (λ f k s on pd. tried_some some ps f k os s now mid l_now on pd rest) (message_of q) refl rs goes played one
  where
    by : ((f : List Fate) (k : List Reply) (s : BidderState) → GoesOn (map planned_of k) mid → ArePlayed (filter_map message_of ps) f s k now → TriesSome f ps os s now)
        → (m : Option Call) → message_of q ≡ m → (rs : List Reply) → GoesOn (map planned_of rs) l → ArePlayed (cons_option m (filter_map message_of ps)) fates b rs now → TriesOne m o l mid → TriesSome fates (q ∷ ps) (o ∷ os) b now
    by again None is rs goes played (undeliverable, same) =
        let behind : TriesSome fates ps os b now = again fates rs b (subst (GoesOn (map planned_of rs)) (sym same) goes) played in
        record {
          fates = behind.fates;
          as_given = behind.as_given;
          outcomes = o ∷ behind.outcomes;
          tried = none_some fates q ps o os b now is undeliverable behind;
          first = ap (λ (t : List Outcome). o ∷ t) behind.first;
        }
    by again (Some c) is [] goes played tries = absurd played
    by again (Some c) is (r ∷ rs) goes (between, prepares, played) tries =
        let fate : Fate = first_fate fates in
        let a : Answered (planned_of r) (map planned_of rs) o mid = answered c o l mid (planned_of r) (map planned_of rs) goes (some q.url c is) tries in
        let behind : TriesSome (drop 1 fates) ps os between now = again (drop 1 fates) rs between a.on played in
        record {
          fates = fate ∷ behind.fates;
          as_given = given_on fates behind.fates fate (inl refl) behind.as_given;
          outcomes = o ∷ behind.outcomes;
          tried = one_some fate q c ps behind.fates o behind.outcomes b between now is (befalls fate c r (map planned_of rs) o b between mid prepares a) behind.tried;
          first = ap (λ (t : List Outcome). o ∷ t) behind.first;
        }
