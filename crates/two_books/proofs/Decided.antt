-- A reply that comes after later steps: which post it decides of, and what is left then.
use Rattle.std.proofs.Common.{◌≡◌, ◌≢◌, ◌⊎◌, ℕ, zero, suc, ◌+◌, ◌<◌, ◌≤◌, List, [], ◌∷◌, ◌++◌, length, take, drop, map, get_or, Bool, true, false, not, refl, sym, ap, ◌∙◌, subst, arith, Option, Some, None, Result, Ok, Err, inl, inr}
use Rattle.std.specs.List.{before_first, position_or_len}
use Rattle.std.specs.Option.{option_map_or}
use Rattle.std.specs.Str.{bytes_eq}
use Rattle.std.proofs.lemmas.Bool.{true≢false}
use Rattle.std.proofs.lemmas.List.{drop_more, take-append-drop}
use Rattle.std.proofs.lemmas.List.Sums.{passes_at_first, position_or_len_is, prefix_len-le-length}
use Rattle.adx_io.specs.Streams.{own_place}
use Rattle.adx_units.specs.declared.memory.OutOfMemory.{OutOfMemory}
use Rattle.outbox.specs.Calls.{IsValidAs, call_of}
use Rattle.outbox.specs.Following.{OutboxState}
use Rattle.outbox.specs.Pumping.{PumpsPart, given_up_with, left_of, part_of}
use Rattle.outbox.specs.declared.calling.Call.{Call}
use Rattle.outbox.specs.declared.outbox.TheConstants.{ANSWER_LIMIT}
use Rattle.outbox.specs.declared.post.Post.{Post}
use Rattle.outbox.specs.declared.report.Outcome.{Outcome}
use Rattle.outbox.specs.declared.report.Report.{Report}
use Rattle.two_books.specs.Exchanges.{ExchangeState}
use Rattle.two_books.specs.FoundPosts.{FindsPost, KnowsPost}
use Rattle.two_books.specs.LateReplies.{Acknowledges, AcknowledgesTo, is_sent_as}
use Rattle.two_books.specs.Replaying.{ReplayState, course_of, failing, faults_of, link_of, most_faults, planned_of, replying}
use Rattle.two_books.specs.Worlds.{message_of}
use Rattle.two_books.specs.declared.late.Late.{Late}
use Rattle.two_books.specs.declared.replay.Reply.{Reply}
use Rattle.two_books.proofs.PumpedSums.{left_none}
use Rattle.two_books.proofs.Pumped.{begins, none_given_up}
use Rattle.two_books.proofs.Requests.{have_requests}
use Rattle.two_books.proofs.Tried.{Answered, IsOne, TriesOne, TriesOver, answered}

-- ---- one post

pub knows_none : (request : List ℕ) (p : Post) → None ≡ call_of p.url → KnowsPost request p false
knows_none request p is = (
  sym (ap (λ (m : Option Call). option_map_or (λ (c : Call). bytes_eq c.request request) m false) (sym is)),
  λ wrong. absurd (true≢false (sym wrong)),
)

pub knows_some : (request : List ℕ) (p : Post) (c : Call) (is : Bool) → Some c ≡ call_of p.url → IsValidAs p.url → is ≡ bytes_eq c.request request → KnowsPost request p is
knows_some request p c is call valid same = (
  same ∙ ap (λ (m : Option Call). option_map_or (λ (d : Call). bytes_eq d.request request) m false) call,
  λ yes_it_is. valid,
)

-- ---- the posts of a slice

any_default : (ps : List Post) (n : ℕ) (d e : Post) → n < length ps → get_or ps n d ≡ get_or ps n e
any_default [] n d e within = absurd (omega (arith, within))
any_default (p ∷ ps) zero d e within = refl
any_default (p ∷ ps) (suc n) d e within = any_default ps n d e (omega (arith, within))

-- none of the first so many is sent so
abbrev pub NoneBefore : List ℕ → List Post → ℕ → Type 0
NoneBefore request posts i = (d : Post) (k : ℕ) → k < i → is_sent_as request (get_or posts k d) ≡ false

at_or_before : (k i : ℕ) → k < i + 1 → (k < i) ⊎ (k ≡ i)
at_or_before zero zero h = inr refl
at_or_before zero (suc i) h = inl (omega arith)
at_or_before (suc k) zero h = absurd (omega (arith, h))
at_or_before (suc k) (suc i) h = by (at_or_before k i (omega (arith, h)))
  where
    by : (k < i) ⊎ (k ≡ i) → (suc k < suc i) ⊎ (suc k ≡ suc i)
    by (inl less) = inl (omega (arith, less))
    by (inr same) = inr (ap suc same)

pub none_more : (request : List ℕ) (posts : List Post) (i : ℕ) (p : Post) → i < length posts → p ≡ get_or posts i p → NoneBefore request posts i → KnowsPost request p false → NoneBefore request posts (i + 1)
none_more request posts i p within is before known d k below = by (at_or_before k i below)
  where
    by : (k < i) ⊎ (k ≡ i) → is_sent_as request (get_or posts k d) ≡ false
    by (inl less) = before d k less
    by (inr same) =
        ap (λ n. is_sent_as request (get_or posts n d)) same
        ∙ ap (is_sent_as request) (any_default posts i d p within ∙ sym is)
        ∙ sym known.0

pub finds_here : (request : List ℕ) (posts : List Post) (i : ℕ) (p : Post) → i < length posts → p ≡ get_or posts i p → NoneBefore request posts i → KnowsPost request p true → FindsPost request posts i
finds_here request posts i p within is before known = (
  sym (position_or_len_is (is_sent_as request) posts i p (omega (arith, within)) (before p) (λ short. ap (is_sent_as request) (sym is) ∙ sym known.0)),
  λ short d. subst (λ (q : Post). IsValidAs q.url) (is ∙ any_default posts i p d within) (known.1 refl),
)

pub finds_none : (request : List ℕ) (posts : List Post) (i : ℕ) → i ≤ length posts → length posts ≤ i → NoneBefore request posts i → FindsPost request posts i
finds_none request posts i few all before = by posts refl
  where
    by : (ps : List Post) → posts ≡ ps → FindsPost request posts i
    by [] same = (sym (subst (λ (ps : List Post). position_or_len (is_sent_as request) ps ≡ i) (sym same) (omega (arith, few, ap (λ (l : List Post). length l) same))), λ short. absurd (omega (arith, short, all)))
    by (p ∷ ps) same = (sym (position_or_len_is (is_sent_as request) posts i p few (before p) (λ short. absurd (omega (arith, short, all)))), λ short. absurd (omega (arith, short, all)))

-- ---- what is left

same_outbox : (o p : OutboxState) → p.followed ≡ o.followed → p.kept ≡ o.kept → p.pending ≡ o.pending → p.undeliverable ≡ o.undeliverable → p ≡ o
same_outbox o p followed kept pending undeliverable =
    ap (λ n. record p { followed = n }) followed
    ∙ (ap (λ k. record p { followed = o.followed; kept = k }) kept
    ∙ (ap (λ (ps : List Post). record p { followed = o.followed; kept = o.kept; pending = ps }) pending
    ∙ ap (λ n. record o { undeliverable = n }) undeliverable))

same_exchange : (o p : ExchangeState) → p.day ≡ o.day → p.campaigns ≡ o.campaigns → p.outbox ≡ o.outbox → p ≡ o
same_exchange o p day campaigns outbox =
    ap (λ d. record p { day = d }) day ∙ (ap (λ cs. record p { day = o.day; campaigns = cs }) campaigns ∙ ap (λ b. record o { outbox = b }) outbox)

-- the pump of one post over the link that answers these replies
abbrev pub PumpsOne : List Reply → ℕ → ReplayState → Result Report OutOfMemory → OutboxState → OutboxState → Type 0
PumpsOne replies n link r old new =
    PumpsPart (λ (k : ReplayState). None) (λ (k : ReplayState). Some (course_of k)) faults_of (λ _. own_place) ANSWER_LIMIT n 1
    (link_of (map planned_of replies)) link r old new

-- what was found of a text and a slice that are lent
pub found_by : (request lent : List ℕ) (posts shown : List Post) (n : ℕ) → lent ≡ request → shown ≡ posts → FindsPost lent shown n → FindsPost request posts n
found_by request lent posts shown n same all found =
    subst (λ (r : List ℕ). FindsPost r posts n) same (subst (λ (ps : List Post). FindsPost lent ps n) all found)

-- a link that was made of these replies
pub pumps_by : (replies : List Reply) (n : ℕ) (made link : ReplayState) (r : Result Report OutOfMemory) (old new : OutboxState) → made ≡ link_of (map planned_of replies)
    → PumpsPart (λ (k : ReplayState). None) (λ (k : ReplayState). Some (course_of k)) faults_of (λ _. own_place) ANSWER_LIMIT n 1 made link r old new
    → PumpsOne replies n link r old new
pumps_by replies n made link r old new is pumps =
    subst
    (λ (k : ReplayState). PumpsPart (λ (j : ReplayState). None) (λ (j : ReplayState). Some (course_of j)) faults_of (λ _. own_place) ANSWER_LIMIT n 1 k link r old new)
    is pumps

module _ (late : Late) (n : ℕ) (link : ReplayState) (r : Result Report OutOfMemory) (old new : ExchangeState) (found : FindsPost late.request old.outbox.pending n) (within : n < length old.outbox.pending)
    (few : failing (map planned_of (Reply.Came late.bytes ∷ [])) < most_faults) (day : new.day ≡ old.day) (campaigns : new.campaigns ≡ old.campaigns) (p : PumpsOne (Reply.Came late.bytes ∷ []) n link r old.outbox new.outbox) where
  abbrev test : Post → Bool
  test = is_sent_as late.request

  abbrev pending : List Post
  pending = old.outbox.pending

  -- the post, with the default that is there
  abbrev post : Post → Post
  post d = get_or old.outbox.pending n d

  rest : (d : Post) → drop n pending ≡ post d ∷ drop (n + 1) pending
  rest d = drop_more pending n d within

  asked : (d : Post) → test (post d) ≡ true
  asked d =
      ap (λ k. test (get_or pending k d)) found.0
      ∙ passes_at_first test pending d (subst (λ k. k < length pending) found.0 within)

  one_of : (d : Post) (c : Call) (o : Outcome) (mid : ReplayState) → message_of (post d) ≡ Some c → IsOne c o (link_of (map planned_of (Reply.Came late.bytes ∷ []))) mid → Answered (replying late.bytes) [] o mid
  one_of d c o mid is one =
      answered c o (link_of (map planned_of (Reply.Came late.bytes ∷ []))) mid (replying late.bytes) [] (begins (Reply.Came late.bytes ∷ []) few) (have_requests (post d).url c is) one

  tried_one : (d : Post) (o : Outcome) (mid : ReplayState) → TriesOne (message_of (post d)) o (link_of (map planned_of (Reply.Came late.bytes ∷ []))) mid → Answered (replying late.bytes) [] o mid
  tried_one d o mid tries = by (message_of (post d)) refl (asked d) tries
    where
      by : (m : Option Call) → message_of (post d) ≡ m → option_map_or (λ (c : Call). bytes_eq c.request late.request) m false ≡ true → TriesOne m o (link_of (map planned_of (Reply.Came late.bytes ∷ []))) mid → Answered (replying late.bytes) [] o mid
      by None is sent tried = absurd (true≢false (sym sent))
      by (Some c) is sent tried = one_of d c o mid is tried

  with_one : (d : Post) (o : Outcome) → p.outcomes ≡ o ∷ [] → Acknowledges late old new
  with_one d o os =
      let over = subst (λ (l : List Outcome). PumpedOver l) os p.tried in
      let tries = subst (λ (ps : List Post). Tried (take 1 ps) (o ∷ [])) (rest d) over in
      let a : Answered (replying late.bytes) [] o tries.0 = tried_one d o tries.0 tries.1 in
      record {
        outbox = inr (record {
          post = post d;
          back = drop (n + 1) pending;
          outcome = o;
          split = sym (take-append-drop n pending) ∙ (ap (λ k. take k pending ++ drop n pending) found.0 ∙ ap (λ (l : List Post). before_first test pending ++ l) (rest d));
          asked = asked d;
          valid = found.1 within d;
          heard = a.passed refl;
          comes = a.comes;
          pending = p.pending ∙ (ap (λ k. take k pending ++ left_of (drop n pending) p.outcomes) found.0
              ∙ (ap (λ (l : List Post). before_first test pending ++ left_of l p.outcomes) (rest d)
              ∙ ap (λ (l : List Outcome). before_first test pending ++ left_of (post d ∷ drop (n + 1) pending) l) os));
          undeliverable = p.given_up ∙ ap (given_up_with old.outbox.undeliverable) os;
          followed = p.followed;
          kept = p.kept;
        });
        day = day;
        campaigns = campaigns;
      }
    where
      Tried : List Post → List Outcome → Type 0
      Tried ps os = TriesOver ps os (link_of (map planned_of (Reply.Came late.bytes ∷ []))) link

      PumpedOver : List Outcome → Type 0
      PumpedOver os = Tried (take (length os) (drop n pending)) os

  with_none : p.outcomes ≡ [] → new ≡ old
  with_none os =
      same_exchange old new day campaigns
      (same_outbox old.outbox new.outbox p.followed p.kept
      (p.pending ∙ (ap (λ (l : List Outcome). take n pending ++ left_of (drop n pending) l) os ∙ (ap (λ (l : List Post). take n pending ++ l) (left_none (drop n pending)) ∙ take-append-drop n pending)))
      (p.given_up ∙ (ap (given_up_with old.outbox.undeliverable) os ∙ sym (none_given_up old.outbox.undeliverable))))

  -- there is one post in the part
  one_post : (d : Post) → length (part_of n 1 pending) ≡ 1
  one_post d = ap (λ (l : List Post). length (take 1 l)) (rest d)

  some_post : Post
  some_post = by pending refl
    where
      by : (ps : List Post) → pending ≡ ps → Post
      by [] is = absurd (omega (arith, within, ap (λ (l : List Post). length l) is))
      by (q ∷ qs) is = q

  ended : (os : List Outcome) → p.outcomes ≡ os → (new ≡ old) ⊎ Acknowledges late old new
  ended [] is = inl (with_none is)
  ended (o ∷ []) is = inr (with_one some_post o is)
  ended (o ∷ o2 ∷ os) is = absurd (omega (arith, p.few, one_post some_post, ap (λ (l : List Outcome). length l) is))

  done_all : (os : List Outcome) → p.outcomes ≡ os → length p.outcomes ≡ length (part_of n 1 pending) → Acknowledges late old new
  done_all [] is all = absurd (omega (arith, all, one_post some_post, ap (λ (l : List Outcome). length l) is))
  done_all (o ∷ []) is all = with_one some_post o is
  done_all (o ∷ o2 ∷ os) is all = absurd (omega (arith, all, one_post some_post, ap (λ (l : List Outcome). length l) is))

-- whichever way it ended
pub decides_to : (late : Late) (replies : List Reply) (n : ℕ) (link : ReplayState) (r : Report) (done : Unit {0}) (old new : ExchangeState) → replies ≡ Reply.Came late.bytes ∷ []
    → FindsPost late.request old.outbox.pending n → n < length old.outbox.pending → failing (map planned_of replies) < most_faults
    → new.day ≡ old.day → new.campaigns ≡ old.campaigns → PumpsOne replies n link (Ok r) old.outbox new.outbox → AcknowledgesTo late (Ok done) old new
decides_to late replies n link r done old new one found within few day campaigns pumps =
    let less : failing (map planned_of (Reply.Came late.bytes ∷ [])) < most_faults = subst (λ (l : List Reply). failing (map planned_of l) < most_faults) one few in
    let p : PumpsOne (Reply.Came late.bytes ∷ []) n link (Ok r) old.outbox new.outbox = subst (λ (l : List Reply). PumpsOne l n link (Ok r) old.outbox new.outbox) one pumps in
    done_all late n link (Ok r) old new found within less day campaigns p p.outcomes refl p.all

pub decides_or_not : (late : Late) (replies : List Reply) (n : ℕ) (link : ReplayState) (wanting : OutOfMemory) (old new : ExchangeState) → replies ≡ Reply.Came late.bytes ∷ []
    → FindsPost late.request old.outbox.pending n → n < length old.outbox.pending → failing (map planned_of replies) < most_faults
    → new.day ≡ old.day → new.campaigns ≡ old.campaigns → PumpsOne replies n link (Err wanting) old.outbox new.outbox → AcknowledgesTo late (Err wanting) old new
decides_or_not late replies n link wanting old new one found within few day campaigns pumps =
    let less : failing (map planned_of (Reply.Came late.bytes ∷ [])) < most_faults = subst (λ (l : List Reply). failing (map planned_of l) < most_faults) one few in
    let p : PumpsOne (Reply.Came late.bytes ∷ []) n link (Err wanting) old.outbox new.outbox = subst (λ (l : List Reply). PumpsOne l n link (Err wanting) old.outbox new.outbox) one pumps in
    ended late n link (Err wanting) old new found within less day campaigns p p.outcomes refl

-- no post is sent so
pub decides_none : (late : Late) (n : ℕ) (done : Unit {0}) (e : ExchangeState) → FindsPost late.request e.outbox.pending n → length e.outbox.pending ≤ n → AcknowledgesTo late (Ok done) e e
decides_none late n done e found all = record { outbox = inl (by e.outbox.pending refl, refl); day = refl; campaigns = refl }
  where
    by : (ps : List Post) → e.outbox.pending ≡ ps → position_or_len (is_sent_as late.request) e.outbox.pending ≡ length e.outbox.pending
    by ps is = omega (arith, found.0, all, prefix_len-le-length (λ (q : Post). not (is_sent_as late.request q)) e.outbox.pending)
