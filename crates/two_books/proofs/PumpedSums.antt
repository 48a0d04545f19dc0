-- What a pump settles: each post that is due stays pending, or is given up, or its bill was counted.
use Rattle.std.proofs.Common.{◌≡◌, ◌⊎◌, ⊎_elim, ℕ, zero, suc, ◌+◌, ◌-◌, ◌^◌, ◌<◌, min, List, [], ◌∷◌, ◌++◌, take, Bool, true, false, cond, refl, sym, ap, subst, arith, All, Option, Some, None, inl, inr}
use Rattle.std.specs.Prelude.{IfSome}
use Rattle.std.specs.List.{count_by}
use Rattle.std.proofs.lemmas.List.Elements.{All-append, All-cons, All-head, All-nil, All-tail, All-weaker}
use Rattle.std.proofs.lemmas.List.Sums.{sum_by-cons}
use Rattle.bidder_core.specs.Seen.{BidderState}
use Rattle.bidder_core.specs.declared.price_line.PriceLine.{PriceLine}
use Rattle.outbox.specs.Calls.{IsValidAs}
use Rattle.outbox.specs.Pumping.{ComesTo, given_up_with, is_undeliverable, left_of, stays}
use Rattle.outbox.specs.declared.calling.Call.{Call}
use Rattle.outbox.specs.declared.outbox.TheConstants.{ANSWER_LIMIT}
use Rattle.outbox.specs.declared.post.Post.{Post}
use Rattle.outbox.specs.declared.report.Outcome.{Outcome}
use Rattle.two_books.specs.Delivering.{IsReplied}
use Rattle.two_books.specs.Steps.{AreTried, Befalls, TriesPost, fates_behind, first_fate}
use Rattle.two_books.specs.Worlds.{IsSendable, message_of}
use Rattle.two_books.specs.declared.step.Fate.{Fate}
use Rattle.two_books.specs.Settling.{Among, IsCounted, IsSettled}
use Rattle.two_books.proofs.Counted.{delivered_counts}
use Rattle.two_books.proofs.Growing.{Grows, all_grow, counted_still}

-- ---- one post

module _ (line : PriceLine) (p : Post) where
  -- it stays, or can't be sent, or its bill was counted
  abbrev CameTo : Outcome → BidderState → Type 0
  CameTo o now = (stays o ≡ true) ⊎ ((is_undeliverable o ≡ true) ⊎ IsCounted line now.rows p)

  through : (c : Call) (reply : List ℕ) (b now : BidderState) (o : Outcome) → message_of p ≡ Some c → IsValidAs p.url → IsReplied c.request b reply now → ComesTo ANSWER_LIMIT reply o → CameTo o now
  through c reply b now Outcome.Delivered is valid replied comes = inr (inr (delivered_counts ANSWER_LIMIT line p c b now reply is valid replied comes))
  through c reply b now Outcome.Failed is valid replied comes = inl refl
  through c reply b now Outcome.Answered is valid replied comes = inl refl
  through c reply b now Outcome.Undeliverable is valid replied comes = absurd comes

  befallen : (fate : Fate) (c : Call) (b now : BidderState) (o : Outcome) → message_of p ≡ Some c → IsValidAs p.url → Befalls fate c.request b o now → CameTo o now
  befallen Fate.Held c b now o is valid (failed, same) = inl (ap stays failed)
  befallen Fate.Mute c b now o is valid (failed, delivered) = inl (ap stays failed)
  befallen Fate.Through c b now o is valid (reply, delivered, replied, passed, comes) = through c reply b now o is valid replied comes

  tried_once : (m : Option Call) → message_of p ≡ m → IfSome m (λ c. IsValidAs p.url) → (fate : Fate) (b now : BidderState) (o : Outcome) → TriesPost m fate b o now → CameTo o now
  tried_once None is valid fate b now o (undeliverable, same) = inr (inl (ap is_undeliverable undeliverable))
  tried_once (Some c) is valid fate b now o befalls = befallen fate c b now o is valid befalls

-- ---- all posts

pub left_none : (ps : List Post) → left_of ps [] ≡ ps
left_none [] = refl
left_none (p ∷ ps) = refl

abbrev no_outcome : List Outcome
no_outcome = []

none_taken : (n : ℕ) → take n no_outcome ≡ no_outcome
none_taken zero = refl
none_taken (suc n) = refl

abbrev undelivered : List Outcome → ℕ
undelivered os = count_by is_undeliverable os

pub here_left : (p q : Post) (t : Bool) (left : List Post) → t ≡ true → p ≡ q → Among p (cond t (q ∷ left) left)
here_left p q true left yes_t same = inl same
here_left p q false left yes_t same = absurd (cc)

pub later_left : (p q : Post) (t : Bool) (left : List Post) → Among p left → Among p (cond t (q ∷ left) left)
later_left p q true left among = inr among
later_left p q false left among = among

module _ (line : PriceLine) (p : Post) where
  -- it is among these, or so many posts were given up, or its bill was counted
  abbrev pub Left : List Post → List Outcome → BidderState → Type 0
  Left ps os now = Among p ps ⊎ ((0 < undelivered os) ⊎ IsCounted line now.rows p)

  pub tried_all : (ps back : List Post) (fates : List Fate) (b : BidderState) (os : List Outcome) (now : BidderState) (n : ℕ) → All IsSendable ps → AreTried ps fates b os now → Among p (ps ++ back)
      → Left (left_of (ps ++ back) (take n os)) (take n os) now
  tried_all [] back fates b os now n valid (none, same) among =
      subst (λ (l : List Outcome). Left (left_of back (take n l)) (take n l) now) (sym none)
      (subst (λ (l : List Outcome). Left (left_of back l) l now) (sym (none_taken n)) (inl (subst (Among p) (sym (left_none back)) among)))
  tried_all (q ∷ ps) back fates b [] now n valid tried among = absurd tried
  tried_all (q ∷ ps) back fates b (o ∷ os) now zero valid tried among = inl among
  tried_all (q ∷ ps) back fates b (o ∷ os) now (suc n) valid (mid, one, rest) among =
      by (λ a. tried_all ps back (fates_behind (message_of q) fates) mid os now n (All-tail IsSendable q ps valid) rest a) among
    where
      left : List Post
      left = left_of (ps ++ back) (take n os)

      counts : undelivered (o ∷ take n os) ≡ cond (is_undeliverable o) 1 0 + undelivered (take n os)
      counts = sum_by-cons (λ (x : Outcome). cond (is_undeliverable x) 1 0) o (take n os)

      came : (p ≡ q) → CameTo line q o mid → Left (cond (stays o) (q ∷ left) left) (o ∷ take n os) now
      came same (inl stay) = inl (here_left p q (stays o) left stay same)
      came same (inr (inl given_up)) = inr (inl (omega (arith, counts, ap {B = ℕ} (λ (t : Bool). cond t 1 0) given_up)))
      came same (inr (inr counted)) =
          inr (inr (subst (IsCounted line now.rows) (sym same) (counted_still line mid now q (all_grow ps (fates_behind (message_of q) fates) mid os now rest) counted)))

      later : Left left (take n os) now → Left (cond (stays o) (q ∷ left) left) (o ∷ take n os) now
      later (inl among) = inl (later_left p q (stays o) left among)
      later (inr (inl given_up)) = inr (inl (omega (arith, counts, given_up)))
      later (inr (inr counted)) = inr (inr counted)

      by : (Among p (ps ++ back) → Left left (take n os) now) → Among p (q ∷ (ps ++ back)) → Left (cond (stays o) (q ∷ left) left) (o ∷ take n os) now
      by again (inl same) = came same (tried_once line q (message_of q) refl (All-head IsSendable q ps valid) (first_fate fates) b mid o one)
      by again (inr among) = later (again among)

-- ---- what was settled before, and what is due

some_given_up : (before count most : ℕ) → 0 < count → 0 < most → 0 < before + min count (most - before)
some_given_up zero count most h k = omega (arith, h, k)
some_given_up (suc before) count most h k = omega arith

pub given_up_still : (before : ℕ) (os : List Outcome) → 0 < before → 0 < given_up_with before os
given_up_still before os h = omega (arith, h)

pub given_up_now : (before : ℕ) (os : List Outcome) → 0 < count_by is_undeliverable os → 0 < given_up_with before os
given_up_now before os h = some_given_up before (count_by is_undeliverable os) (2 ^ 32 - 1) h (omega arith)

among_front : (p : Post) (xs ys : List Post) → Among p xs → Among p (xs ++ ys)
among_front p [] ys among = absurd among
among_front p (x ∷ xs) ys (inl same) = inl same
among_front p (x ∷ xs) ys (inr among) = inr (among_front p xs ys among)

among_back : (p : Post) (xs ys : List Post) → Among p ys → Among p (xs ++ ys)
among_back p [] ys among = among
among_back p (x ∷ xs) ys among = inr (among_back p xs ys among)

all_among : (ps : List Post) → All (λ p. Among p ps) ps
all_among [] = All-nil (λ p. Among p [])
all_among (p ∷ ps) = All-cons (λ q. Among q (p ∷ ps)) p ps (inl refl) (All-weaker (λ q. Among q ps) (λ q. Among q (p ∷ ps)) (λ q among. inr among) ps (all_among ps))

-- what was settled stays so after a pump, and what came due is settled
pub settled_on : (line : PriceLine) (old_posts pending next pending_now : List Post) (given given_now : ℕ) (b now : BidderState)
    → ((p : Post) → Among p (pending ++ next) → IsSettled line pending_now given_now now.rows p) → (0 < given → 0 < given_now) → Grows b now
    → All (IsSettled line pending given b.rows) old_posts → All (IsSettled line pending_now given_now now.rows) (old_posts ++ next)
settled_on line old_posts pending next pending_now given given_now b now due more grows settled =
    let Now : Post → Type 0 = IsSettled line pending_now given_now now.rows in
    All-append Now old_posts next
    (All-weaker (IsSettled line pending given b.rows) Now
    (λ p s. ⊎_elim (λ among. due p (among_front p pending next among)) (λ other. ⊎_elim (λ some. inr (inl (more some))) (λ counted. inr (inr (counted_still line b now p grows counted))) other) s)
    old_posts settled)
    (All-weaker (λ p. Among p next) Now (λ p among. due p (among_back p pending next among)) next (all_among next))
