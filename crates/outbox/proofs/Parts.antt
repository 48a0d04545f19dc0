-- A part of the pending posts is tried, and what stays of all is moved to the front in place.
use Rattle.std.proofs.Common.{◌≡◌, ⊎_elim, ℕ, suc, ◌+◌, ◌<◌, ◌≤◌, List, [], ◌∷◌, ◌++◌, length, take, drop, get_or, set, Bool, true, false, cond, Option, Result, OnOk, refl, sym, ap, ◌∙◌, subst, arith, append-nil, append_assoc}
use Rattle.std.proofs.Math.ListN.{drop_of_length-le}
use Rattle.std.proofs.lemmas.Bool.Decides.{leb_tells}
use Rattle.std.proofs.lemmas.List.{drop-set-lt, drop_more, get_or-drop, length-drop, length-set, length-take-le, take-append-drop, take-append-le, take-set-le, take_all, take_more}
use Rattle.std.specs.List.{SwappedAt}
use Rattle.std.specs.Prelude.{min, IfOk}
use Rattle.adx_units.specs.declared.memory.OutOfMemory.{OutOfMemory}
use Rattle.adx_links.specs.Links.{Course, Exchanges}
use Rattle.std.specs.Borrow.{GName}
use Rattle.outbox.specs.declared.post.Post.{Post}
use Rattle.outbox.specs.declared.report.Outcome.{Outcome}
use Rattle.outbox.specs.declared.report.Report.{Report}
use Rattle.outbox.specs.Following.{OutboxState}
use Rattle.outbox.specs.Pumping.{AreTried, Pumps, PumpsPart, given_up_with, left_of, part_of, report_of, stays, stays_at}

-- what stays of posts that stand from a place on
abbrev pub left_from : List Outcome → ℕ → List Post → List Post
left_from os n [] = []
left_from os n (p ∷ ps) = cond (stays_at os n) (p ∷ left_from os (n + 1) ps) (left_from os (n + 1) ps)

left_behind : (o : Outcome) (os : List Outcome) (n : ℕ) (ps : List Post) → left_from (o ∷ os) (suc n) ps ≡ left_from os n ps
left_behind o os n [] = refl
left_behind o os n (p ∷ ps) =
    let next : suc n + 1 ≡ suc (n + 1) = omega arith in
    ap (λ (t : List Post). cond (stays_at os n) (p ∷ t) t) (ap (λ k. left_from (o ∷ os) k ps) next ∙ left_behind o os (n + 1) ps)

left_untried : (n : ℕ) (ps : List Post) → left_from [] n ps ≡ ps
left_untried n [] = refl
left_untried n (p ∷ ps) = ap (λ (t : List Post). p ∷ t) (left_untried (n + 1) ps)

pub left_is : (os : List Outcome) (ps : List Post) → left_from os 0 ps ≡ left_of ps os
left_is [] [] = refl
left_is (o ∷ os) [] = refl
left_is [] (p ∷ ps) = left_untried 0 (p ∷ ps)
left_is (o ∷ os) (p ∷ ps) =
    let one : 0 + 1 ≡ suc 0 = omega arith in
    ap (λ (t : List Post). cond (stays o) (p ∷ t) t) (ap (λ k. left_from (o ∷ os) k ps) one ∙ (left_behind o os 0 ps ∙ left_is os ps))

-- of posts and one more
left_more : (os : List Outcome) (n : ℕ) (ps : List Post) (p : Post) → left_from os n (ps ++ p ∷ []) ≡ left_from os n ps ++ cond (stays_at os (n + length ps)) (p ∷ []) []
left_more os n [] p = ap (λ k. cond (stays_at os k) (p ∷ []) []) (omega arith)
left_more os n (q ∷ ps) p = go (stays_at os n) (left_more os (n + 1) ps p ∙ ap (λ k. left_from os (n + 1) ps ++ cond (stays_at os k) (p ∷ []) []) (omega arith))
  where
    go : (b : Bool) → left_from os (n + 1) (ps ++ p ∷ []) ≡ left_from os (n + 1) ps ++ cond (stays_at os (n + length (q ∷ ps))) (p ∷ []) [] →
        cond b (q ∷ left_from os (n + 1) (ps ++ p ∷ [])) (left_from os (n + 1) (ps ++ p ∷ []))
        ≡ cond b (q ∷ left_from os (n + 1) ps) (left_from os (n + 1) ps) ++ cond (stays_at os (n + length (q ∷ ps))) (p ∷ []) []
    go true rest = ap (λ (l : List Post). q ∷ l) rest
    go false rest = rest

-- ys began as xs. What stays of the first m of xs from place b on is in the first k places of ys, and the others are as they were.
pub record KeepsLeft (os : List Outcome) (b : ℕ) (xs ys : List Post) (k m : ℕ) : Type 0 where
  pub front : take k ys ≡ take b xs ++ left_from os 0 (take m (drop b xs))
  pub rest : drop (b + m) ys ≡ drop (b + m) xs
  pub behind : k ≤ b + m
  pub within : b + m ≤ length xs
  pub long : length ys ≡ length xs

module _ (os : List Outcome) (b : ℕ) (xs ys : List Post) (k m : ℕ) where
  -- the item at the next place
  read : (d : Post) → KeepsLeft os b xs ys k m → b + m < length ys → get_or ys (b + m) d ∷ drop (b + m + 1) ys ≡ get_or xs (b + m) d ∷ drop (b + m + 1) xs
  read d h lt = sym (drop_more ys (b + m) d lt) ∙ (h.rest ∙ drop_more xs (b + m) d (omega (arith, lt, h.long)))

  step : (d : Post) (c : Bool) → KeepsLeft os b xs ys k m → b + m < length ys → stays_at os m ≡ c →
      take b xs ++ left_from os 0 (take (m + 1) (drop b xs)) ≡ take k ys ++ cond c (get_or ys (b + m) d ∷ []) []
  step d c h lt is =
      let ds = drop b xs in
      let long : m < length ds = omega (arith, lt, h.long, length-drop b xs) in
      let here : get_or ds m d ≡ get_or ys (b + m) d = get_or-drop b xs m d ∙ sym (ap (λ (l : List Post). get_or l 0 d) (read d h lt)) in
      let taken : take (m + 1) ds ≡ take m ds ++ get_or ys (b + m) d ∷ [] = take_more ds m d long ∙ ap (λ (x : Post). take m ds ++ x ∷ []) here in
      let place : 0 + length (take m ds) ≡ m = omega (arith, length-take-le m ds (omega (arith, long))) in
      ap (λ (l : List Post). take b xs ++ left_from os 0 l) taken
      ∙ (ap (λ (l : List Post). take b xs ++ l) (left_more os 0 (take m ds) (get_or ys (b + m) d))
      ∙ (ap (λ (n : ℕ). take b xs ++ (left_from os 0 (take m ds) ++ cond (stays_at os n) (get_or ys (b + m) d ∷ []) [])) place
      ∙ (ap (λ (t : Bool). take b xs ++ (left_from os 0 (take m ds) ++ cond t (get_or ys (b + m) d ∷ []) [])) is
      ∙ (sym (append_assoc (take b xs) (left_from os 0 (take m ds)) (cond c (get_or ys (b + m) d ∷ []) []))
      ∙ ap (λ (l : List Post). l ++ cond c (get_or ys (b + m) d ∷ []) []) (sym h.front)))))

  next : (zs : List Post) (d : Post) → KeepsLeft os b xs ys k m → b + m < length ys → drop (b + m + 1) zs ≡ drop (b + m + 1) ys → drop (b + (m + 1)) zs ≡ drop (b + (m + 1)) xs
  next zs d h lt same =
      let place : b + m + 1 ≡ b + (m + 1) = omega arith in
      subst (λ (n : ℕ). drop n zs ≡ drop n xs) place (same ∙ ap (λ (l : List Post). drop 1 l) (read d h lt))

  -- a post that doesn't stay
  pub keeps_no : (d : Post) → KeepsLeft os b xs ys k m → b + m < length ys → stays_at os m ≡ false → KeepsLeft os b xs ys k (m + 1)
  keeps_no d h lt is = record {
    front = sym (step d false h lt is ∙ append-nil (take k ys));
    rest = next ys d h lt refl;
    behind = omega (arith, h.behind);
    within = omega (arith, lt, h.long);
    long = h.long;
  }

  -- one that stays, by what a swap says by its places
  pub keeps_more : (zs : List Post) (d : Post) → KeepsLeft os b xs ys k m → b + m < length ys → stays_at os m ≡ true → SwappedAt ys zs k (b + m) → KeepsLeft os b xs zs (k + 1) (m + 1)
  keeps_more zs d h lt is s =
      let u = get_or ys (b + m) d in let v = get_or ys k d in
      let few = h.behind in
      let long : length zs ≡ length ys = ap (λ (l : List Post). length l) (s.3 d) ∙ (length-set (set ys k u) (b + m) v ∙ length-set ys k u) in
      let front : take k zs ≡ take k ys = ap (λ (l : List Post). take k l) (s.3 d) ∙ (take-set-le k (set ys k u) (b + m) v few ∙ take-set-le k ys k u (omega arith)) in
      let behind : drop (b + m + 1) zs ≡ drop (b + m + 1) ys = ap (λ (l : List Post). drop (b + m + 1) l) (s.3 d)
      ∙ (drop-set-lt (b + m + 1) (set ys k u) (b + m) v (omega arith) ∙ drop-set-lt (b + m + 1) ys k u (omega (arith, few))) in
      record {
        front = take_more zs k d (omega (arith, few, lt, long))
            ∙ (ap (λ (l : List Post). l ++ get_or zs k d ∷ []) front ∙ (ap (λ (x : Post). take k ys ++ x ∷ []) (s.0 d) ∙ sym (step d true h lt is)));
        rest = next zs d h lt behind;
        behind = omega (arith, few);
        within = omega (arith, lt, h.long);
        long = long ∙ h.long;
      }

-- a place past the end is the end
take_min : (first : ℕ) (xs : List Post) (b : ℕ) → b ≡ min first (length xs) → take b xs ≡ take first xs
take_min first xs b is = ⊎_elim
    (λ t. let le = t.1 in ap (λ (n : ℕ). take n xs) (omega (arith, is, le)))
    (λ t. let lt = t.1 in take_all b xs (omega (arith, is, lt)) ∙ sym (take_all first xs (omega (arith, lt))))
    (leb_tells first (length xs))

drop_min : (first : ℕ) (xs : List Post) (b : ℕ) → b ≡ min first (length xs) → drop b xs ≡ drop first xs
drop_min first xs b is = ⊎_elim
    (λ t. let le = t.1 in ap (λ (n : ℕ). drop n xs) (omega (arith, is, le)))
    (λ t. let lt = t.1 in drop_of_length-le xs (omega (arith, is, lt)) ∙ sym (drop_of_length-le xs (omega (arith, lt))))
    (leb_tells first (length xs))

-- so many of the posts from a place on, by two cuts
pub part_is : (first most : ℕ) (xs rest part : List Post) (a b : ℕ) → a ≡ min first (length xs) → rest ≡ drop a xs → b ≡ min most (length rest) → part ≡ take b rest → part ≡ part_of first most xs
part_is first most xs rest part a b a_is rest_is b_is is = is ∙ (take_min most rest b b_is ∙ ap (λ (l : List Post). take most l) (rest_is ∙ drop_min first xs a a_is))

-- some item of a list that has one
some_item : (xs : List Post) (n : ℕ) → n < length xs → Post
some_item [] n lt = absurd (omega (arith, lt))
some_item (x ∷ xs) n lt = x

module _ (os : List Outcome) (b : ℕ) (xs ys : List Post) (k m : ℕ) where
  pub left_out : KeepsLeft os b xs ys k m → b + m < length ys → stays_at os m ≡ false → KeepsLeft os b xs ys k (m + 1)
  left_out h lt is = keeps_no os b xs ys k m (some_item ys (b + m) lt) h lt is

  pub left_in : (zs : List Post) → KeepsLeft os b xs ys k m → b + m < length ys → stays_at os m ≡ true → SwappedAt ys zs k (b + m) → KeepsLeft os b xs zs (k + 1) (m + 1)
  left_in zs h lt is s = keeps_more os b xs ys k m zs (some_item ys (b + m) lt) h lt is s

  -- all were looked at
  pub left_whole : (first : ℕ) → b ≡ min first (length xs) → length xs ≤ b + m → KeepsLeft os b xs ys k m → take k ys ≡ take first xs ++ left_of (drop first xs) os
  left_whole first is all h =
      h.front
      ∙ (ap (λ (l : List Post). take b xs ++ left_from os 0 l) (take_all m (drop b xs) (omega (arith, all, length-drop b xs)))
      ∙ (ap (λ (l : List Post). take b xs ++ l) (left_is os (drop b xs))
      ∙ cut))
    where
      cut : take b xs ++ left_of (drop b xs) os ≡ take first xs ++ left_of (drop first xs) os
      cut = λ i. take_min first xs b is i ++ left_of (drop_min first xs b is i) os

-- nothing was looked at
pub left_first : (os : List Outcome) (b : ℕ) (xs : List Post) → b ≤ length xs → KeepsLeft os b xs xs b 0
left_first os b xs few = record {
  front = sym (append-nil (take b xs));
  rest = refl;
  behind = omega arith;
  within = omega (arith, few);
  long = refl;
}

-- the first of the first
take_few : (n m : ℕ) (xs : List Post) → n ≤ length (take m xs) → take n (take m xs) ≡ take n xs
take_few n m xs few = ap (λ (l : List Post). l) (sym (take-append-le n (take m xs) (drop m xs) few)) ∙ ap (λ (l : List Post). take n l) (take-append-drop m xs)

module _ {L : Type 0} (exchanges : L → Option Exchanges) (course : L → Option Course) (faults : L → ℕ) (stands_on : L → List GName) (limit : ℕ) where
  abbrev Tried : List Post → List Outcome → L → L → Type 0
  Tried = AreTried exchanges course faults stands_on limit

  -- a part was tried, and what stays of it was kept
  pub pumped_part : (first most : ℕ) (part : List Post) (os : List Outcome) (link link_now : L) (r : Result Report OutOfMemory) (old new : OutboxState) → part ≡ part_of first most old.pending →
      length os ≤ length part → OnOk r (length os ≡ length part) → Tried (take (length os) part) os link link_now → new.pending ≡ take first old.pending ++ left_of (drop first old.pending) os →
      new.followed ≡ old.followed → new.kept ≡ old.kept → new.undeliverable ≡ given_up_with old.undeliverable os → IfOk r (λ x. x ≡ report_of os) →
      PumpsPart exchanges course faults stands_on limit first most link link_now r old new
  pumped_part first most part os link link_now r old new is few all tried pending followed kept given_up report =
      let short : length os ≤ length (part_of first most old.pending) = subst (λ (ps : List Post). length os ≤ length ps) is few in record {
        outcomes = os;
        few = short;
        all = subst (λ (ps : List Post). OnOk r (length os ≡ length ps)) is all;
        tried = subst (λ (ps : List Post). Tried ps os link link_now) (ap (λ (ps : List Post). take (length os) ps) is ∙ take_few (length os) most (drop first old.pending) short) tried;
        pending = pending;
        followed = followed;
        kept = kept;
        given_up = given_up;
        report = report;
      }

  -- the part that is all
  pub pumped_all : (most : ℕ) (link link_now : L) (r : Result Report OutOfMemory) (old new : OutboxState) → length old.pending ≤ most →
      PumpsPart exchanges course faults stands_on limit 0 most link link_now r old new → Pumps exchanges course faults stands_on limit link link_now r old new
  pumped_all most link link_now r old new all p =
      let whole : take most old.pending ≡ old.pending = take_all most old.pending all in record {
        outcomes = p.outcomes;
        few = subst (λ (ps : List Post). length p.outcomes ≤ length ps) whole p.few;
        all = subst (λ (ps : List Post). OnOk r (length p.outcomes ≡ length ps)) whole p.all;
        tried = p.tried;
        pending = p.pending;
        followed = p.followed;
        kept = p.kept;
        given_up = p.given_up;
        report = p.report;
      }
