-- The walk over kept texts that moves those that stay to the front.
use Rattle.std.proofs.Common.{◌≡◌, ℕ, ◌+◌, ◌<◌, ◌≤◌, List, [], ◌∷◌, ◌++◌, length, set, take, drop, get_or, true, false, cond, refl, sym, ap, ◌∙◌, arith, is_some}
use Rattle.std.specs.List.{swap}
use Rattle.std.proofs.Math.Seq.{drop-cons}
use Rattle.std.proofs.lemmas.List.{append-nil, drop-drop, take_more}
use Rattle.std.proofs.lemmas.List.Elements.{filter_map-append}
use Rattle.adx_units.specs.declared.offer.Offer.{Offer}
use Rattle.day_rules.specs.declared.ask.Kept.{Kept}
use Rattle.day_rules.specs.Asks.{is_winners, may_be_told, settled_kept, stays}
use Rattle.day_rules.specs.OfferTests.{trimmed}
use Rattle.day_rules.proofs.Items.{moved_back, moved_front, swapped_long}
use Rattle.day_rules.proofs.Texts.{stays_one}

-- of the first texts, those that stay come first, and the texts after them are as they were
pub record IsFront (offers : List Offer) (start kept : List Kept) (place count : ℕ) : Type 0 where
  pub within : count ≤ place
  pub long : length kept ≡ length start
  pub front : take count kept ≡ settled_kept offers (take place start)
  pub back : drop place kept ≡ drop place start

same_here : {X : Type 0} (xs ys : List X) (p : ℕ) (d : X) → drop p xs ≡ drop p ys → p < length xs → p < length ys → get_or xs p d ≡ get_or ys p d
same_here {X} xs ys p d same one two =
    ap (λ (t : List X). get_or t 0 d) (sym (drop-cons xs p d one)) ∙ (ap (λ (t : List X). get_or t 0 d) same ∙ ap (λ (t : List X). get_or t 0 d) (drop-cons ys p d two))

same_behind : {X : Type 0} (xs ys : List X) (p : ℕ) → drop p xs ≡ drop p ys → drop (p + 1) xs ≡ drop (p + 1) ys
same_behind xs ys p same = sym (drop-drop 1 p xs) ∙ (ap (drop 1) same ∙ drop-drop 1 p ys)

-- the texts that stay of one more
one_more : (offers : List Offer) (start : List Kept) (p : ℕ) (k : Kept) → p < length start → get_or start p k ≡ k
    → settled_kept offers (take (p + 1) start) ≡ settled_kept offers (take p start) ++ cond (is_some (stays offers k)) (trimmed offers k ∷ []) []
one_more offers start p k within here =
    ap (settled_kept offers) (take_more start p k within ∙ ap (λ (x : Kept). take p start ++ x ∷ []) here)
    ∙ (filter_map-append (stays offers) (take p start) (k ∷ [])
    ∙ ap (λ (t : List Kept). settled_kept offers (take p start) ++ t) (stays_one offers k (is_winners offers k) (may_be_told k) refl refl []))

pub front_kept : (offers : List Offer) (start xs zs : List Kept) (p n m : ℕ) (k y : Kept) → IsFront offers start xs p n → p < length start → k ≡ get_or xs p k → is_some (stays offers k) ≡ true → y ≡ trimmed offers k
    → zs ≡ swap (set xs p y) n p → m ≡ n + 1 → IsFront offers start zs (p + 1) m
front_kept offers start xs zs p n m k y w below is told made moved next =
    let within : p < length xs = omega (arith, w.long, below) in
    let here : get_or start p k ≡ k = sym (same_here xs start p k w.back within below) ∙ sym is in
    record {
      within = omega (arith, w.within, next);
      long = ap (λ (t : List Kept). length t) moved ∙ (swapped_long xs n p y w.within within ∙ w.long);
      front =
          ap (λ (t : List Kept). take m t) moved
          ∙ (ap (λ (i : ℕ). take i (swap (set xs p y) n p)) next
          ∙ (moved_front xs n p y w.within within
          ∙ (ap (λ (t : List Kept). t ++ y ∷ []) w.front
          ∙ (ap (λ (x : Kept). settled_kept offers (take p start) ++ x ∷ []) made
          ∙ sym (one_more offers start p k below here ∙ rw told refl)))));
      back = ap (drop (p + 1)) moved ∙ (moved_back xs n p y w.within within ∙ same_behind xs start p w.back);
    }

pub front_gone : (offers : List Offer) (start xs : List Kept) (p n : ℕ) (k : Kept) → IsFront offers start xs p n → p < length start → k ≡ get_or xs p k → is_some (stays offers k) ≡ false → IsFront offers start xs (p + 1) n
front_gone offers start xs p n k w below is told =
    let within : p < length xs = omega (arith, w.long, below) in
    let here : get_or start p k ≡ k = sym (same_here xs start p k w.back within below) ∙ sym is in
    record {
      within = omega (arith, w.within);
      long = w.long;
      front = w.front ∙ sym (one_more offers start p k below here ∙ (rw told refl ∙ append-nil (settled_kept offers (take p start))));
      back = same_behind xs start p w.back;
    }
