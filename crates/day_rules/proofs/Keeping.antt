-- What stays of kept texts stays again.
use Rattle.std.proofs.Common.{◌≡◌, ℕ, ◌<◌, ◌≤◌, List, [], ◌∷◌, Bool, true, false, cond, not, leb, eqb, refl, sym, ap, ◌∙◌, subst, inl, inr, arith, Option, Some, None}
use Rattle.std.specs.List.{All, AllPairs, Any, filter_map, cons_option, slice_get}
use Rattle.std.proofs.lemmas.Bool.{le-leb, leb-true, and_from, and_parts, cond_both, cond-true, eq-eqb}
use Rattle.adx_units.specs.declared.offer.Offer.{Offer}
use Rattle.day_rules.specs.declared.ask.Kept.{Kept}
use Rattle.day_rules.specs.declared.limits.TheConstants.{MAX_KEPT}
use Rattle.day_rules.specs.Books.{text_size}
use Rattle.day_rules.specs.Asks.{AreTextsOf, is_winners, may_be_told, is_empty, texts_of_loss, stays, settled_kept}
use Rattle.day_rules.proofs.Lists.{any_here, any_cons, any_cases, pairs_head, pairs_tail, pairs_cons}
use Rattle.allocator_core.specs.declared.reason.TheConstants.{AWARDED}
use Rattle.std.proofs.lemmas.List.Elements.{All-head, All-tail, All-cons, All-nil}
use Rattle.std.specs.Option.{IfSome, option_map_or}

shorter : (k : Kept) → text_size (texts_of_loss k) ≤ text_size k
shorter k = omega arith

at_most : (a b c : ℕ) → a ≤ b → b ≤ c → a ≤ c
at_most a b c p q = omega arith

told_again : (k : Kept) → may_be_told k ≡ true → may_be_told (texts_of_loss k) ≡ true
told_again k h =
    let parts = and_parts (not (is_empty k.lurl)) (leb (text_size k) MAX_KEPT) h in
    let fits : text_size k ≤ MAX_KEPT = leb-true (text_size k) MAX_KEPT parts.1 in
    and_from (not (is_empty k.lurl)) (leb (text_size (texts_of_loss k)) MAX_KEPT) parts.0
    (le-leb (text_size (texts_of_loss k)) MAX_KEPT (at_most (text_size (texts_of_loss k)) (text_size k) MAX_KEPT (shorter k) fits))

stays_by : (offers : List Offer) (k : Kept) (wins told : Bool) → is_winners offers k ≡ wins → may_be_told k ≡ told → (rest : List Kept) → filter_map (stays offers) (cons_option (cond wins (Some k) (cond told (Some (texts_of_loss k)) None)) rest) ≡ cons_option (cond wins (Some k) (cond told (Some (texts_of_loss k)) None)) (filter_map (stays offers) rest)
stays_by offers k true told w t rest = rw w refl
stays_by offers k false true w t rest = rw (w, told_again k t) refl
stays_by offers k false false w t rest = refl

pub kept_again : (offers : List Offer) (kept : List Kept) → settled_kept offers (settled_kept offers kept) ≡ settled_kept offers kept
kept_again offers [] = refl
kept_again offers (k ∷ ks) =
    stays_by offers k (is_winners offers k) (may_be_told k) refl refl (settled_kept offers ks)
    ∙ ap (cons_option (stays offers k)) (kept_again offers ks)

-- a bid's texts that stay are still that bid's
cons_all : (offers : List Offer) (P : ℕ → Type 0) (o : Option Kept) (rest : List Kept) → IfSome o (λ k. P k.bid) → All (λ k. P k.bid) rest → All (λ k. P k.bid) (cons_option o rest)
cons_all offers P None rest here all = all
cons_all offers P (Some k) rest here all = All-cons (λ (k : Kept). P k.bid) k rest here all

stays_bid : (offers : List Offer) (P : ℕ → Type 0) (k : Kept) → P k.bid → IfSome (stays offers k) (λ l. P l.bid)
stays_bid offers P k here =
    let Q : Option Kept → Type 0 = λ o. IfSome o (λ l. P l.bid) in
    cond_both (is_winners offers k) (Some k) (cond (may_be_told k) (Some (texts_of_loss k)) None) Q (λ wins. here)
    (λ loses. cond_both (may_be_told k) (Some (texts_of_loss k)) None Q (λ told. here) (λ untold. tt))

pub stays_all : (offers : List Offer) (P : ℕ → Type 0) (kept : List Kept) → All (λ k. P k.bid) kept → All (λ k. P k.bid) (settled_kept offers kept)
stays_all offers P [] all = All-nil (λ (k : Kept). P k.bid)
stays_all offers P (k ∷ ks) all =
    let Q : Kept → Type 0 = λ l. P l.bid in
    cons_all offers P (stays offers k) (settled_kept offers ks) (stays_bid offers P k (All-head Q k ks all)) (stays_all offers P ks (All-tail Q k ks all))

-- and they keep their order
abbrev IsBefore : Kept → Kept → Type 0
IsBefore k l = k.bid < l.bid

cons_ordered : (o : Option Kept) (rest : List Kept) → IfSome o (λ k. All (IsBefore k) rest) → AllPairs IsBefore rest → AllPairs IsBefore (cons_option o rest)
cons_ordered None rest here pairs = pairs
cons_ordered (Some k) rest here pairs = pairs_cons IsBefore k rest here pairs

stays_before : (offers : List Offer) (k : Kept) (rest : List Kept) → All (IsBefore k) rest → IfSome (stays offers k) (λ l. All (IsBefore l) rest)
stays_before offers k rest before =
    let Q : Option Kept → Type 0 = λ o. IfSome o (λ l. All (IsBefore l) rest) in
    cond_both (is_winners offers k) (Some k) (cond (may_be_told k) (Some (texts_of_loss k)) None) Q (λ wins. before)
    (λ loses. cond_both (may_be_told k) (Some (texts_of_loss k)) None Q (λ told. before) (λ untold. tt))

pub stays_ordered : (offers : List Offer) (kept : List Kept) → AllPairs (λ k l. k.bid < l.bid) kept → AllPairs (λ k l. k.bid < l.bid) (settled_kept offers kept)
stays_ordered offers [] pairs = λ i j d before below. absurd (omega arith)
stays_ordered offers (k ∷ ks) pairs =
    let tail : AllPairs IsBefore ks = pairs_tail IsBefore k ks pairs in
    let above : All (IsBefore k) (settled_kept offers ks) = stays_all offers (λ n. k.bid < n) ks (pairs_head IsBefore k ks pairs) in
    cons_ordered (stays offers k) (settled_kept offers ks) (stays_before offers k (settled_kept offers ks) above) (stays_ordered offers ks tail)

-- a winner's texts stay
winner_stays : (offers : List Offer) (place : ℕ) (o : Offer) (k : Kept) → slice_get offers place ≡ Some o → o.reason ≡ AWARDED → k.bid ≡ place → stays offers k ≡ Some k
winner_stays offers place o k at awarded bid =
    let found : slice_get offers k.bid ≡ Some o = ap (slice_get offers) bid ∙ at in
    let wins : is_winners offers k ≡ true =
    ap (λ (x : Option Offer). option_map_or (λ y. eqb y.reason AWARDED) x false) found ∙ eq-eqb o.reason AWARDED awarded in
    cond-true (is_winners offers k) (Some k) _ wins

cons_any : (P : Kept → Type 0) (o : Option Kept) (rest : List Kept) → Any P rest → Any P (cons_option o rest)
cons_any P None rest there = there
cons_any P (Some k) rest there = any_cons P k rest there

pub stays_any : (offers : List Offer) (place : ℕ) (o : Offer) (kept : List Kept) → slice_get offers place ≡ Some o → o.reason ≡ AWARDED → Any (AreTextsOf place) kept → Any (AreTextsOf place) (settled_kept offers kept)
stays_any offers place o [] at awarded there = absurd (omega (arith, there.2))
stays_any offers place o (k ∷ ks) at awarded there =
    let P : Kept → Type 0 = AreTextsOf place in
    elim (any_cases P k ks there) [
      | inl here ↦
          let is : stays offers k ≡ Some k = winner_stays offers place o k at awarded here.0 in
          let Q : Option Kept → Type 0 = λ x. Any P (cons_option x (settled_kept offers ks)) in
          subst Q (sym is) (any_here P k (settled_kept offers ks) here)
      | inr rest ↦ cons_any P (stays offers k) (settled_kept offers ks) (stays_any offers place o ks at awarded rest)
    ]
