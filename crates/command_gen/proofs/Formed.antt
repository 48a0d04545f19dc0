-- The asks of a generated day are asks that a day takes.
use Rattle.std.proofs.Common.{zero, suc, get_or, ◌≡◌, ◌≢◌, inl, inr, ℕ, ◌+◌, ◌*◌, ◌<◌, List, [], ◌∷◌, map, All, refl, sym, subst, arith}
use Rattle.std.proofs.lemmas.Option.{slice_get_within}
use Rattle.std.proofs.lemmas.List.Elements.{All-nil, All-cons}
use Rattle.adx_units.specs.declared.offer.Offer.{Offer}
use Rattle.allocator_core.specs.declared.reason.TheConstants.{AWARDED, LOST_TO_HIGHER, OVER_BUDGET}
use Rattle.day_rules.specs.Asks.{AreKeptTexts, IsOffer, IsUndecided, IsWellFormed}
use Rattle.day_rules.specs.declared.ask.Kept.{Kept}
use Rattle.command_gen.specs.Generated.{ask_by, kept_by, offer_by, offer_places, offers_by, word_at}
use Rattle.command_gen.specs.declared.generator.TheConstants.{MOST_ASKS}

-- an offer of a word is an admitted bid on the one impression of one of sixteen campaigns
offer_formed : (word : ℕ) → IsOffer 16 1 (offer_by word)
offer_formed word = inl (record {
  reason = inr refl;
  imp = omega arith;
  campaign = omega arith;
  positive = omega arith;
  within = omega arith;
  lives = omega arith;
  ends = omega arith;
})

-- over all places
each_offer : (P : Offer → Type 0) → ((word : ℕ) → P (offer_by word)) → (seed number : ℕ) (places : List ℕ) → All P (map (λ place. offer_by (word_at seed (number + place))) places)
each_offer P each seed number [] = All-nil P
each_offer P each seed number (place ∷ places) =
    All-cons P (offer_by (word_at seed (number + place))) (map (λ p. offer_by (word_at seed (number + p))) places) (each (word_at seed (number + place))) (each_offer P each seed number places)

pub ask_undecided : (seed number : ℕ) → IsUndecided (ask_by seed number)
ask_undecided seed number = each_offer (λ o. (o.reason ≢ AWARDED) × (o.reason ≢ LOST_TO_HIGHER) × (o.reason ≢ OVER_BUDGET)) (λ word. (omega arith, omega arith, omega arith)) seed (9 * number) offer_places

-- the kept bids are those of all offers
kept_at : (i : ℕ) (d : Kept) → i < 8 → get_or (map kept_by offer_places) i d ≡ kept_by i
kept_at zero d less = refl
kept_at (suc zero) d less = refl
kept_at (suc (suc zero)) d less = refl
kept_at (suc (suc (suc zero))) d less = refl
kept_at (suc (suc (suc (suc zero)))) d less = refl
kept_at (suc (suc (suc (suc (suc zero))))) d less = refl
kept_at (suc (suc (suc (suc (suc (suc zero)))))) d less = refl
kept_at (suc (suc (suc (suc (suc (suc (suc zero))))))) d less = refl
kept_at (suc (suc (suc (suc (suc (suc (suc (suc i)))))))) d less = absurd (omega (arith, less))

kept_texts : (seed number : ℕ) → AreKeptTexts (offers_by seed number) (map kept_by offer_places)
kept_texts seed number = record {
  ordered = λ i j d less within. ordered (get_or (map kept_by offer_places) i d) (get_or (map kept_by offer_places) j d) i j (kept_at i d (omega (arith, less, within))) (kept_at j d within) less;
  placed = λ i d within. placed (get_or (map kept_by offer_places) i d) i (kept_at i d within) within;
  needed = λ place o at needs.
      let within : place < 8 = slice_get_within (offers_by seed number) place o at in
      (place, kept_by place, within, kept_at place (kept_by place) within, (refl, omega arith));
}
  where
    ordered : (k l : Kept) (i j : ℕ) → k ≡ kept_by i → l ≡ kept_by j → i < j → k.bid < l.bid
    ordered k l i j is other less = subst (λ (p : Kept × Kept). p.0.bid < p.1.bid) (λ q. (sym is q, sym other q)) less

    placed : (k : Kept) (i : ℕ) → k ≡ kept_by i → i < 8 → k.bid < 8
    placed k i is less = subst (λ (x : Kept). x.bid < 8) (sym is) less

pub ask_formed : (seed number : ℕ) → number < MOST_ASKS → IsWellFormed 16 (ask_by seed number)
ask_formed seed number few = record {
  some_imp = omega arith;
  few_imps = omega arith;
  distinct = λ i j d less within. absurd (omega (arith, less, within));
  few_offers = omega arith;
  now = omega (arith, few);
  offers = each_offer (IsOffer 16 1) offer_formed seed (9 * number) offer_places;
  kept = kept_texts seed (9 * number);
}
