-- The expansion of a template is by the texts that its values show, wherever these are.
use Rattle.std.proofs.Common.{◌≡◌, ℕ, List, [], ◌∷◌, ◌++◌, Bool, true, false, ◌&&◌, ◌==◌, refl, ap, ◌∙◌, codes, ◌⊎◌, inl, inr}
use Rattle.std.specs.List.{after_first, before_first, flat_map, list_any, slice_split}
use Rattle.std.specs.Str.{bytes_eq}
use Rattle.notice_macros.specs.declared.values.Values.{Values}
use Rattle.notice_macros.specs.Macros.{is_colon, macro_of}
use Rattle.notice_macros.specs.Expansion.{behind_dollar, expansion, is_closing, is_dollar, joined, opening, replaced, markup_expansion, with_rest}

-- the places that a template may be from, as that crate has them
abbrev PlaceOf : {T U : Type 0} → (T → U) → Type 0
PlaceOf {T} f = T

abbrev APlace : Type 0
APlace = PlaceOf expansion

or-not : (b : Bool) → (b ≡ true) ⊎ (b ≡ false)
or-not true = inl refl
or-not false = inr refl

-- two values show the same
pub record ShowSame (v w : Values) : Type 0 where
  pub auction : v.auction.now ≡ w.auction.now
  pub bidid : v.bidid.now ≡ w.bidid.now
  pub imp : v.imp.now ≡ w.imp.now
  pub seat : v.seat.now ≡ w.seat.now
  pub adid : v.adid.now ≡ w.adid.now
  pub price : v.price ≡ w.price
  pub loss : v.loss ≡ w.loss

same_plain : (place : APlace) (v w : Values) (s : ShowSame v w) (t rest u : List ℕ) → list_any is_colon u ≡ false → replaced place v t (with_rest rest (macro_of u)) ≡ replaced place w t (with_rest rest (macro_of u))
same_plain place v w s t rest u c = rw c (elim (or-not (bytes_eq u (codes "AUCTION_ID"))) [ inl e ↦ rw e (rw (s.auction) refl) | inr e ↦ rw e (elim (or-not (bytes_eq u (codes "AUCTION_BID_ID"))) [ inl e ↦ rw e (rw (s.bidid) refl) | inr e ↦ rw e (elim (or-not (bytes_eq u (codes "AUCTION_IMP_ID"))) [ inl e ↦ rw e (rw (s.imp) refl) | inr e ↦ rw e (elim (or-not (bytes_eq u (codes "AUCTION_SEAT_ID"))) [ inl e ↦ rw e (rw (s.seat) refl) | inr e ↦ rw e (elim (or-not (bytes_eq u (codes "AUCTION_AD_ID"))) [ inl e ↦ rw e (rw (s.adid) refl) | inr e ↦ rw e (elim (or-not (bytes_eq u (codes "AUCTION_PRICE"))) [ inl e ↦ rw e (rw (s.price) refl) | inr e ↦ rw e (elim (or-not (bytes_eq u (codes "AUCTION_CURRENCY"))) [ inl e ↦ rw e (refl) | inr e ↦ rw e (elim (or-not (bytes_eq u (codes "AUCTION_MBR"))) [ inl e ↦ rw e (refl) | inr e ↦ rw e (elim (or-not (bytes_eq u (codes "AUCTION_LOSS"))) [ inl e ↦ rw e (rw (s.loss) refl) | inr e ↦ rw e (elim (or-not (bytes_eq u (codes "AUCTION_MIN_TO_WIN"))) [ inl e ↦ rw e (refl) | inr e ↦ rw e (refl) ]) ]) ]) ]) ]) ]) ]) ]) ]) ])

same_coded : (place : APlace) (v w : Values) (s : ShowSame v w) (t rest u : List ℕ) → list_any is_colon u ≡ true → bytes_eq (after_first is_colon u) (codes "B64") ≡ true → replaced place v t (with_rest rest (macro_of u)) ≡ replaced place w t (with_rest rest (macro_of u))
same_coded place v w s t rest u c d = rw c (rw d (elim (or-not (bytes_eq (before_first is_colon u) (codes "AUCTION_ID"))) [ inl e ↦ rw e (rw (s.auction) refl) | inr e ↦ rw e (elim (or-not (bytes_eq (before_first is_colon u) (codes "AUCTION_BID_ID"))) [ inl e ↦ rw e (rw (s.bidid) refl) | inr e ↦ rw e (elim (or-not (bytes_eq (before_first is_colon u) (codes "AUCTION_IMP_ID"))) [ inl e ↦ rw e (rw (s.imp) refl) | inr e ↦ rw e (elim (or-not (bytes_eq (before_first is_colon u) (codes "AUCTION_SEAT_ID"))) [ inl e ↦ rw e (rw (s.seat) refl) | inr e ↦ rw e (elim (or-not (bytes_eq (before_first is_colon u) (codes "AUCTION_AD_ID"))) [ inl e ↦ rw e (rw (s.adid) refl) | inr e ↦ rw e (elim (or-not (bytes_eq (before_first is_colon u) (codes "AUCTION_PRICE"))) [ inl e ↦ rw e (rw (s.price) refl) | inr e ↦ rw e (elim (or-not (bytes_eq (before_first is_colon u) (codes "AUCTION_CURRENCY"))) [ inl e ↦ rw e (refl) | inr e ↦ rw e (elim (or-not (bytes_eq (before_first is_colon u) (codes "AUCTION_MBR"))) [ inl e ↦ rw e (refl) | inr e ↦ rw e (elim (or-not (bytes_eq (before_first is_colon u) (codes "AUCTION_LOSS"))) [ inl e ↦ rw e (rw (s.loss) refl) | inr e ↦ rw e (elim (or-not (bytes_eq (before_first is_colon u) (codes "AUCTION_MIN_TO_WIN"))) [ inl e ↦ rw e (refl) | inr e ↦ rw e (refl) ]) ]) ]) ]) ]) ]) ]) ]) ]) ]))

same_macro : (place : APlace) (v w : Values) (s : ShowSame v w) (t rest u : List ℕ) → replaced place v t (with_rest rest (macro_of u)) ≡ replaced place w t (with_rest rest (macro_of u))
same_macro place v w s t rest u =
    elim (or-not (list_any is_colon u)) [
      | inl c ↦ elim (or-not (bytes_eq (after_first is_colon u) (codes "B64"))) [ inl d ↦ same_coded place v w s t rest u c d | inr d ↦ rw c (rw d refl) ]
      | inr c ↦ same_plain place v w s t rest u c
    ]

same_behind : (place : APlace) (v w : Values) (s : ShowSame v w) (t : List ℕ) → behind_dollar place v t ≡ behind_dollar place w t
same_behind place v w s [] = refl
same_behind place v w s (b ∷ t) =
    elim (or-not (b == opening && list_any is_closing t)) [
      | inl e ↦ rw e (same_macro place v w s (b ∷ t) (after_first is_closing t) (before_first is_closing t))
      | inr e ↦ rw e refl
    ]

same_pieces : (place : APlace) (v w : Values) (s : ShowSame v w) (ts : List (List ℕ)) → flat_map (behind_dollar place v) ts ≡ flat_map (behind_dollar place w) ts
same_pieces place v w s [] = refl
same_pieces place v w s (t ∷ ts) = ap (λ (u : List ℕ). u ++ flat_map (behind_dollar place v) ts) (same_behind place v w s t) ∙ ap (λ (u : List ℕ). behind_dollar place w t ++ u) (same_pieces place v w s ts)

same_joined : (place : APlace) (v w : Values) (s : ShowSame v w) (ts : List (List ℕ)) → joined place v ts ≡ joined place w ts
same_joined place v w s [] = refl
same_joined place v w s (t ∷ ts) = ap (λ (u : List ℕ). t ++ u) (same_pieces place v w s ts)

same_expansion : (place : APlace) (v w : Values) (s : ShowSame v w) (template : List ℕ) → expansion place v template ≡ expansion place w template
same_expansion place v w s template = same_joined place v w s (slice_split is_dollar template)

pub same_markup : (v w : Values) (s : ShowSame v w) (template : List ℕ) → markup_expansion v template ≡ markup_expansion w template
same_markup v w s template =
    let h : (place : APlace) → expansion place v template ≡ expansion place w template = λ place. same_expansion place v w s template in
    rw h refl
