-- Awards that are written while the bids of an ask are walked.
use Rattle.std.proofs.Common.{◌≡◌, ℕ, suc, ◌+◌, ◌<◌, List, [], ◌∷◌, ◌++◌, map, length, take, get_or, ◌==◌, ◌&&◌, refl, sym, ap, ◌∙◌, append_assoc, append-nil, add-zero, arith}
use Rattle.std.specs.List.{flat_map, enumerate_from, join_with_byte}
use Rattle.std.proofs.lemmas.Grind.{flat_map-append}
use Rattle.std.proofs.lemmas.List.{take_more}
use Rattle.std.proofs.lemmas.List.Elements.{filter-append}
use Rattle.adx_units.specs.declared.offer.Offer.{Offer}
use Rattle.deal_floor.specs.declared.campaign.Campaign.{Campaign}
use Rattle.day_rules.specs.declared.ask.Ask.{Ask}
use Rattle.day_rules.specs.Books.{awarded_offers}
use Rattle.answer_lines.specs.Answers.{award_text, awards_text, sold_offers}
use Rattle.answer_lines.specs.Steps.{award_behind, awards_behind}
use Rattle.answer_lines.proofs.Joined.{comma_suc, enumerate_from-append}

-- awards after others
pub awards_behind-append : (campaigns : List Campaign) (a : Ask) (others : ℕ) (xs ys : List Offer) → awards_behind campaigns a others (xs ++ ys) ≡ awards_behind campaigns a others xs ++ awards_behind campaigns a (others + length xs) ys
awards_behind-append campaigns a others xs ys =
    ap (flat_map (award_behind campaigns a)) (enumerate_from-append others xs ys)
    ∙ flat_map-append (award_behind campaigns a) (enumerate_from others xs) (enumerate_from (others + length xs) ys)

-- the awards of one impression more
pub awards_more : (campaigns : List Campaign) (a : Ask) (others count : ℕ) (xs ys : List Offer) (old mid now : List ℕ)
    → mid ≡ old ++ awards_behind campaigns a others xs → count ≡ others + length xs → now ≡ mid ++ awards_behind campaigns a count ys → now ≡ old ++ awards_behind campaigns a others (xs ++ ys)
awards_more campaigns a others count xs ys old mid now so_far counted more =
    more ∙ ap (λ b. b ++ awards_behind campaigns a count ys) so_far ∙ ap (λ n. (old ++ awards_behind campaigns a others xs) ++ awards_behind campaigns a n ys) counted
    ∙ append_assoc old (awards_behind campaigns a others xs) (awards_behind campaigns a (others + length xs) ys)
    ∙ ap (λ b. old ++ b) (sym (awards_behind-append campaigns a others xs ys))

-- texts after a comma each
abbrev behind_commas : List (List ℕ) → List ℕ
behind_commas texts = flat_map (λ (t : List ℕ). 44 ∷ t) texts

joined_commas : (y : List ℕ) (ys : List (List ℕ)) → join_with_byte 44 (y ∷ ys) ≡ y ++ behind_commas ys
joined_commas y [] = sym (append-nil y)
joined_commas y (z ∷ zs) = ap (λ b. y ++ 44 ∷ b) (joined_commas z zs)

further : (campaigns : List Campaign) (a : Ask) (others : ℕ) (xs : List Offer) → awards_behind campaigns a (suc others) xs ≡ behind_commas (map (award_text campaigns a) (enumerate_from (a.first + suc others) xs))
further campaigns a others [] = refl
further campaigns a others (x ∷ xs) =
    ap (λ c. (c ++ award_text campaigns a (a.first + suc others, x)) ++ awards_behind campaigns a (suc others + 1) xs) (comma_suc others)
    ∙ ap (λ n. 44 ∷ (award_text campaigns a (a.first + suc others, x) ++ awards_behind campaigns a n xs)) (one_more others)
    ∙ ap (λ b. 44 ∷ (award_text campaigns a (a.first + suc others, x) ++ b)) (further campaigns a (suc others) xs)
    ∙ ap (λ n. 44 ∷ (award_text campaigns a (a.first + suc others, x) ++ behind_commas (map (award_text campaigns a) (enumerate_from n xs)))) (next a.first others)
  where
    one_more : (n : ℕ) → suc n + 1 ≡ suc (suc n)
    one_more n = omega arith

    next : (first n : ℕ) → first + suc (suc n) ≡ first + suc n + 1
    next first n = omega arith

-- all awards of an ask
pub awards_whole : (campaigns : List Campaign) (a : Ask) → awards_behind campaigns a 0 (sold_offers a) ≡ awards_text campaigns a
awards_whole campaigns a = whole (sold_offers a)
  where
    whole : (xs : List Offer) → awards_behind campaigns a 0 xs ≡ join_with_byte 44 (map (award_text campaigns a) (enumerate_from a.first xs))
    whole [] = refl
    whole (x ∷ xs) =
        ap (λ n. award_text campaigns a (n, x) ++ awards_behind campaigns a 1 xs) (add-zero a.first)
        ∙ ap (λ b. award_text campaigns a (a.first, x) ++ b) (further campaigns a 0 xs)
        ∙ sym (joined_commas (award_text campaigns a (a.first, x)) (map (award_text campaigns a) (enumerate_from (a.first + 1) xs)))

-- the awarded offers of a front and of the next offer
pub awarded_more : (offers : List Offer) (imp i : ℕ) (d : Offer) → i < length offers → awarded_offers (take (i + 1) offers) imp ≡ awarded_offers (take i offers) imp ++ awarded_offers (get_or offers i d ∷ []) imp
awarded_more offers imp i d below =
    ap (λ (xs : List Offer). awarded_offers xs imp) (take_more offers i d below)
    ∙ filter-append (λ (o : Offer). o.reason == 0 && o.imp == imp) (take i offers) (get_or offers i d ∷ [])
