-- The lines of impressions: what is read is spelled so, and what is spelled so is read.
use Rattle.std.proofs.Common.{◌≡◌, ℕ, zero, suc, ◌+◌, ◌^◌, ◌<◌, ◌≤◌, inl, inr, List, [], ◌∷◌, ◌++◌, length, codes, Bool, true, false, cond, eqb, ltb, Option, Some, None, is_some, option_map, refl, sym, ap, ap₂, ◌∙◌, subst, arith, append_assoc, length-append}
use Rattle.std.specs.Option.{option_or, ForSome}
use Rattle.std.specs.List.{flat_map, All}
use Rattle.std.specs.Fmt.{decimal}
use Rattle.std.proofs.lemmas.Bool.{ltb-true, lt-ltb}
use Rattle.std.proofs.lemmas.Option.{none-some, same_Some}
use Rattle.std.proofs.lemmas.List.Concat.{flat_map-cons}
use Rattle.std.proofs.lemmas.List.Elements.{All-nil, All-cons, All-head, All-tail}
use Rattle.adx_units.specs.Number.{is_digit}
use Rattle.adx_units.specs.JsonTexts.{text_spelling}
use Rattle.formats.specs.Parts.{◌>>=◌, behind_word, number_at, part, Stops}
use Rattle.formats.proofs.PartLaws.{bind_some, tested_some, word_takes, word_again, number_again}
use Rattle.formats.proofs.Options.{map_some, or_some, none_of}
use Rattle.bid_record.specs.declared.rows.Charge.{Charge}
use Rattle.bid_record.specs.declared.rows.ImpName.{ImpName}
use Rattle.bid_record.specs.declared.rows.ImpRow.{ImpRow}
use Rattle.bid_record.specs.declared.rows.End.{End}
use Rattle.bid_record.specs.declared.rows.End.TheVariants.{Live, Billed, Lost, Expired}
use Rattle.bid_record.specs.Lines.{name_part, place_text, end_text, offer_part, imp_line}
use Rattle.bid_record.specs.Records.{IsAmount, IsImpName}
use Rattle.bid_record.specs.Texts.{name_at}
use Rattle.bid_record.specs.Reading.{number_part_at, amount_at, imp_name_at, end_at, chosen_at, Ending, none_chosen, one_chosen, ending_at, charge_of, offer_at, offers_at, imp_row_at, imp_at}
use Rattle.bid_record.proofs.Texts.{name_takes, name_again}
use Rattle.bid_record.proofs.CampaignLines.{small, of_some, of_none, number_part_takes, number_part_again, amount_takes, amount_again, charge_top}

-- a name that a format has
abbrev IsNamed : ℕ → List ℕ → Option ImpName → List ℕ → Type 0
IsNamed format bytes o rest = (bytes ≡ name_part o ++ rest) × (is_some o ≡ eqb format 2) × ForSome o IsImpName

abbrev named : List ℕ → List ℕ → ImpName
named auction imp = record { auction = auction; imp = imp }

imp_name_takes_at : (format : ℕ) (t : Bool) (bytes : List ℕ) (o : Option ImpName) (rest : List ℕ) → eqb format 2 ≡ t → cond t (◌>>=◌ {B = Option ImpName × List ℕ} (name_at bytes) (λ a. ◌>>=◌ {B = Option ImpName × List ℕ} (name_at a.1) (λ i. Some (Some (named a.0 i.0), i.1)))) (Some (None, bytes)) ≡ Some (o, rest) → IsNamed format bytes o rest
imp_name_takes_at format true bytes o rest f h =
    let a = bind_some (name_at bytes) (λ a. name_at a.1 >>= λ i. Some (Some (named a.0 i.0), i.1)) (o, rest) h in
    let i = bind_some (name_at a.0.1) (λ i. Some (Some (named a.0.0 i.0), i.1)) (o, rest) a.2 in
    let first = name_takes bytes a.0.0 a.0.1 a.1 in
    let second = name_takes a.0.1 i.0.0 i.0.1 i.1 in
    let whole : bytes ≡ (part (text_spelling a.0.0) ++ part (text_spelling i.0.0)) ++ i.0.1 = first.0 ∙ ap (λ (r : List ℕ). part (text_spelling a.0.0) ++ r) second.0 ∙ sym (append_assoc (part (text_spelling a.0.0)) (part (text_spelling i.0.0)) i.0.1) in
    subst (λ (p : Option ImpName × List ℕ). IsNamed format bytes p.0 p.1) (same_Some (Some (named a.0.0 i.0.0), i.0.1) (o, rest) i.2) (whole, sym f, of_some IsImpName (named a.0.0 i.0.0) (record { auction = first.1; imp = second.1 }))
imp_name_takes_at format false bytes o rest f h =
    subst (λ (p : Option ImpName × List ℕ). IsNamed format bytes p.0 p.1) (same_Some (None, bytes) (o, rest) h) (refl, sym f, of_none IsImpName)

pub imp_name_takes : (format : ℕ) (bytes : List ℕ) (o : Option ImpName) (rest : List ℕ) → imp_name_at format bytes ≡ Some (o, rest) → IsNamed format bytes o rest
unfolding imp_name_at
imp_name_takes format bytes o rest h = imp_name_takes_at format (eqb format 2) bytes o rest refl h

pub imp_name_again : (format : ℕ) (o : Option ImpName) (rest : List ℕ) → is_some o ≡ eqb format 2 → ForSome o IsImpName → imp_name_at format (name_part o ++ rest) ≡ Some (o, rest)
unfolding imp_name_at
imp_name_again format None rest f h = rw (← f) refl
imp_name_again format (Some name) rest f h =
    let whole : name_part (Some name) ++ rest ≡ part (text_spelling name.auction) ++ (part (text_spelling name.imp) ++ rest) = append_assoc (part (text_spelling name.auction)) (part (text_spelling name.imp)) rest in
    let is : IsImpName name = h name refl in
    let first = name_again name.auction (part (text_spelling name.imp) ++ rest) is.auction in
    let second = name_again name.imp rest is.imp in
    ap (imp_name_at format) whole ∙ rw (← f, first, second) refl

of_word : (kind : End) (word bytes : List ℕ) (e : End) (rest : List ℕ) → word ≡ part (end_text (Some kind)) → option_map {U = End × List ℕ} (λ (r : List ℕ). (kind, r)) (behind_word word bytes) ≡ Some (e, rest) → bytes ≡ part (end_text (Some e)) ++ rest
of_word kind word bytes e rest spelled h =
    let found = map_some (λ (r : List ℕ). (kind, r)) (behind_word word bytes) (e, rest) h in
    let is : kind ≡ e = ap (λ (p : End × List ℕ). p.0) found.2 in
    let after : found.0 ≡ rest = ap (λ (p : End × List ℕ). p.1) found.2 in
    word_takes word bytes found.0 found.1 ∙ ap₂ (λ (w r : List ℕ). w ++ r) (spelled ∙ ap (λ (k : End). part (end_text (Some k))) is) after

-- what became of a chosen offer
pub end_takes : (bytes : List ℕ) (e : End) (rest : List ℕ) → end_at bytes ≡ Some (e, rest) → bytes ≡ part (end_text (Some e)) ++ rest
unfolding end_at
end_takes bytes e rest h =
    let live = option_map (λ (r : List ℕ). (Live, r)) (behind_word (codes " live") bytes) in
    let billed = option_map (λ (r : List ℕ). (Billed, r)) (behind_word (codes " billed") bytes) in
    let lost = option_map (λ (r : List ℕ). (Lost, r)) (behind_word (codes " lost") bytes) in
    let expired = option_map (λ (r : List ℕ). (Expired, r)) (behind_word (codes " expired") bytes) in
    elim (or_some live (option_or billed (option_or lost expired)) (e, rest) h) [
      | inl x ↦ of_word Live (codes " live") bytes e rest refl x
      | inr others ↦ elim (or_some billed (option_or lost expired) (e, rest) others) [
        | inl x ↦ of_word Billed (codes " billed") bytes e rest refl x
        | inr more ↦ elim (or_some lost expired (e, rest) more) [
          | inl x ↦ of_word Lost (codes " lost") bytes e rest refl x
          | inr x ↦ of_word Expired (codes " expired") bytes e rest refl x
        ]
      ]
    ]

no_live_billed : (rest : List ℕ) → behind_word (codes " live") (codes " billed" ++ rest) ≡ None
unfolding behind_word
no_live_billed rest = refl

no_live_lost : (rest : List ℕ) → behind_word (codes " live") (codes " lost" ++ rest) ≡ None
unfolding behind_word
no_live_lost rest = refl

no_live_expired : (rest : List ℕ) → behind_word (codes " live") (codes " expired" ++ rest) ≡ None
unfolding behind_word
no_live_expired rest = refl

no_billed_lost : (rest : List ℕ) → behind_word (codes " billed") (codes " lost" ++ rest) ≡ None
unfolding behind_word
no_billed_lost rest = refl

no_billed_expired : (rest : List ℕ) → behind_word (codes " billed") (codes " expired" ++ rest) ≡ None
unfolding behind_word
no_billed_expired rest = refl

no_lost_expired : (rest : List ℕ) → behind_word (codes " lost") (codes " expired" ++ rest) ≡ None
unfolding behind_word
no_lost_expired rest = refl

pub end_again : (e : End) (rest : List ℕ) → end_at (part (end_text (Some e)) ++ rest) ≡ Some (e, rest)
unfolding end_at
end_again Live rest = rw (word_again (codes " live") rest) refl
end_again Billed rest = rw (no_live_billed rest, word_again (codes " billed") rest) refl
end_again Lost rest = rw (no_live_lost rest, no_billed_lost rest, word_again (codes " lost") rest) refl
end_again Expired rest = rw (no_live_expired rest, no_billed_expired rest, no_lost_expired rest, word_again (codes " expired") rest) refl

-- the place and the end of a chosen offer, or a dash for each
pub record IsEnding (bytes : List ℕ) (chosen : Option ℕ) (end : Option End) (rest : List ℕ) : Type 0 where
  pub spelled : bytes ≡ part (place_text chosen) ++ (part (end_text end) ++ rest)
  pub both : is_some end ≡ is_some chosen
  pub number : ForSome chosen (λ place. place < 2 ^ 64)

chosen_takes : (bytes : List ℕ) (c : ℕ × End × List ℕ) → chosen_at bytes ≡ Some c → IsEnding bytes (Some c.0) (Some c.1) c.2
unfolding chosen_at
chosen_takes bytes c h =
    let p = bind_some (number_part_at bytes) (λ p. end_at p.1 >>= λ e. Some (p.0, e.0, e.1)) c h in
    let e = bind_some (end_at p.0.1) (λ e. Some (p.0.0, e.0, e.1)) c p.2 in
    let place = number_part_takes bytes p.0.0 p.0.1 p.1 in
    let end = end_takes p.0.1 e.0.0 e.0.1 e.1 in
    subst (λ (x : ℕ × End × List ℕ). IsEnding bytes (Some x.0) (Some x.1) x.2) (same_Some (p.0.0, e.0.0, e.0.1) c e.2)
    (record { spelled = place.0 ∙ ap (λ (r : List ℕ). part (decimal p.0.0) ++ r) end; both = refl; number = of_some (λ (n : ℕ). n < 2 ^ 64) p.0.0 place.1 })

pub ending_takes : (bytes : List ℕ) (e : Ending) → ending_at bytes ≡ Some e → IsEnding bytes e.0 e.1 e.2
unfolding ending_at
ending_takes bytes e h =
    elim (or_some (option_map none_chosen (behind_word (codes " - -") bytes)) (option_map one_chosen (chosen_at bytes)) e h) [
      | inl x ↦
          let found = map_some none_chosen (behind_word (codes " - -") bytes) e x in
          subst (λ (y : Ending). IsEnding bytes y.0 y.1 y.2) found.2 (record { spelled = word_takes (codes " - -") bytes found.0 found.1; both = refl; number = of_none (λ (place : ℕ). place < 2 ^ 64) })
      | inr x ↦
          let found = map_some one_chosen (chosen_at bytes) e x in
          subst (λ (y : Ending). IsEnding bytes y.0 y.1 y.2) found.2 (chosen_takes bytes found.0 found.1)
    ]

no_number_at_dash : (rest : List ℕ) → number_at (2 ^ 64) (45 ∷ rest) ≡ None
unfolding number_at
no_number_at_dash rest = refl

no_dash : (place : ℕ) (tail : List ℕ) → place < 2 ^ 64 → Stops is_digit tail → behind_word (codes " - -") (part (decimal place) ++ tail) ≡ None
no_dash place tail h stops =
    none_of (behind_word (codes " - -") (part (decimal place) ++ tail)) (λ rest found.
    let same : 32 ∷ (decimal place ++ tail) ≡ 32 ∷ 45 ∷ 32 ∷ 45 ∷ rest = word_takes (codes " - -") (part (decimal place) ++ tail) rest found in
    let behind : decimal place ++ tail ≡ 45 ∷ 32 ∷ 45 ∷ rest = cc in
    none-some (place, tail) (sym (no_number_at_dash (32 ∷ 45 ∷ rest)) ∙ ap (number_at (2 ^ 64)) (sym behind) ∙ number_again (2 ^ 64) place tail small h stops))

pub ending_again : (chosen : Option ℕ) (end : Option End) (rest : List ℕ) → is_some end ≡ is_some chosen → ForSome chosen (λ place. place < 2 ^ 64) → ending_at (part (place_text chosen) ++ (part (end_text end) ++ rest)) ≡ Some (chosen, end, rest)
unfolding ending_at chosen_at
ending_again None None rest both h = rw (word_again (codes " - -") rest) refl
ending_again None (Some e) rest both h = absurd cc
ending_again (Some p) None rest both h = absurd cc
ending_again (Some p) (Some e) rest both h =
    let tail : List ℕ = part (end_text (Some e)) ++ rest in
    let below : p < 2 ^ 64 = h p refl in
    let no_dashes = no_dash p tail below refl in
    let place = number_part_again p tail below refl in
    let end = end_again e rest in
    rw (no_dashes, place, end) refl

-- an offer
pub record IsOffer (bytes : List ℕ) (o : Charge) (rest : List ℕ) : Type 0 where
  pub spelled : bytes ≡ offer_part o ++ rest
  pub amount : IsAmount o
  pub number : o.campaign < 2 ^ 64

pub offer_takes : (bytes : List ℕ) (o : Charge) (rest : List ℕ) → offer_at bytes ≡ Some (o, rest) → IsOffer bytes o rest
unfolding offer_at
offer_takes bytes o rest h =
    let c = bind_some (number_part_at bytes) (λ c. amount_at 58 (10 ^ 12) c.1 >>= λ m. Some (charge_of c.0 m.0, m.1)) (o, rest) h in
    let m = bind_some (amount_at 58 (10 ^ 12) c.0.1) (λ m. Some (charge_of c.0.0 m.0, m.1)) (o, rest) c.2 in
    let campaign = number_part_takes bytes c.0.0 c.0.1 c.1 in
    let charge = amount_takes 58 (10 ^ 12) c.0.1 m.0.0 m.0.1 m.1 in
    let whole : bytes ≡ offer_part (charge_of c.0.0 m.0.0) ++ m.0.1 = campaign.0 ∙ ap (λ (r : List ℕ). part (decimal c.0.0) ++ r) charge.0 ∙ ap (λ (r : List ℕ). 32 ∷ r) (sym (append_assoc (decimal c.0.0) (58 ∷ decimal m.0.0) m.0.1)) in
    subst (λ (p : Charge × List ℕ). IsOffer bytes p.0 p.1) (same_Some (charge_of c.0.0 m.0.0, m.0.1) (o, rest) m.2)
    (record { spelled = whole; amount = record { positive = charge.1; within = charge.2 }; number = campaign.1 })

pub offer_again : (o : Charge) (rest : List ℕ) → IsAmount o → o.campaign < 2 ^ 64 → Stops is_digit rest → offer_at (offer_part o ++ rest) ≡ Some (o, rest)
unfolding offer_at
offer_again o rest amount number stops =
    let whole : offer_part o ++ rest ≡ part (decimal o.campaign) ++ (58 ∷ (decimal o.charge.0 ++ rest)) = ap (λ (r : List ℕ). 32 ∷ r) (append_assoc (decimal o.campaign) (58 ∷ decimal o.charge.0) rest) in
    let campaign = number_part_again o.campaign (58 ∷ (decimal o.charge.0 ++ rest)) number refl in
    let charge = amount_again 58 (10 ^ 12) o.charge.0 rest charge_top amount.positive amount.within stops in
    ap offer_at whole ∙ rw (campaign, charge) refl

-- offers up to the end
pub record AreOffers (bytes : List ℕ) (os : List Charge) : Type 0 where
  pub spelled : bytes ≡ flat_map offer_part os
  pub amounts : All IsAmount os
  pub numbers : All (λ o. o.campaign < 2 ^ 64) os

pub offers_take : (n : ℕ) (bytes : List ℕ) (os : List Charge) → offers_at n bytes ≡ Some os → AreOffers bytes os
unfolding offers_at
offers_take n [] os h = subst (λ (xs : List Charge). AreOffers [] xs) (same_Some [] os h) (record { spelled = refl; amounts = All-nil IsAmount; numbers = All-nil (λ (o : Charge). o.campaign < 2 ^ 64) })
offers_take zero (b ∷ bs) os h = absurd (none-some os h)
offers_take (suc n) (b ∷ bs) os h =
    let o = bind_some (offer_at (b ∷ bs)) (λ o. offers_at n o.1 >>= λ more. Some (o.0 ∷ more)) os h in
    let more = bind_some (offers_at n o.0.1) (λ more. Some (o.0.0 ∷ more)) os o.2 in
    let first = offer_takes (b ∷ bs) o.0.0 o.0.1 o.1 in
    let later = offers_take n o.0.1 more.0 more.1 in
    subst (λ (xs : List Charge). AreOffers (b ∷ bs) xs) (same_Some (o.0.0 ∷ more.0) os more.2)
    (record {
      spelled = first.spelled ∙ ap (λ (r : List ℕ). offer_part o.0.0 ++ r) later.spelled ∙ sym (flat_map-cons offer_part o.0.0 more.0);
      amounts = All-cons IsAmount o.0.0 more.0 first.amount later.amounts;
      numbers = All-cons (λ (x : Charge). x.campaign < 2 ^ 64) o.0.0 more.0 first.number later.numbers;
    })

stops_offers : (os : List Charge) → Stops is_digit (flat_map offer_part os)
stops_offers [] = tt
stops_offers (o ∷ os) = refl

pub offers_again : (n : ℕ) (os : List Charge) → All IsAmount os → All (λ o. o.campaign < 2 ^ 64) os → length (flat_map offer_part os) ≤ n → offers_at n (flat_map offer_part os) ≡ Some os
unfolding offers_at
offers_again n [] amounts numbers h = refl
offers_again zero (o ∷ os) amounts numbers h = absurd (omega (arith, ap (λ (s : List ℕ). length s) (flat_map-cons offer_part o os), length-append (offer_part o) (flat_map offer_part os)))
offers_again (suc n) (o ∷ os) amounts numbers h =
    let len = ap (λ (s : List ℕ). length s) (flat_map-cons offer_part o os) ∙ length-append (offer_part o) (flat_map offer_part os) in
    let one = offer_again o (flat_map offer_part os) (All-head IsAmount o os amounts) (All-head (λ (x : Charge). x.campaign < 2 ^ 64) o os numbers) (stops_offers os) in
    let later = offers_again n os (All-tail IsAmount o os amounts) (All-tail (λ (x : Charge). x.campaign < 2 ^ 64) o os numbers) (omega (arith, len)) in
    ap (offers_at (suc n)) (flat_map-cons offer_part o os) ∙ rw (one, later) refl

-- an impression's row behind its name
pub record IsRowOf (name : Option ImpName) (bytes : List ℕ) (row : ImpRow) : Type 0 where
  pub spelled : bytes ≡ part (place_text row.chosen) ++ (part (end_text row.end) ++ flat_map offer_part row.offers)
  pub name_is : row.name ≡ name
  pub both : is_some row.end ≡ is_some row.chosen
  pub number : ForSome row.chosen (λ place. place < 2 ^ 64)
  pub few : length row.offers < 2 ^ 32
  pub amounts : All IsAmount row.offers
  pub numbers : All (λ o. o.campaign < 2 ^ 64) row.offers

abbrev row_of : Option ImpName → Ending → List Charge → ImpRow
row_of name e os = record { name = name; offers = os; chosen = e.0; end = e.1 }

pub imp_row_takes : (name : Option ImpName) (bytes : List ℕ) (row : ImpRow) → imp_row_at name bytes ≡ Some row → IsRowOf name bytes row
unfolding imp_row_at
imp_row_takes name bytes row h =
    let e = bind_some (ending_at bytes) (λ e. offers_at (length e.2) e.2 >>= λ os. cond (ltb (length os) (2 ^ 32)) (Some (row_of name e os)) None) row h in
    let o = bind_some (offers_at (length e.0.2) e.0.2) (λ os. cond (ltb (length os) (2 ^ 32)) (Some (row_of name e.0 os)) None) row e.2 in
    let t = tested_some (ltb (length o.0) (2 ^ 32)) (Some (row_of name e.0 o.0)) row o.2 in
    let ending = ending_takes bytes e.0 e.1 in
    let offers = offers_take (length e.0.2) e.0.2 o.0 o.1 in
    subst (λ (r : ImpRow). IsRowOf name bytes r) (same_Some (row_of name e.0 o.0) row t.1)
    (record {
      spelled = ending.spelled ∙ ap (λ (r : List ℕ). part (place_text e.0.0) ++ (part (end_text e.0.1) ++ r)) offers.spelled;
      name_is = refl;
      both = ending.both;
      number = ending.number;
      few = ltb-true (length o.0) (2 ^ 32) t.0;
      amounts = offers.amounts;
      numbers = offers.numbers;
    })

pub imp_row_again : (row : ImpRow) (bytes : List ℕ) → IsRowOf row.name bytes row → imp_row_at row.name bytes ≡ Some row
unfolding imp_row_at
imp_row_again row bytes h =
    let tail : List ℕ = flat_map offer_part row.offers in
    let ending = ap ending_at h.spelled ∙ ending_again row.chosen row.end tail h.both h.number in
    let offers = offers_again (length tail) row.offers h.amounts h.numbers (omega arith) in
    let few = lt-ltb (length row.offers) (2 ^ 32) h.few in
    rw (ending, offers, few) refl

-- an impression's line
pub record IsLoose (format : ℕ) (row : ImpRow) : Type 0 where
  pub name : is_some row.name ≡ eqb format 2
  pub named : ForSome row.name IsImpName
  pub both : is_some row.end ≡ is_some row.chosen
  pub number : ForSome row.chosen (λ place. place < 2 ^ 64)
  pub few : length row.offers < 2 ^ 32
  pub amounts : All IsAmount row.offers
  pub numbers : All (λ o. o.campaign < 2 ^ 64) row.offers

pub imp_takes : (format : ℕ) (line : List ℕ) (j : ℕ) (row : ImpRow) → imp_at format line ≡ Some (j, row) → (line ≡ imp_line (j, row)) × IsLoose format row × (j < 2 ^ 64)
unfolding imp_at
imp_takes format line j row h =
    let a = bind_some (behind_word (codes "imp") line) (λ x. number_part_at x >>= λ n. imp_name_at format n.1 >>= λ m. imp_row_at m.0 m.1 >>= λ r. Some (n.0, r)) (j, row) h in
    let n = bind_some (number_part_at a.0) (λ n. imp_name_at format n.1 >>= λ m. imp_row_at m.0 m.1 >>= λ r. Some (n.0, r)) (j, row) a.2 in
    let m = bind_some (imp_name_at format n.0.1) (λ m. imp_row_at m.0 m.1 >>= λ r. Some (n.0.0, r)) (j, row) n.2 in
    let r = bind_some (imp_row_at m.0.0 m.0.1) (λ r. Some (n.0.0, r)) (j, row) m.2 in
    let word = word_takes (codes "imp") line a.0 a.1 in
    let index = number_part_takes a.0 n.0.0 n.0.1 n.1 in
    let name = imp_name_takes format n.0.1 m.0.0 m.0.1 m.1 in
    let rest = imp_row_takes m.0.0 m.0.1 r.0 r.1 in
    let tail : List ℕ = part (place_text r.0.chosen) ++ (part (end_text r.0.end) ++ flat_map offer_part r.0.offers) in
    let whole : line ≡ imp_line (n.0.0, r.0) = word ∙ ap (λ (x : List ℕ). codes "imp" ++ x) (index.0 ∙ ap (λ (x : List ℕ). part (decimal n.0.0) ++ x) (name.0 ∙ ap₂ (λ (o : Option ImpName) (x : List ℕ). name_part o ++ x) (sym rest.name_is) rest.spelled)) in
    let loose : IsLoose format r.0 = record {
      name = ap (λ (o : Option ImpName). is_some o) rest.name_is ∙ name.1;
      named = subst (λ (o : Option ImpName). ForSome o IsImpName) (sym rest.name_is) name.2;
      both = rest.both;
      number = rest.number;
      few = rest.few;
      amounts = rest.amounts;
      numbers = rest.numbers;
    } in
    subst (λ (p : ℕ × ImpRow). (line ≡ imp_line (p.0, p.1)) × IsLoose format p.1 × (p.0 < 2 ^ 64)) (same_Some (n.0.0, r.0) (j, row) r.2) (whole, loose, index.1)

stops_name : (o : Option ImpName) (rest : List ℕ) → Stops is_digit (name_part o ++ part rest)
stops_name None rest = refl
stops_name (Some name) rest = refl

pub imp_again : (format j : ℕ) (row : ImpRow) → IsLoose format row → j < 2 ^ 64 → imp_at format (imp_line (j, row)) ≡ Some (j, row)
unfolding imp_at
imp_again format j row h n =
    let tail : List ℕ = part (place_text row.chosen) ++ (part (end_text row.end) ++ flat_map offer_part row.offers) in
    let word = word_again (codes "imp") (part (decimal j) ++ (name_part row.name ++ tail)) in
    let index = number_part_again j (name_part row.name ++ tail) n (stops_name row.name (place_text row.chosen ++ (part (end_text row.end) ++ flat_map offer_part row.offers))) in
    let name = imp_name_again format row.name tail h.name h.named in
    let rest = imp_row_again row tail (record { spelled = refl; name_is = refl; both = h.both; number = h.number; few = h.few; amounts = h.amounts; numbers = h.numbers }) in
    rw (word, index, name, rest) refl
