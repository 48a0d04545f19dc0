-- Rows of a record beside the awards that their chosen offers are.
use Rattle.std.proofs.Common.{◌≡◌, ℕ, ◌+◌, List, [], ◌∷◌, ◌++◌, map, get_or, Bool, true, false, cond, ◌&&◌, eqb, refl, sym, ap, ap₂, ◌∙◌, subst, arith, is_some, Option, Some, None}
use Rattle.std.specs.List.{All, filter, sum_by}
use Rattle.std.proofs.lemmas.List.Elements.{All-cons, All-nil}
use Rattle.std.proofs.lemmas.List.Sums.{sum_by-cons}
use Rattle.notice_book.specs.declared.award.Award.{Award}
use Rattle.notice_book.specs.declared.award.End.{End as AwardEnd}
use Rattle.notice_book.specs.Rules.{is_billed, is_open}
use Rattle.day_rules.proofs.Within.{held}
use Rattle.bid_record.specs.declared.rows.Charge.{Charge}
use Rattle.bid_record.specs.declared.rows.End.{End}
use Rattle.bid_record.specs.declared.rows.ImpRow.{ImpRow}
use Rattle.dual_cert.specs.Assignments.{charge_for, no_charge, picked_charge}
use Rattle.day_close.specs.Closing.{money_in, row_money, takes_money}
use Rattle.served_record.specs.Served.{end_told, ends_of, has_chosen}
use Rattle.served_record.proofs.Awards.{award_charge}

-- a row whose chosen offer, if it has one, is the next award
abbrev pub TellsBy : Option ℕ → ImpRow → (List Award → Type 0) → List Award → Type 0
TellsBy None row rest ws = (row.end ≡ None) × rest ws
TellsBy (Some place) row rest [] = ⊥
TellsBy (Some place) row rest (w ∷ ws) =
    (row.end ≡ Some (end_told w.end)) × (get_or row.offers place no_charge ≡ award_charge w) × rest ws

-- rows whose chosen offers are these awards, one after another
abbrev pub Told : List ImpRow → List Award → Type 0
Told [] ws = ws ≡ []
Told (row ∷ rows) ws = TellsBy row.chosen row (Told rows) ws

pub told_ends : (rows : List ImpRow) (ws : List Award) → Told rows ws → ends_of rows ≡ map (λ (w : Award). Some (end_told w.end)) ws
told_ends [] ws t = sym (ap (map (λ (w : Award). Some (end_told w.end))) t)
told_ends (row ∷ rows) ws t = by row.chosen ws refl t (told_ends rows)
  where
    by : (o : Option ℕ) (ws : List Award) → row.chosen ≡ o → TellsBy o row (Told rows) ws → ((ws : List Award) → Told rows ws → ends_of rows ≡ map (λ (w : Award). Some (end_told w.end)) ws) → ends_of (row ∷ rows) ≡ map (λ (w : Award). Some (end_told w.end)) ws
    by None ws is t rest =
        ap (λ (o : Option ℕ). map (λ (row : ImpRow). row.end) (cond (is_some o) (row ∷ filter has_chosen rows) (filter has_chosen rows))) is
        ∙ rest ws t.1
    by (Some place) [] is t rest = absurd t
    by (Some place) (w ∷ ws) is t rest =
        ap (λ (o : Option ℕ). map (λ (row : ImpRow). row.end) (cond (is_some o) (row ∷ filter has_chosen rows) (filter has_chosen rows))) is
        ∙ ap₂ (λ (x : Option End) (xs : List (Option End)). x ∷ xs) t.0 (rest ws t.2)

money_by : (b : Bool) (n : ℕ) (end : Option AwardEnd) → cond (takes_money (Some (end_told end))) (cond b n 0) 0 ≡ cond (b && is_open end) n 0 + cond (b && is_billed end) n 0
money_by true n None = omega arith
money_by true n (Some AwardEnd.Billed) = omega arith
money_by true n (Some AwardEnd.Lost) = omega arith
money_by true n (Some AwardEnd.Expired) = omega arith
money_by false n None = omega arith
money_by false n (Some AwardEnd.Billed) = omega arith
money_by false n (Some AwardEnd.Lost) = omega arith
money_by false n (Some AwardEnd.Expired) = omega arith

pub told_money : (campaign : ℕ) (rows : List ImpRow) (ws : List Award) → Told rows ws → money_in rows campaign ≡ sum_by (held campaign) ws
told_money campaign [] ws t = sym (ap (sum_by (held campaign)) t)
told_money campaign (row ∷ rows) ws t = by row.chosen ws refl t (told_money campaign rows)
  where
    by : (o : Option ℕ) (ws : List Award) → row.chosen ≡ o → TellsBy o row (Told rows) ws → ((ws : List Award) → Told rows ws → money_in rows campaign ≡ sum_by (held campaign) ws) → money_in (row ∷ rows) campaign ≡ sum_by (held campaign) ws
    by None ws is t rest =
        let none : row_money campaign row ≡ 0 = ap (λ (e : Option End). cond (takes_money e) (picked_charge campaign row.offers row.chosen) 0) t.0 in
        omega (arith, sum_by-cons (row_money campaign) row rows, rest ws t.1)
    by (Some place) [] is t rest = absurd t
    by (Some place) (w ∷ ws) is t rest =
        let here : row_money campaign row ≡ held campaign w =
        ap₂ (λ (e : Option End) (o : Option ℕ). cond (takes_money e) (picked_charge campaign row.offers o) 0) t.0 is
        ∙ (ap (λ (c : Charge). cond (takes_money (Some (end_told w.end))) (charge_for campaign c) 0) t.1
        ∙ money_by (eqb w.campaign campaign) w.charge.0 w.end) in
        omega (arith, sum_by-cons (row_money campaign) row rows, sum_by-cons (held campaign) w ws, rest ws t.2)

-- a row has an end where it has a chosen offer
abbrev pub IsEnded : ImpRow → Type 0
IsEnded row = is_some row.end ≡ is_some row.chosen

pub told_ended : (rows : List ImpRow) (ws : List Award) → Told rows ws → All IsEnded rows
told_ended [] ws t = All-nil IsEnded
told_ended (row ∷ rows) ws t = by row.chosen ws refl t (told_ended rows)
  where
    by : (o : Option ℕ) (ws : List Award) → row.chosen ≡ o → TellsBy o row (Told rows) ws → ((ws : List Award) → Told rows ws → All IsEnded rows) → All IsEnded (row ∷ rows)
    by None ws is t rest = All-cons IsEnded row rows (ap is_some t.0 ∙ sym (ap is_some is)) (rest ws t.1)
    by (Some place) [] is t rest = absurd t
    by (Some place) (w ∷ ws) is t rest = All-cons IsEnded row rows (ap is_some t.0 ∙ sym (ap is_some is)) (rest ws t.2)

pub told_append : (rows more : List ImpRow) (ws vs : List Award) → Told rows ws → Told more vs → Told (rows ++ more) (ws ++ vs)
told_append [] more ws vs t u = subst (λ (ws : List Award). Told more (ws ++ vs)) (sym t) u
told_append (row ∷ rows) more ws vs t u = by row.chosen ws t (λ ws t. told_append rows more ws vs t u)
  where
    by : (o : Option ℕ) (ws : List Award) → TellsBy o row (Told rows) ws → ((ws : List Award) → Told rows ws → Told (rows ++ more) (ws ++ vs)) → TellsBy o row (Told (rows ++ more)) (ws ++ vs)
    by None ws t rest = (t.0, rest ws t.1)
    by (Some place) [] t rest = absurd t
    by (Some place) (w ∷ ws) t rest = (t.0, t.1, rest ws t.2)
