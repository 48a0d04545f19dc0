-- A history has one record: each part of each row is fixed.
use Rattle.std.proofs.Common.{◌≡◌, ℕ, List, [], ◌∷◌, map, length, false, cond, is_some, refl, sym, ap, ap₂, ◌∙◌, arith, Option, Some, None}
use Rattle.std.specs.List.{All, filter}
use Rattle.std.proofs.lemmas.List.Elements.{All-head, All-tail, All-weaker}
use Rattle.std.proofs.lemmas.Bool.{false≢true}
use Rattle.day_rules.specs.declared.entry.Entry.{Entry}
use Rattle.deal_floor.specs.declared.campaign.Campaign.{Campaign}
use Rattle.bid_record.specs.declared.record.Record.{Record}
use Rattle.bid_record.specs.declared.rows.End.{End}
use Rattle.bid_record.specs.declared.rows.ImpName.{ImpName}
use Rattle.bid_record.specs.declared.rows.ImpRow.{ImpRow}
use Rattle.bid_record.specs.Records.{IsImp}
use Rattle.bid_record.specs.Refusals.{AreSame}
use Rattle.dual_cert.specs.Assignments.{impressions_of}
use Rattle.served_record.specs.Served.{IsRecordOf, ends_of, has_chosen}
use Rattle.served_record.proofs.Told.{IsEnded}

abbrev names_in : List ImpRow → List (Option ImpName)
names_in rows = map (λ (row : ImpRow). row.name) rows

abbrev chosen_in : List ImpRow → List (Option ℕ)
chosen_in rows = map (λ (row : ImpRow). row.chosen) rows

-- the parts of rows
record SameParts (xs ys : List ImpRow) : Type 0 where
  pub names : names_in xs ≡ names_in ys
  pub offers : impressions_of xs ≡ impressions_of ys
  pub chosen : chosen_in xs ≡ chosen_in ys
  pub ends : ends_of xs ≡ ends_of ys

head_same : {X : Type 0} (x y : X) (xs ys : List X) → x ∷ xs ≡ y ∷ ys → x ≡ y
head_same x y xs ys h = cc

tail_same : {X : Type 0} (x y : X) (xs ys : List X) → x ∷ xs ≡ y ∷ ys → xs ≡ ys
tail_same x y xs ys h = cc

row_of : (x y : ImpRow) → x.name ≡ y.name → x.offers ≡ y.offers → x.chosen ≡ y.chosen → x.end ≡ y.end → x ≡ y
row_of x y n o c e = λ i. record { name = n i; offers = o i; chosen = c i; end = e i }

no_end : (end : Option End) → is_some end ≡ false → end ≡ None
no_end None h = refl
no_end (Some x) h = absurd (false≢true (sym h))

-- the ends of rows by the first row's chosen offer
abbrev ends_by : (row : ImpRow) (rows : List ImpRow) → Option ℕ → List (Option End)
ends_by row rows None = ends_of rows
ends_by row rows (Some place) = row.end ∷ ends_of rows

ends_are : (row : ImpRow) (rows : List ImpRow) (o : Option ℕ) → row.chosen ≡ o → ends_of (row ∷ rows) ≡ ends_by row rows o
ends_are row rows None is = ap (λ (o : Option ℕ). map (λ (row : ImpRow). row.end) (cond (is_some o) (row ∷ filter has_chosen rows) (filter has_chosen rows))) is
ends_are row rows (Some place) is = ap (λ (o : Option ℕ). map (λ (row : ImpRow). row.end) (cond (is_some o) (row ∷ filter has_chosen rows) (filter has_chosen rows))) is

-- the first rows have one end, and the rest the same ends
ends_cut : (x y : ImpRow) (xs ys : List ImpRow) (o : Option ℕ) → x.chosen ≡ o → y.chosen ≡ o → IsEnded x → IsEnded y → ends_of (x ∷ xs) ≡ ends_of (y ∷ ys) → (x.end ≡ y.end) × (ends_of xs ≡ ends_of ys)
ends_cut x y xs ys None a b ex ey same =
    let one : x.end ≡ None = no_end x.end (ex ∙ ap is_some a) in
    let other : y.end ≡ None = no_end y.end (ey ∙ ap is_some b) in
    (one ∙ sym other, sym (ends_are x xs None a) ∙ (same ∙ ends_are y ys None b))
ends_cut x y xs ys (Some place) a b ex ey same =
    let both : x.end ∷ ends_of xs ≡ y.end ∷ ends_of ys = sym (ends_are x xs (Some place) a) ∙ (same ∙ ends_are y ys (Some place) b) in
    (head_same x.end y.end (ends_of xs) (ends_of ys) both, tail_same x.end y.end (ends_of xs) (ends_of ys) both)

same_rows : (xs ys : List ImpRow) → All IsEnded xs → All IsEnded ys → SameParts xs ys → xs ≡ ys
same_rows [] [] ex ey p = refl
same_rows [] (y ∷ ys) ex ey p = absurd (omega (arith, ap (λ (t : List (Option ImpName)). length t) p.names))
same_rows (x ∷ xs) [] ex ey p = absurd (omega (arith, ap (λ (t : List (Option ImpName)). length t) p.names))
same_rows (x ∷ xs) (y ∷ ys) ex ey p =
    let chosen : x.chosen ≡ y.chosen = head_same x.chosen y.chosen (chosen_in xs) (chosen_in ys) p.chosen in
    let ends = ends_cut x y xs ys y.chosen chosen refl (All-head IsEnded x xs ex) (All-head IsEnded y ys ey) p.ends in
    let rest : xs ≡ ys = same_rows xs ys (All-tail IsEnded x xs ex) (All-tail IsEnded y ys ey) (record {
      names = tail_same x.name y.name (names_in xs) (names_in ys) p.names;
      offers = tail_same x.offers y.offers (impressions_of xs) (impressions_of ys) p.offers;
      chosen = tail_same x.chosen y.chosen (chosen_in xs) (chosen_in ys) p.chosen;
      ends = ends.1;
    }) in
    let one : x ≡ y = row_of x y (head_same x.name y.name (names_in xs) (names_in ys) p.names) (head_same x.offers y.offers (impressions_of xs) (impressions_of ys) p.offers) chosen ends.0 in
    ap₂ (λ (r : ImpRow) (rs : List ImpRow). r ∷ rs) one rest

rows_ended : (r : Record) → All IsEnded r.imps
rows_ended r = All-weaker (IsImp r.format (length r.campaigns)) IsEnded (λ row is. is.ended) r.imps r.sound.each_imp

pub same_records : (day : List ℕ) (campaigns : List Campaign) (history : List Entry) (r s : Record) → IsRecordOf day campaigns history r → IsRecordOf day campaigns history s → AreSame r s
same_records day campaigns history r s h k = record {
  format = h.format ∙ sym k.format;
  day = h.day_is ∙ sym k.day_is;
  campaigns = h.campaigns_are ∙ sym k.campaigns_are;
  imps = same_rows r.imps s.imps (rows_ended r) (rows_ended s) (record {
    names = h.names ∙ sym k.names;
    offers = h.impressions_are ∙ sym k.impressions_are;
    chosen = h.chosen ∙ sym k.chosen;
    ends = h.ends ∙ sym k.ends;
  });
}
