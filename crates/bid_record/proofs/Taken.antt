-- What a line that was read says of the lines before it.
use Rattle.std.proofs.Common.{◌≡◌, ◌≢◌, ℕ, ◌+◌, ◌^◌, ◌<◌, ◌≤◌, inl, inr, List, [], ◌∷◌, ◌++◌, length, Bool, true, false, not, ◌&&◌, eqb, ltb, Option, Some, None, refl, sym, ap, ◌∙◌, subst}
use Rattle.std.specs.Option.{ForSome}
use Rattle.std.specs.List.{list_all, list_any, All}
use Rattle.std.specs.Str.{bytes_eq}
use Rattle.std.proofs.lemmas.Bool.{and_parts, and_from, or_parts, or_cases, eqb-true, ltb-true, lt-ltb, not-true, false≢true}
use Rattle.std.proofs.lemmas.Option.{none-some, same_Some}
use Rattle.std.proofs.lemmas.List.{nil_from_length}
use Rattle.std.proofs.lemmas.List.Elements.{All-nil, All-cons, All-head, All-tail}
use Rattle.std.proofs.lemmas.Slice.Eq.{bytes_eq-Decides}
use Rattle.adx_units.specs.Number.{begins_with}
use Rattle.bid_record.specs.declared.rows.CampaignRow.{CampaignRow}
use Rattle.bid_record.specs.declared.rows.Charge.{Charge}
use Rattle.bid_record.specs.declared.rows.ImpRow.{ImpRow}
use Rattle.bid_record.specs.Lines.{campaign_line, imp_line, end_line}
use Rattle.bid_record.specs.Records.{IsCampaign, Differ}
use Rattle.bid_record.specs.Reading.{campaign_at, imp_at, end_line_at, is_listed, is_place, has_places}
use Rattle.bid_record.specs.Refusals.{rows, all, IsNextCampaign, IsLooseImp, HasPlaces, IsNextEnd, Follows, campaign_next, imp_next, end_last, IsCampaignLine, IsOfForm, BreaksOrder, BreaksPlaces}
use Rattle.bid_record.specs.Taking.{is_same_pair, may_come}
use Rattle.bid_record.proofs.CampaignLines.{of_some, of_none, campaign_takes, campaign_again, end_line_takes, end_line_again}
use Rattle.bid_record.proofs.ImpLines.{IsLoose, imp_takes, imp_again}

-- two readings of one line
pub one_reading : {A : Type 0} (o : Option A) (x y : A) → o ≡ Some x → o ≡ Some y → x ≡ y
one_reading o x y h k = same_Some x y (sym h ∙ k)

not_begun : (b : ℕ) (line spelled : List ℕ) → begins_with b line ≡ true → line ≡ spelled → begins_with b spelled ≡ false → ⊥
not_begun b line spelled h e no_such = false≢true (sym no_such ∙ ap (begins_with b) (sym e) ∙ h)

-- ---- campaigns

-- a campaign's row is read, and it may come next
pub record ReadsCampaign (format : ℕ) (cs : List CampaignRow) (imps : List ImpRow) (line : List ℕ) : Type 0 where
  pub index : ℕ
  pub row : CampaignRow
  pub read : campaign_at format line ≡ Some (index, row)
  pub next : IsNextCampaign format cs imps row

reads_line : (format : ℕ) (cs : List CampaignRow) (imps : List ImpRow) (line : List ℕ) (index : ℕ) → IsCampaignLine format cs imps line index → ReadsCampaign format cs imps line
reads_line format cs imps line index l = record { index = index; row = l.row; read = ap (campaign_at format) l.is ∙ campaign_again format index l.row l.next.row l.number; next = l.next }

campaign_form : (format : ℕ) (day : List ℕ) (cs : List CampaignRow) (imps : List ImpRow) (line : List ℕ) → begins_with 99 line ≡ true → IsOfForm (rows format day cs imps) line → ReadsCampaign format cs imps line
campaign_form format day cs imps line b (inl x) = reads_line format cs imps line x.0 x.1
campaign_form format day cs imps line b (inr (inl x)) = absurd (not_begun 99 line (imp_line (x.0, x.1)) b x.2.is refl)
campaign_form format day cs imps line b (inr (inr x)) = absurd (not_begun 99 line (end_line x.0) b x.1.is refl)

pub campaign_unread : (format : ℕ) (cs : List CampaignRow) (imps : List ImpRow) (line : List ℕ) → begins_with 99 line ≡ true → campaign_at format line ≡ None → (day : List ℕ) → IsOfForm (rows format day cs imps) line → ⊥
campaign_unread format cs imps line b none day form =
    let r = campaign_form format day cs imps line b form in
    none-some (r.index, r.row) (sym none ∙ r.read)

same_pair : (row other : CampaignRow) → is_same_pair row other ≡ true → (other.seat ≡ row.seat) × (other.cid ≡ row.cid)
same_pair row other h =
    let both = and_parts (bytes_eq other.seat row.seat) (bytes_eq other.cid row.cid) h in
    ((bytes_eq-Decides other.seat row.seat).0 both.0, (bytes_eq-Decides other.cid row.cid).0 both.1)

pair_same : (row other : CampaignRow) → (other.seat ≡ row.seat) × (other.cid ≡ row.cid) → is_same_pair row other ≡ true
pair_same row other e = and_from (bytes_eq other.seat row.seat) (bytes_eq other.cid row.cid) ((bytes_eq-Decides other.seat row.seat).1 e.0) ((bytes_eq-Decides other.cid row.cid).1 e.1)

none_same : (row : CampaignRow) (cs : List CampaignRow) → list_any (is_same_pair row) cs ≡ false → All (λ other. Differ other row) cs
none_same row [] h = All-nil (λ (other : CampaignRow). Differ other row)
none_same row (c ∷ cs) h =
    let both = or_parts (is_same_pair row c) (list_any (is_same_pair row) cs) h in
    All-cons (λ (other : CampaignRow). Differ other row) c cs (λ e. false≢true (sym both.0 ∙ pair_same row c e)) (none_same row cs both.1)

some_same : (row : CampaignRow) (cs : List CampaignRow) → list_any (is_same_pair row) cs ≡ true → All (λ other. Differ other row) cs → ⊥
some_same row [] h differ = false≢true h
some_same row (c ∷ cs) h differ =
    elim (or_cases (is_same_pair row c) (list_any (is_same_pair row) cs) h) [
      | inl here ↦ All-head (λ (other : CampaignRow). Differ other row) c cs differ (same_pair row c here)
      | inr later ↦ some_same row cs later (All-tail (λ (other : CampaignRow). Differ other row) c cs differ)
    ]

may_not : (format : ℕ) (cs : List CampaignRow) (imps : List ImpRow) (row : CampaignRow) → may_come cs imps row ≡ false → IsNextCampaign format cs imps row → ⊥
may_not format cs imps row no_room next =
    let few : ltb (length cs) 1024 ≡ true = lt-ltb (length cs) 1024 next.room in
    let early : eqb (length imps) 0 ≡ true = ap (λ (xs : List ImpRow). eqb (length xs) 0) next.early in
    let other : list_any (is_same_pair row) cs ≡ false = elim (list_any (is_same_pair row) cs) as (λ (b : Bool). list_any (is_same_pair row) cs ≡ b → list_any (is_same_pair row) cs ≡ false) [
      | true ↦ λ e. absurd (some_same row cs e next.another)
      | false ↦ λ e. e
    ] refl in
    let all : may_come cs imps row ≡ true = and_from (ltb (length cs) 1024 && eqb (length imps) 0) (not (list_any (is_same_pair row) cs)) (and_from (ltb (length cs) 1024) (eqb (length imps) 0) few early) (ap not other) in
    false≢true (sym no_room ∙ all)

may : (format : ℕ) (cs : List CampaignRow) (imps : List ImpRow) (row : CampaignRow) → may_come cs imps row ≡ true → IsCampaign format row → IsNextCampaign format cs imps row
may format cs imps row room is =
    let outer = and_parts (ltb (length cs) 1024 && eqb (length imps) 0) (not (list_any (is_same_pair row) cs)) room in
    let inner = and_parts (ltb (length cs) 1024) (eqb (length imps) 0) outer.0 in
    record { row = is; room = ltb-true (length cs) 1024 inner.0; early = nil_from_length imps (eqb-true (length imps) 0 inner.1); another = none_same row cs (not-true (list_any (is_same_pair row) cs) outer.1) }

pub campaign_no_room : (format : ℕ) (cs : List CampaignRow) (imps : List ImpRow) (line : List ℕ) (index : ℕ) (row : CampaignRow) → begins_with 99 line ≡ true → campaign_at format line ≡ Some (index, row) → may_come cs imps row ≡ false → (day : List ℕ) → IsOfForm (rows format day cs imps) line → ⊥
campaign_no_room format cs imps line index row b read no_room day form =
    let r = campaign_form format day cs imps line b form in
    let same = one_reading (campaign_at format line) (index, row) (r.index, r.row) read r.read in
    let row_same : r.row ≡ row = ap (λ (p : ℕ × CampaignRow). p.1) (sym same) in
    may_not format cs imps row no_room (subst (λ (c : CampaignRow). IsNextCampaign format cs imps c) row_same r.next)

pub campaign_order : (format : ℕ) (cs : List CampaignRow) (imps : List ImpRow) (line : List ℕ) (index : ℕ) (row : CampaignRow) → campaign_at format line ≡ Some (index, row) → may_come cs imps row ≡ true → index ≢ length cs → (day : List ℕ) → BreaksOrder (rows format day cs imps) line
campaign_order format cs imps line index row read room apart day =
    let is = campaign_takes format line index row read in
    inl (index, record { row = row; is = is.0; next = may format cs imps row room is.1; number = is.2 }, apart)

follows_empty : (format : ℕ) (day : List ℕ) (cs : List CampaignRow) (imps : List ImpRow) (row : CampaignRow) → IsNextCampaign format cs imps row → imps ≡ [] → Follows (rows format day cs imps) (campaign_line (length cs, row)) (rows format day (cs ++ row ∷ []) imps)
follows_empty format day cs imps row next none =
    subst (λ (xs : List ImpRow). Follows (rows format day cs xs) (campaign_line (length cs, row)) (rows format day (cs ++ row ∷ []) xs)) (sym none) (campaign_next format day cs row (record { row = next.row; room = next.room; early = refl; another = next.another }))

pub campaign_taken : (format : ℕ) (cs : List CampaignRow) (imps : List ImpRow) (line : List ℕ) (index : ℕ) (row : CampaignRow) → campaign_at format line ≡ Some (index, row) → may_come cs imps row ≡ true → index ≡ length cs → (cs' : List CampaignRow) → cs' ≡ cs ++ row ∷ [] → (day : List ℕ) → Follows (rows format day cs imps) line (rows format day cs' imps)
campaign_taken format cs imps line index row read room same cs' more day =
    let is = campaign_takes format line index row read in
    let next = may format cs imps row room is.1 in
    let spelled : line ≡ campaign_line (length cs, row) = is.0 ∙ ap (λ (i : ℕ). campaign_line (i, row)) same in
    subst (λ (l : List ℕ). Follows (rows format day cs imps) l (rows format day cs' imps)) (sym spelled)
    (subst (λ (xs : List CampaignRow). Follows (rows format day cs imps) (campaign_line (length cs, row)) (rows format day xs imps)) (sym more) (follows_empty format day cs imps row next next.early))

-- ---- impressions

pub record ReadsImp (format : ℕ) (cs : List CampaignRow) (imps : List ImpRow) (line : List ℕ) : Type 0 where
  pub index : ℕ
  pub row : ImpRow
  pub read : imp_at format line ≡ Some (index, row)
  pub next : IsLooseImp format cs imps row

pub loose_of : (format : ℕ) (cs : List CampaignRow) (imps : List ImpRow) (row : ImpRow) → IsLooseImp format cs imps row → IsLoose format row
loose_of format cs imps row h = record { name = h.name; named = h.named; both = h.ended; number = h.number; few = h.few_offers; amounts = h.amounts; numbers = h.numbers }

next_of : (format : ℕ) (cs : List CampaignRow) (imps : List ImpRow) (row : ImpRow) → 1 ≤ length cs → length imps + 1 < 2 ^ 32 → IsLoose format row → IsLooseImp format cs imps row
next_of format cs imps row some room h = record { behind_campaign = some; room = room; name = h.name; named = h.named; few_offers = h.few; amounts = h.amounts; numbers = h.numbers; number = h.number; ended = h.both }

imp_form : (format : ℕ) (day : List ℕ) (cs : List CampaignRow) (imps : List ImpRow) (line : List ℕ) → begins_with 105 line ≡ true → IsOfForm (rows format day cs imps) line → ReadsImp format cs imps line
imp_form format day cs imps line b (inl x) = absurd (not_begun 105 line (campaign_line (x.0, x.1.row)) b x.1.is refl)
imp_form format day cs imps line b (inr (inl x)) = record { index = x.0; row = x.1; read = ap (imp_at format) x.2.is ∙ imp_again format x.0 x.1 (loose_of format cs imps x.1 x.2.next) x.2.number; next = x.2.next }
imp_form format day cs imps line b (inr (inr x)) = absurd (not_begun 105 line (end_line x.0) b x.1.is refl)

pub imp_unread : (format : ℕ) (cs : List CampaignRow) (imps : List ImpRow) (line : List ℕ) → begins_with 105 line ≡ true → imp_at format line ≡ None → (day : List ℕ) → IsOfForm (rows format day cs imps) line → ⊥
imp_unread format cs imps line b none day form =
    let r = imp_form format day cs imps line b form in
    none-some (r.index, r.row) (sym none ∙ r.read)

pub imp_order : (format : ℕ) (cs : List CampaignRow) (imps : List ImpRow) (line : List ℕ) (index : ℕ) (row : ImpRow) → imp_at format line ≡ Some (index, row) → 1 ≤ length cs → length imps + 1 < 2 ^ 32 → index ≢ length imps → (day : List ℕ) → BreaksOrder (rows format day cs imps) line
imp_order format cs imps line index row read some room apart day =
    let is = imp_takes format line index row read in
    inr (inl (index, row, record { is = is.0; next = next_of format cs imps row some room is.1; number = is.2 }, apart))

listed_all : (n : ℕ) (os : List Charge) → list_all (is_listed n) os ≡ true → All (λ o. o.campaign < n) os
listed_all n [] h = All-nil (λ (o : Charge). o.campaign < n)
listed_all n (o ∷ os) h =
    let both = and_parts (is_listed n o) (list_all (is_listed n) os) h in
    All-cons (λ (x : Charge). x.campaign < n) o os (ltb-true o.campaign n both.0) (listed_all n os both.1)

all_listed : (n : ℕ) (os : List Charge) → All (λ o. o.campaign < n) os → list_all (is_listed n) os ≡ true
all_listed n [] h = refl
all_listed n (o ∷ os) h = and_from (is_listed n o) (list_all (is_listed n) os) (lt-ltb o.campaign n (All-head (λ (x : Charge). x.campaign < n) o os h)) (all_listed n os (All-tail (λ (x : Charge). x.campaign < n) o os h))

place_is : (n : ℕ) (chosen : Option ℕ) → is_place n chosen ≡ true → ForSome chosen (λ place. place < n)
place_is n None h = of_none (λ (place : ℕ). place < n)
place_is n (Some p) h = of_some (λ (place : ℕ). place < n) p (ltb-true p n h)

is_place_of : (n : ℕ) (chosen : Option ℕ) → ForSome chosen (λ place. place < n) → is_place n chosen ≡ true
is_place_of n None h = refl
is_place_of n (Some p) h = lt-ltb p n (h p refl)

places_are : (n : ℕ) (row : ImpRow) → has_places n row ≡ true → HasPlaces n row
places_are n row h =
    let both = and_parts (list_all (is_listed n) row.offers) (is_place (length row.offers) row.chosen) h in
    record { offers = listed_all n row.offers both.0; chosen = place_is (length row.offers) row.chosen both.1 }

are_places : (n : ℕ) (row : ImpRow) → HasPlaces n row → has_places n row ≡ true
are_places n row h = and_from (list_all (is_listed n) row.offers) (is_place (length row.offers) row.chosen) (all_listed n row.offers h.offers) (is_place_of (length row.offers) row.chosen h.chosen)

pub imp_misplaced : (format : ℕ) (cs : List CampaignRow) (imps : List ImpRow) (line : List ℕ) (index : ℕ) (row : ImpRow) → imp_at format line ≡ Some (index, row) → 1 ≤ length cs → length imps + 1 < 2 ^ 32 → index ≡ length imps → has_places (length cs) row ≡ false → (day : List ℕ) → BreaksPlaces (rows format day cs imps) line
imp_misplaced format cs imps line index row read some room same none day =
    let is = imp_takes format line index row read in
    (row, record { is = is.0 ∙ ap (λ (j : ℕ). imp_line (j, row)) same; next = next_of format cs imps row some room is.1; number = subst (λ (j : ℕ). j < 2 ^ 64) same is.2 }, λ places. false≢true (sym none ∙ are_places (length cs) row places))

pub imp_taken : (format : ℕ) (cs : List CampaignRow) (imps : List ImpRow) (line : List ℕ) (index : ℕ) (row kept : ImpRow) → imp_at format line ≡ Some (index, row) → 1 ≤ length cs → length imps + 1 < 2 ^ 32 → index ≡ length imps → (has_places (length cs) row ≡ true) × (kept ≡ row) → (imps' : List ImpRow) → imps' ≡ imps ++ kept ∷ [] → (day : List ℕ) → Follows (rows format day cs imps) line (rows format day cs imps')
imp_taken format cs imps line index row kept read some room same placed imps' more day =
    let is = imp_takes format line index row read in
    let spelled : line ≡ imp_line (length imps, row) = is.0 ∙ ap (λ (j : ℕ). imp_line (j, row)) same in
    let grown : imps' ≡ imps ++ row ∷ [] = more ∙ ap (λ (r : ImpRow). imps ++ r ∷ []) placed.1 in
    subst (λ (l : List ℕ). Follows (rows format day cs imps) l (rows format day cs imps')) (sym spelled)
    (subst (λ (xs : List ImpRow). Follows (rows format day cs imps) (imp_line (length imps, row)) (rows format day cs xs)) (sym grown)
    (imp_next format day cs imps row (next_of format cs imps row some room is.1) (places_are (length cs) row placed.0)))

-- ---- the last line

pub record ReadsEnd (cs : List CampaignRow) (imps : List ImpRow) (line : List ℕ) : Type 0 where
  pub n : ℕ
  pub read : end_line_at line ≡ Some n
  pub next : IsNextEnd cs imps

end_form : (format : ℕ) (day : List ℕ) (cs : List CampaignRow) (imps : List ImpRow) (line : List ℕ) → begins_with 99 line ≡ false → begins_with 105 line ≡ false → IsOfForm (rows format day cs imps) line → ReadsEnd cs imps line
end_form format day cs imps line c i (inl x) = absurd (false≢true (sym c ∙ ap (begins_with 99) x.1.is))
end_form format day cs imps line c i (inr (inl x)) = absurd (false≢true (sym i ∙ ap (begins_with 105) x.2.is))
end_form format day cs imps line c i (inr (inr x)) = record { n = x.0; read = ap end_line_at x.1.is ∙ end_line_again x.0 x.1.number; next = x.1.next }

pub end_unread : (format : ℕ) (cs : List CampaignRow) (imps : List ImpRow) (line : List ℕ) → begins_with 99 line ≡ false → begins_with 105 line ≡ false → end_line_at line ≡ None → (day : List ℕ) → IsOfForm (rows format day cs imps) line → ⊥
end_unread format cs imps line c i none day form =
    let r = end_form format day cs imps line c i form in none-some r.n (sym none ∙ r.read)

pub end_order : (format : ℕ) (cs : List CampaignRow) (imps : List ImpRow) (line : List ℕ) (n : ℕ) → end_line_at line ≡ Some n → 1 ≤ length cs → length imps < 2 ^ 32 → n ≢ length imps → (day : List ℕ) → BreaksOrder (rows format day cs imps) line
end_order format cs imps line n read some few apart day =
    let is = end_line_takes line n read in
    inr (inr (n, record { is = is.0; next = record { behind_campaign = some; few_imps = few }; number = is.1 }, apart))

pub end_taken : (format : ℕ) (cs : List CampaignRow) (imps : List ImpRow) (line : List ℕ) (n : ℕ) → end_line_at line ≡ Some n → 1 ≤ length cs → length imps < 2 ^ 32 → n ≡ length imps → (day : List ℕ) → Follows (rows format day cs imps) line (all format day cs imps)
end_taken format cs imps line n read some few same day =
    let is = end_line_takes line n read in
    let spelled : line ≡ end_line (length imps) = is.0 ∙ ap end_line same in
    subst (λ (l : List ℕ). Follows (rows format day cs imps) l (all format day cs imps)) (sym spelled) (end_last format day cs imps (record { behind_campaign = some; few_imps = few }))
