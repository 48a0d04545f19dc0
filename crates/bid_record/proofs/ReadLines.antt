-- The lines of a record, taken one after the other.
use Rattle.std.proofs.Common.{◌≡◌, ℕ, zero, suc, ◌+◌, ◌-◌, ◌^◌, ◌<◌, ◌≤◌, inl, inr, List, [], ◌∷◌, ◌++◌, length, map, codes, get_or, drop, true, false, ◌||◌, eqb, ltb, leb, IsTrue, Option, Some, None, Result, Ok, Err, refl, sym, ap, ◌∙◌, subst, arith, lit<, append_assoc, append-nil, length-append}
use Rattle.std.specs.Option.{ForSome}
use Rattle.std.specs.Prelude.{IfOk, IfErr}
use Rattle.std.specs.List.{list_all, flat_map, All, AllPairs, enumerate_from}
use Rattle.std.proofs.Math.Seq.{get_or-append_seam}
use Rattle.std.proofs.lemmas.Fmt.{decimal_digit}
use Rattle.std.proofs.lemmas.List.{get_or_append_left, drop_at}
use Rattle.std.proofs.lemmas.List.Elements.{All-nil, All-cons, All-head, All-tail, All-push, All-get_or, All-from_get_or, All-weaker}
use Rattle.std.proofs.lemmas.List.Quantifiers.{all_pairs_push}
use Rattle.formats.specs.Parts.{ended, behind_word, IsOneLine}
use Rattle.formats.specs.Following.{Leads, no_line, line_then, FailsAt, IsCut}
use Rattle.formats.proofs.Following.{leads_join, leads_more, no_fault, no_cut, one_document, pushed, cut_there}
use Rattle.formats.proofs.NumberedLines.{numbered_push}
use Rattle.bid_record.specs.declared.fault.RecordFault.{RecordFault}
use Rattle.bid_record.specs.declared.fault.RecordFault.TheVariants.{Line, Order, Campaign, Cut, OutOfMemory}
use Rattle.bid_record.specs.declared.record.Record.{Record}
use Rattle.bid_record.specs.declared.rows.CampaignRow.{CampaignRow}
use Rattle.bid_record.specs.declared.rows.Charge.{Charge}
use Rattle.bid_record.specs.declared.rows.ImpRow.{ImpRow}
use Rattle.bid_record.specs.Lines.{head_line, day_line, campaign_line, imp_line, end_line, rows_lines, lines, document}
use Rattle.formats.specs.Days.{zeroed, is_day}
use Rattle.bid_record.specs.Records.{IsAmount, IsCharge, IsCampaign, IsImp, Differ, IsSound}
use Rattle.bid_record.specs.Refusals.{Told, nothing, a_head, rows, all, IsNextCampaign, IsLooseImp, HasPlaces, IsNextEnd, Follows, head_first, day_second, campaign_next, imp_next, end_last, IsWhole, IsOfForm, BreaksOrder, BreaksPlaces, IsRefusal, AreSame, GivesRecord}
use Rattle.bid_record.specs.Taking.{IsTaken, AreRows, IsOpened, AreRead, IsBehindLast, IsFound}
use Rattle.bid_record.proofs.CampaignLines.{wide32}
use Rattle.bid_record.proofs.Texts.{and_no}
use Rattle.std.proofs.lemmas.Option.{none-some, same_Some}
use Rattle.std.proofs.lemmas.Bool.{and_parts, or_cases, eqb-true, cases_lt, ltb-true, lt-leb}
use Rattle.std.proofs.lemmas.Slice.Eq.{bytes_eq-Decides}
use Rattle.std.proofs.lemmas.Str.{IsUtf8-from_ascii}
use Rattle.std.specs.Str.{IsUtf8, IsAscii}
use Rattle.adx_units.specs.Number.{is_digit}
use Rattle.formats.proofs.PartLaws.{word_again}
use Rattle.bid_record.proofs.Told.{is_end, follows_of_form, order_not, places_not}

-- ---- rows that a document may have follow one another

few64 : 1024 < 2 ^ 64
few64 = lit< tt

charge_loose : (n : ℕ) (os : List Charge) → All (IsCharge n) os → All IsAmount os
charge_loose n os h = All-weaker (IsCharge n) IsAmount (λ o is. is.amount) os h

charge_number : (n : ℕ) (os : List Charge) → n ≤ 1024 → All (IsCharge n) os → All (λ o. o.campaign < 2 ^ 64) os
charge_number n os few h = All-weaker (IsCharge n) (λ (o : Charge). o.campaign < 2 ^ 64) (λ o is. omega (arith, is.campaign, few, few64)) os h

charge_place : (n : ℕ) (os : List Charge) → All (IsCharge n) os → All (λ o. o.campaign < n) os
charge_place n os h = All-weaker (IsCharge n) (λ (o : Charge). o.campaign < n) (λ o is. is.campaign) os h

charges_of : (n : ℕ) (os : List Charge) → All IsAmount os → All (λ o. o.campaign < n) os → All (IsCharge n) os
charges_of n [] a p = All-nil (IsCharge n)
charges_of n (o ∷ os) a p = All-cons (IsCharge n) o os (record { campaign = All-head (λ (x : Charge). x.campaign < n) o os p; amount = All-head IsAmount o os a }) (charges_of n os (All-tail IsAmount o os a) (All-tail (λ (x : Charge). x.campaign < n) o os p))

chosen_number : (n : ℕ) (o : Option ℕ) → n < 2 ^ 32 → ForSome o (λ place. place < n) → ForSome o (λ place. place < 2 ^ 64)
chosen_number n o few h = λ x e. let below : x < n = h x e in wide32 x (omega arith)

loose_of_imp : (format : ℕ) (cs : List CampaignRow) (imps : List ImpRow) (row : ImpRow) → length cs ≤ 1024 → 1 ≤ length cs → length imps + 1 < 2 ^ 32 → IsImp format (length cs) row → IsLooseImp format cs imps row
loose_of_imp format cs imps row few some room h = record {
  behind_campaign = some;
  room = room;
  name = h.name;
  named = h.named;
  few_offers = h.few_offers;
  amounts = charge_loose (length cs) row.offers h.charges;
  numbers = charge_number (length cs) row.offers few h.charges;
  number = chosen_number (length row.offers) row.chosen h.few_offers h.chosen;
  ended = h.ended;
}

imp_of_loose : (format : ℕ) (cs : List CampaignRow) (imps : List ImpRow) (row : ImpRow) → IsLooseImp format cs imps row → HasPlaces (length cs) row → IsImp format (length cs) row
imp_of_loose format cs imps row h p = record { name = h.name; named = h.named; few_offers = h.few_offers; charges = charges_of (length cs) row.offers h.amounts p.offers; chosen = p.chosen; ended = h.ended }

campaign_comes : (format : ℕ) (acc : List CampaignRow) (x : CampaignRow) (xs : List CampaignRow) → All (IsCampaign format) (acc ++ x ∷ xs) → AllPairs Differ (acc ++ x ∷ xs) → length (acc ++ x ∷ xs) ≤ 1024 → IsNextCampaign format acc [] x
campaign_comes format acc x xs each apart few =
    let len = length-append acc (x ∷ xs) in
    let within : length acc < length (acc ++ x ∷ xs) = omega (arith, len) in
    let seam : get_or (acc ++ x ∷ xs) (length acc) x ≡ x = get_or-append_seam acc x xs x in
    record {
      row = subst (IsCampaign format) seam (All-get_or (IsCampaign format) (acc ++ x ∷ xs) (length acc) x within each);
      room = omega (arith, len, few);
      early = refl;
      another = All-from_get_or (λ (other : CampaignRow). Differ other x) acc x (λ k below.
          let pair = apart k (length acc) x below within in
          let first : get_or (acc ++ x ∷ xs) k x ≡ get_or acc k x = get_or_append_left acc (x ∷ xs) x k below in
          λ same. pair (ap (λ (c : CampaignRow). c.seat) first ∙ same.0 ∙ sym (ap (λ (c : CampaignRow). c.seat) seam), ap (λ (c : CampaignRow). c.cid) first ∙ same.1 ∙ sym (ap (λ (c : CampaignRow). c.cid) seam)));
    }

campaigns_lead : (format : ℕ) (day : List ℕ) (acc xs : List CampaignRow) → All (IsCampaign format) (acc ++ xs) → AllPairs Differ (acc ++ xs) → length (acc ++ xs) ≤ 1024 → Leads Follows (rows format day acc []) (map campaign_line (enumerate_from (length acc) xs)) (rows format day (acc ++ xs) [])
campaigns_lead format day acc [] each apart few = subst (λ (l : List CampaignRow). Leads Follows (rows format day acc []) [] (rows format day l [])) (sym (append-nil acc)) (no_line (rows format day acc []))
campaigns_lead format day acc (x ∷ xs) each apart few =
    let next : List CampaignRow = acc ++ x ∷ [] in
    let whole : next ++ xs ≡ acc ++ x ∷ xs = append_assoc acc (x ∷ []) xs in
    let each2 : All (IsCampaign format) (next ++ xs) = subst (All (IsCampaign format)) (sym whole) each in
    let apart2 : AllPairs Differ (next ++ xs) = subst (AllPairs Differ) (sym whole) apart in
    let few2 : length (next ++ xs) ≤ 1024 = subst (λ (l : List CampaignRow). length l ≤ 1024) (sym whole) few in
    let rest = campaigns_lead format day next xs each2 apart2 few2 in
    let len : length next ≡ length acc + 1 = length-append acc (x ∷ []) in
    let moved = subst (λ (l : List CampaignRow). Leads Follows (rows format day next []) (map campaign_line (enumerate_from (length next) xs)) (rows format day l [])) whole rest in
    let later = subst (λ (n : ℕ). Leads Follows (rows format day next []) (map campaign_line (enumerate_from n xs)) (rows format day (acc ++ x ∷ xs) [])) len moved in
    line_then (rows format day acc []) (rows format day next []) (rows format day (acc ++ x ∷ xs) []) (campaign_line (length acc, x)) (map campaign_line (enumerate_from (length acc + 1) xs)) (campaign_next format day acc x (campaign_comes format acc x xs each apart few)) later

imps_lead : (format : ℕ) (day : List ℕ) (cs : List CampaignRow) (acc xs : List ImpRow) → length cs ≤ 1024 → (1 ≤ length xs → 1 ≤ length cs) → All (IsImp format (length cs)) xs → length acc + length xs < 2 ^ 32 → Leads Follows (rows format day cs acc) (map imp_line (enumerate_from (length acc) xs)) (rows format day cs (acc ++ xs))
imps_lead format day cs acc [] few some each room = subst (λ (l : List ImpRow). Leads Follows (rows format day cs acc) [] (rows format day cs l)) (sym (append-nil acc)) (no_line (rows format day cs acc))
imps_lead format day cs acc (x ∷ xs) few some each room =
    let next : List ImpRow = acc ++ x ∷ [] in
    let listed : 1 ≤ length cs = some (omega arith) in
    let len : length next ≡ length acc + 1 = length-append acc (x ∷ []) in
    let is : IsImp format (length cs) x = All-head (IsImp format (length cs)) x xs each in
    let rest = imps_lead format day cs next xs few (λ more. listed) (All-tail (IsImp format (length cs)) x xs each) (omega (arith, len, room)) in
    let whole : next ++ xs ≡ acc ++ x ∷ xs = append_assoc acc (x ∷ []) xs in
    let moved = subst (λ (l : List ImpRow). Leads Follows (rows format day cs next) (map imp_line (enumerate_from (length next) xs)) (rows format day cs l)) whole rest in
    let later = subst (λ (n : ℕ). Leads Follows (rows format day cs next) (map imp_line (enumerate_from n xs)) (rows format day cs (acc ++ x ∷ xs))) len moved in
    line_then (rows format day cs acc) (rows format day cs next) (rows format day cs (acc ++ x ∷ xs)) (imp_line (length acc, x)) (map imp_line (enumerate_from (length acc + 1) xs)) (imp_next format day cs acc x (loose_of_imp format cs acc x few listed (omega (arith, room)) is) (record { offers = charge_place (length cs) x.offers is.charges; chosen = is.chosen })) later

pub rows_lead : (format : ℕ) (day : List ℕ) (cs : List CampaignRow) (imps : List ImpRow) → IsOpened format day → AreRows format cs imps → Leads Follows nothing (rows_lines format day cs imps) (rows format day cs imps)
rows_lead format day cs imps o r =
    let first : List (List ℕ) = map campaign_line (enumerate_from 0 cs) in
    let second : List (List ℕ) = map imp_line (enumerate_from 0 imps) in
    line_then nothing (a_head format) (rows format day cs imps) (head_line format) (day_line day ∷ (first ++ second)) (head_first format o.known)
    (line_then (a_head format) (rows format day [] []) (rows format day cs imps) (day_line day) (first ++ second) (day_second format day o.dated)
    (leads_join Follows (rows format day [] []) (rows format day cs []) (rows format day cs imps) first second
    (campaigns_lead format day [] cs r.each_campaign r.distinct r.few_campaigns)
    (imps_lead format day cs [] imps r.few_campaigns r.behind_campaign r.each_imp (omega (arith, r.few_imps)))))

pub record_leads : (r : Record) → IsSound r.format r.day r.campaigns r.imps → Leads Follows nothing (lines r) (all r.format r.day r.campaigns r.imps)
record_leads r s =
    let are : AreRows r.format r.campaigns r.imps = record { few_campaigns = s.few_campaigns; each_campaign = s.each_campaign; distinct = s.distinct; few_imps = s.few_imps; each_imp = s.each_imp; behind_campaign = λ more. s.some_campaign } in
    leads_more Follows nothing (rows r.format r.day r.campaigns r.imps) (all r.format r.day r.campaigns r.imps) (rows_lines r.format r.day r.campaigns r.imps) (end_line (length r.imps))
    (rows_lead r.format r.day r.campaigns r.imps (record { known = s.known; dated = s.dated }) are)
    (end_last r.format r.day r.campaigns r.imps (record { behind_campaign = s.some_campaign; few_imps = s.few_imps }))

-- ---- one line more

campaigns_pushed : (format : ℕ) (day : List ℕ) (cs : List CampaignRow) (c : CampaignRow) → rows_lines format day (cs ++ c ∷ []) [] ≡ rows_lines format day cs [] ++ campaign_line (length cs, c) ∷ []
campaigns_pushed format day cs c =
    let before : List (List ℕ) = map campaign_line (enumerate_from 0 cs) in
    let start : 0 + length cs ≡ length cs = omega arith in
    let one = numbered_push campaign_line 0 cs c ∙ ap (λ (i : ℕ). before ++ campaign_line (i, c) ∷ []) start in
    ap (λ (t : List (List ℕ)). head_line format ∷ (day_line day ∷ t)) (append-nil (map campaign_line (enumerate_from 0 (cs ++ c ∷ []))) ∙ one ∙ ap (λ (t : List (List ℕ)). t ++ campaign_line (length cs, c) ∷ []) (sym (append-nil before)))

imps_pushed : (format : ℕ) (day : List ℕ) (cs : List CampaignRow) (imps : List ImpRow) (row : ImpRow) → rows_lines format day cs (imps ++ row ∷ []) ≡ rows_lines format day cs imps ++ imp_line (length imps, row) ∷ []
imps_pushed format day cs imps row =
    let first : List (List ℕ) = map campaign_line (enumerate_from 0 cs) in
    let before : List (List ℕ) = map imp_line (enumerate_from 0 imps) in
    let start : 0 + length imps ≡ length imps = omega arith in
    let one = numbered_push imp_line 0 imps row ∙ ap (λ (i : ℕ). before ++ imp_line (i, row) ∷ []) start in
    ap (λ (t : List (List ℕ)). head_line format ∷ (day_line day ∷ t)) (ap (λ (t : List (List ℕ)). first ++ t) one ∙ sym (append_assoc first before (imp_line (length imps, row) ∷ [])))

read_pushed : (bytes : List ℕ) (format : ℕ) (day : List ℕ) (cs : List CampaignRow) (imps : List ImpRow) (left : List ℕ) (n : ℕ) (line behind : List ℕ) (cs' : List CampaignRow) (imps' : List ImpRow) → AreRead bytes format day cs imps left n → left ≡ line ++ 10 ∷ behind → rows_lines format day cs' imps' ≡ rows_lines format day cs imps ++ line ∷ [] → AreRows format cs' imps' → AreRead bytes format day cs' imps' behind (n + 1)
read_pushed bytes format day cs imps left n line behind cs' imps' r cut same are =
    let more = pushed bytes left line behind (rows_lines format day cs imps) r.document cut in
    let len = ap (λ (t : List (List ℕ)). length t) same ∙ length-append (rows_lines format day cs imps) (line ∷ []) in
    let used = ap (λ (t : List ℕ). length t) cut ∙ length-append line (10 ∷ behind) in
    record {
      opened = r.opened;
      rows_are = are;
      document = more ∙ ap (λ (t : List (List ℕ)). flat_map ended t ++ behind) (sym same);
      number = omega (arith, r.number, len);
      few = omega (arith, r.few, used);
    }

read_more_at : (bytes : List ℕ) (format : ℕ) (day : List ℕ) (cs : List CampaignRow) (imps : List ImpRow) (left : List ℕ) (n : ℕ) (line behind : List ℕ) (f2 : ℕ) (d2 : List ℕ) (cs' : List CampaignRow) (imps' : List ImpRow) → AreRead bytes format day cs imps left n → left ≡ line ++ 10 ∷ behind → Follows (rows format day cs imps) line (rows f2 d2 cs' imps') → AreRead bytes format day cs' imps' behind (n + 1)
read_more_at bytes format day cs [] left n line behind f2 d2 cs' imps' r cut (campaign_next f d xs c h) =
    let are = r.rows_are in
    let len = length-append cs (c ∷ []) in
    read_pushed bytes format day cs [] left n line behind (cs ++ c ∷ []) [] r cut (campaigns_pushed format day cs c) (record {
      few_campaigns = omega (arith, len, h.room);
      each_campaign = All-push (IsCampaign format) cs c are.each_campaign h.row;
      distinct = all_pairs_push Differ cs c are.distinct (λ k d below. All-get_or (λ (other : CampaignRow). Differ other c) cs k d below h.another);
      few_imps = are.few_imps;
      each_imp = All-nil (IsImp format (length (cs ++ c ∷ [])));
      behind_campaign = λ more. omega (arith, len);
    })
read_more_at bytes format day cs imps left n line behind f2 d2 cs' imps' r cut (imp_next f d xs ys row h p) =
    let are = r.rows_are in
    let len = length-append imps (row ∷ []) in
    read_pushed bytes format day cs imps left n line behind cs (imps ++ row ∷ []) r cut (imps_pushed format day cs imps row) (record {
      few_campaigns = are.few_campaigns;
      each_campaign = are.each_campaign;
      distinct = are.distinct;
      few_imps = omega (arith, len, h.room);
      each_imp = All-push (IsImp format (length cs)) imps row are.each_imp (imp_of_loose format cs imps row h p);
      behind_campaign = λ more. h.behind_campaign;
    })

pub read_more : (bytes : List ℕ) (format : ℕ) (day : List ℕ) (cs : List CampaignRow) (imps : List ImpRow) (left : List ℕ) (n : ℕ) (line behind : List ℕ) (cs' : List CampaignRow) (imps' : List ImpRow) → AreRead bytes format day cs imps left n → left ≡ line ++ 10 ∷ behind → ((day : List ℕ) → Follows (rows format day cs imps) line (rows format day cs' imps')) → AreRead bytes format day cs' imps' behind (n + 1)
read_more bytes format day cs imps left n line behind cs' imps' r cut f = read_more_at bytes format day cs imps left n line behind format day cs' imps' r cut (f day)

end_is : (format : ℕ) (day : List ℕ) (cs : List CampaignRow) (imps : List ImpRow) (line : List ℕ) (f2 : ℕ) (d2 : List ℕ) (cs2 : List CampaignRow) (imps2 : List ImpRow) → Follows (rows format day cs imps) line (all f2 d2 cs2 imps2) → (line ≡ end_line (length imps)) × IsNextEnd cs imps
end_is format day cs imps line f2 d2 cs2 imps2 (end_last f d xs ys h) = (refl, h)

pub read_last : (bytes : List ℕ) (format : ℕ) (day : List ℕ) (cs : List CampaignRow) (imps : List ImpRow) (left : List ℕ) (n : ℕ) (line behind : List ℕ) (cs' : List CampaignRow) (imps' : List ImpRow) → AreRead bytes format day cs imps left n → left ≡ line ++ 10 ∷ behind → ((day : List ℕ) → Follows (rows format day cs imps) line (all format day cs imps)) × (cs' ≡ cs) × (imps' ≡ imps) → IsBehindLast bytes format day cs' imps' behind
read_last bytes format day cs imps left n line behind cs' imps' r cut f =
    let is = end_is format day cs imps line format day cs imps (f.0 day) in
    let more = pushed bytes left line behind (rows_lines format day cs imps) r.document cut in
    let made : IsBehindLast bytes format day cs imps behind = record {
      opened = r.opened;
      rows_are = r.rows_are;
      some_campaign = is.1.behind_campaign;
      document = subst (λ (l : List ℕ). bytes ≡ flat_map ended (rows_lines format day cs imps ++ l ∷ []) ++ behind) is.0 more;
    } in
    subst (λ (xs : List CampaignRow). IsBehindLast bytes format day xs imps' behind) (sym f.1)
    (subst (λ (ys : List ImpRow). IsBehindLast bytes format day cs ys behind) (sym f.2) made)

pub read_cut : (bytes : List ℕ) (format : ℕ) (day : List ℕ) (cs : List CampaignRow) (imps : List ImpRow) (left : List ℕ) (n : ℕ) → AreRead bytes format day cs imps left n → IsOneLine left → IsCut Follows nothing IsWhole bytes
read_cut bytes format day cs imps left n r one = record {
  lines = rows_lines format day cs imps;
  told = rows format day cs imps;
  piece = left;
  document = r.document;
  no_newline = one;
  before = rows_lead format day cs imps r.opened r.rows_are;
  open_ended = λ w. w;
}

read_fails : (Fails : Told → List ℕ → Type 0) (bytes : List ℕ) (format : ℕ) (day : List ℕ) (cs : List CampaignRow) (imps : List ImpRow) (left : List ℕ) (n : ℕ) (line behind : List ℕ) (k : ℕ) → AreRead bytes format day cs imps left n → left ≡ line ++ 10 ∷ behind → IsOneLine line → (k ≡ n) × ((day : List ℕ) → Fails (rows format day cs imps) line) → FailsAt Follows nothing IsWhole Fails bytes k
read_fails Fails bytes format day cs imps left n line behind k r cut one f = record {
  lines = rows_lines format day cs imps;
  told = rows format day cs imps;
  line = line;
  rest = behind;
  document = cut_there bytes left line behind (rows_lines format day cs imps) r.document cut;
  number = f.0 ∙ r.number;
  one_line = one;
  before = rows_lead format day cs imps r.opened r.rows_are;
  open_ended = λ w. w;
  fails = f.1 day;
}

pub read_fault : (bytes : List ℕ) (format : ℕ) (day : List ℕ) (cs : List CampaignRow) (imps : List ImpRow) (left : List ℕ) (n : ℕ) (line behind : List ℕ) (cs' : List CampaignRow) (imps' : List ImpRow) (fault : RecordFault) → AreRead bytes format day cs imps left n → left ≡ line ++ 10 ∷ behind → IsOneLine line → IsTaken format cs imps cs' imps' line n (Err fault) → IsRefusal bytes fault
read_fault bytes format day cs imps left n line behind cs' imps' (Line k) r cut one f = read_fails (λ told l. IsOfForm told l → ⊥) bytes format day cs imps left n line behind k r cut one f
read_fault bytes format day cs imps left n line behind cs' imps' (Order k) r cut one f = read_fails BreaksOrder bytes format day cs imps left n line behind k r cut one f
read_fault bytes format day cs imps left n line behind cs' imps' (Campaign k) r cut one f = read_fails BreaksPlaces bytes format day cs imps left n line behind k r cut one f
read_fault bytes format day cs imps left n line behind cs' imps' Cut r cut one f = absurd f
read_fault bytes format day cs imps left n line behind cs' imps' OutOfMemory r cut one f = tt

-- ---- the first two lines

pub first_cut : (bytes : List ℕ) → IsOneLine bytes → IsCut Follows nothing IsWhole bytes
first_cut bytes one = record { lines = []; told = nothing; piece = bytes; document = refl; no_newline = one; before = no_line nothing; open_ended = λ w. w }

pub first_fails : (bytes line rest : List ℕ) → bytes ≡ line ++ 10 ∷ rest → IsOneLine line → ((format : ℕ) → IsTrue (eqb format 1 || eqb format 2) → line ≡ head_line format → ⊥) → IsRefusal bytes (Line 1)
first_fails bytes line rest cut one other = record {
  lines = [];
  told = nothing;
  line = line;
  rest = rest;
  document = cut ∙ sym (append_assoc line (10 ∷ []) rest);
  number = refl;
  one_line = one;
  before = no_line nothing;
  open_ended = λ w. w;
  fails = λ form. other form.0 form.1 form.2;
}

pub first_read : (bytes line rest : List ℕ) (format : ℕ) → bytes ≡ line ++ 10 ∷ rest → line ≡ head_line format → bytes ≡ ended (head_line format) ++ rest
first_read bytes line rest format cut is = cut ∙ ap (λ (l : List ℕ). l ++ 10 ∷ rest) is ∙ sym (append_assoc (head_line format) (10 ∷ []) rest)

head_leads : (format : ℕ) → IsTrue (eqb format 1 || eqb format 2) → Leads Follows nothing (head_line format ∷ []) (a_head format)
head_leads format known = line_then nothing (a_head format) (a_head format) (head_line format) [] (head_first format known) (no_line (a_head format))

whole_head : (bytes rest : List ℕ) (format : ℕ) → bytes ≡ ended (head_line format) ++ rest → bytes ≡ flat_map ended (head_line format ∷ []) ++ rest
whole_head bytes rest format e = e ∙ ap (λ (t : List ℕ). t ++ rest) (sym (append-nil (ended (head_line format))))

pub second_cut : (bytes rest : List ℕ) (format : ℕ) → IsTrue (eqb format 1 || eqb format 2) → bytes ≡ ended (head_line format) ++ rest → IsOneLine rest → IsRefusal bytes Cut
second_cut bytes rest format known e one = record { lines = head_line format ∷ []; told = a_head format; piece = rest; document = whole_head bytes rest format e; no_newline = one; before = head_leads format known; open_ended = λ w. w }

pub second_fails : (bytes rest : List ℕ) (format : ℕ) (line behind : List ℕ) → IsTrue (eqb format 1 || eqb format 2) → bytes ≡ ended (head_line format) ++ rest → rest ≡ line ++ 10 ∷ behind → IsOneLine line → ((day : List ℕ) → IsTrue (is_day day) → line ≡ day_line day → ⊥) → IsRefusal bytes (Line 2)
second_fails bytes rest format line behind known e cut one other = record {
  lines = head_line format ∷ [];
  told = a_head format;
  line = line;
  rest = behind;
  document = cut_there bytes rest line behind (head_line format ∷ []) (whole_head bytes rest format e) cut;
  number = refl;
  one_line = one;
  before = head_leads format known;
  open_ended = λ w. w;
  fails = λ form. other form.0 form.1 form.2;
}

pub rows_begin : (bytes rest : List ℕ) (format : ℕ) (day : List ℕ) (cs : List CampaignRow) (imps : List ImpRow) → IsOpened format day → bytes ≡ flat_map ended (head_line format ∷ (day_line day ∷ [])) ++ rest → cs ≡ [] → imps ≡ [] → AreRead bytes format day cs imps rest 3
rows_begin bytes rest format day cs imps o e no_cs no_imps =
    let len = ap (λ (t : List ℕ). length t) e ∙ length-append (flat_map ended (head_line format ∷ (day_line day ∷ []))) rest in
    let made : AreRead bytes format day [] [] rest 3 = record {
      opened = o;
      rows_are = record { few_campaigns = omega arith; each_campaign = All-nil (IsCampaign format); distinct = λ i j d below within. absurd (omega arith); few_imps = lit< tt; each_imp = All-nil (IsImp format 0); behind_campaign = λ more. absurd (omega arith) };
      document = e;
      number = refl;
      few = omega (arith, len);
    } in
    subst (λ (xs : List CampaignRow). AreRead bytes format day xs imps rest 3) (sym no_cs) (subst (λ (ys : List ImpRow). AreRead bytes format day [] ys rest 3) (sym no_imps) made)

-- ---- the whole record

pub sound_of : (bytes : List ℕ) (format : ℕ) (day : List ℕ) (cs : List CampaignRow) (imps : List ImpRow) (rest : List ℕ) → IsBehindLast bytes format day cs imps rest → IsSound format day cs imps
sound_of bytes format day cs imps rest b =
    let are = b.rows_are in
    record { known = b.opened.known; dated = b.opened.dated; some_campaign = b.some_campaign; few_campaigns = are.few_campaigns; each_campaign = are.each_campaign; distinct = are.distinct; few_imps = are.few_imps; each_imp = are.each_imp }

pub found_at : (bytes : List ℕ) (r : Record) (rest : List ℕ) (len : ℕ) (cs : List CampaignRow) (imps : List ImpRow) → IsBehindLast bytes r.format r.day cs imps rest → r.campaigns ≡ cs → r.imps ≡ imps → len ≡ length bytes - length rest → IsFound bytes (r, len)
found_at bytes r rest len cs imps b cs_are imps_are e =
    let first = subst (λ (xs : List CampaignRow). IsBehindLast bytes r.format r.day xs imps rest) (sym cs_are) b in
    let mine : IsBehindLast bytes r.format r.day r.campaigns r.imps rest = subst (λ (ys : List ImpRow). IsBehindLast bytes r.format r.day r.campaigns ys rest) (sym imps_are) first in
    let whole : bytes ≡ document r ++ rest = mine.document in
    let both = ap (λ (t : List ℕ). length t) whole ∙ length-append (document r) rest in
    let is : len ≡ length (document r) = omega (arith, both, e) in
    let tail : drop len bytes ≡ rest = ap (drop len) whole ∙ drop_at (document r) rest len (sym is) in
    record { front = whole ∙ ap (λ (t : List ℕ). document r ++ t) (sym tail); len = is; sound = sound_of bytes r.format r.day r.campaigns r.imps rest mine }

whole_parts : (f : ℕ) (d : List ℕ) (cs : List CampaignRow) (imps : List ImpRow) (f2 : ℕ) (d2 : List ℕ) (cs2 : List CampaignRow) (imps2 : List ImpRow) → all f d cs imps ≡ all f2 d2 cs2 imps2 → (f ≡ f2) × (d ≡ d2) × (cs ≡ cs2) × (imps ≡ imps2)
whole_parts f d cs imps f2 d2 cs2 imps2 h = (cc, cc, cc, cc)

same_document : (r s : Record) → AreSame r s → document r ≡ document s
same_document r s h =
    ap (λ (f : ℕ). flat_map ended (rows_lines f r.day r.campaigns r.imps ++ end_line (length r.imps) ∷ [])) h.format
    ∙ ap (λ (d : List ℕ). flat_map ended (rows_lines s.format d r.campaigns r.imps ++ end_line (length r.imps) ∷ [])) h.day
    ∙ ap (λ (cs : List CampaignRow). flat_map ended (rows_lines s.format s.day cs r.imps ++ end_line (length r.imps) ∷ [])) h.campaigns
    ∙ ap (λ (imps : List ImpRow). flat_map ended (rows_lines s.format s.day s.campaigns imps ++ end_line (length imps) ∷ [])) h.imps

-- two records whose documents stand at the front of the same bytes
pub same_records : (r s : Record) (x y : List ℕ) → document r ++ x ≡ document s ++ y → AreSame r s × (x ≡ y)
same_records r s x y e =
    let one = one_document Follows IsWhole is_end nothing (all r.format r.day r.campaigns r.imps) (all s.format s.day s.campaigns s.imps) (lines r) (lines s) x y tt tt (record_leads r r.sound) (record_leads s s.sound) e in
    let parts = whole_parts r.format r.day r.campaigns r.imps s.format s.day s.campaigns s.imps one.0 in
    (record { format = parts.0; day = parts.1; campaigns = parts.2; imps = parts.3 }, one.1)

only_found : (bytes : List ℕ) (p : Record × ℕ) (r : Record) (rest : List ℕ) → IsFound bytes p → bytes ≡ document r ++ rest → AreSame p.0 r × (p.1 ≡ length (document r))
only_found bytes p r rest is e =
    let same : AreSame p.0 r = (same_records p.0 r (drop p.1 bytes) rest (sym is.front ∙ e)).0 in
    (same, is.len ∙ ap (λ (t : List ℕ). length t) (same_document p.0 r same))

pub only_refused : (bytes : List ℕ) (r : Record) (rest : List ℕ) (fault : RecordFault) → IsRefusal bytes fault → IsSound r.format r.day r.campaigns r.imps → bytes ≡ document r ++ rest → fault ≡ OutOfMemory
only_refused bytes r rest (Line n) f sound e =
    absurd (no_fault Follows IsWhole is_end (λ told l. IsOfForm told l → ⊥) (λ told next line fails follows. follows_of_form told next line fails follows) nothing (all r.format r.day r.campaigns r.imps) (lines r) rest bytes n tt (record_leads r sound) e f)
only_refused bytes r rest (Order n) f sound e =
    absurd (no_fault Follows IsWhole is_end BreaksOrder (λ told next line fails follows. order_not told next line fails follows) nothing (all r.format r.day r.campaigns r.imps) (lines r) rest bytes n tt (record_leads r sound) e f)
only_refused bytes r rest (Campaign n) f sound e =
    absurd (no_fault Follows IsWhole is_end BreaksPlaces (λ told next line fails follows. places_not told next line fails follows) nothing (all r.format r.day r.campaigns r.imps) (lines r) rest bytes n tt (record_leads r sound) e f)
only_refused bytes r rest Cut f sound e =
    absurd (no_cut Follows IsWhole is_end nothing (all r.format r.day r.campaigns r.imps) (lines r) rest bytes tt (record_leads r sound) e f)
only_refused bytes r rest OutOfMemory f sound e = refl

pub only_given : (bytes : List ℕ) (x : Result (Record × ℕ) RecordFault) → IfOk x (λ p. IsFound bytes p) → IfErr x (IsRefusal bytes) → (r : Record) (rest : List ℕ) → bytes ≡ document r ++ rest → GivesRecord r x
only_given bytes (Ok p) is fault r rest e = only_found bytes p r rest is e
only_given bytes (Err fault) is f r rest e = only_refused bytes r rest fault f r.sound e

-- ---- days

ascii_at : (xs : List ℕ) → list_all (λ b. ltb b 128) xs ≡ true → (i : ℕ) → get_or xs i 0 < 128
ascii_at [] h i = lit< tt
ascii_at (x ∷ xs) h zero = ltb-true x 128 (and_parts (ltb x 128) (list_all (λ b. ltb b 128) xs) h).0
ascii_at (x ∷ xs) h (suc i) = ascii_at xs (and_parts (ltb x 128) (list_all (λ b. ltb b 128) xs) h).1 i

shape_ascii : IsAscii (codes "0000-00-00")
shape_ascii i = ascii_at (codes "0000-00-00") refl i

digit_not : (b : ℕ) → 128 ≤ b → is_digit b ≡ false
digit_not b high = let top : leb b 57 ≡ false = lt-leb b 57 (omega arith) in rw top (and_no (leb 48 b))

ascii_byte : (b : ℕ) → zeroed b < 128 → b < 128
ascii_byte b h =
    elim (cases_lt b 128) [
      | inl low ↦ low
      | inr high ↦
          let plain : is_digit b ≡ false = digit_not b high in
          let same : zeroed b ≡ b = rw plain refl in
          absurd (omega (arith, same, h))
    ]

zeroed_ascii : (day : List ℕ) → IsAscii (map zeroed day) → IsAscii day
zeroed_ascii [] h i = h i
zeroed_ascii (b ∷ day) h zero = ascii_byte b (h 0)
zeroed_ascii (b ∷ day) h (suc i) = zeroed_ascii day (λ k. h (suc k)) i

pub day_utf8 : (day : List ℕ) → is_day day ≡ true → IsUtf8 day
day_utf8 day h =
    let shape : map zeroed day ≡ codes "0000-00-00" = (bytes_eq-Decides (map zeroed day) (codes "0000-00-00")).0 h in
    IsUtf8-from_ascii day (zeroed_ascii day (subst IsAscii (sym shape) shape_ascii))

pub day_read : (line rest day : List ℕ) → behind_word (codes "day ") line ≡ Some rest → line ≡ day_line day → rest ≡ day
day_read line rest day found is =
    same_Some rest day (sym found ∙ ap (behind_word (codes "day ")) is ∙ word_again (codes "day ") day)

pub no_day_behind : (line : List ℕ) → behind_word (codes "day ") line ≡ None → (day : List ℕ) → line ≡ day_line day → ⊥
no_day_behind line none day is = none-some day (sym none ∙ ap (behind_word (codes "day ")) is ∙ word_again (codes "day ") day)

pub fronts : (bytes : List ℕ) (x : Result (Record × ℕ) RecordFault) → IfOk x (λ p. IsFound bytes p) → IfOk x (λ p. bytes ≡ document p.0 ++ drop p.1 bytes)
fronts bytes (Ok p) h = h.front
fronts bytes (Err fault) h = tt

-- ---- formats

pub head_one : head_line 1 ≡ codes "adx-record 1"
head_one = ap (λ (d : List ℕ). codes "adx-record" ++ 32 ∷ d) (decimal_digit 1 (lit< tt))

pub head_two : head_line 2 ≡ codes "adx-record 2"
head_two = ap (λ (d : List ℕ). codes "adx-record" ++ 32 ∷ d) (decimal_digit 2 (lit< tt))

pub no_format : (line : List ℕ) → (line ≡ codes "adx-record 1" → ⊥) → (line ≡ codes "adx-record 2" → ⊥) → (format : ℕ) → IsTrue (eqb format 1 || eqb format 2) → line ≡ head_line format → ⊥
no_format line first second format known is =
    elim (or_cases (eqb format 1) (eqb format 2) known) [
      | inl one ↦ first (is ∙ ap head_line (eqb-true format 1 one) ∙ head_one)
      | inr two ↦ second (is ∙ ap head_line (eqb-true format 2 two) ∙ head_two)
    ]
