-- What the lines of a record tell is determined by its bytes.
use Rattle.std.proofs.Common.{◌≡◌, ◌≢◌, ℕ, ◌+◌, ◌^◌, ◌<◌, ◌≤◌, inl, inr, List, [], ◌∷◌, ◌++◌, length, map, codes, Bool, true, false, not, ◌||◌, eqb, IsTrue, Option, Some, None, option_map, refl, sym, ap, ◌∙◌, subst, arith, lit<, lit≤}
use Rattle.std.specs.Option.{option_or}
use Rattle.std.specs.List.{list_all, flat_map}
use Rattle.std.specs.Fmt.{decimal}
use Rattle.std.proofs.lemmas.Bool.{and_parts, and_from, or_cases, eqb-true, le-ltb, ne_eqb, agree_below_at, cases_lt, cases_eq, false≢true}
use Rattle.std.proofs.lemmas.Option.{same_Some}
use Rattle.std.proofs.lemmas.Slice.Eq.{bytes_eq-Decides}
use Rattle.std.proofs.lemmas.List.Concat.{flat_map-cons}
use Rattle.std.proofs.lemmas.List.Elements.{All-nil}
use Rattle.adx_units.specs.JsonTexts.{escape, text_spelling}
use Rattle.formats.specs.Parts.{part, behind_word, IsOneLine}
use Rattle.formats.proofs.Following.{IsEnd}
use Rattle.formats.proofs.PartLaws.{word_again}
use Rattle.formats.proofs.OneLines.{is_fine, one_line, one_line_join, one_line_after, one_line_part, one_line_decimal}
use Rattle.bid_record.specs.declared.rows.CampaignRow.{CampaignRow}
use Rattle.bid_record.specs.declared.rows.Charge.{Charge}
use Rattle.bid_record.specs.declared.rows.ImpName.{ImpName}
use Rattle.bid_record.specs.declared.rows.ImpRow.{ImpRow}
use Rattle.bid_record.specs.declared.rows.End.{End}
use Rattle.bid_record.specs.declared.rows.End.TheVariants.{Live, Billed, Lost, Expired}
use Rattle.bid_record.specs.Lines.{changes_part, name_part, place_text, end_text, offer_part, head_line, day_line, campaign_line, imp_line, end_line}
use Rattle.formats.specs.Days.{zeroed, is_day}
use Rattle.bid_record.specs.Records.{IsCampaign}
use Rattle.bid_record.specs.Reading.{number_part_at, campaign_at, imp_at, end_line_at}
use Rattle.bid_record.specs.Refusals.{Told, nothing, a_head, rows, all, HasPlaces, Follows, head_first, day_second, campaign_next, imp_next, end_last, IsWhole, IsOfForm, BreaksOrder, BreaksPlaces}
use Rattle.bid_record.proofs.CampaignLines.{number_part_again, campaign_again, end_line_again, wide32}
use Rattle.bid_record.proofs.ImpLines.{IsLoose, imp_again}
use Rattle.bid_record.proofs.Texts.{IsOther, plain_spelling}
use Rattle.bid_record.proofs.Taken.{one_reading, loose_of}

-- ---- no line has a newline within

escape_fine : ℕ → Bool
escape_fine b = list_all is_fine (escape b)

escape_one_line : (b : ℕ) → IsOneLine (escape b)
unfolding escape_fine
escape_one_line b =
    elim (cases_lt b 128) [
      | inl low ↦ one_line (escape b) (agree_below_at escape_fine (λ _. true) 128 b refl low)
      | inr high ↦
          let o : IsOther b = record { quote = ne_eqb b 34 (λ e. absurd (omega arith)); backslash = ne_eqb b 92 (λ e. absurd (omega arith)); e8 = ne_eqb b 8 (λ e. absurd (omega arith)); e9 = ne_eqb b 9 (λ e. absurd (omega arith)); e10 = ne_eqb b 10 (λ e. absurd (omega arith)); e12 = ne_eqb b 12 (λ e. absurd (omega arith)); e13 = ne_eqb b 13 (λ e. absurd (omega arith)) } in
          subst IsOneLine (sym (plain_spelling b o (le-ltb b 32 (omega arith)))) (one_line_after b [] (λ e. absurd (omega arith)) (All-nil (λ n. n ≢ 10)))
    ]

flat_one_line : {X : Type 0} (f : X → List ℕ) → ((x : X) → IsOneLine (f x)) → (xs : List X) → IsOneLine (flat_map f xs)
flat_one_line f h [] = All-nil (λ n. n ≢ 10)
flat_one_line f h (x ∷ xs) = subst IsOneLine (sym (flat_map-cons f x xs)) (one_line_join (f x) (flat_map f xs) (h x) (flat_one_line f h xs))

text_one_line : (t : List ℕ) → IsOneLine (text_spelling t)
text_one_line t = one_line_after 34 (flat_map escape t ++ 34 ∷ []) (λ e. absurd (omega arith)) (one_line_join (flat_map escape t) (34 ∷ []) (flat_one_line escape escape_one_line t) (one_line (34 ∷ []) refl))

part_text : (t : List ℕ) → IsOneLine (part (text_spelling t))
part_text t = one_line_part (text_spelling t) (text_one_line t)

part_number : (n : ℕ) → IsOneLine (part (decimal n))
part_number n = one_line_part (decimal n) (one_line_decimal n)

changes_one_line : (o : Option ℕ) → IsOneLine (changes_part o)
changes_one_line None = All-nil (λ n. n ≢ 10)
changes_one_line (Some n) = part_number n

name_one_line : (o : Option ImpName) → IsOneLine (name_part o)
name_one_line None = All-nil (λ n. n ≢ 10)
name_one_line (Some name) = one_line_join (part (text_spelling name.auction)) (part (text_spelling name.imp)) (part_text name.auction) (part_text name.imp)

place_one_line : (o : Option ℕ) → IsOneLine (part (place_text o))
place_one_line None = one_line (part (place_text None)) refl
place_one_line (Some n) = part_number n

end_one_line : (o : Option End) → IsOneLine (part (end_text o))
end_one_line None = one_line (part (end_text None)) refl
end_one_line (Some Live) = one_line (part (end_text (Some Live))) refl
end_one_line (Some Billed) = one_line (part (end_text (Some Billed))) refl
end_one_line (Some Lost) = one_line (part (end_text (Some Lost))) refl
end_one_line (Some Expired) = one_line (part (end_text (Some Expired))) refl

offer_one_line : (o : Charge) → IsOneLine (offer_part o)
offer_one_line o = one_line_part (decimal o.campaign ++ 58 ∷ decimal o.charge.0) (one_line_join (decimal o.campaign) (58 ∷ decimal o.charge.0) (one_line_decimal o.campaign) (one_line_after 58 (decimal o.charge.0) (λ e. absurd (omega arith)) (one_line_decimal o.charge.0)))

campaign_one_line : (i : ℕ) (c : CampaignRow) → IsOneLine (campaign_line (i, c))
campaign_one_line i c =
    let e5 : List ℕ = part (text_spelling c.seat) ++ part (text_spelling c.cid) in
    let e4 : List ℕ = changes_part c.changes ++ e5 in
    let e3 : List ℕ = part (decimal c.budget.0) ++ e4 in
    one_line_join (codes "campaign") (part (decimal i) ++ e3) (one_line (codes "campaign") refl)
    (one_line_join (part (decimal i)) e3 (part_number i)
    (one_line_join (part (decimal c.budget.0)) e4 (part_number c.budget.0)
    (one_line_join (changes_part c.changes) e5 (changes_one_line c.changes)
    (one_line_join (part (text_spelling c.seat)) (part (text_spelling c.cid)) (part_text c.seat) (part_text c.cid)))))

imp_one_line : (j : ℕ) (row : ImpRow) → IsOneLine (imp_line (j, row))
imp_one_line j row =
    let e5 : List ℕ = part (end_text row.end) ++ flat_map offer_part row.offers in
    let e4 : List ℕ = part (place_text row.chosen) ++ e5 in
    let e3 : List ℕ = name_part row.name ++ e4 in
    one_line_join (codes "imp") (part (decimal j) ++ e3) (one_line (codes "imp") refl)
    (one_line_join (part (decimal j)) e3 (part_number j)
    (one_line_join (name_part row.name) e4 (name_one_line row.name)
    (one_line_join (part (place_text row.chosen)) e5 (place_one_line row.chosen)
    (one_line_join (part (end_text row.end)) (flat_map offer_part row.offers) (end_one_line row.end) (flat_one_line offer_part offer_one_line row.offers)))))

fine_of_zeroed : (b : ℕ) → is_fine (zeroed b) ≡ true → is_fine b ≡ true
fine_of_zeroed b h =
    elim (cases_eq b 10) [
      | inl e ↦ absurd (false≢true (sym (ap (λ (n : ℕ). is_fine (zeroed n)) e) ∙ h))
      | inr apart ↦ ap not (ne_eqb b 10 apart)
    ]

zeroed_fine : (day : List ℕ) → list_all is_fine (map zeroed day) ≡ true → list_all is_fine day ≡ true
zeroed_fine [] h = refl
zeroed_fine (b ∷ day) h =
    let both = and_parts (is_fine (zeroed b)) (list_all is_fine (map zeroed day)) h in
    and_from (is_fine b) (list_all is_fine day) (fine_of_zeroed b both.0) (zeroed_fine day both.1)

day_one_line : (day : List ℕ) → is_day day ≡ true → IsOneLine day
day_one_line day h =
    let shape : map zeroed day ≡ codes "0000-00-00" = (bytes_eq-Decides (map zeroed day) (codes "0000-00-00")).0 h in
    one_line day (zeroed_fine day (ap (list_all is_fine) shape))

follows_one_line : (told next : Told) (line : List ℕ) → Follows told line next → IsOneLine line
follows_one_line told next line (head_first format known) = one_line_join (codes "adx-record") (part (decimal format)) (one_line (codes "adx-record") refl) (part_number format)
follows_one_line told next line (day_second format day is) = one_line_join (codes "day") (part day) (one_line (codes "day") refl) (one_line_part day (day_one_line day is))
follows_one_line told next line (campaign_next format day cs c h) = campaign_one_line (length cs) c
follows_one_line told next line (imp_next format day cs imps row h p) = imp_one_line (length imps) row
follows_one_line told next line (end_last format day cs imps h) = one_line_join (codes "end") (part (decimal (length imps))) (one_line (codes "end") refl) (part_number (length imps))

-- ---- a line is read in one way

data Kind : Type 0 where
  a_campaign : CampaignRow → Kind
  an_imp : ImpRow → Kind
  an_end : Kind

abbrev campaign_kind : ℕ × CampaignRow → ℕ × Kind
campaign_kind p = (p.0, a_campaign p.1)

abbrev imp_kind : ℕ × ImpRow → ℕ × Kind
imp_kind p = (p.0, an_imp p.1)

abbrev end_kind : ℕ → ℕ × Kind
end_kind n = (n, an_end)

abbrev line_at : ℕ → List ℕ → Option (ℕ × Kind)
line_at format line = option_or (option_map campaign_kind (campaign_at format line)) (option_or (option_map imp_kind (imp_at format line)) (option_map end_kind (end_line_at line)))

no_campaign_in_imp : (format : ℕ) (tail : List ℕ) → campaign_at format (codes "imp" ++ tail) ≡ None
unfolding campaign_at behind_word
no_campaign_in_imp format tail = refl

no_campaign_in_end : (format : ℕ) (tail : List ℕ) → campaign_at format (codes "end" ++ tail) ≡ None
unfolding campaign_at behind_word
no_campaign_in_end format tail = refl

no_imp_in_end : (format : ℕ) (tail : List ℕ) → imp_at format (codes "end" ++ tail) ≡ None
unfolding imp_at behind_word
no_imp_in_end format tail = refl

reads_campaign : (format i : ℕ) (c : CampaignRow) → IsCampaign format c → i < 2 ^ 64 → line_at format (campaign_line (i, c)) ≡ Some (i, a_campaign c)
reads_campaign format i c h n = let read = campaign_again format i c h n in rw read refl

reads_imp : (format j : ℕ) (row : ImpRow) → IsLoose format row → j < 2 ^ 64 → line_at format (imp_line (j, row)) ≡ Some (j, an_imp row)
reads_imp format j row h n =
    let none = no_campaign_in_imp format (part (decimal j) ++ (name_part row.name ++ (part (place_text row.chosen) ++ (part (end_text row.end) ++ flat_map offer_part row.offers)))) in
    let read = imp_again format j row h n in
    rw (none, read) refl

reads_end : (format n : ℕ) → n < 2 ^ 64 → line_at format (end_line n) ≡ Some (n, an_end)
reads_end format n h =
    let none = no_campaign_in_end format (part (decimal n)) in
    let nor = no_imp_in_end format (part (decimal n)) in
    let read = end_line_again n h in
    rw (none, nor, read) refl

abbrev index_of : List CampaignRow → List ImpRow → Kind → ℕ
index_of cs imps (a_campaign c) = length cs
index_of cs imps (an_imp row) = length imps
index_of cs imps an_end = length imps

abbrev with_kind : ℕ → List ℕ → List CampaignRow → List ImpRow → Kind → Told
with_kind format day cs imps (a_campaign c) = rows format day (cs ++ c ∷ []) imps
with_kind format day cs imps (an_imp row) = rows format day cs (imps ++ row ∷ [])
with_kind format day cs imps an_end = all format day cs imps

abbrev PlacesOf : List CampaignRow → Kind → Type 0
PlacesOf cs (a_campaign c) = Unit {0}
PlacesOf cs (an_imp row) = HasPlaces (length cs) row
PlacesOf cs an_end = Unit {0}

record ReadsNext (format : ℕ) (day : List ℕ) (cs : List CampaignRow) (imps : List ImpRow) (line : List ℕ) (next : Told) : Type 0 where
  kind : Kind
  read : line_at format line ≡ Some (index_of cs imps kind, kind)
  next_is : with_kind format day cs imps kind ≡ next
  places : PlacesOf cs kind

few64 : 1024 < 2 ^ 64
few64 = lit< tt

reads_next : (format : ℕ) (day : List ℕ) (cs : List CampaignRow) (imps : List ImpRow) (line : List ℕ) (next : Told) → Follows (rows format day cs imps) line next → ReadsNext format day cs imps line next
reads_next format day cs [] line next (campaign_next f d xs c h) = record { kind = a_campaign c; read = reads_campaign format (length cs) c h.row (omega (arith, h.room, few64)); next_is = refl; places = tt }
reads_next format day cs imps line next (imp_next f d xs ys row h p) = record { kind = an_imp row; read = reads_imp format (length imps) row (loose_of format cs imps row h) (wide32 (length imps) (omega (arith, h.room))); next_is = refl; places = p }
reads_next format day cs imps line next (end_last f d xs ys h) = record { kind = an_end; read = reads_end format (length imps) (wide32 (length imps) h.few_imps); next_is = refl; places = tt }

record ReadsHead (line : List ℕ) (next : Told) : Type 0 where
  format : ℕ
  known : IsTrue (eqb format 1 || eqb format 2)
  is : line ≡ head_line format
  next_is : next ≡ a_head format

from_nothing : (next : Told) (line : List ℕ) → Follows nothing line next → ReadsHead line next
from_nothing next line (head_first format known) = record { format = format; known = known; is = refl; next_is = refl }

record ReadsDay (format : ℕ) (line : List ℕ) (next : Told) : Type 0 where
  day : List ℕ
  dated : IsTrue (is_day day)
  is : line ≡ day_line day
  next_is : next ≡ rows format day [] []

from_head : (format : ℕ) (next : Told) (line : List ℕ) → Follows (a_head format) line next → ReadsDay format line next
from_head format next line (day_second f day is) = record { day = day; dated = is; is = refl; next_is = refl }

known_small : (format : ℕ) → IsTrue (eqb format 1 || eqb format 2) → format < 2 ^ 64
known_small format h =
    let three : 3 ≤ 2 ^ 64 = lit≤ tt in
    elim (or_cases (eqb format 1) (eqb format 2) h) [
      | inl one ↦ let is : format ≡ 1 = eqb-true format 1 one in omega arith
      | inr two ↦ let is : format ≡ 2 = eqb-true format 2 two in omega arith
    ]

head_same : (f g : ℕ) → f < 2 ^ 64 → g < 2 ^ 64 → head_line f ≡ head_line g → f ≡ g
head_same f g hf hg e =
    let tails : part (decimal f) ≡ part (decimal g) = same_Some (part (decimal f)) (part (decimal g)) (sym (word_again (codes "adx-record") (part (decimal f))) ∙ ap (behind_word (codes "adx-record")) e ∙ word_again (codes "adx-record") (part (decimal g))) in
    let one = number_part_again f [] hf tt in
    let two = number_part_again g [] hg tt in
    let both : part (decimal f) ++ [] ≡ part (decimal g) ++ [] = ap (λ (t : List ℕ). t ++ []) tails in
    ap (λ (p : ℕ × List ℕ). p.0) (same_Some (f, []) (g, []) (sym one ∙ ap number_part_at both ∙ two))

none_behind : (format : ℕ) (day : List ℕ) (cs : List CampaignRow) (imps : List ImpRow) (next : Told) (line : List ℕ) → Follows (all format day cs imps) line next → ⊥
none_behind format day cs imps next line f = elim f [ ]

none_more : (told next : Told) (line : List ℕ) → IsWhole told → Follows told line next → ⊥
none_more nothing next line w f = w
none_more (a_head format) next line w f = w
none_more (rows format day cs imps) next line w f = w
none_more (all format day cs imps) next line w f = none_behind format day cs imps next line f

follows_same : (told next other : Told) (line : List ℕ) → Follows told line next → Follows told line other → next ≡ other
follows_same nothing next other line f g =
    let a = from_nothing next line f in
    let b = from_nothing other line g in
    let same = head_same a.format b.format (known_small a.format a.known) (known_small b.format b.known) (sym a.is ∙ b.is) in
    a.next_is ∙ ap a_head same ∙ sym b.next_is
follows_same (a_head format) next other line f g =
    let a = from_head format next line f in
    let b = from_head format other line g in
    let both : day_line a.day ≡ day_line b.day = sym a.is ∙ b.is in
    let same : a.day ≡ b.day = cc in
    a.next_is ∙ ap (λ (d : List ℕ). rows format d [] []) same ∙ sym b.next_is
follows_same (rows format day cs imps) next other line f g =
    let a = reads_next format day cs imps line next f in
    let b = reads_next format day cs imps line other g in
    let same = one_reading (line_at format line) (index_of cs imps a.kind, a.kind) (index_of cs imps b.kind, b.kind) a.read b.read in
    let kinds : a.kind ≡ b.kind = ap (λ (p : ℕ × Kind). p.1) same in
    sym a.next_is ∙ ap (with_kind format day cs imps) kinds ∙ b.next_is
follows_same (all format day cs imps) next other line f g = absurd (none_behind format day cs imps next line f)

pub is_end : IsEnd Follows IsWhole
is_end = record { grammar = record { one_line = follows_one_line; same = follows_same }; last = none_more }

-- ---- a line that follows doesn't fail

next_form : (format : ℕ) (day : List ℕ) (cs : List CampaignRow) (imps : List ImpRow) (line : List ℕ) (next : Told) → Follows (rows format day cs imps) line next → IsOfForm (rows format day cs imps) line
next_form format day cs [] line next (campaign_next f d xs c h) = inl (length cs, record { row = c; is = refl; next = h; number = omega (arith, h.room, few64) })
next_form format day cs imps line next (imp_next f d xs ys row h p) = inr (inl (length imps, row, record { is = refl; next = h; number = wide32 (length imps) (omega (arith, h.room)) }))
next_form format day cs imps line next (end_last f d xs ys h) = inr (inr (length imps, record { is = refl; next = h; number = wide32 (length imps) h.few_imps }))

pub follows_of_form : (told next : Told) (line : List ℕ) → (IsOfForm told line → ⊥) → Follows told line next → ⊥
follows_of_form nothing next line h f = let a = from_nothing next line f in h (a.format, a.known, a.is)
follows_of_form (a_head format) next line h f = let a = from_head format next line f in h (a.day, a.dated, a.is)
follows_of_form (rows format day cs imps) next line h f = h (next_form format day cs imps line next f)
follows_of_form (all format day cs imps) next line h f = none_behind format day cs imps next line f

-- a reading with another index
wrong_index : (format : ℕ) (day : List ℕ) (cs : List CampaignRow) (imps : List ImpRow) (line : List ℕ) (next : Told) (index : ℕ) (kind : Kind) → line_at format line ≡ Some (index, kind) → index ≢ index_of cs imps kind → Follows (rows format day cs imps) line next → ⊥
wrong_index format day cs imps line next index kind read apart f =
    let a = reads_next format day cs imps line next f in
    let same = one_reading (line_at format line) (index, kind) (index_of cs imps a.kind, a.kind) read a.read in
    let kinds : kind ≡ a.kind = ap (λ (p : ℕ × Kind). p.1) same in
    apart (ap (λ (p : ℕ × Kind). p.0) same ∙ ap (index_of cs imps) (sym kinds))

pub order_not : (told next : Told) (line : List ℕ) → BreaksOrder told line → Follows told line next → ⊥
order_not nothing next line h f = h
order_not (a_head format) next line h f = h
order_not (rows format day cs imps) next line (inl x) f =
    wrong_index format day cs imps line next x.0 (a_campaign x.1.row) (ap (line_at format) x.1.is ∙ reads_campaign format x.0 x.1.row x.1.next.row x.1.number) x.2 f
order_not (rows format day cs imps) next line (inr (inl x)) f =
    wrong_index format day cs imps line next x.0 (an_imp x.1) (ap (line_at format) x.2.is ∙ reads_imp format x.0 x.1 (loose_of format cs imps x.1 x.2.next) x.2.number) x.3 f
order_not (rows format day cs imps) next line (inr (inr x)) f =
    wrong_index format day cs imps line next x.0 an_end (ap (line_at format) x.1.is ∙ reads_end format x.0 x.1.number) x.2 f
order_not (all format day cs imps) next line h f = h

places_same : (cs : List CampaignRow) (row : ImpRow) (kind : Kind) → an_imp row ≡ kind → PlacesOf cs kind → HasPlaces (length cs) row
places_same cs row kind e p = subst (PlacesOf cs) (sym e) p

pub places_not : (told next : Told) (line : List ℕ) → BreaksPlaces told line → Follows told line next → ⊥
places_not nothing next line h f = h
places_not (a_head format) next line h f = h
places_not (rows format day cs imps) next line x f =
    let a = reads_next format day cs imps line next f in
    let read = ap (line_at format) x.1.is ∙ reads_imp format (length imps) x.0 (loose_of format cs imps x.0 x.1.next) x.1.number in
    let same = one_reading (line_at format line) (length imps, an_imp x.0) (index_of cs imps a.kind, a.kind) read a.read in
    x.2 (places_same cs x.0 a.kind (ap (λ (p : ℕ × Kind). p.1) same) a.places)
places_not (all format day cs imps) next line h f = h
