-- The fault of bytes that begin with no record is one.
use Rattle.std.proofs.Common.{◌≡◌, ℕ, ◌^◌, ◌<◌, ◌+◌, inl, inr, List, [], ◌∷◌, ◌++◌, get_or, length, refl, sym, ap, ◌∙◌, arith, Option, Some, None}
use Rattle.std.specs.Fmt.{decimal}
use Rattle.std.specs.List.{flat_map}
use Rattle.std.proofs.lemmas.Option.{same_Some}
use Rattle.adx_units.specs.Number.{is_digit}
use Rattle.formats.specs.Parts.{Stops, part}
use Rattle.bid_record.specs.Lines.{campaign_line, end_line, end_text, imp_line, name_part, offer_part, place_text}
use Rattle.bid_record.specs.Reading.{number_part_at}
use Rattle.bid_record.specs.Refusals.{BreaksOrder, BreaksPlaces, Follows, IsOfForm, IsRefusal, IsWhole, Told, a_head, all, nothing, rows}
use Rattle.bid_record.specs.declared.fault.RecordFault.{RecordFault}
use Rattle.bid_record.specs.declared.rows.CampaignRow.{CampaignRow}
use Rattle.bid_record.specs.declared.rows.ImpName.{ImpName}
use Rattle.bid_record.specs.declared.rows.ImpRow.{ImpRow}
use Rattle.bid_record.proofs.CampaignLines.{number_part_again}
use Rattle.bid_record.proofs.Told.{follows_of_form, is_end, order_not, places_not}
use Rattle.command_check.specs.declared.fault.DocumentFault.{DocumentFault}
use Rattle.command_check.proofs.Places.{both_fail, never_cut, one_number}

-- what a record's fault says of the document
abbrev pub RecordRefuses : List ℕ → DocumentFault → Type 0
RecordRefuses bytes DocumentFault.Cut = IsRefusal bytes RecordFault.Cut
RecordRefuses bytes DocumentFault.Long = ⊥
RecordRefuses bytes (DocumentFault.Line n) = IsRefusal bytes (RecordFault.Line n)
RecordRefuses bytes (DocumentFault.Order n) = IsRefusal bytes (RecordFault.Order n)
RecordRefuses bytes (DocumentFault.Campaign n) = IsRefusal bytes (RecordFault.Campaign n)

-- ---- the words and the index of a line

first : List ℕ → ℕ
first bytes = get_or bytes 0 0

campaign_apart : (i j : ℕ) (c : CampaignRow) (row : ImpRow) → campaign_line (i, c) ≡ imp_line (j, row) → ⊥
unfolding first
campaign_apart i j c row e = let same : 99 ≡ 105 = ap first e in omega (arith, same)

end_apart : (n j : ℕ) (row : ImpRow) → end_line n ≡ imp_line (j, row) → ⊥
unfolding first
end_apart n j row e = let same : 101 ≡ 105 = ap first e in omega (arith, same)

-- what stands behind an impression's index
behind_index : ImpRow → List ℕ
behind_index row = name_part row.name ++ (part (place_text row.chosen) ++ (part (end_text row.end) ++ flat_map offer_part row.offers))

stops_at : (o : Option ImpName) (rest : List ℕ) → Stops is_digit (name_part o ++ part rest)
stops_at None rest = refl
stops_at (Some name) rest = refl

index_is : (i : ℕ) (row : ImpRow) → i < 2 ^ 64 → number_part_at (part (decimal i) ++ behind_index row) ≡ Some (i, behind_index row)
unfolding behind_index
index_is i row small = number_part_again i (behind_index row) small (stops_at row.name (place_text row.chosen ++ (part (end_text row.end) ++ flat_map offer_part row.offers)))

imp_rest : List ℕ → List ℕ
imp_rest (a ∷ (b ∷ (c ∷ rest))) = rest
imp_rest _ = []

one_index : (i j : ℕ) (row other : ImpRow) → i < 2 ^ 64 → j < 2 ^ 64 → imp_line (i, row) ≡ imp_line (j, other) → i ≡ j
unfolding imp_rest behind_index
one_index i j row other small few e =
    let tails : part (decimal i) ++ behind_index row ≡ part (decimal j) ++ behind_index other = ap imp_rest e in
    ap (λ (p : ℕ × List ℕ). p.0) (same_Some (i, behind_index row) (j, behind_index other) (sym (index_is i row small) ∙ ap number_part_at tails ∙ index_is j other few))

-- ---- a line that fails fails in one way

form_of_order : (told : Told) (line : List ℕ) → BreaksOrder told line → IsOfForm told line
form_of_order nothing line h = absurd h
form_of_order (a_head format) line h = absurd h
form_of_order (rows format day cs imps) line (inl x) = inl (x.0, x.1)
form_of_order (rows format day cs imps) line (inr (inl x)) = inr (inl (x.0, x.1, x.2))
form_of_order (rows format day cs imps) line (inr (inr x)) = inr (inr (x.0, x.1))
form_of_order (all format day cs imps) line h = absurd h

form_of_places : (told : Told) (line : List ℕ) → BreaksPlaces told line → IsOfForm told line
form_of_places nothing line h = absurd h
form_of_places (a_head format) line h = absurd h
form_of_places (rows format day cs imps) line x = inr (inl (length imps, x.0, x.1))
form_of_places (all format day cs imps) line h = absurd h

order_or_places : (told : Told) (line : List ℕ) → BreaksOrder told line → BreaksPlaces told line → ⊥
order_or_places nothing line h p = h
order_or_places (a_head format) line h p = h
order_or_places (rows format day cs imps) line (inl x) p = campaign_apart x.0 (length imps) x.1.row p.0 (sym x.1.is ∙ p.1.is)
order_or_places (rows format day cs imps) line (inr (inl x)) p = x.3 (one_index x.0 (length imps) x.1 p.0 x.2.number p.1.number (sym x.2.is ∙ p.1.is))
order_or_places (rows format day cs imps) line (inr (inr x)) p = end_apart x.0 (length imps) p.0 (sym x.1.is ∙ p.1.is)
order_or_places (all format day cs imps) line h p = h

-- ---- one fault

abbrev NoForm : Told → List ℕ → Type 0
NoForm told line = IsOfForm told line → ⊥

form_not : (told next : Told) (line : List ℕ) → NoForm told line → Follows told line next → ⊥
form_not told next line fails follows = follows_of_form told next line fails follows

line_order : (bytes : List ℕ) (n m : ℕ) → IsRefusal bytes (RecordFault.Line n) → IsRefusal bytes (RecordFault.Order m) → ⊥
line_order bytes n m f h =
    let both = both_fail Follows is_end.grammar nothing IsWhole NoForm BreaksOrder form_not order_not bytes n m f h in
    both.2 (form_of_order both.0 both.1 both.3)

line_campaign : (bytes : List ℕ) (n m : ℕ) → IsRefusal bytes (RecordFault.Line n) → IsRefusal bytes (RecordFault.Campaign m) → ⊥
line_campaign bytes n m f h =
    let both = both_fail Follows is_end.grammar nothing IsWhole NoForm BreaksPlaces form_not places_not bytes n m f h in
    both.2 (form_of_places both.0 both.1 both.3)

order_campaign : (bytes : List ℕ) (n m : ℕ) → IsRefusal bytes (RecordFault.Order n) → IsRefusal bytes (RecordFault.Campaign m) → ⊥
order_campaign bytes n m f h =
    let both = both_fail Follows is_end.grammar nothing IsWhole BreaksOrder BreaksPlaces order_not places_not bytes n m f h in
    order_or_places both.0 both.1 both.2 both.3

pub one_record_fault : (bytes : List ℕ) (f h : DocumentFault) → RecordRefuses bytes f → RecordRefuses bytes h → f ≡ h
one_record_fault bytes DocumentFault.Long h a b = absurd a
one_record_fault bytes DocumentFault.Cut DocumentFault.Cut a b = refl
one_record_fault bytes DocumentFault.Cut DocumentFault.Long a b = absurd b
one_record_fault bytes DocumentFault.Cut (DocumentFault.Line m) a b = absurd (never_cut Follows is_end.grammar nothing IsWhole NoForm NoForm form_not form_not bytes m b a)
one_record_fault bytes DocumentFault.Cut (DocumentFault.Order m) a b = absurd (never_cut Follows is_end.grammar nothing IsWhole BreaksOrder NoForm order_not form_not bytes m b a)
one_record_fault bytes DocumentFault.Cut (DocumentFault.Campaign m) a b = absurd (never_cut Follows is_end.grammar nothing IsWhole BreaksPlaces NoForm places_not form_not bytes m b a)
one_record_fault bytes (DocumentFault.Line n) DocumentFault.Cut a b = absurd (never_cut Follows is_end.grammar nothing IsWhole NoForm NoForm form_not form_not bytes n a b)
one_record_fault bytes (DocumentFault.Line n) DocumentFault.Long a b = absurd b
one_record_fault bytes (DocumentFault.Line n) (DocumentFault.Line m) a b = ap (λ (k : ℕ). DocumentFault.Line k) (one_number Follows is_end.grammar nothing IsWhole NoForm NoForm form_not form_not bytes n m a b)
one_record_fault bytes (DocumentFault.Line n) (DocumentFault.Order m) a b = absurd (line_order bytes n m a b)
one_record_fault bytes (DocumentFault.Line n) (DocumentFault.Campaign m) a b = absurd (line_campaign bytes n m a b)
one_record_fault bytes (DocumentFault.Order n) DocumentFault.Cut a b = absurd (never_cut Follows is_end.grammar nothing IsWhole BreaksOrder NoForm order_not form_not bytes n a b)
one_record_fault bytes (DocumentFault.Order n) DocumentFault.Long a b = absurd b
one_record_fault bytes (DocumentFault.Order n) (DocumentFault.Line m) a b = absurd (line_order bytes m n b a)
one_record_fault bytes (DocumentFault.Order n) (DocumentFault.Order m) a b =
    ap (λ (k : ℕ). DocumentFault.Order k) (one_number Follows is_end.grammar nothing IsWhole BreaksOrder BreaksOrder order_not order_not bytes n m a b)
one_record_fault bytes (DocumentFault.Order n) (DocumentFault.Campaign m) a b = absurd (order_campaign bytes n m a b)
one_record_fault bytes (DocumentFault.Campaign n) DocumentFault.Cut a b = absurd (never_cut Follows is_end.grammar nothing IsWhole BreaksPlaces NoForm places_not form_not bytes n a b)
one_record_fault bytes (DocumentFault.Campaign n) DocumentFault.Long a b = absurd b
one_record_fault bytes (DocumentFault.Campaign n) (DocumentFault.Line m) a b = absurd (line_campaign bytes m n b a)
one_record_fault bytes (DocumentFault.Campaign n) (DocumentFault.Order m) a b = absurd (order_campaign bytes m n b a)
one_record_fault bytes (DocumentFault.Campaign n) (DocumentFault.Campaign m) a b =
    ap (λ (k : ℕ). DocumentFault.Campaign k) (one_number Follows is_end.grammar nothing IsWhole BreaksPlaces BreaksPlaces places_not places_not bytes n m a b)
