-- The lines of a day's record in both formats: a value has one spelling. This project's own.
use Rattle.std.specs.Prelude.{ℕ, List, [], ◌∷◌, ◌++◌, length, map, codes, Option, Some, None}
use Rattle.std.specs.List.{flat_map, enumerate_from}
use Rattle.std.specs.Fmt.{decimal}
use Rattle.adx_units.specs.JsonTexts.{text_spelling}
use Rattle.formats.specs.Parts.{ended, part}
use Rattle.bid_record.specs.declared.record.Record.{Record}
use Rattle.bid_record.specs.declared.rows.CampaignRow.{CampaignRow}
use Rattle.bid_record.specs.declared.rows.Charge.{Charge}
use Rattle.bid_record.specs.declared.rows.ImpName.{ImpName}
use Rattle.bid_record.specs.declared.rows.ImpRow.{ImpRow}
use Rattle.bid_record.specs.declared.rows.End.{End}
use Rattle.bid_record.specs.declared.rows.End.TheVariants.{Live, Billed, Lost, Expired}

-- a number that only format 2 has
abbrev pub changes_part : Option ℕ → List ℕ
changes_part None = []
changes_part (Some n) = part (decimal n)

-- a name that only format 2 has
abbrev pub name_part : Option ImpName → List ℕ
name_part None = []
name_part (Some name) = part (text_spelling name.auction) ++ part (text_spelling name.imp)

-- a place, or a dash where there is none
abbrev pub place_text : Option ℕ → List ℕ
place_text None = codes "-"
place_text (Some place) = decimal place

-- the word of an end, a dash where there is none
abbrev pub end_text : Option End → List ℕ
end_text None = codes "-"
end_text (Some Live) = codes "live"
end_text (Some Billed) = codes "billed"
end_text (Some Lost) = codes "lost"
end_text (Some Expired) = codes "expired"

-- C:CHARGE behind a space
abbrev pub offer_part : Charge → List ℕ
offer_part o = part (decimal o.campaign ++ 58 ∷ decimal o.charge.0)

-- the first line of a record, with its format
abbrev pub head_line : ℕ → List ℕ
head_line format = codes "adx-record" ++ part (decimal format)

-- the line of its day
abbrev pub day_line : List ℕ → List ℕ
day_line day = codes "day" ++ part day

-- campaign I BUDGET CHANGES SEAT CID
abbrev pub campaign_line : ℕ × CampaignRow → List ℕ
campaign_line (i, c) =
    codes "campaign" ++ (part (decimal i) ++ (part (decimal c.budget.0) ++ (changes_part c.changes ++ (part (text_spelling c.seat) ++ part (text_spelling c.cid)))))

-- imp J AUCTION IMP CHOSEN END OFFER ..
abbrev pub imp_line : ℕ × ImpRow → List ℕ
imp_line (j, row) =
    codes "imp" ++ (part (decimal j) ++ (name_part row.name ++ (part (place_text row.chosen) ++ (part (end_text row.end) ++ flat_map offer_part row.offers))))

-- its last line, with the number of impressions
abbrev pub end_line : ℕ → List ℕ
end_line n = codes "end" ++ part (decimal n)

-- the lines of a record but the last
abbrev pub rows_lines : ℕ → List ℕ → List CampaignRow → List ImpRow → List (List ℕ)
rows_lines format day campaigns imps =
    head_line format ∷ (day_line day ∷ (map campaign_line (enumerate_from 0 campaigns) ++ map imp_line (enumerate_from 0 imps)))

-- the lines of a record, in their order
abbrev pub lines : Record → List (List ℕ)
lines r = rows_lines r.format r.day r.campaigns r.imps ++ end_line (length r.imps) ∷ []

-- the document of a record
abbrev pub document : Record → List ℕ
document r = flat_map ended (lines r)

-- what stands in it before the impressions
abbrev pub record_front : Record → List ℕ
record_front r = ended (head_line r.format) ++ ended (day_line r.day) ++ flat_map ended (map campaign_line (enumerate_from 0 r.campaigns))

-- the lines of its impressions, and its last one
abbrev pub record_rest : Record → List ℕ
record_rest r = flat_map ended (map imp_line (enumerate_from 0 r.imps)) ++ ended (end_line (length r.imps))
