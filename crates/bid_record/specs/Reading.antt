-- The lines of a record as they are read; only private clauses cite it.
use Rattle.std.specs.Prelude.{ℕ, zero, suc, ◌^◌, List, [], ◌∷◌, length, codes, Bool, true, Option, Some, None, ◌==◌, ◌&&◌, nat_le, nat_lt, if◌then◌else◌, option_map}
use Rattle.std.specs.Option.{option_or}
use Rattle.std.specs.List.{list_all}
use Rattle.adx_units.specs.Money.{units}
use Rattle.formats.specs.Parts.{◌>>=◌, behind_word, behind_byte, none_left, number_at}
use Rattle.bid_record.specs.declared.rows.CampaignRow.{CampaignRow}
use Rattle.bid_record.specs.declared.rows.Charge.{Charge}
use Rattle.bid_record.specs.declared.rows.ImpName.{ImpName}
use Rattle.bid_record.specs.declared.rows.ImpRow.{ImpRow}
use Rattle.bid_record.specs.declared.rows.End.{End}
use Rattle.bid_record.specs.declared.rows.End.TheVariants.{Live, Billed, Lost, Expired}
use Rattle.bid_record.specs.Texts.{name_at}

-- a number behind a space
unfoldable pub number_part_at : List ℕ → Option (ℕ × List ℕ)
number_part_at bytes = do
  a ← behind_byte 32 bytes
  number_at (2 ^ 64) a

-- a number from 1 to a limit behind a byte
unfoldable pub amount_at : ℕ → ℕ → List ℕ → Option (ℕ × List ℕ)
amount_at mark limit bytes = do
  a ← behind_byte mark bytes
  n ← number_at (2 ^ 64) a
  if nat_le 1 n.0 && nat_le n.0 limit then Some n else None

-- a number of changes, where the format has one
unfoldable pub changes_at : ℕ → List ℕ → Option (Option ℕ × List ℕ)
changes_at format bytes =
    if format == 2 then (do
      n ← number_part_at bytes
      if nat_lt n.0 (2 ^ 32) then Some (Some n.0, n.1) else None)
    else Some (None, bytes)

unfoldable pub campaign_at : ℕ → List ℕ → Option (ℕ × CampaignRow)
campaign_at format line = do
  a ← behind_word (codes "campaign") line
  i ← number_part_at a
  budget ← amount_at 32 (10 ^ 15) i.1
  changes ← changes_at format budget.1
  seat ← name_at changes.1
  cid ← name_at seat.1
  u ← none_left cid.1
  Some (i.0, record { seat = seat.0; cid = cid.0; budget = units budget.0; changes = changes.0 })

-- the names of auction and impression, where the format has them
unfoldable pub imp_name_at : ℕ → List ℕ → Option (Option ImpName × List ℕ)
imp_name_at format bytes =
    if format == 2 then (do
      auction ← name_at bytes
      imp ← name_at auction.1
      Some (Some (record { auction = auction.0; imp = imp.0 }), imp.1))
    else Some (None, bytes)

-- what became of a chosen offer
unfoldable pub end_at : List ℕ → Option (End × List ℕ)
end_at bytes =
    option_or (option_map (λ (r : List ℕ). (Live, r)) (behind_word (codes " live") bytes))
    (option_or (option_map (λ (r : List ℕ). (Billed, r)) (behind_word (codes " billed") bytes))
    (option_or (option_map (λ (r : List ℕ). (Lost, r)) (behind_word (codes " lost") bytes))
    (option_map (λ (r : List ℕ). (Expired, r)) (behind_word (codes " expired") bytes))))

-- a place and what became of it
unfoldable pub chosen_at : List ℕ → Option (ℕ × End × List ℕ)
chosen_at bytes = do
  place ← number_part_at bytes
  end ← end_at place.1
  Some (place.0, end.0, end.1)

abbrev pub Ending : Type 0
Ending = Option ℕ × Option End × List ℕ

abbrev pub none_chosen : List ℕ → Ending
none_chosen rest = (None, None, rest)

abbrev pub one_chosen : ℕ × End × List ℕ → Ending
one_chosen c = (Some c.0, Some c.1, c.2)

-- a dash for each, or a place and what became of it
unfoldable pub ending_at : List ℕ → Option Ending
ending_at bytes = option_or (option_map none_chosen (behind_word (codes " - -") bytes)) (option_map one_chosen (chosen_at bytes))

abbrev pub charge_of : ℕ → ℕ → Charge
charge_of campaign charge = record { campaign = campaign; charge = units charge }

-- C:CHARGE behind a space
unfoldable pub offer_at : List ℕ → Option (Charge × List ℕ)
offer_at bytes = do
  c ← number_part_at bytes
  m ← amount_at 58 (10 ^ 12) c.1
  Some (charge_of c.0 m.0, m.1)

-- offers up to the end; no more than n of them
unfoldable pub offers_at : ℕ → List ℕ → Option (List Charge)
offers_at n [] = Some []
offers_at zero (b ∷ bs) = None
offers_at (suc n) (b ∷ bs) = do
  o ← offer_at (b ∷ bs)
  more ← offers_at n o.1
  Some (o.0 ∷ more)

-- an impression's row behind its name
unfoldable pub imp_row_at : Option ImpName → List ℕ → Option ImpRow
imp_row_at name bytes = do
  ending ← ending_at bytes
  offers ← offers_at (length ending.2) ending.2
  if nat_lt (length offers) (2 ^ 32) then Some (record { name = name; offers = offers; chosen = ending.0; end = ending.1 }) else None

unfoldable pub imp_at : ℕ → List ℕ → Option (ℕ × ImpRow)
imp_at format line = do
  a ← behind_word (codes "imp") line
  j ← number_part_at a
  name ← imp_name_at format j.1
  row ← imp_row_at name.0 name.1
  Some (j.0, row)

unfoldable pub end_line_at : List ℕ → Option ℕ
end_line_at line = do
  a ← behind_word (codes "end") line
  n ← number_part_at a
  u ← none_left n.1
  Some n.0

-- each names a listed campaign
abbrev pub is_listed : ℕ → Charge → Bool
is_listed campaigns o = nat_lt o.campaign campaigns

-- a place below a number, where there is one
abbrev pub is_place : ℕ → Option ℕ → Bool
is_place offers None = true
is_place offers (Some place) = nat_lt place offers

abbrev pub has_places : ℕ → ImpRow → Bool
has_places campaigns row = list_all (is_listed campaigns) row.offers && is_place (length row.offers) row.chosen
