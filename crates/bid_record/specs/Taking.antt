-- What each step of the reader says; only private clauses cite it.
use Rattle.std.specs.Prelude.{◌≡◌, ℕ, ◌+◌, ◌^◌, ◌<◌, ◌≤◌, ◌&&◌, ◌||◌, ◌==◌, not, IsTrue, All, AllPairs, List, [], ◌∷◌, ◌++◌, length, drop, Bool, true, false, nat_lt, Option, Some, None, Result, Ok, Err}
use Rattle.std.specs.List.{list_all, list_any, flat_map}
use Rattle.std.specs.Borrow.{Bor}
use Rattle.std.specs.Str.{bytes_eq}
use Rattle.formats.specs.Parts.{ended}
use Rattle.bid_record.specs.declared.fault.Misfit.{Misfit}
use Rattle.bid_record.specs.declared.fault.Misfit.TheVariants.{Form, Memory}
use Rattle.bid_record.specs.declared.record.Record.{Record}
use Rattle.bid_record.specs.declared.fault.RecordFault.{RecordFault}
use Rattle.bid_record.specs.declared.fault.RecordFault.TheVariants.{Line, Order, Campaign, Cut, OutOfMemory}
use Rattle.bid_record.specs.declared.row_lines.ImpLine.{ImpLine}
use Rattle.bid_record.specs.declared.offers.Offers.{Offers}
use Rattle.bid_record.specs.declared.rows.CampaignRow.{CampaignRow}
use Rattle.bid_record.specs.declared.rows.Charge.{Charge}
use Rattle.bid_record.specs.declared.rows.ImpName.{ImpName}
use Rattle.bid_record.specs.declared.rows.ImpRow.{ImpRow}
use Rattle.bid_record.specs.Lines.{head_line, day_line, end_line, rows_lines, document}
use Rattle.formats.specs.Days.{is_day}
use Rattle.bid_record.specs.Records.{IsCampaign, IsImp, Differ, IsSound}
use Rattle.bid_record.specs.Refusals.{rows, all, Follows, IsOfForm, BreaksOrder, BreaksPlaces, IsRefusal}
use Rattle.bid_record.specs.Reading.{is_listed, has_places, charge_of, offers_at, imp_row_at, imp_at}
use Rattle.bid_record.specs.Texts.{Fails}

-- offers as they are kept: whether each names a listed campaign, and all of them where each does
pub record AreKept (campaigns : ℕ) (os : List Charge) (o : Offers) : Type 0 where
  pub listed : o.listed ≡ list_all (is_listed campaigns) os
  pub kept : o.listed ≡ true → o.kept.items ≡ os
  pub count : o.count ≡ length os

-- one offer more
pub record IsPut (campaigns campaign charge : ℕ) (old new : Offers) : Type 0 where
  pub listed : new.listed ≡ (old.listed && nat_lt campaign campaigns)
  pub kept : nat_lt campaign campaigns ≡ true → new.kept.items ≡ old.kept.items ++ charge_of campaign charge ∷ []
  pub count : new.count ≡ old.count + 1

abbrev pub IsOffersRead : ℕ → List ℕ → Result Offers Misfit → Type 0
IsOffersRead campaigns bytes (Ok o) = (os : List Charge) × (offers_at (length bytes) bytes ≡ Some os) × AreKept campaigns os o
IsOffersRead campaigns bytes (Err misfit) = Fails misfit (offers_at (length bytes) bytes)

-- a row is kept where all its places are there
abbrev pub IsKept : ℕ → ImpRow → Option ImpRow → Type 0
IsKept campaigns row None = has_places campaigns row ≡ false
IsKept campaigns row (Some kept) = (has_places campaigns row ≡ true) × (kept ≡ row)

abbrev pub IsImpRow : ℕ → Option ImpName → List ℕ → Result (Option ImpRow) Misfit → Type 0
IsImpRow campaigns name bytes (Ok kept) = (row : ImpRow) × (imp_row_at name bytes ≡ Some row) × IsKept campaigns row kept
IsImpRow campaigns name bytes (Err misfit) = Fails misfit (imp_row_at name bytes)

abbrev pub IsImpLine : ℕ → ℕ → List ℕ → Result ImpLine Misfit → Type 0
IsImpLine format campaigns line (Ok l) = (row : ImpRow) × (imp_at format line ≡ Some (l.index, row)) × IsKept campaigns row l.row
IsImpLine format campaigns line (Err misfit) = Fails misfit (imp_at format line)

-- another campaign has the same seat and cid
abbrev pub is_same_pair : CampaignRow → CampaignRow → Bool
is_same_pair row other = bytes_eq other.seat row.seat && bytes_eq other.cid row.cid

-- whether a campaign's row may come next, but for its ranges
abbrev pub may_come : List CampaignRow → List ImpRow → CampaignRow → Bool
may_come cs imps row = nat_lt (length cs) 1024 && length imps == 0 && not (list_any (is_same_pair row) cs)

-- the rows so far are few enough
pub record HaveRoom (cs : List CampaignRow) (imps : List ImpRow) : Type 0 where
  pub campaigns : length cs ≤ 1024
  pub imps_few : length imps < 2 ^ 32

-- one line taken: a row more, or the end, or why not; whatever the day is
abbrev pub IsTaken : ℕ → List CampaignRow → List ImpRow → List CampaignRow → List ImpRow → List ℕ → ℕ → Result Bool RecordFault → Type 0
IsTaken format cs imps cs' imps' line n (Ok false) = (day : List ℕ) → Follows (rows format day cs imps) line (rows format day cs' imps')
IsTaken format cs imps cs' imps' line n (Ok true) = ((day : List ℕ) → Follows (rows format day cs imps) line (all format day cs imps)) × (cs' ≡ cs) × (imps' ≡ imps)
IsTaken format cs imps cs' imps' line n (Err (Line k)) = (k ≡ n) × ((day : List ℕ) → IsOfForm (rows format day cs imps) line → ⊥)
IsTaken format cs imps cs' imps' line n (Err (Order k)) = (k ≡ n) × ((day : List ℕ) → BreaksOrder (rows format day cs imps) line)
IsTaken format cs imps cs' imps' line n (Err (Campaign k)) = (k ≡ n) × ((day : List ℕ) → BreaksPlaces (rows format day cs imps) line)
IsTaken format cs imps cs' imps' line n (Err Cut) = ⊥
IsTaken format cs imps cs' imps' line n (Err OutOfMemory) = Unit {0}

-- the rows so far, as a document may have them
pub record AreRows (format : ℕ) (cs : List CampaignRow) (imps : List ImpRow) : Type 0 where
  pub few_campaigns : length cs ≤ 1024
  pub each_campaign : All (IsCampaign format) cs
  pub distinct : AllPairs Differ cs
  pub few_imps : length imps < 2 ^ 32
  pub each_imp : All (IsImp format (length cs)) imps
  pub behind_campaign : 1 ≤ length imps → 1 ≤ length cs

-- the first two lines, which are there
pub record IsOpened (format : ℕ) (day : List ℕ) : Type 0 where
  pub known : IsTrue (format == 1 || format == 2)
  pub dated : IsTrue (is_day day)

-- the lines so far, what is left, and the number of the next line
pub record AreRead (bytes : List ℕ) (format : ℕ) (day : List ℕ) (cs : List CampaignRow) (imps : List ImpRow) (left : List ℕ) (n : ℕ) : Type 0 where
  pub opened : IsOpened format day
  pub rows_are : AreRows format cs imps
  pub document : bytes ≡ flat_map ended (rows_lines format day cs imps) ++ left
  pub number : n ≡ length (rows_lines format day cs imps) + 1
  pub few : n + length left ≤ length bytes

-- all lines, and what is left
pub record IsBehindLast (bytes : List ℕ) (format : ℕ) (day : List ℕ) (cs : List CampaignRow) (imps : List ImpRow) (left : List ℕ) : Type 0 where
  pub opened : IsOpened format day
  pub rows_are : AreRows format cs imps
  pub some_campaign : 1 ≤ length cs
  pub document : bytes ≡ flat_map ended (rows_lines format day cs imps ++ end_line (length imps) ∷ []) ++ left

-- the first line, or why it isn't there
abbrev pub IsHead : List ℕ → Result (ℕ × Bor (List ℕ)) RecordFault → Type 0
IsHead bytes (Ok p) = IsTrue (p.0 == 1 || p.0 == 2) × (bytes ≡ ended (head_line p.0) ++ p.1.now)
IsHead bytes (Err fault) = IsRefusal bytes fault

-- the second line, or why it isn't there
abbrev pub IsDay : List ℕ → ℕ → Result (List ℕ × Bor (List ℕ)) RecordFault → Type 0
IsDay bytes format (Ok p) = IsTrue (is_day p.0) × (bytes ≡ flat_map ended (head_line format ∷ day_line p.0 ∷ []) ++ p.1.now)
IsDay bytes format (Err fault) = IsRefusal bytes fault

-- the format of a first line
abbrev pub IsFormatOf : List ℕ → Option ℕ → Type 0
IsFormatOf line None = (format : ℕ) → IsTrue (format == 1 || format == 2) → line ≡ head_line format → ⊥
IsFormatOf line (Some format) = IsTrue (format == 1 || format == 2) × (line ≡ head_line format)

-- the day of a line, or why there is none
abbrev pub IsDayOf : List ℕ → Result (List ℕ) Misfit → Type 0
IsDayOf line (Ok day) = IsTrue (is_day day) × (line ≡ day_line day)
IsDayOf line (Err Form) = (day : List ℕ) → IsTrue (is_day day) → line ≡ day_line day → ⊥
IsDayOf line (Err Memory) = Unit {0}

-- a record found at the front of bytes: its document, the number of its bytes, and its parts
pub record IsFound (bytes : List ℕ) (p : Record × ℕ) : Type 0 where
  pub front : bytes ≡ document p.0 ++ drop p.1 bytes
  pub len : p.1 ≡ length (document p.0)
  pub sound : IsSound p.0.format p.0.day p.0.campaigns p.0.imps
