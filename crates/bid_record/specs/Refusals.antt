-- Which bytes are no record's document, and which line is the first that fails. This project's own.
use Rattle.std.specs.Prelude.{◌≡◌, ◌≢◌, ℕ, ◌+◌, ◌^◌, ◌<◌, ◌≤◌, ◌⊎◌, List, [], ◌∷◌, ◌++◌, length, All, ◌==◌, ◌||◌, is_some, IsTrue, Result, Ok, Err}
use Rattle.std.specs.Option.{ForSome}
use Rattle.formats.specs.Following.{FailsAt, IsCut}
use Rattle.bid_record.specs.declared.fault.RecordFault.{RecordFault}
use Rattle.bid_record.specs.declared.fault.RecordFault.TheVariants.{Line, Order, Campaign, Cut, OutOfMemory}
use Rattle.bid_record.specs.declared.record.Record.{Record}
use Rattle.bid_record.specs.declared.rows.CampaignRow.{CampaignRow}
use Rattle.bid_record.specs.declared.rows.ImpRow.{ImpRow}
use Rattle.bid_record.specs.Lines.{head_line, day_line, campaign_line, imp_line, end_line, document}
use Rattle.formats.specs.Days.{is_day}
use Rattle.bid_record.specs.Records.{IsAmount, IsCampaign, IsImpName, Differ}

-- what the lines so far have told
pub data Told : Type 0 where
  nothing : Told
  a_head : (format : ℕ) → Told
  rows : (format : ℕ) (day : List ℕ) (campaigns : List CampaignRow) (imps : List ImpRow) → Told
  all : (format : ℕ) (day : List ℕ) (campaigns : List CampaignRow) (imps : List ImpRow) → Told

-- a campaign's row that may come next: below the 1,024th, before all impressions, of a new seat and cid
pub record IsNextCampaign (format : ℕ) (before : List CampaignRow) (imps : List ImpRow) (c : CampaignRow) : Type 0 where
  pub row : IsCampaign format c
  pub room : length before < 1024
  pub early : imps ≡ []
  pub another : All (λ other. Differ other c) before

-- an impression's row that may come next, whose places may be any: behind a campaign, and below the 2^32th
pub record IsLooseImp (format : ℕ) (before : List CampaignRow) (imps : List ImpRow) (row : ImpRow) : Type 0 where
  pub behind_campaign : 1 ≤ length before
  pub room : length imps + 1 < 2 ^ 32
  pub name : is_some row.name ≡ (format == 2)
  pub named : ForSome row.name IsImpName
  pub few_offers : length row.offers < 2 ^ 32
  pub amounts : All IsAmount row.offers
  pub numbers : All (λ o. o.campaign < 2 ^ 64) row.offers
  pub number : ForSome row.chosen (λ place. place < 2 ^ 64)
  pub ended : is_some row.end ≡ is_some row.chosen

-- its offers name listed campaigns, and its chosen offer is there
pub record HasPlaces (campaigns : ℕ) (row : ImpRow) : Type 0 where
  pub offers : All (λ o. o.campaign < campaigns) row.offers
  pub chosen : ForSome row.chosen (λ place. place < length row.offers)

-- the last line may come behind a campaign
pub record IsNextEnd (campaigns : List CampaignRow) (imps : List ImpRow) : Type 0 where
  pub behind_campaign : 1 ≤ length campaigns
  pub few_imps : length imps < 2 ^ 32

-- a line that tells more
pub data Follows : Told → List ℕ → Told → Type 0 where
  head_first : (format : ℕ) → IsTrue (format == 1 || format == 2) → Follows nothing (head_line format) (a_head format)
  day_second : (format : ℕ) (day : List ℕ) → IsTrue (is_day day) → Follows (a_head format) (day_line day) (rows format day [] [])
  campaign_next : (format : ℕ) (day : List ℕ) (cs : List CampaignRow) (c : CampaignRow)
      → IsNextCampaign format cs [] c
      → Follows (rows format day cs []) (campaign_line (length cs, c)) (rows format day (cs ++ c ∷ []) [])
  imp_next : (format : ℕ) (day : List ℕ) (cs : List CampaignRow) (imps : List ImpRow) (row : ImpRow)
      → IsLooseImp format cs imps row → HasPlaces (length cs) row
      → Follows (rows format day cs imps) (imp_line (length imps, row)) (rows format day cs (imps ++ row ∷ []))
  end_last : (format : ℕ) (day : List ℕ) (cs : List CampaignRow) (imps : List ImpRow) → IsNextEnd cs imps
      → Follows (rows format day cs imps) (end_line (length imps)) (all format day cs imps)

-- the last line was there
abbrev pub IsWhole : Told → Type 0
IsWhole nothing = ⊥
IsWhole (a_head format) = ⊥
IsWhole (rows format day cs imps) = ⊥
IsWhole (all format day cs imps) = Unit {0}

-- a campaign's line with any index
pub record IsCampaignLine (format : ℕ) (cs : List CampaignRow) (imps : List ImpRow) (line : List ℕ) (index : ℕ) : Type 0 where
  pub row : CampaignRow
  pub is : line ≡ campaign_line (index, row)
  pub next : IsNextCampaign format cs imps row
  pub number : index < 2 ^ 64

-- an impression's line with any index and any places
pub record IsImpLineOf (format : ℕ) (cs : List CampaignRow) (imps : List ImpRow) (line : List ℕ) (index : ℕ) (row : ImpRow) : Type 0 where
  pub is : line ≡ imp_line (index, row)
  pub next : IsLooseImp format cs imps row
  pub number : index < 2 ^ 64

-- a last line with any number
pub record IsEndLine (cs : List CampaignRow) (imps : List ImpRow) (line : List ℕ) (n : ℕ) : Type 0 where
  pub is : line ≡ end_line n
  pub next : IsNextEnd cs imps
  pub number : n < 2 ^ 64

-- a line that is of a form that may come here, with whatever index and places
abbrev pub IsOfForm : Told → List ℕ → Type 0
IsOfForm nothing line = (format : ℕ) × IsTrue (format == 1 || format == 2) × (line ≡ head_line format)
IsOfForm (a_head format) line = (day : List ℕ) × IsTrue (is_day day) × (line ≡ day_line day)
IsOfForm (rows format day cs imps) line =
    ((index : ℕ) × IsCampaignLine format cs imps line index)
    ⊎ (((index : ℕ) × (row : ImpRow) × IsImpLineOf format cs imps line index row)
    ⊎ ((n : ℕ) × IsEndLine cs imps line n))
IsOfForm (all format day cs imps) line = ⊥

-- a line of such a form whose index doesn't run on, or whose number isn't that of the impressions
abbrev pub BreaksOrder : Told → List ℕ → Type 0
BreaksOrder nothing line = ⊥
BreaksOrder (a_head format) line = ⊥
BreaksOrder (rows format day cs imps) line =
    ((index : ℕ) × IsCampaignLine format cs imps line index × (index ≢ length cs))
    ⊎ (((index : ℕ) × (row : ImpRow) × IsImpLineOf format cs imps line index row × (index ≢ length imps))
    ⊎ ((n : ℕ) × IsEndLine cs imps line n × (n ≢ length imps)))
BreaksOrder (all format day cs imps) line = ⊥

-- an impression's line in its order that names a campaign that isn't listed, or a chosen offer past the end
abbrev pub BreaksPlaces : Told → List ℕ → Type 0
BreaksPlaces nothing line = ⊥
BreaksPlaces (a_head format) line = ⊥
BreaksPlaces (rows format day cs imps) line =
    (row : ImpRow) × IsImpLineOf format cs imps line (length imps) row × (HasPlaces (length cs) row → ⊥)
BreaksPlaces (all format day cs imps) line = ⊥

-- what a refusal says of the bytes
abbrev pub IsRefusal : List ℕ → RecordFault → Type 0
IsRefusal bytes (Line n) = FailsAt Follows nothing IsWhole (λ told line. IsOfForm told line → ⊥) bytes n
IsRefusal bytes (Order n) = FailsAt Follows nothing IsWhole BreaksOrder bytes n
IsRefusal bytes (Campaign n) = FailsAt Follows nothing IsWhole BreaksPlaces bytes n
IsRefusal bytes Cut = IsCut Follows nothing IsWhole bytes
IsRefusal bytes OutOfMemory = Unit {0}

-- two records that say the same
pub record AreSame (r s : Record) : Type 0 where
  pub format : r.format ≡ s.format
  pub day : r.day ≡ s.day
  pub campaigns : r.campaigns ≡ s.campaigns
  pub imps : r.imps ≡ s.imps

-- it is the record, with the number of its document's bytes, unless memory ran out
abbrev pub GivesRecord : Record → Result (Record × ℕ) RecordFault → Type 0
GivesRecord r (Ok found) = AreSame found.0 r × (found.1 ≡ length (document r))
GivesRecord r (Err fault) = fault ≡ OutOfMemory
