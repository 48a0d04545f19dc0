-- What a day's record says: ranges, places, and which parts stand in which format. This project's own.
use Rattle.std.specs.Prelude.{◌≡◌, ℕ, ◌^◌, ◌<◌, ◌≤◌, List, length, All, AllPairs, ◌==◌, ◌||◌, IsTrue, is_some}
use Rattle.std.specs.Option.{ForSome}
use Rattle.std.specs.Str.{is_utf8}
use Rattle.formats.specs.Days.{is_day}
use Rattle.bid_record.specs.declared.rows.CampaignRow.{CampaignRow}
use Rattle.bid_record.specs.declared.rows.Charge.{Charge}
use Rattle.bid_record.specs.declared.rows.ImpName.{ImpName}
use Rattle.bid_record.specs.declared.rows.ImpRow.{ImpRow}

-- a name of 1 to 128 bytes of UTF-8
pub record IsName (name : List ℕ) : Type 0 where
  pub utf8 : IsTrue (is_utf8 name)
  pub some_byte : 1 ≤ length name
  pub short : length name ≤ 128

-- a charge within its range
pub record IsAmount (o : Charge) : Type 0 where
  pub positive : 1 ≤ o.charge.0
  pub within : o.charge.0 ≤ 10 ^ 12

-- a charge for a listed campaign
pub record IsCharge (campaigns : ℕ) (o : Charge) : Type 0 where
  pub campaign : o.campaign < campaigns
  pub amount : IsAmount o

-- a campaign's row in a format
pub record IsCampaign (format : ℕ) (c : CampaignRow) : Type 0 where
  pub seat : IsName c.seat
  pub cid : IsName c.cid
  pub positive : 1 ≤ c.budget.0
  pub within : c.budget.0 ≤ 10 ^ 15
  pub changes : is_some c.changes ≡ (format == 2)
  pub few_changes : ForSome c.changes (λ n. n < 2 ^ 32)

-- whose impression it was
pub record IsImpName (name : ImpName) : Type 0 where
  pub auction : IsName name.auction
  pub imp : IsName name.imp

-- an impression's row in a format, beside so many campaigns
pub record IsImp (format campaigns : ℕ) (row : ImpRow) : Type 0 where
  pub name : is_some row.name ≡ (format == 2)
  pub named : ForSome row.name IsImpName
  pub few_offers : length row.offers < 2 ^ 32
  pub charges : All (IsCharge campaigns) row.offers
  pub chosen : ForSome row.chosen (λ place. place < length row.offers)
  pub ended : is_some row.end ≡ is_some row.chosen

-- two campaigns differ by seat or cid
abbrev pub Differ : CampaignRow → CampaignRow → Type 0
Differ c d = (c.seat ≡ d.seat) × (c.cid ≡ d.cid) → ⊥

-- the parts of a record
pub record IsSound (format : ℕ) (day : List ℕ) (campaigns : List CampaignRow) (imps : List ImpRow) : Type 0 where
  pub known : IsTrue (format == 1 || format == 2)
  pub dated : IsTrue (is_day day)
  pub some_campaign : 1 ≤ length campaigns
  pub few_campaigns : length campaigns ≤ 1024
  pub each_campaign : All (IsCampaign format) campaigns
  pub distinct : AllPairs Differ campaigns
  pub few_imps : length imps < 2 ^ 32
  pub each_imp : All (IsImp format (length campaigns)) imps
