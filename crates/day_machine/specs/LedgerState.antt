-- Private, cited by the day's ledger alone: its value, and what its fields keep of the awards.
use Rattle.std.specs.Prelude.{◌≡◌, ℕ, ◌+◌, ◌<◌, ◌^◌, List, length, All, if◌then◌else◌}
use Rattle.adx_units.specs.declared.units.Units.{Units}
use Rattle.allocator_core.specs.Settling.{budgets_in}
use Rattle.campaign_book.specs.Accounts.{Account}
use Rattle.notice_book.specs.declared.award.Award.{Award}
use Rattle.notice_book.specs.declared.kind.NoticeKind.{NoticeKind}
use Rattle.notice_book.specs.Rules.{may_end, may_win}
use Rattle.day_rules.specs.Books.{accounts_in, billed_in, entries_to_come, reserved_in}
use Rattle.day_machine.specs.declared.places.Places.{Places}

-- the budgets of the campaigns, the awards by their numbers, where the notices of each are, and for how many
-- more awards there is memory
pub record LedgerState : Type 0 where
  pub budgets : List Units
  pub awards : List Award
  pub places : List Places
  pub room : ℕ

-- the money of a campaign's open and billed awards
abbrev pub committed_in : List Award → ℕ → ℕ
committed_in awards campaign = reserved_in awards campaign + billed_in awards campaign

abbrev pub place_of : NoticeKind → Places → ℕ
place_of NoticeKind.Win p = p.win
place_of NoticeKind.Bill p = p.end
place_of NoticeKind.Loss p = p.end

abbrev pub placed : NoticeKind → ℕ → Places → Places
placed NoticeKind.Win place p = record p { win = place }
placed NoticeKind.Bill place p = record p { end = place }
placed NoticeKind.Loss place p = record p { end = place }

abbrev pub no_places : Places
no_places = record { win = 0; end = 0 }

-- how many entries notices and moments may still add for an award
abbrev pub to_come_of : Award → ℕ
to_come_of w = (if may_end w then 1 else 0) + (if may_win w then 1 else 0)

-- the accounts are those of the awards, which belong to the campaigns, and each award has its places
pub record AreKept (accounts : List Account) (awards : List Award) (places : List Places) (to_come : ℕ) : Type 0 where
  pub accounts_are : accounts ≡ accounts_in (budgets_in accounts) awards
  pub known : All (λ w. w.campaign < length accounts) awards
  pub few : length awards < 2 ^ 32
  pub each_placed : length places ≡ length awards
  pub to_come_is : to_come ≡ entries_to_come awards
