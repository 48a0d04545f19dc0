-- The closing table of a day: lines of JSON (RFC 8259) in its one compact spelling, each with its newline. This
-- project's own.
use Rattle.std.specs.Prelude.{ℕ, List, ◌++◌, length, codes, decimal}
use Rattle.std.specs.List.{flat_map, enumerate_from}
use Rattle.adx_units.specs.JsonTexts.{text_spelling}
use Rattle.campaign_book.specs.Accounts.{Account, account_at, committed}
use Rattle.campaign_book.specs.Discount.{slab_of}
use Rattle.day_rules.specs.declared.entry.Entry.{Entry}
use Rattle.day_rules.specs.Books.{awards_of, accounts_in, ask_count}
use Rattle.day_rules.specs.Terms.{Terms, budgets_after}
use Rattle.deal_floor.specs.declared.campaign.Campaign.{Campaign}

-- a campaign's row, by its account
abbrev pub account_line : Campaign → Account → List ℕ
account_line c a =
    codes "{\"seat\":" ++ text_spelling c.seat ++ codes ",\"cid\":" ++ text_spelling c.cid ++ codes ",\"budget\":" ++ decimal a.budget
    ++ codes ",\"reserved\":" ++ decimal a.reserved ++ codes ",\"billed\":" ++ decimal a.billed
    ++ codes ",\"slab\":" ++ decimal (slab_of (committed a) a.budget) ++ codes "}\n"

-- the same of a campaign with its number
abbrev pub campaign_line : List Account → ℕ × Campaign → List ℕ
campaign_line accounts c = account_line c.1 (account_at accounts c.0)

-- so many asks, awards and entries
abbrev pub counts_text : ℕ → ℕ → ℕ → List ℕ
counts_text asks awards entries =
    codes "{\"asks\":" ++ decimal asks ++ codes ",\"awards\":" ++ decimal awards ++ codes ",\"entries\":" ++ decimal entries ++ codes "}\n"

-- how many asks, awards and entries there are
abbrev pub counts_line : List Entry → List ℕ
counts_line history = counts_text (ask_count history) (length (awards_of history)) (length history)

-- the closing table: a row for each campaign of the roster, and the counts
abbrev pub closing_table : List Campaign → Terms → List Entry → List ℕ
closing_table campaigns terms history =
    flat_map (campaign_line (accounts_in (budgets_after terms history) (awards_of history))) (enumerate_from 0 campaigns) ++ counts_line history
