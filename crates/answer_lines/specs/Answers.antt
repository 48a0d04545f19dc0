-- The line of each answer of a day: JSON (RFC 8259) in its one compact spelling, without a newline. This
-- project's own.
-- Example: that of a tick which ended one award is `{"answer":"ticked","ended":1}`.
use Rattle.std.specs.Prelude.{◌≡◌, ℕ, List, [], ◌++◌, map, length, Option, Some, None, option_and_then, slice_get, slice_index_or, codes, decimal, if◌then◌else◌}
use Rattle.std.specs.Option.{option_map_or}
use Rattle.std.specs.List.{flat_map, enumerate_from, range_with_len, join_with_byte}
use Rattle.hex.specs.Hex.{encode_lower}
use Rattle.adx_units.specs.declared.offer.Offer.{Offer}
use Rattle.adx_units.specs.JsonTexts.{text_spelling}
use Rattle.notice_book.specs.declared.award.End.{End}
use Rattle.day_rules.specs.declared.answer.Answer.{Answer}
use Rattle.day_rules.specs.declared.answer.Which.{Which}
use Rattle.day_rules.specs.declared.ask.Ask.{Ask}
use Rattle.day_rules.specs.declared.entry.Entry.{Entry}
use Rattle.day_rules.specs.Books.{ask_at, awarded_offers}
use Rattle.day_rules.specs.Entries.{asked}
use Rattle.day_rules.specs.Replies.{Reply, is_awarded, with_entry}
use Rattle.deal_floor.specs.declared.campaign.Campaign.{Campaign}
use Rattle.answer_lines.specs.declared.faults.Fault.{Fault}

-- the awarded offers of an ask, in the order of its impressions
abbrev pub sold_offers : Ask → List Offer
sold_offers a = flat_map (awarded_offers a.offers) (range_with_len 0 (length a.imps))

-- a text of the campaign at a place; nothing where there is none
abbrev pub campaign_text : (Campaign → List ℕ) → List Campaign → ℕ → List ℕ
campaign_text text campaigns place = option_map_or text (slice_get campaigns place) []

-- an award with its number: the impression's id, the campaign's seat and id, and the charge in units
abbrev pub award_text : List Campaign → Ask → ℕ × Offer → List ℕ
award_text campaigns a sold =
    codes "{\"award\":" ++ decimal sold.0 ++ codes ",\"imp\":" ++ text_spelling (slice_index_or a.imps sold.1.imp [])
    ++ codes ",\"seat\":" ++ text_spelling (campaign_text (λ c. c.seat) campaigns sold.1.campaign)
    ++ codes ",\"cid\":" ++ text_spelling (campaign_text (λ c. c.cid) campaigns sold.1.campaign)
    ++ codes ",\"charge\":" ++ decimal sold.1.charge.0 ++ codes "}"

-- the awards of an ask, whose numbers run on from its first
abbrev pub awards_text : List Campaign → Ask → List ℕ
awards_text campaigns a = join_with_byte 44 (map (award_text campaigns a) (enumerate_from a.first (sold_offers a)))

-- the reasons of bids, in their order
abbrev pub reasons_of : List Offer → List ℕ
reasons_of offers = join_with_byte 44 (map (λ (o : Offer). decimal o.reason) offers)

-- those of an ask
abbrev pub reasons_text : Ask → List ℕ
reasons_text a = reasons_of a.offers

-- the line of an ask that has a winner
abbrev pub awarded_line : List Campaign → Ask → List ℕ
awarded_line campaigns a =
    codes "{\"answer\":\"awarded\",\"auction\":" ++ text_spelling a.auction ++ codes ",\"awards\":[" ++ awards_text campaigns a
    ++ codes "],\"reasons\":[" ++ reasons_text a ++ codes "]}"

-- the line of an ask without a winner
abbrev pub nosale_line : Ask → List ℕ
nosale_line a =
    codes "{\"answer\":\"nosale\",\"auction\":" ++ text_spelling a.auction ++ codes ",\"reasons\":[" ++ reasons_text a ++ codes "]}"

-- the line of an ask as it is in the history
abbrev pub ask_line : List Campaign → Ask → List ℕ
ask_line campaigns a = if is_awarded a then awarded_line campaigns a else nosale_line a

-- the line of a repeat: of an ask the line of the one that is kept, of a notice or a change of a budget one of its own
abbrev pub repeat_line : List Campaign → Option Ask → List ℕ
repeat_line campaigns None = codes "{\"answer\":\"repeat\"}"
repeat_line campaigns (Some a) = ask_line campaigns a

-- an id that is there with another digest, by both digests
abbrev pub reused_line : List ℕ → List ℕ → List ℕ
reused_line kept given =
    codes "{\"answer\":\"reused\",\"kept\":\"" ++ encode_lower kept ++ codes "\",\"given\":\"" ++ encode_lower given ++ codes "\"}"

-- the word of a limit in an answer line
abbrev pub which_text : Which → List ℕ
which_text Which.Auctions = codes "auctions"
which_text Which.Bids = codes "bids"
which_text Which.Text = codes "text"
which_text Which.Changes = codes "changes"

-- the line of an ask or a change that would pass a limit of the day: which limit, and what it would come to
abbrev pub dayfull_line : Which → ℕ → List ℕ
dayfull_line which count =
    codes "{\"answer\":\"dayfull\",\"which\":\"" ++ which_text which ++ codes "\",\"count\":" ++ decimal count ++ codes "}"

-- the word of an end in an answer line
abbrev pub end_text : End → List ℕ
end_text End.Billed = codes "billed"
end_text End.Lost = codes "lost"
end_text End.Expired = codes "expired"

-- the line of a notice that came too late: how its award had ended
abbrev pub conflict_line : End → List ℕ
conflict_line kept = codes "{\"answer\":\"conflict\",\"kept\":\"" ++ end_text kept ++ codes "\"}"

-- the line of a tick: how many awards it ended
abbrev pub ticked_line : ℕ → List ℕ
ticked_line ended = codes "{\"answer\":\"ticked\",\"ended\":" ++ decimal ended ++ codes "}"

-- the budget that is there with the number of a change, in units
abbrev pub budgetreused_line : ℕ → List ℕ
budgetreused_line kept = codes "{\"answer\":\"budgetreused\",\"kept\":" ++ decimal kept ++ codes "}"

-- the greatest number of the campaign's changes
abbrev pub late_line : ℕ → List ℕ
late_line last = codes "{\"answer\":\"late\",\"last\":" ++ decimal last ++ codes "}"

-- the money that the budget doesn't cover, in units
abbrev pub below_line : ℕ → List ℕ
below_line committed = codes "{\"answer\":\"below\",\"committed\":" ++ decimal committed ++ codes "}"

-- the line of an answer, and of the ask that it is about: there for Awarded and NoSale (without one nothing is said),
-- and for a Repeat exactly where it is of an ask. What is about no ask is said by the answer alone.
abbrev pub answer_line : List Campaign → Answer → Option Ask → List ℕ
answer_line campaigns (Answer.Awarded place) ask = option_map_or (awarded_line campaigns) ask []
answer_line campaigns (Answer.NoSale place) ask = option_map_or nosale_line ask []
answer_line campaigns Answer.Counted ask = codes "{\"answer\":\"counted\"}"
answer_line campaigns (Answer.Repeat place) ask = repeat_line campaigns ask
answer_line campaigns (Answer.Conflict kept) ask = conflict_line kept
answer_line campaigns Answer.Unknown ask = codes "{\"answer\":\"unknown\"}"
answer_line campaigns (Answer.Ticked ended) ask = ticked_line ended
answer_line campaigns (Answer.Reused kept given) ask = reused_line kept given
answer_line campaigns (Answer.DayFull which count) ask = dayfull_line which count
answer_line campaigns Answer.Budgeted ask = codes "{\"answer\":\"budget\"}"
answer_line campaigns (Answer.BudgetReused kept) ask = budgetreused_line kept.0
answer_line campaigns (Answer.Late last) ask = late_line last
answer_line campaigns (Answer.BelowCommitted committed) ask = below_line committed.0
answer_line campaigns Answer.NoCampaign ask = codes "{\"answer\":\"nocampaign\"}"

-- the place of the history that an answer names, if it names one
abbrev pub place_told : Answer → Option ℕ
place_told (Answer.Awarded place) = Some place
place_told (Answer.NoSale place) = Some place
place_told Answer.Counted = None
place_told (Answer.Repeat place) = Some place
place_told (Answer.Conflict kept) = None
place_told Answer.Unknown = None
place_told (Answer.Ticked ended) = None
place_told (Answer.Reused kept given) = None
place_told (Answer.DayFull which count) = None
place_told Answer.Budgeted = None
place_told (Answer.BudgetReused kept) = None
place_told (Answer.Late last) = None
place_told (Answer.BelowCommitted committed) = None
place_told Answer.NoCampaign = None

-- the ask that an answer is about: the one at the place that it names, in the history that its call left
abbrev pub ask_told : List Entry → Answer → Option Ask
ask_told history answer = option_and_then (ask_at history) (place_told answer)

-- the ask at hand before the entry of a reply is added: that of the entry; and where there is none, the one in the history
abbrev pub ask_at_hand : List Entry → Answer → Option Entry → Option Ask
ask_at_hand history answer None = ask_told history answer
ask_at_hand history answer (Some e) = asked e

-- the ask that a reply's answer is about is the one that is at hand before
abbrev pub IsAtHand : List Entry → Reply → Type 0
IsAtHand history r = ask_told (with_entry history r.entry) r.answer ≡ ask_at_hand history r.answer r.entry

-- the line of a call that was given up
abbrev pub fault_line : Fault → List ℕ
fault_line Fault.Disk = codes "{\"answer\":\"diskfault\"}"
fault_line (Fault.JournalFull size) = codes "{\"answer\":\"journalfull\",\"size\":" ++ decimal size ++ codes "}"
