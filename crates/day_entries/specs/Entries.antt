-- The bytes of an entry of a day's history, in both formats of a journal. This project's own.
-- Example: a bill of award 300 is the bytes 3, 44, 1, 0, 0 in format 1 and 3, 172, 2 in format 2.
use Rattle.std.specs.Prelude.{◌≡◌, ℕ, ◌<◌, ◌^◌, Bool, ◌&&◌, nat_le, List, ◌++◌, length, All, IsUtf8, ◌⊎◌}
use Rattle.std.proofs.Common.{inl, inr}
use Rattle.std.specs.List.{flat_map}
use Rattle.std.specs.Str.{is_utf8}
use Rattle.adx_units.specs.Ids.{IsSized}
use Rattle.adx_units.specs.declared.id.TheConstants.{LONGEST_ID}
use Rattle.adx_units.specs.declared.offer.Offer.{Offer}
use Rattle.day_rules.specs.declared.ask.Ask.{Ask}
use Rattle.day_rules.specs.declared.ask.Kept.{Kept}
use Rattle.day_rules.specs.declared.entry.Entry.{Entry}
use Rattle.day_rules.specs.Entries.{BudgetChange, change_of, entry_of_change}
use Rattle.day_entries.specs.declared.numbers.Numbers.{Numbers}
use Rattle.formats.specs.Formats.{Format, ◌⊗◌, made, such, kind, last_kind, bytes_of, sized, counted}
use Rattle.day_entries.specs.Numbers.{numbers_of, small, short, long, wide}

-- a text after its length
unfoldable pub text : Numbers → Format (List ℕ)
text n = such IsUtf8 is_utf8 (sized (long n))

-- a name of 1 to 128 bytes
abbrev pub is_sized : List ℕ → Bool
is_sized name = nat_le 1 (length name) && nat_le (length name) LONGEST_ID

-- a text that is a name
unfoldable pub name : Numbers → Format (List ℕ)
name n = such IsSized is_sized (text n)

-- an offer as the pairs that its format is made of
abbrev pub OfferParts : Type 0
OfferParts = ℕ × (ℕ × (ℕ × (ℕ × ℕ)))

-- the offer of such pairs
abbrev pub offer_of_parts : OfferParts → Offer
offer_of_parts p = record { imp = p.0; campaign = p.1.0; charge = record { 0 = p.1.1.0 }; life = p.1.1.1.0; reason = p.1.1.1.1 }

-- the pairs of an offer
abbrev pub parts_of_offer : Offer → OfferParts
parts_of_offer o = (o.imp, (o.campaign, (o.charge.0, (o.life, o.reason))))

-- the impression, the campaign, the charge, the life, the reason
unfoldable pub offer : Numbers → Format Offer
offer n = made offer_of_parts parts_of_offer (small n ⊗ (long n ⊗ (wide n ⊗ (long n ⊗ short n))))

-- the kept texts of a bid as the pairs that their format is made of
abbrev pub KeptParts : Type 0
KeptParts = ℕ × (List ℕ × (List ℕ × (List ℕ × (List ℕ × (List ℕ × (List ℕ × List ℕ))))))

-- the kept texts of such pairs
abbrev pub kept_of_parts : KeptParts → Kept
kept_of_parts p =
    record { bid = p.0; seat = p.1.0; bidid = p.1.1.0; adid = p.1.1.1.0; nurl = p.1.1.1.1.0; burl = p.1.1.1.1.1.0; lurl = p.1.1.1.1.1.1.0; body = p.1.1.1.1.1.1.1 }

-- the pairs of kept texts
abbrev pub parts_of_kept : Kept → KeptParts
parts_of_kept k = (k.bid, (k.seat, (k.bidid, (k.adid, (k.nurl, (k.burl, (k.lurl, k.body)))))))

-- the place of a bid, and its seven texts
unfoldable pub kept : Numbers → Format Kept
kept n = made kept_of_parts parts_of_kept (long n ⊗ (text n ⊗ (text n ⊗ (text n ⊗ (text n ⊗ (text n ⊗ (text n ⊗ text n)))))))

-- ids of impressions, offers and texts of bids, each after their number
unfoldable pub imps : Numbers → Format (List (List ℕ))
imps n = counted (small n) (name n)

-- the number of offers, and each offer
unfoldable pub offers : Numbers → Format (List Offer)
offers n = counted (long n) (offer n)

-- the number of bids whose texts are kept, and the texts of each
unfoldable pub all_kept : Numbers → Format (List Kept)
all_kept n = counted (long n) (kept n)

-- an ask as the pairs that its format is made of
abbrev pub AskParts : Type 0
AskParts = List ℕ × (List ℕ × (ℕ × (ℕ × (List (List ℕ) × (List Offer × List Kept)))))

-- the ask of such pairs
abbrev pub ask_of_parts : AskParts → Ask
ask_of_parts p = record { auction = p.0; digest = p.1.0; now = p.1.1.0; first = p.1.1.1.0; imps = p.1.1.1.1.0; offers = p.1.1.1.1.1.0; kept = p.1.1.1.1.1.1 }

-- the pairs of an ask
abbrev pub parts_of_ask : Ask → AskParts
parts_of_ask a = (a.auction, (a.digest, (a.now, (a.first, (a.imps, (a.offers, a.kept))))))

-- its id, the 32 bytes of its digest, its moment, its first award, impressions, offers, texts of bids
unfoldable pub ask : Numbers → Format Ask
ask n = made ask_of_parts parts_of_ask (name n ⊗ (bytes_of 32 ⊗ (wide n ⊗ (long n ⊗ (imps n ⊗ (offers n ⊗ all_kept n))))))

-- the campaign, the number of the change, and the budget
abbrev pub ChangeParts : Type 0
ChangeParts = ℕ × (ℕ × ℕ)

-- the change of a budget of such pairs
abbrev pub change_of_parts : ChangeParts → BudgetChange
change_of_parts p = change_of p.0 p.1.0 (record { 0 = p.1.1 })

-- the pairs of a change of a budget
abbrev pub parts_of_change : BudgetChange → ChangeParts
parts_of_change x = (x.campaign, (x.change, x.budget.0))

-- a change of a campaign's budget: the campaign, the number of the change, the budget
unfoldable pub change : Numbers → Format BudgetChange
change n = made change_of_parts parts_of_change (long n ⊗ (long n ⊗ wide n))

-- an entry as the choices that its format is made of
abbrev pub EntryParts : Type 0
EntryParts = Ask ⊎ (ℕ ⊎ (ℕ ⊎ (ℕ ⊎ (ℕ ⊎ BudgetChange))))

-- the entry of such a choice
abbrev pub entry_of_parts : EntryParts → Entry
entry_of_parts (inl a) = Entry.Ask a
entry_of_parts (inr (inl n)) = Entry.Win n
entry_of_parts (inr (inr (inl n))) = Entry.Bill n
entry_of_parts (inr (inr (inr (inl n)))) = Entry.Loss n
entry_of_parts (inr (inr (inr (inr (inl t))))) = Entry.Expire t
entry_of_parts (inr (inr (inr (inr (inr x))))) = entry_of_change x

-- the kind of an entry, as the choices that its format is made of, and what it has
abbrev pub parts_of_entry : Entry → EntryParts
parts_of_entry (Entry.Ask a) = inl a
parts_of_entry (Entry.Win n) = inr (inl n)
parts_of_entry (Entry.Bill n) = inr (inr (inl n))
parts_of_entry (Entry.Loss n) = inr (inr (inr (inl n)))
parts_of_entry (Entry.Expire t) = inr (inr (inr (inr (inl t))))
parts_of_entry (Entry.Budget campaign number budget) = inr (inr (inr (inr (inr (change_of campaign number budget)))))

-- A byte for the kind: 1 an ask, 2 a win, 3 a bill, 4 a loss of an award, 5 a moment at which awards ended, 6 a change of
-- a budget.
unfoldable pub entry : Numbers → Format Entry
entry n =
    made entry_of_parts parts_of_entry (kind 1 (ask n) (kind 2 (long n) (kind 3 (long n) (kind 4 (long n) (kind 5 (wide n) (last_kind 6 (change n)))))))

-- ---- what clauses say

-- the bytes of an entry in a journal of a format
abbrev pub entry_bytes : ℕ → Entry → List ℕ
entry_bytes format e = (entry (numbers_of format)).write e

-- entries, back to back
abbrev pub entries_bytes : ℕ → List Entry → List ℕ
entries_bytes format entries = flat_map (entry_bytes format) entries

-- what has a spelling
abbrev pub Fits : ℕ → Entry → Type 0
Fits format e = (entry (numbers_of format)).Fits e

-- the bytes begin with the entry, which has n bytes
pub record BeginsWith (format : ℕ) (bytes : List ℕ) (e : Entry) (n : ℕ) : Type 0 where
  pub fits : Fits format e
  pub count : n ≡ length (entry_bytes format e)
  pub rest : List ℕ
  pub split : bytes ≡ entry_bytes format e ++ rest

-- the lengths of a bid's texts have numbers
pub record HasShortTexts (k : Kept) : Type 0 where
  pub seat : length k.seat < 2 ^ 32
  pub bidid : length k.bidid < 2 ^ 32
  pub adid : length k.adid < 2 ^ 32
  pub nurl : length k.nurl < 2 ^ 32
  pub burl : length k.burl < 2 ^ 32
  pub lurl : length k.lurl < 2 ^ 32
  pub body : length k.body < 2 ^ 32

-- what of a value of the type has numbers: an ask's counts, the places of its offers' impressions, the
-- lengths of its texts
pub record HasBytes (a : Ask) : Type 0 where
  pub imps : length a.imps < 2 ^ 8
  pub few_offers : length a.offers < 2 ^ 32
  pub offers : All (λ o. o.imp < 2 ^ 8) a.offers
  pub few_kept : length a.kept < 2 ^ 32
  pub kept : All HasShortTexts a.kept

-- every number of the entry fits its bytes
abbrev pub IsSpelled : Entry → Type 0
IsSpelled (Entry.Ask a) = HasBytes a
IsSpelled (Entry.Win award) = Unit {0}
IsSpelled (Entry.Bill award) = Unit {0}
IsSpelled (Entry.Loss award) = Unit {0}
IsSpelled (Entry.Expire now) = Unit {0}
IsSpelled (Entry.Budget campaign number budget) = Unit {0}

-- an entry of a notice or of a moment: a win, bill or loss of an award, or a moment at which awards ended
abbrev pub IsNoticeOrMoment : Entry → Type 0
IsNoticeOrMoment (Entry.Ask a) = ⊥
IsNoticeOrMoment (Entry.Win award) = Unit {0}
IsNoticeOrMoment (Entry.Bill award) = Unit {0}
IsNoticeOrMoment (Entry.Loss award) = Unit {0}
IsNoticeOrMoment (Entry.Expire now) = Unit {0}
IsNoticeOrMoment (Entry.Budget campaign number budget) = ⊥
