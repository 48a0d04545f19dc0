-- The calls of a generated day: its roster's line, the words of a seed, and the calls that they report. This project's own.
use Rattle.std.specs.Prelude.{◌≡◌, ℕ, zero, suc, ◌+◌, ◌*◌, ◌/◌, ◌%◌, List, [], ◌∷◌, ◌++◌, map, codes, decimal, length, ◌==◌, if◌then◌else◌, Option, Some, None}
use Rattle.sha2.specs.Sha256.{sha256}
use Rattle.rand_xoshiro.specs.SplitMix64.{mix_u64}
use Rattle.adx_units.specs.declared.offer.Offer.{Offer}
use Rattle.adx_units.specs.declared.offer.TheConstants.{ADMITTED}
use Rattle.answer_lines.specs.declared.faults.Fault.{Fault}
use Rattle.day_rules.specs.declared.answer.Answer.{Answer}
use Rattle.day_rules.specs.declared.ask.Ask.{Ask}
use Rattle.day_rules.specs.declared.ask.Kept.{Kept}
use Rattle.day_rules.specs.declared.entry.Entry.{Entry}
use Rattle.day_rules.specs.Books.{made}
use Rattle.day_rules.specs.Replies.{Call, ask, notice, tick, reply}
use Rattle.day_rules.specs.Runs.{Turn, done, run}
use Rattle.day_rules.specs.Terms.{Terms}
use Rattle.notice_book.specs.declared.kind.NoticeKind.{NoticeKind}
use Rattle.adx_desk.specs.Meanings.{Told, turns_of}

-- the roster

-- a campaign of the roster line, by its cid and its budget in dollars
abbrev pub campaign_text : List ℕ → List ℕ → List ℕ
campaign_text cid budget = codes "{\"bidder\":\"b\",\"seat\":\"s\",\"cid\":\"" ++ cid ++ codes "\",\"budget\":" ++ budget ++ codes "}"

-- the roster line of a generated day, without its newline
abbrev pub generated_line : List ℕ
generated_line =
    codes "{\"day\":\"2025-01-01\",\"bidders\":[{\"name\":\"b\"}],\"campaigns\":["
    ++ campaign_text (codes "c0") (codes "0.01") ++ codes "," ++ campaign_text (codes "c1") (codes "0.02")
    ++ codes "," ++ campaign_text (codes "c2") (codes "0.03") ++ codes "," ++ campaign_text (codes "c3") (codes "0.04")
    ++ codes "," ++ campaign_text (codes "c4") (codes "0.05") ++ codes "," ++ campaign_text (codes "c5") (codes "0.06")
    ++ codes "," ++ campaign_text (codes "c6") (codes "0.07") ++ codes "," ++ campaign_text (codes "c7") (codes "0.08")
    ++ codes "," ++ campaign_text (codes "c8") (codes "0.09") ++ codes "," ++ campaign_text (codes "c9") (codes "0.1")
    ++ codes "," ++ campaign_text (codes "c10") (codes "0.11") ++ codes "," ++ campaign_text (codes "c11") (codes "0.12")
    ++ codes "," ++ campaign_text (codes "c12") (codes "0.13") ++ codes "," ++ campaign_text (codes "c13") (codes "0.14")
    ++ codes "," ++ campaign_text (codes "c14") (codes "0.15") ++ codes "," ++ campaign_text (codes "c15") (codes "0.16")
    ++ codes "]}"

-- the words of a seed

-- SplitMix64's state before the word with a number, from 0
abbrev pub state_before : ℕ → ℕ → ℕ
state_before seed zero = seed
state_before seed (suc n) = (mix_u64 (state_before seed n)).1

-- the word with a number, from 0
abbrev pub word_at : ℕ → ℕ → ℕ
word_at seed n = (mix_u64 (state_before seed n)).0

-- the calls: each ask takes nine words, eight for its offers and one for what comes of its award

-- the offer of a word
abbrev pub offer_by : ℕ → Offer
offer_by word = record { imp = 0; campaign = word % 16; charge = record { 0 = 1 + word / 16 % 1000000 }; life = 3600; reason = ADMITTED }

-- the places of the offers of an ask
abbrev pub offer_places : List ℕ
offer_places = 0 ∷ 1 ∷ 2 ∷ 3 ∷ 4 ∷ 5 ∷ 6 ∷ 7 ∷ []

-- the offers of eight words from a number on
abbrev pub offers_by : ℕ → ℕ → List Offer
offers_by seed number = map (λ place. offer_by (word_at seed (number + place))) offer_places

-- the kept bid of an offer, with empty texts
abbrev pub kept_by : ℕ → Kept
kept_by bid = record { bid = bid; seat = []; bidid = []; adid = []; nurl = []; burl = []; lurl = []; body = [] }

-- the ask with a number, from 0
abbrev pub ask_by : ℕ → ℕ → Ask
ask_by seed number = record {
  auction = decimal number;
  digest = sha256 (decimal number);
  now = number;
  first = 0;
  imps = codes "1" ∷ [];
  offers = offers_by seed (9 * number);
  kept = map kept_by offer_places;
}

-- what comes of an award, by a word's remainder: nothing, a bill, a loss, or a bill twice
abbrev pub notices_by : ℕ → List ℕ → ℕ → List Call
notices_by remainder auction award =
    if remainder == 1 then notice NoticeKind.Bill auction award ∷ []
    else (if remainder == 2 then notice NoticeKind.Loss auction award ∷ []
    else (if remainder == 3 then notice NoticeKind.Bill auction award ∷ notice NoticeKind.Bill auction award ∷ []
    else []))

-- the same of an ask, if it was awarded
abbrev pub notices_behind : ℕ → ℕ → Option ℕ → List Call
notices_behind seed number None = []
notices_behind seed number (Some award) = notices_by (word_at seed (9 * number + 8) % 4) (decimal number) award

-- after every hundredth ask time comes to its moment
abbrev pub ticks_behind : ℕ → List Call
ticks_behind number = if suc number % 100 == 0 then tick number ∷ [] else []

-- what comes after an ask with a number
abbrev pub calls_behind : ℕ → ℕ → Option ℕ → List Call
calls_behind seed number award = notices_behind seed number award ++ ticks_behind number

-- the number of an ask's award after a history, by its answer
abbrev pub award_by : List Entry → Answer → Option ℕ
award_by history (Answer.Awarded entry) = Some (length (made history))
award_by history answer = None

-- the same by how the ask was answered: none where it was given up
abbrev pub award_told : Terms → List Entry → Call → Option Fault → Option ℕ
award_told terms history call None = award_by history (reply terms history call).answer
award_told terms history call (Some fault) = None

module _ (terms : Terms) (seed : ℕ) where
  -- the calls of the ask with a number after a history: the ask, and what comes after it
  abbrev pub calls_of_ask : List Entry → ℕ → List Call
  calls_of_ask history number =
      ask (ask_by seed number) ∷ calls_behind seed number (award_by history (reply terms history (ask (ask_by seed number))).answer)

  -- the turns of calls that are done
  abbrev pub done_turns : List Call → List Turn
  done_turns calls = map (λ c. record { call = c; outcome = done }) calls

  -- the calls of so many asks from a number on, after a history
  abbrev pub generated_from : ℕ → ℕ → List Entry → List Call
  generated_from zero number history = []
  generated_from (suc asks) number history =
      calls_of_ask history number
      ++ generated_from asks (suc number) (run terms history (done_turns (calls_of_ask history number)))

  -- the calls of a day of so many asks after a history
  abbrev pub generated_calls : ℕ → List Entry → List Call
  generated_calls asks history = generated_from asks 0 history

  -- the history of a day of so many asks from no entry
  abbrev pub generated_history : ℕ → List Entry
  generated_history asks = run terms [] (done_turns (generated_calls asks []))

  -- the same with calls that were given up

  -- the calls of the ask with a number after a history
  pub record AreOfAsk (number : ℕ) (history : List Entry) (told : List Told) : Type 0 where
    pub asked : Told
    pub behind : List Told
    pub is : asked.call ≡ ask (ask_by seed number)
    pub follow : map (λ (t : Told). t.call) behind ≡ calls_behind seed number (award_told terms history asked.call asked.fault)
    pub all : told ≡ asked ∷ behind

  -- the calls of so many asks from a number on
  abbrev pub AreFrom : ℕ → ℕ → List Entry → List Told → Type 0
  AreFrom zero number history told = told ≡ []
  AreFrom (suc asks) number history told =
      (first rest : List Told)
      × AreOfAsk number history first
      × AreFrom asks (suc number) (run terms history (turns_of first)) rest
      × (told ≡ first ++ rest)

  -- the calls of a day of so many asks
  abbrev pub AreOfDay : ℕ → List Entry → List Told → Type 0
  AreOfDay asks start told = AreFrom asks 0 start told

  -- some first ones of them
  abbrev pub BeginDay : ℕ → List Entry → List Told → Type 0
  BeginDay asks start told = (rest : List Told) × AreOfDay asks start (told ++ rest)
