-- The laws of the definitions, as statements. This project's own.
use Rattle.std.specs.Prelude.{◌≡◌, ◌≢◌, ◌↔◌, ℕ, ◌≤◌, List, [], ◌∷◌, ◌++◌, map, length, Bool, true, ◌&&◌, if◌then◌else◌, IsPermutation, IsTrue, Option, Some, slice_get}
use Rattle.std.specs.List.{list_any}
use Rattle.notice_book.specs.declared.kind.NoticeKind.{NoticeKind}
use Rattle.adx_units.specs.declared.offer.Offer.{Offer}
use Rattle.allocator_core.specs.Choice.{budget_at, chosen_at, settled_offers, standing_at}
use Rattle.allocator_core.specs.declared.reason.TheConstants.{AWARDED}
use Rattle.notice_book.specs.declared.award.Award.{Award}
use Rattle.notice_book.specs.Rules.{is_open, is_billed}
use Rattle.day_rules.specs.declared.ask.Ask.{Ask}
use Rattle.day_rules.specs.declared.entry.Entry.{Entry}
use Rattle.day_rules.specs.Entries.{notice_of, is_same_notice}
use Rattle.day_rules.specs.Books.{awards_of, numbers_where, reserved, billed, committed}
use Rattle.day_rules.specs.Asks.{undecided}
use Rattle.day_rules.specs.Terms.{Terms, budgets_after}
use Rattle.day_rules.specs.Legal.{IsLegal}
use Rattle.day_rules.specs.Replies.{Reply, is_of_auction, notice_reply, reply, with_entry}
use Rattle.day_rules.specs.Runs.{Turn, AreTurns, run, once, is_effective, is_repeat}
use Rattle.day_rules.specs.PlainBooks.{PlainBooks, no_books, plain_books, plain_reserved, plain_billed}

-- in every legal history the committed money of each campaign is within its budget there
abbrev pub StaysWithinBudget : Type 0
StaysWithinBudget =
    (terms : Terms) (history : List Entry) → IsLegal terms history
    → (campaign : ℕ) → committed history campaign ≤ budget_at (budgets_after terms history) campaign

-- a run from a legal history is legal
abbrev pub RunsStayLegal : Type 0
RunsStayLegal =
    (terms : Terms) (history : List Entry) (turns : List Turn) → IsLegal terms history
    → AreTurns (length terms.budgets) turns → IsLegal terms (run terms history turns)

-- the choice for an impression of an ask after some entries, at its turn: by what its campaigns have committed after the
-- choices for the impressions before it
abbrev pub choice_for : Terms → List Entry → Ask → ℕ → Option ℕ
choice_for terms before a imp =
    let budgets = budgets_after terms before in
    let offers = (undecided a).offers in
    chosen_at budgets (standing_at budgets (committed before) offers imp) offers imp

-- an ask as it is after some entries: each of its offers has the reason that it gets there, read as admitted where
-- it is decided, and an offer is awarded exactly where it is the choice for its impression
pub record StandsSettled (terms : Terms) (before : List Entry) (a : Ask) : Type 0 where
  pub offers : a.offers ≡ settled_offers (budgets_after terms before) (committed before) (undecided a).offers
  pub awarded : (place : ℕ) (o : Offer) → slice_get a.offers place ≡ Some o
      → (o.reason ≡ AWARDED) ↔ (choice_for terms before a o.imp ≡ Some place)

-- each ask of a legal history is settled after the entries before it
abbrev pub FirstGreatestChoice : Type 0
FirstGreatestChoice =
    (terms : Terms) (before : List Entry) (a : Ask) (after : List Entry) → IsLegal terms (before ++ Entry.Ask a ∷ after)
    → StandsSettled terms before a

-- the plain books of the calls of a run taken once
abbrev pub books_once : Terms → List Entry → List Turn → PlainBooks
books_once terms history turns = plain_books (no_books terms.budgets) (once terms history turns)

-- the books after a run are the plain books of its calls taken once: the same numbers are open and were billed,
-- and each campaign has the same budget and the same money
pub record AreOfCallsTakenOnce (terms : Terms) (history : List Entry) (turns : List Turn) : Type 0 where
  pub budgets : (books_once terms history turns).budgets ≡ budgets_after terms (run terms history turns)
  pub open_numbers : (books_once terms history turns).open_numbers
      ≡ numbers_where is_open (awards_of (run terms history turns))
  pub billed_numbers : IsPermutation (books_once terms history turns).billed_numbers
      (numbers_where is_billed (awards_of (run terms history turns)))
  pub reserved : (campaign : ℕ) → reserved (run terms history turns) campaign
      ≡ plain_reserved (books_once terms history turns) campaign
  pub billed : (campaign : ℕ) → billed (run terms history turns) campaign
      ≡ plain_billed (books_once terms history turns) campaign

-- so are the books after each run from a legal history
abbrev pub BooksAreOfCallsTakenOnce : Type 0
BooksAreOfCallsTakenOnce =
    (terms : Terms) (history : List Entry) (turns : List Turn) → IsLegal terms history
    → AreTurns (length terms.budgets) turns → AreOfCallsTakenOnce terms history turns

-- an effective turn answers Repeat exactly where the calls taken once leave it out: they stay as they are
-- with a repeat, and else end in its call
abbrev pub RepeatsAreLeftOut : Type 0
RepeatsAreLeftOut =
    (terms : Terms) (history : List Entry) (turns : List Turn) (turn : Turn) → IsLegal terms history
    → AreTurns (length terms.budgets) (turns ++ turn ∷ [])
    → is_effective terms (run terms history turns) turn ≡ true
    → once terms history (turns ++ turn ∷ [])
    ≡ (if is_repeat (reply terms (run terms history turns) turn.call).answer
    then once terms history turns else once terms history turns ++ turn.call ∷ [])

-- a notice of an award as it arrives, with the auction that it names
pub record Arrival : Type 0 where
  pub kind : NoticeKind
  pub auction : List ℕ
  pub award : ℕ

-- the reply to an arrival
abbrev pub arrival_reply : List Entry → Arrival → Reply
arrival_reply history x = notice_reply history x.kind x.auction x.award

-- the history after an arrival
abbrev pub after_arrival : List Entry → Arrival → List Entry
after_arrival history x = with_entry history (arrival_reply history x).entry

-- the history after arrivals, one after the other
abbrev pub after_arrivals : List Entry → List Arrival → List Entry
after_arrivals history [] = history
after_arrivals history (x ∷ xs) = after_arrivals (after_arrival history x) xs

-- two notices in either order: each gets the answer that it would get alone, and the awards are the same
pub record Commute (history : List Entry) (x y : Arrival) : Type 0 where
  pub first : (arrival_reply (after_arrival history y) x).answer ≡ (arrival_reply history x).answer
  pub second : (arrival_reply (after_arrival history x) y).answer ≡ (arrival_reply history y).answer
  pub awards : awards_of (after_arrivals history (x ∷ y ∷ [])) ≡ awards_of (after_arrivals history (y ∷ x ∷ []))

-- two notices of different awards commute in each legal history
abbrev pub NoticesCommute : Type 0
NoticesCommute =
    (terms : Terms) (history : List Entry) (x y : Arrival) → IsLegal terms history → x.award ≢ y.award → Commute history x y

-- a notice of that kind and award, which names the auction of the award
abbrev pub is_notice_of : List Entry → NoticeKind → ℕ → Award → Arrival → Bool
is_notice_of history kind n w x =
    is_same_notice (notice_of kind n) (notice_of x.kind x.award) && is_of_auction history x.auction w

-- such a notice is among the arrivals
abbrev pub has_arrival : List Entry → NoticeKind → ℕ → Award → List Arrival → Type 0
has_arrival history kind n w xs = IsTrue (list_any (is_notice_of history kind n w) xs)

-- no open award gets both a bill and a loss that name its auction
abbrev pub AgreeOnEnds : List Entry → List Arrival → Type 0
AgreeOnEnds history xs =
    (n : ℕ) (w : Award) → slice_get (awards_of history) n ≡ Some w → is_open w.end ≡ true
    → has_arrival history NoticeKind.Bill n w xs → has_arrival history NoticeKind.Loss n w xs → ⊥

-- every order of the notices gives the same ends, and so the same money
pub record AreSameBooks (one other : List Entry) : Type 0 where
  pub ends : map (λ w. w.end) (awards_of one) ≡ map (λ w. w.end) (awards_of other)
  pub reserved : (campaign : ℕ) → reserved one campaign ≡ reserved other campaign
  pub billed : (campaign : ℕ) → billed one campaign ≡ billed other campaign

-- every order of arrivals that agree on ends gives the same ends and the same money
abbrev pub OrderIsFree : Type 0
OrderIsFree =
    (terms : Terms) (history : List Entry) (xs ys : List Arrival) → IsLegal terms history → IsPermutation xs ys
    → AgreeOnEnds history xs → AreSameBooks (after_arrivals history xs) (after_arrivals history ys)
