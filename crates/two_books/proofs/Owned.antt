-- The bids that a history awarded are the bidder's own, where all bids of its asks are.
use Rattle.std.proofs.Common.{ℕ, List, [], ◌∷◌, length, map, Bool, true, false, cond, refl, All, Option, Some, None, inl, ◌==◌}
use Rattle.std.specs.Prelude.{IfSome, filter, find, unwrap_or}
use Rattle.std.specs.List.{enumerate_from, flat_map, range_with_len}
use Rattle.std.specs.Option.{option_map_or}
use Rattle.std.proofs.lemmas.List.Elements.{All-append, All-cons, All-head, All-nil, All-tail}
use Rattle.adx_units.specs.declared.offer.Offer.{Offer}
use Rattle.day_rules.specs.Entries.{asked}
use Rattle.day_rules.specs.declared.ask.Ask.{Ask}
use Rattle.day_rules.specs.declared.ask.Kept.{Kept}
use Rattle.day_rules.specs.declared.entry.Entry.{Entry}
use Rattle.outbox.specs.Bids.{Bid, awarded, awarded_by, awarded_for, bid_of, is_award, no_texts, texts_at}
use Rattle.two_books.specs.Holding.{AreOwnTexts, IsOwnAsk, IsOwnEntry}
use Rattle.two_books.specs.Names.{IsName}

pub all_map : {A B : Type 0} (P : B → Type 0) (f : A → B) (xs : List A) → ((x : A) → P (f x)) → All P (map f xs)
all_map P f [] h = All-nil P
all_map P f (x ∷ xs) h = All-cons P (f x) (map f xs) (h x) (all_map P f xs h)

pub all_flat : {A B : Type 0} (P : B → Type 0) (f : A → List B) (xs : List A) → ((x : A) → All P (f x)) → All P (flat_map f xs)
all_flat P f [] h = All-nil P
all_flat P f (x ∷ xs) h = All-append P (f x) (flat_map f xs) (h x) (all_flat P f xs h)

-- a bid of the bidder's own, of an auction with a name
pub record IsOwnBid (base : List ℕ) (prices : ℕ) (b : Bid) : Type 0 where
  pub texts : AreOwnTexts base prices b.texts
  pub auction : IsName b.auction

module _ (base : List ℕ) (prices : ℕ) where
  -- the texts of a place are kept ones or none
  texts_own : (kept : List Kept) (place : ℕ) → All (AreOwnTexts base prices) kept → AreOwnTexts base prices (texts_at kept place)
  texts_own [] place all = record { nurl = inl refl; burl = inl refl; lurl = inl refl }
  texts_own (k ∷ kept) place all = by (k.bid == place) (texts_own kept place (All-tail (AreOwnTexts base prices) k kept all))
    where
      by : (t : Bool) → AreOwnTexts base prices (texts_at kept place)
          → AreOwnTexts base prices (unwrap_or (cond t (Some k) (find (λ (x : Kept). x.bid == place) kept)) (no_texts place))
      by true rest = All-head (AreOwnTexts base prices) k kept all
      by false rest = rest

  own_bid : (a : Ask) (place : ℕ) (o : Offer) → IsOwnAsk base prices a → IsOwnBid base prices (bid_of a (texts_at a.kept place) o)
  own_bid a place o own = record { texts = texts_own a.kept place own.texts; auction = own.auction }

  own_by : (a : Ask) → IsOwnAsk base prices a → All (IsOwnBid base prices) (awarded_by a)
  own_by a own =
      all_flat (IsOwnBid base prices) (awarded_for a) (range_with_len 0 (length a.imps))
      (λ imp. all_map (IsOwnBid base prices) (λ (p : ℕ × Offer). bid_of a (texts_at a.kept p.0) p.1) (filter (is_award imp) (enumerate_from 0 a.offers)) (λ p. own_bid a p.0 p.1 own))

  own_asked : (o : Option Ask) → IfSome o (IsOwnAsk base prices) → All (IsOwnBid base prices) (option_map_or awarded_by o [])
  own_asked None own = All-nil (IsOwnBid base prices)
  own_asked (Some a) own = own_by a own

  pub own_awarded : (history : List Entry) → All (IsOwnEntry base prices) history → All (IsOwnBid base prices) (awarded history)
  own_awarded [] all = All-nil (IsOwnBid base prices)
  own_awarded (e ∷ history) all =
      All-append (IsOwnBid base prices) (option_map_or awarded_by (asked e) []) (awarded history) (own_asked (asked e) (All-head (IsOwnEntry base prices) e history all))
      (own_awarded history (All-tail (IsOwnEntry base prices) e history all))
