-- The charge of each award of a legal history is a price.
use Rattle.std.proofs.Common.{◌≡◌, ℕ, ◌+◌, List, [], ◌∷◌, ◌++◌, length, map, Bool, true, false, cond, ◌==◌, refl, sym, ◌∙◌, append_assoc, All, arith}
use Rattle.std.specs.Prelude.{filter}
use Rattle.std.specs.List.{enumerate_from, range_with_len}
use Rattle.std.specs.Option.{option_map_or}
use Rattle.std.proofs.lemmas.Bool.{and_parts}
use Rattle.std.proofs.lemmas.Bool.Decides.{nat_tests}
use Rattle.std.proofs.lemmas.List.Elements.{All-append, All-cons, All-head, All-nil, All-tail}
use Rattle.adx_units.specs.declared.offer.Offer.{Offer}
use Rattle.allocator_core.specs.declared.reason.TheConstants.{AWARDED}
use Rattle.day_rules.specs.Asks.{IsOffer}
use Rattle.day_rules.specs.Entries.{asked}
use Rattle.day_rules.specs.Legal.{IsLegal, MayFollow}
use Rattle.day_rules.specs.Terms.{Terms}
use Rattle.day_rules.specs.declared.ask.Ask.{Ask}
use Rattle.day_rules.specs.declared.entry.Entry.{Entry}
use Rattle.day_rules.proofs.Selling.{awarded_offer}
use Rattle.outbox.specs.Bids.{awarded, awarded_by, awarded_for, bid_of, is_award, texts_at}
use Rattle.two_books.specs.Holding.{IsCharge}
use Rattle.two_books.proofs.Owned.{all_flat}

same : (a b : ℕ) → (a == b) ≡ true → a ≡ b
same a b e = grind (arith, nat_tests)

module _ (campaigns imps : ℕ) (a : Ask) (imp : ℕ) where
  charged : (n : ℕ) (o : Offer) → IsOffer campaigns imps o → is_award imp (n, o) ≡ true → IsCharge (bid_of a (texts_at a.kept n) o)
  charged n o is award =
      let admitted = awarded_offer campaigns imps o is (same o.reason AWARDED (and_parts (o.reason == AWARDED) (o.imp == imp) award).0) in
      (admitted.positive, admitted.within)

  pub offers_charged : (n : ℕ) (offers : List Offer) → All (IsOffer campaigns imps) offers
      → All IsCharge (map (λ (p : ℕ × Offer). bid_of a (texts_at a.kept p.0) p.1) (filter (is_award imp) (enumerate_from n offers)))
  offers_charged n [] all = All-nil IsCharge
  offers_charged n (o ∷ offers) all = by (is_award imp (n, o)) refl (offers_charged (n + 1) offers (All-tail (IsOffer campaigns imps) o offers all))
    where
      rest : List (ℕ × Offer)
      rest = filter (is_award imp) (enumerate_from (n + 1) offers)

      by : (t : Bool) → is_award imp (n, o) ≡ t → All IsCharge (map (λ (p : ℕ × Offer). bid_of a (texts_at a.kept p.0) p.1) rest)
          → All IsCharge (map (λ (p : ℕ × Offer). bid_of a (texts_at a.kept p.0) p.1) (cond t ((n, o) ∷ rest) rest))
      by true is more =
          All-cons IsCharge (bid_of a (texts_at a.kept n) o) (map (λ (p : ℕ × Offer). bid_of a (texts_at a.kept p.0) p.1) rest)
          (charged n o (All-head (IsOffer campaigns imps) o offers all) is) more
      by false is more = more

ask_charged : (campaigns : ℕ) (a : Ask) → All (IsOffer campaigns (length a.imps)) a.offers → All IsCharge (awarded_by a)
ask_charged campaigns a all =
    all_flat IsCharge (awarded_for a) (range_with_len 0 (length a.imps)) (λ imp. offers_charged campaigns (length a.imps) a imp 0 a.offers all)

entry_charged : (terms : Terms) (before : List Entry) (e : Entry) → MayFollow terms before e → All IsCharge (option_map_or awarded_by (asked e) [])
entry_charged terms before (Entry.Ask a) may = ask_charged (length terms.budgets) a may.well_formed.offers
entry_charged terms before (Entry.Win n) may = All-nil IsCharge
entry_charged terms before (Entry.Bill n) may = All-nil IsCharge
entry_charged terms before (Entry.Loss n) may = All-nil IsCharge
entry_charged terms before (Entry.Expire now) may = All-nil IsCharge
entry_charged terms before (Entry.Budget campaign change budget) may = All-nil IsCharge

charged_behind : (terms : Terms) (history before after : List Entry) → IsLegal terms history → history ≡ before ++ after → All IsCharge (awarded after)
charged_behind terms history before [] legal is = All-nil IsCharge
charged_behind terms history before (e ∷ after) legal is =
    All-append IsCharge (option_map_or awarded_by (asked e) []) (awarded after) (entry_charged terms before e (legal before e after is))
    (charged_behind terms history (before ++ e ∷ []) after legal (is ∙ sym (append_assoc before (e ∷ []) after)))

pub all_charged : (terms : Terms) (history : List Entry) → IsLegal terms history → All IsCharge (awarded history)
all_charged terms history legal = charged_behind terms history [] history legal refl
