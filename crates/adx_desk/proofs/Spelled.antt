-- A settled ask that may follow has a spelling.
use Rattle.std.proofs.Common.{◌≡◌, ◌⊎◌, inl, inr, ℕ, ◌^◌, ◌<◌, ◌≤◌, List, length, arith}
use Rattle.adx_units.specs.declared.offer.Offer.{Offer}
use Rattle.day_rules.specs.declared.ask.Kept.{Kept}
use Rattle.day_rules.specs.declared.entry.Entry.{Entry}
use Rattle.day_rules.specs.Asks.{IsOffer, IsWellFormed, undecided}
use Rattle.day_rules.specs.Legal.{MayFollow}
use Rattle.day_rules.specs.Terms.{Terms}
use Rattle.day_rules.specs.KeptTexts.{IsShort}
use Rattle.day_rules.proofs.Texts.{few_texts, settled_short}
use Rattle.day_entries.specs.Entries.{HasShortTexts, IsSpelled}

offer_imp : (campaigns imps : ℕ) (o : Offer) → imps ≤ 16 → IsOffer campaigns imps o → o.imp < 2 ^ 8
offer_imp campaigns imps o few (inl w) = let h = w.imp in omega arith
offer_imp campaigns imps o few (inr w) = by w.imp
  where
    by : (o.imp < imps) ⊎ (o.imp ≡ 16) → o.imp < 2 ^ 8
    by (inl below) = omega arith
    by (inr none) = omega arith

short_texts : (k : Kept) → IsShort k → HasShortTexts k
short_texts k short = record {
  seat = omega arith;
  bidid = omega arith;
  adid = omega arith;
  nurl = omega arith;
  burl = omega arith;
  lurl = omega arith;
  body = omega arith;
}

pub spelled : (terms : Terms) (history : List Entry) (e : Entry) → MayFollow terms history e → IsSpelled e
spelled terms history (Entry.Ask a) follows =
    let formed : IsWellFormed (length terms.budgets) a = follows.well_formed in
    record {
      imps = let h = formed.few_imps in omega arith;
      few_offers = let h = formed.few_offers in omega arith;
      offers = λ k d below. offer_imp (length terms.budgets) (length a.imps) _ formed.few_imps (formed.offers k d below);
      few_kept = let h = formed.few_offers in omega (arith, few_texts a.offers a.kept formed.kept);
      kept = λ k d below. short_texts _ (settled_short (length terms.budgets) terms history (undecided a) a follows.is_settled formed k d below);
    }
spelled terms history (Entry.Win n) follows = tt
spelled terms history (Entry.Bill n) follows = tt
spelled terms history (Entry.Loss n) follows = tt
spelled terms history (Entry.Expire now) follows = tt
spelled terms history (Entry.Budget campaign change budget) follows = tt
