-- What the reconciliation of two sides' bills says of them. This project's own.
use Rattle.std.specs.Prelude.{◌≡◌, ℕ, List}
use Rattle.command_reconcile.specs.Differences.{IsReconciliation, number_of, sum_of, sums_line}
use Rattle.command_reconcile.specs.declared.bill.Bill.{Bill}

-- of each auction and price both sides have the same number of bills
-- Example: (a, 5) and (b, 7) against (b, 7) and (a, 5) have the same bills, and the text is
-- `{"exchange":12,"bidder":12}`.
abbrev pub HaveSameBills : List Bill → List Bill → Type 0
HaveSameBills exchange bidder = (b : Bill) → number_of b exchange ≡ number_of b bidder

-- The text reconciles two sides' bills, and no other text does. It has the sums alone just where both sides have the same
-- bills, and then the sums are equal.
pub record Reconciles (exchange bidder : List Bill) (out : List ℕ) : Type 0 where
  pub written : IsReconciliation exchange bidder out
  pub one : (text : List ℕ) → IsReconciliation exchange bidder text → text ≡ out
  pub alone : HaveSameBills exchange bidder → out ≡ sums_line exchange bidder
  pub agree : out ≡ sums_line exchange bidder → HaveSameBills exchange bidder
  pub equal : HaveSameBills exchange bidder → sum_of exchange ≡ sum_of bidder
