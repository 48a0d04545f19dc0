-- Private, cited by helpers alone: a walk over the bills of two sides that are in order.
use Rattle.std.specs.Prelude.{◌≡◌, ◌⊎◌, ℕ, ◌+◌, length, List, [], ◌∷◌, ◌++◌, not, false, ◌==◌, if◌then◌else◌, codes, decimal}
use Rattle.std.specs.List.{AllByRecursion, list_any}
use Rattle.std.specs.List.Sorted.{IsStrictlySortedBy}
use Rattle.std.specs.Ordering.{is_lt}
use Rattle.std.specs.declared.cmp.Ordering.TheVariants.{Less}
use Rattle.adx_units.specs.JsonTexts.{text_spelling}
use Rattle.command_reconcile.specs.Differences.{bill_cmp, is_same, number_of}
use Rattle.command_reconcile.specs.declared.bill.Bill.{Bill}

-- none of the bills is before that one
abbrev pub AreFrom : Bill → List Bill → Type 0
AreFrom b bills = AllByRecursion (λ x. is_lt (bill_cmp x b) ≡ false) bills

-- all of the bills are after that one
abbrev pub AreAfter : Bill → List Bill → Type 0
AreAfter b bills = AllByRecursion (λ x. bill_cmp b x ≡ Less) bills

-- no bill is before an earlier one
abbrev pub AreRising : List Bill → Type 0
AreRising [] = Unit {0}
AreRising (x ∷ xs) = AreFrom x xs × AreRising xs

-- the first of the bills is that one
abbrev pub BeginsWith : Bill → List Bill → Type 0
BeginsWith b bills = (more : List Bill) × (bills ≡ b ∷ more)

-- the first bill of two lists, of which none is before it
pub record IsLeast (b : Bill) (exchange bidder : List Bill) : Type 0 where
  pub is_first : BeginsWith b exchange ⊎ BeginsWith b bidder
  pub from_exchange : AreFrom b exchange
  pub from_bidder : AreFrom b bidder

-- the bills at the front that are the same as that one were cut off, so many, and these are behind them
pub record IsCut (b : Bill) (bills rest : List Bill) (n : ℕ) : Type 0 where
  pub number : number_of b bills ≡ n
  pub length : length bills ≡ n + length rest
  pub behind : AreAfter b rest
  pub rising : AreRising rest
  pub others : (x : Bill) → is_same x b ≡ false → number_of x rest ≡ number_of x bills

-- of two bills this is one, and the other isn't before it
abbrev pub IsLesser : Bill → Bill → Bill → Type 0
IsLesser a b lesser = ((lesser ≡ a) × (is_lt (bill_cmp b a) ≡ false)) ⊎ ((lesser ≡ b) × (is_lt (bill_cmp a b) ≡ false))

-- an auction and a price
abbrev pub bill_names : Bill → List ℕ
bill_names b = codes "{\"auction\":" ++ text_spelling b.auction ++ codes ",\"price\":" ++ decimal b.price.0

-- how many bills there are on each side
abbrev pub numbers_part : ℕ → ℕ → List ℕ
numbers_part n m = codes ",\"exchange\":" ++ decimal n ++ codes ",\"bidder\":" ++ decimal m ++ codes "}\n"

-- the line of both where the numbers differ
abbrev pub difference_of : Bill → ℕ → ℕ → List ℕ
difference_of b n m = if n == m then [] else bill_names b ++ numbers_part n m

-- the bills of that auction and price were walked over, and whether their numbers differ stands among the differences
pub record IsDone (b : Bill) (exchange bidder exchange_left bidder_left differences : List Bill) : Type 0 where
  pub none_exchange : number_of b exchange_left ≡ 0
  pub none_bidder : number_of b bidder_left ≡ 0
  pub told : list_any (is_same b) differences ≡ not (number_of b exchange == number_of b bidder)

-- all bills of that auction and price are still to come
pub record IsToCome (b : Bill) (exchange bidder exchange_left bidder_left differences : List Bill) : Type 0 where
  pub all_exchange : number_of b exchange_left ≡ number_of b exchange
  pub all_bidder : number_of b bidder_left ≡ number_of b bidder
  pub untold : list_any (is_same b) differences ≡ false

-- of the bills of the two sides these are left, and these differences were met
pub record IsWalked (exchange bidder exchange_left bidder_left differences : List Bill) : Type 0 where
  pub sorted : IsStrictlySortedBy bill_cmp differences
  pub before_exchange : AllByRecursion (λ d. AreAfter d exchange_left) differences
  pub before_bidder : AllByRecursion (λ d. AreAfter d bidder_left) differences
  pub rising_exchange : AreRising exchange_left
  pub rising_bidder : AreRising bidder_left
  pub each : (b : Bill) → IsDone b exchange bidder exchange_left bidder_left differences ⊎ IsToCome b exchange bidder exchange_left bidder_left differences
