-- Bills that are the same: they are alike, are counted alike, and have one line.
use Rattle.std.proofs.Common.{◌≡◌, ◌∙◌, ℕ, ◌+◌, List, [], ◌∷◌, ◌++◌, Bool, true, cond, ◌==◌, ◌||◌, refl, sym, ap₂}
use Rattle.std.specs.Prelude.{codes, decimal}
use Rattle.std.specs.List.{list_any}
use Rattle.std.specs.Str.{bytes_eq}
use Rattle.std.proofs.lemmas.Bool.{and_parts, eqb-true}
use Rattle.std.proofs.lemmas.List.Sums.{sum_by-cons}
use Rattle.std.proofs.lemmas.Slice.Eq.{bytes_eq-Decides}
use Rattle.adx_units.specs.JsonTexts.{text_spelling}
use Rattle.command_reconcile.specs.Differences.{difference_line, is_same, number_of}
use Rattle.command_reconcile.specs.declared.bill.Bill.{Bill}
use Rattle.command_reconcile.proofs.SameBills.{same_alike}

pub auctions_same : (a b : Bill) → is_same a b ≡ true → a.auction ≡ b.auction
auctions_same a b same = (bytes_eq-Decides a.auction b.auction).0 (and_parts (bytes_eq a.auction b.auction) (a.price.0 == b.price.0) same).0

pub prices_same : (a b : Bill) → is_same a b ≡ true → a.price.0 ≡ b.price.0
prices_same a b same = eqb-true a.price.0 b.price.0 (and_parts (bytes_eq a.auction b.auction) (a.price.0 == b.price.0) same).1

pub number_cons : (b x : Bill) (xs : List Bill) → number_of b (x ∷ xs) ≡ cond (is_same b x) 1 0 + number_of b xs
number_cons b x xs = sum_by-cons (λ (y : Bill). cond (is_same b y) 1 0) x xs

pub number_alike : (a b : Bill) (xs : List Bill) → is_same a b ≡ true → number_of a xs ≡ number_of b xs
number_alike a b [] same = refl
number_alike a b (x ∷ xs) same =
    number_cons a x xs ∙ ap₂ (λ (t : Bool) (k : ℕ). cond t 1 0 + k) (same_alike a b x same) (number_alike a b xs same) ∙ sym (number_cons b x xs)

pub any_alike : (a b : Bill) (ds : List Bill) → is_same a b ≡ true → list_any (is_same a) ds ≡ list_any (is_same b) ds
any_alike a b [] same = refl
any_alike a b (d ∷ ds) same = ap₂ (λ (s t : Bool). s || t) (same_alike a b d same) (any_alike a b ds same)

-- the line of an auction, a price and two numbers
abbrev pub line_of : List ℕ → ℕ → ℕ → ℕ → List ℕ
line_of auction price n m =
    codes "{\"auction\":" ++ text_spelling auction ++ codes ",\"price\":" ++ decimal price
    ++ codes ",\"exchange\":" ++ decimal n ++ codes ",\"bidder\":" ++ decimal m ++ codes "}\n"

pub lines_same : (exchange bidder : List Bill) (a b : Bill) → is_same a b ≡ true → difference_line exchange bidder a ≡ difference_line exchange bidder b
lines_same exchange bidder a b same =
    ap₂ (λ (auction : List ℕ) (price : ℕ). line_of auction price (number_of a exchange) (number_of a bidder)) (auctions_same a b same) (prices_same a b same)
    ∙ ap₂ (λ (n m : ℕ). line_of b.auction b.price.0 n m) (number_alike a b exchange same) (number_alike a b bidder same)
