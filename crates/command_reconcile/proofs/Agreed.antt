-- Where two sides have the same bills there is no difference, and where there is none they have.
use Rattle.std.proofs.Common.{◌≡◌, ◌∙◌, ℕ, ◌≤◌, List, [], ◌∷◌, ◌++◌, length, Bool, false, not, ◌||◌, eqb, refl, sym, ap, arith, length-append}
use Rattle.std.specs.Prelude.{codes, decimal}
use Rattle.std.specs.List.{flat_map, list_any}
use Rattle.std.proofs.lemmas.Bool.{eq-eqb, eqb-true, false≢true, not-false}
use Rattle.command_reconcile.specs.Differences.{IsReconciliation, difference_line, is_same, number_of, sums_line}
use Rattle.command_reconcile.specs.Walks.{bill_names}
use Rattle.command_reconcile.specs.declared.bill.Bill.{Bill}
use Rattle.command_reconcile.proofs.SameBills.{same_itself}
use Rattle.command_reconcile.specs.Agreements.{HaveSameBills}

-- no bill is among none
none_listed : (ds : List Bill) → ((b : Bill) → list_any (is_same b) ds ≡ false) → ds ≡ []
none_listed [] none = refl
none_listed (d ∷ ds) none = absurd (false≢true (sym (none d) ∙ ap (λ (t : Bool). t || list_any (is_same d) ds) (same_itself d)))

pub alone_told : (exchange bidder : List Bill) (out : List ℕ) → HaveSameBills exchange bidder → IsReconciliation exchange bidder out → out ≡ sums_line exchange bidder
alone_told exchange bidder out same told =
    let none : told.differences ≡ [] =
    none_listed told.differences
    (λ b. told.are_those.just b ∙ ap not (eq-eqb (number_of b exchange) (number_of b bidder) (same b))) in
    told.spelled ∙ ap (λ (ds : List Bill). flat_map (difference_line exchange bidder) ds ++ sums_line exchange bidder) none

some_last : (a c n d m e : List ℕ) (x : ℕ) → 1 ≤ length (((((a ++ c) ++ n) ++ d) ++ m) ++ (x ∷ e))
some_last a c n d m e x = omega (arith, length-append ((((a ++ c) ++ n) ++ d) ++ m) (x ∷ e))

-- a line isn't empty
some_line : (exchange bidder : List Bill) (d : Bill) → 1 ≤ length (difference_line exchange bidder d)
some_line exchange bidder d =
    some_last (bill_names d) (codes ",\"exchange\":") (decimal (number_of d exchange)) (codes ",\"bidder\":") (decimal (number_of d bidder)) (10 ∷ []) 125

not_longer : (line more rest : List ℕ) → 1 ≤ length line → rest ≡ (line ++ more) ++ rest → ⊥
not_longer line more rest some is =
    let longer : length rest ≡ length ((line ++ more) ++ rest) = ap (λ (l : List ℕ). length l) is in
    absurd (omega (arith, some, longer, length-append (line ++ more) rest, length-append line more))

no_difference : (exchange bidder ds : List Bill) (rest : List ℕ) → rest ≡ flat_map (difference_line exchange bidder) ds ++ rest → ds ≡ []
no_difference exchange bidder [] rest is = refl
no_difference exchange bidder (d ∷ ds) rest is =
    absurd (not_longer (difference_line exchange bidder d) (flat_map (difference_line exchange bidder) ds) rest (some_line exchange bidder d) is)

pub agree_alone : (exchange bidder : List Bill) → IsReconciliation exchange bidder (sums_line exchange bidder) → HaveSameBills exchange bidder
agree_alone exchange bidder told b =
    let none : told.differences ≡ [] = no_difference exchange bidder told.differences (sums_line exchange bidder) told.spelled in
    let just : false ≡ not (eqb (number_of b exchange) (number_of b bidder)) = ap (λ (ds : List Bill). list_any (is_same b) ds) (sym none) ∙ told.are_those.just b in
    eqb-true (number_of b exchange) (number_of b bidder) (not-false (eqb (number_of b exchange) (number_of b bidder)) (sym just))
