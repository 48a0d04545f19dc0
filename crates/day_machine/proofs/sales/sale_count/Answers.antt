use Rattle.std.proofs.Common.{◌≡◌, ◌+◌, ◌-◌, ◌<◌, ℕ, List, length, map, ap, ◌∙◌, sym, arith, length-append}
use Rattle.std.specs.List.{flat_map, range_with_len}
use Rattle.std.proofs.lemmas.List.{length-map}
use Rattle.adx_units.specs.declared.offer.Offer.{Offer}
use Rattle.day_rules.specs.Books.{Sale, awarded_offers, sale_of}
use Rattle.day_rules.proofs.Counting.{sales_few}
use Rattle.day_machine.proofs.SalesKept.{below_all, below_more}
use Rattle.day_machine.proofs.sales.sale_count.Goals as goal

pub overflow_add-count : goal.overflow_add-count
overflow_add-count c =
    let a = c.args.ask.now in
    let f : ℕ → List Sale = λ imp. map (sale_of a) (awarded_offers a.offers imp) in
    let i : ℕ = c.loop-imp.imp in
    let within : i < length a.imps = omega arith in
    let here : c.count_of_imp-count.result ≡ length (f i) = c.count_of_imp-count.ensures ∙ (ap (λ (os : List Offer). length (awarded_offers os i)) c.as_slice.ensures ∙ sym (length-map (awarded_offers a.offers i) (sale_of a))) in
    omega (
      arith,
      sales_few a,
      ap (λ (s : List Sale). length s) (below_all f i (length a.imps) within),
      ap (λ (s : List Sale). length s) (below_more f i),
      length-append (flat_map f (range_with_len 0 i)) (f i),
      length-append (flat_map f (range_with_len 0 (i + 1))) (flat_map f (range_with_len (i + 1) (length a.imps - (i + 1)))),
    )

pub loop-imp-preserved : goal.loop-imp-preserved
loop-imp-preserved c =
    let a = c.args.ask.now in
    let f : ℕ → List Sale = λ imp. map (sale_of a) (awarded_offers a.offers imp) in
    let i : ℕ = c.loop-imp.imp in
    let here : c.count_of_imp-count.result ≡ length (f i) = c.count_of_imp-count.ensures ∙ (ap (λ (os : List Offer). length (awarded_offers os i)) c.as_slice.ensures ∙ sym (length-map (awarded_offers a.offers i) (sale_of a))) in
    omega (arith, ap (λ (s : List Sale). length s) (below_more f i), length-append (flat_map f (range_with_len 0 i)) (f i))

pub returns-clause-few : goal.returns-clause-few
returns-clause-few c =
    let a = c.args.ask.now in
    let f : ℕ → List Sale = λ imp. map (sale_of a) (awarded_offers a.offers imp) in
    let last : c.loop-imp.imp ≡ length a.imps = omega arith in
    omega (arith, sales_few a, ap (λ (k : ℕ). length (flat_map f (range_with_len 0 k))) last)
