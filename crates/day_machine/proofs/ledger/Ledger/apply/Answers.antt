use Rattle.std.proofs.Common.{◌≡◌, ◌<◌, List, length, set, get_or, slice_get, Some, ap, ◌∙◌, arith}
use Rattle.std.proofs.lemmas.List.{get_or-set_other, get_or-set_same, get_or_default, length-set}
use Rattle.std.proofs.lemmas.Option.{slice_get_within}
use Rattle.notice_book.specs.declared.award.Award.{Award}
use Rattle.notice_book.specs.Rules.{noticed_award}
use Rattle.day_machine.specs.LedgerState.{LedgerState, no_places, placed, to_come_of}
use Rattle.day_machine.specs.declared.places.Places.{Places}
use Rattle.day_machine.proofs.LedgerKept.{changed_here, kept_notice, notice_budgets, notice_reserved, part_to_come}
use Rattle.day_machine.proofs.Pointed.{pointed, there}
use Rattle.day_machine.proofs.ledger.Ledger.apply.Goals as goal

pub move_money-requires-clause-reserved : goal.move_money-requires-clause-reserved
move_money-requires-clause-reserved c =
    let awards = ap (λ (s : LedgerState). s.awards) c.self.view_is in
    let at : slice_get c.self.inside.sold.awards c.args.n ≡ Some c.requires.award = ap (λ (ws : List Award). slice_get ws c.args.n) awards ∙ c.requires.known in
    let is : c.unwrap.result.now ≡ c.requires.award = pointed c.get.result c.unwrap.result c.requires.award c.unwrap.ensures (c.get.ensures ∙ at) in
    rw is (notice_reserved c.self.inside.money c.self.inside.sold.awards c.self.inside.places.items c.self.inside.to_come c.args.kind c.args.n c.requires.award c.self.invariant at c.requires.counted)

pub unwrap-requires-2 : goal.unwrap-requires-2
unwrap-requires-2 c =
    let awards = ap (λ (s : LedgerState). s.awards) c.self.view_is in
    let at : slice_get c.self.inside.sold.awards c.args.n ≡ Some c.requires.award = ap (λ (ws : List Award). slice_get ws c.args.n) awards ∙ c.requires.known in
    there c.get-2.result (noticed_award c.args.kind c.requires.award)
    (c.get-2.ensures ∙ (ap (λ (ws : List Award). slice_get ws c.args.n) c.apply.ensures.awards
    ∙ changed_here (noticed_award c.args.kind) c.args.n c.self.inside.sold.awards c.requires.award at))

pub index-requires : goal.index-requires
index-requires c =
    let awards = ap (λ (s : LedgerState). s.awards) c.self.view_is in
    let at : slice_get c.self.inside.sold.awards c.args.n ≡ Some c.requires.award = ap (λ (ws : List Award). slice_get ws c.args.n) awards ∙ c.requires.known in
    omega (arith, slice_get_within c.self.inside.sold.awards c.args.n c.requires.award at, c.self.invariant.each_placed)

pub index_mut-requires : goal.index_mut-requires
index_mut-requires c =
    let awards = ap (λ (s : LedgerState). s.awards) c.self.view_is in
    let at : slice_get c.self.inside.sold.awards c.args.n ≡ Some c.requires.award = ap (λ (ws : List Award). slice_get ws c.args.n) awards ∙ c.requires.known in
    omega (arith, slice_get_within c.self.inside.sold.awards c.args.n c.requires.award at, c.self.invariant.each_placed)

pub overflow_sub-self : goal.overflow_sub-self
overflow_sub-self c =
    let awards = ap (λ (s : LedgerState). s.awards) c.self.view_is in
    let at : slice_get c.self.inside.sold.awards c.args.n ≡ Some c.requires.award = ap (λ (ws : List Award). slice_get ws c.args.n) awards ∙ c.requires.known in
    let is : c.unwrap.result.now ≡ c.requires.award = pointed c.get.result c.unwrap.result c.requires.award c.unwrap.ensures (c.get.ensures ∙ at) in
    omega (arith, c.to_come_of.ensures.value, ap to_come_of is, part_to_come c.self.inside.money c.self.inside.sold.awards c.self.inside.places.items c.self.inside.to_come c.args.n c.requires.award c.self.invariant at)

pub invariant_of-self : goal.invariant_of-self
invariant_of-self c =
    let w : Award = c.requires.award in
    let ws : List Award = c.self.inside.sold.awards in
    let ps : List Places = c.self.inside.places.items in
    let awards = ap (λ (s : LedgerState). s.awards) c.self.view_is in
    let at : slice_get ws c.args.n ≡ Some w = ap (λ (ws : List Award). slice_get ws c.args.n) awards ∙ c.requires.known in
    let is : c.unwrap.result.now ≡ w = pointed c.get.result c.unwrap.result w c.unwrap.ensures (c.get.ensures ∙ at) in
    let next : c.unwrap-2.result.now ≡ noticed_award c.args.kind w =
    pointed c.get-2.result c.unwrap-2.result (noticed_award c.args.kind w) c.unwrap-2.ensures
    (c.get-2.ensures ∙ (ap (λ (ws : List Award). slice_get ws c.args.n) c.apply.ensures.awards ∙ changed_here (noticed_award c.args.kind) c.args.n ws w at)) in
    let qs : List Places = set ps c.args.n c.with_place.result in
    rw (c.move_money.ensures, c.apply.ensures.awards, c.to_come_of.ensures.value, c.to_come_of-2.ensures.value, is, next)
    (kept_notice c.self.inside.money ws ps qs c.self.inside.to_come c.args.kind c.args.n w c.self.invariant at c.requires.counted (length-set ps c.args.n c.with_place.result))

pub returns-clause-budgets : goal.returns-clause-budgets
returns-clause-budgets c =
    let w : Award = c.requires.award in
    let awards = ap (λ (s : LedgerState). s.awards) c.self.view_is in
    let budgets = ap (λ (s : LedgerState). s.budgets) c.self.view_is in
    let at : slice_get c.self.inside.sold.awards c.args.n ≡ Some w = ap (λ (ws : List Award). slice_get ws c.args.n) awards ∙ c.requires.known in
    let is : c.unwrap.result.now ≡ w = pointed c.get.result c.unwrap.result w c.unwrap.ensures (c.get.ensures ∙ at) in
    rw (c.move_money.ensures, is)
    (notice_budgets c.self.inside.money c.self.inside.sold.awards c.self.inside.places.items c.self.inside.to_come c.args.kind c.args.n w c.self.invariant at c.requires.counted ∙ budgets)

pub returns-clause-placed : goal.returns-clause-placed
returns-clause-placed c =
    let ps : List Places = c.self.inside.places.items in
    let awards = ap (λ (s : LedgerState). s.awards) c.self.view_is in
    let places = ap (λ (s : LedgerState). s.places) c.self.view_is in
    let at : slice_get c.self.inside.sold.awards c.args.n ≡ Some c.requires.award = ap (λ (ws : List Award). slice_get ws c.args.n) awards ∙ c.requires.known in
    let within : c.args.n < length ps = omega (arith, slice_get_within c.self.inside.sold.awards c.args.n c.requires.award at, c.self.invariant.each_placed) in
    let same : get_or ps c.args.n c.index.result.now ≡ get_or ps c.args.n no_places = get_or_default ps c.args.n c.index.result.now no_places within in
    get_or-set_same ps c.args.n c.with_place.result no_places within
    ∙ (c.with_place.ensures ∙ ap (placed c.args.kind c.args.place) (c.index.ensures ∙ (same ∙ ap (λ (xs : List Places). get_or xs c.args.n no_places) places)))

pub returns-clause-others : goal.returns-clause-others
returns-clause-others c = λ m other.
    let places = ap (λ (s : LedgerState). s.places) c.self.view_is in
    get_or-set_other c.self.inside.places.items c.args.n m c.with_place.result no_places other ∙ ap (λ (xs : List Places). get_or xs m no_places) places
