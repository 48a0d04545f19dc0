use Rattle.std.proofs.Common.{◌≡◌, ◌<◌, ◌≤◌, ◌+◌, Some, List, ℕ, ◌∷◌, ◌^◌, ◌∙◌, ap, sym, arith, get_or}
use Rattle.std.proofs.lemmas.List.{nil_from_length}
use Rattle.formats.specs.Numbers.{groups_below}
use Rattle.formats.proofs.SevenBits.{none_left, none_there, last_group, no_high, one_more_some, one_more_none}
use Rattle.formats.proofs.grouping.+groups_at.Goals as goal

-- the first byte is one
first_byte : (bytes : List ℕ) (b : ℕ) (rest : List ℕ) → bytes ≡ b ∷ rest → get_or bytes 0 0 < 256 → b < 256
first_byte bytes b rest e h = omega (arith, h, ap (λ (l : List ℕ). get_or l 0 0) e)

pub returns-in_default : goal.returns-in_default
returns-in_default t c =
    let none : c.args.most ≡ 0 = omega (arith, c.in_default.ensures) in
    ap (λ (k : ℕ). groups_below k (2 ^ 64) c.args.bytes.now) none ∙ none_left (2 ^ 64) c.args.bytes.now

pub returns-in_default-split_first : goal.returns-in_default-split_first
returns-in_default-split_first t c =
    ap (λ (l : List ℕ). groups_below c.args.most (2 ^ 64) l) (nil_from_length c.args.bytes.now c.in_default-split_first.ensures.cases) ∙ none_there c.args.most (2 ^ 64)

pub returns-then-group-lt128 : goal.returns-then-group-lt128
returns-then-group-lt128 t c =
    let some : 1 ≤ c.args.most = omega (arith, c.in-Some.ensures) in
    ap (λ (l : List ℕ). groups_below c.args.most (2 ^ 64) l) c.in-Some-split_first.ensures.cases.0
    ∙ last_group c.args.most c.in-Some-split_first.first.now (2 ^ 64) c.in-Some-split_first.rest.now some c.if-group-lt128.true (omega (arith, c.if-group-lt128.true))
    ∙ ap (λ (n : ℕ). Some (n, c.in-Some-split_first.rest.now)) (sym c.from.ensures)

pub returns-in_default-groups_at : goal.returns-in_default-groups_at
returns-in_default-groups_at t c =
    let less : c.args.most ≡ c.in-Some.less + 1 = omega (arith, c.in-Some.ensures) in
    let whole = c.in-Some-split_first.ensures.cases.0 in
    ap (λ (l : List ℕ). groups_below c.args.most (2 ^ 64) l) whole
    ∙ no_high c.args.most c.in-Some.less c.in-Some-split_first.first.now (2 ^ 64) c.in-Some-split_first.rest.now less c.if-group-lt128.false (first_byte c.args.bytes.now _ _ whole (omega (arith, c.type_inv.bytes 0))) c.in_default-groups_at.ensures

pub returns-in_default-with_group : goal.returns-in_default-with_group
returns-in_default-with_group t c =
    let less : c.args.most ≡ c.in-Some.less + 1 = omega (arith, c.in-Some.ensures) in
    let whole = c.in-Some-split_first.ensures.cases.0 in
    ap (λ (l : List ℕ). groups_below c.args.most (2 ^ 64) l) whole
    ∙ one_more_none c.args.most c.in-Some.less c.in-Some-split_first.first.now (2 ^ 64) c.in-Some-groups_at.high c.in-Some-split_first.rest.now c.in-Some-groups_at.after.now less c.if-group-lt128.false (first_byte c.args.bytes.now _ _ whole (omega (arith, c.type_inv.bytes 0))) c.in-Some-groups_at.ensures c.in_default-with_group.ensures

pub returns : goal.returns
returns t c =
    let less : c.args.most ≡ c.in-Some.less + 1 = omega (arith, c.in-Some.ensures) in
    let whole = c.in-Some-split_first.ensures.cases.0 in
    ap (λ (l : List ℕ). groups_below c.args.most (2 ^ 64) l) whole
    ∙ one_more_some c.args.most c.in-Some.less c.in-Some-split_first.first.now (2 ^ 64) c.in-Some-groups_at.high c.in-Some-with_group.value c.in-Some-split_first.rest.now c.in-Some-groups_at.after.now less c.if-group-lt128.false (first_byte c.args.bytes.now _ _ whole (omega (arith, c.type_inv.bytes 0))) c.in-Some-groups_at.ensures c.in-Some-with_group.ensures.0.0 c.in-Some-with_group.ensures.1 (omega (arith, c.in-Some-with_group.ensures.1, c.in-Some-with_group.ensures.0.1))
