-- The two parts are cut where the whole exponent cuts them, and with_zeros and value_of count what is left.
use Rattle.std.proofs.Common.{◌≡◌, ℕ, ◌-◌, ◌++◌, ◌∙◌, take, drop, min, not, cond, length, ap, ap₂, arith}
use Rattle.adx_units.specs.Number.{digits_value}
use Rattle.adx_units.specs.declared.scale.TheConstants.{CAP, FAR}
use Rattle.adx_units.proofs.Reach.{reaches, units_reached, rest_reached}
use Rattle.adx_units.proofs.scale.shifted.Goals as goal

pub returns-clause-units : goal.returns-clause-units
returns-clause-units c =
    let n = c.args.numeral.now in
    let e : ℕ = digits_value n.exponent.now in
    let reach : ℕ = c.moved_point-reach.result in
    let kw : ℕ = c.min-kept_whole.result in
    let kf : ℕ = c.min-kept_fraction.result in
    let stands = reaches (length n.whole.now) (length n.fraction.now) c.args.places e FAR c.far_value_of-moved.result reach kw kf n.lowers c.far_value_of-moved.ensures c.moved_point-reach.ensures (omega arith) c.min-kept_whole.ensures c.min-kept_fraction.ensures in
    let digits : c.value_of.result ≡ min (digits_value (take kw n.whole.now ++ take kf n.fraction.now)) CAP = c.value_of.ensures ∙ ap₂ (λ a b. min (digits_value (a ++ b)) CAP) c.split_at.ensures.front c.split_at-2.ensures.front in
    c.with_zeros.ensures ∙ units_reached n.whole.now n.fraction.now (cond n.lowers 0 e) c.args.places (cond n.lowers e 0) FAR reach kw kf (reach - kw - kf) c.value_of.result CAP c.requires.digits stands (omega arith) digits

pub returns-clause-rest : goal.returns-clause-rest
returns-clause-rest c =
    let n = c.args.numeral.now in
    let e : ℕ = digits_value n.exponent.now in
    let reach : ℕ = c.moved_point-reach.result in
    let kw : ℕ = c.min-kept_whole.result in
    let kf : ℕ = c.min-kept_fraction.result in
    let stands = reaches (length n.whole.now) (length n.fraction.now) c.args.places e FAR c.far_value_of-moved.result reach kw kf n.lowers c.far_value_of-moved.ensures c.moved_point-reach.ensures (omega arith) c.min-kept_whole.ensures c.min-kept_fraction.ensures in
    let digits : c.value_of-2.result ≡ min (digits_value (drop kw n.whole.now ++ drop kf n.fraction.now)) CAP = c.value_of-2.ensures ∙ ap₂ (λ a b. min (digits_value (a ++ b)) CAP) c.split_at.ensures.back c.split_at-2.ensures.back in
    ap not (rest_reached n.whole.now n.fraction.now (cond n.lowers 0 e) c.args.places (cond n.lowers e 0) FAR reach kw kf (reach - kw - kf) c.value_of-2.result CAP c.requires.digits stands (omega arith) digits)
