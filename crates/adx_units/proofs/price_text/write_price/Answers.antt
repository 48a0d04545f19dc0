use Rattle.std.proofs.Common.{◌≡◌, ◌≤◌, ◌/◌, ◌∷◌, ◌++◌, [], decimal, length, ap, ap₂, append_assoc, ◌∙◌, arith, length-append}
use Rattle.std.proofs.lemmas.Fmt.{length-decimal-le}
use Rattle.std.proofs.lemmas.List.{length_push}
use Rattle.adx_units.proofs.Written.{whole_read, point_read}
use Rattle.adx_units.specs.Money.{price_of, six_decimals, without_last_zeros}
use Rattle.adx_units.proofs.Trimmed.{trimmed_length}
use Rattle.adx_units.proofs.price_text.write_price.Goals as goal

pub write_whole-requires : goal.write_whole-requires
write_whole-requires c =
    let short : length (decimal (c.args.price.0 / 1000000)) ≤ 14 = length-decimal-le 14 (c.args.price.0 / 1000000) (omega arith) (omega arith) (omega arith) in
    let empty : length c.clear.new.self ≡ 0 = ap length c.clear.ensures in
    record { room = omega arith }

pub push-requires : goal.push-requires
push-requires c =
    let short : length (decimal (c.args.price.0 / 1000000)) ≤ 14 = length-decimal-le 14 (c.args.price.0 / 1000000) (omega arith) (omega arith) (omega arith) in
    let empty : length c.clear.new.self ≡ 0 = ap length c.clear.ensures in
    let long = ap length c.write_whole.ensures ∙ length-append c.clear.new.self (decimal (c.args.price.0 / 1000000)) in
    record { room = omega arith }

pub extend-requires : goal.extend-requires
extend-requires c =
    let short : length (decimal (c.args.price.0 / 1000000)) ≤ 14 = length-decimal-le 14 (c.args.price.0 / 1000000) (omega arith) (omega arith) (omega arith) in
    let empty : length c.clear.new.self ≡ 0 = ap length c.clear.ensures in
    let long = ap length c.write_whole.ensures ∙ length-append c.clear.new.self (decimal (c.args.price.0 / 1000000)) in
    let point = ap length c.push.ensures ∙ length_push c.write_whole.new.out 46 in
    let few : length c.without_last_zeros.result.now ≤ 6 = omega (arith, ap length c.without_last_zeros.ensures, ap (λ l. length (without_last_zeros l)) c.six_decimals-decimals.ensures, trimmed_length (six_decimals c.args.price.0)) in
    record { room = omega arith }

pub returns-then-price-ne0-clause-back : goal.returns-then-price-ne0-clause-back
returns-then-price-ne0-clause-back c some few =
    let whole : c.write_whole.new.out ≡ decimal (c.args.price.0 / 1000000) = c.write_whole.ensures ∙ ap (λ l. l ++ decimal (c.args.price.0 / 1000000)) c.clear.ensures in
    let pointed : c.push.new.self ≡ decimal (c.args.price.0 / 1000000) ++ (46 ∷ []) = c.push.ensures ∙ ap (λ l. l ++ (46 ∷ [])) whole in
    let kept = c.without_last_zeros.ensures ∙ ap without_last_zeros c.six_decimals-decimals.ensures in
    let text : c.extend.new.self ≡ decimal (c.args.price.0 / 1000000) ++ (46 ∷ without_last_zeros (six_decimals c.args.price.0)) = c.extend.ensures ∙ ap₂ (λ a b. a ++ b) pointed kept ∙ append_assoc (decimal (c.args.price.0 / 1000000)) (46 ∷ []) (without_last_zeros (six_decimals c.args.price.0)) in
    ap price_of text ∙ point_read c.args.price.0 (omega arith) c.if-price-ne0.true some few

pub returns-else-price-ne0-clause-back : goal.returns-else-price-ne0-clause-back
returns-else-price-ne0-clause-back c some few =
    let text : c.write_whole.new.out ≡ decimal (c.args.price.0 / 1000000) = c.write_whole.ensures ∙ ap (λ l. l ++ decimal (c.args.price.0 / 1000000)) c.clear.ensures in
    ap price_of text ∙ whole_read c.args.price.0 (omega arith) c.if-price-ne0.false some few
