use Rattle.std.proofs.Common.{◌≡◌, ◌+◌, ◌/◌, ◌%◌, ◌∷◌, ◌++◌, [], decimal, length, ap, ap₂, ◌∙◌, sym, arith, append_assoc, length-append}
use Rattle.std.proofs.lemmas.Fmt.{decimal_digit, decimal_step}
use Rattle.std.proofs.lemmas.List.{length_push}
use Rattle.adx_units.proofs.price_text.+write_whole.Goals as goal

pub push-requires : goal.push-requires
push-requires t c =
    let one : length (decimal c.args.n) ≡ 1 = ap length (decimal_digit c.args.n (omega arith)) in
    let room = c.requires.room in
    record { room = omega arith }

pub write_whole-requires : goal.write_whole-requires
write_whole-requires t c =
    let last : length (decimal c.args.n) ≡ length (decimal (c.args.n / 10)) + 1 = ap length (decimal_step c.args.n c.if-n-lt10.false (omega arith)) ∙ length_push (decimal (c.args.n / 10)) (48 + c.args.n % 10) in
    let room = c.requires.room in
    let falls = c.decreases in
    (omega arith, omega arith)

pub push-requires-else-n-lt10 : goal.push-requires-else-n-lt10
push-requires-else-n-lt10 t c =
    let last : length (decimal c.args.n) ≡ length (decimal (c.args.n / 10)) + 1 = ap length (decimal_step c.args.n c.if-n-lt10.false (omega arith)) ∙ length_push (decimal (c.args.n / 10)) (48 + c.args.n % 10) in
    let room = c.requires.room in
    let long = ap length c.write_whole.ensures ∙ length-append c.args.out.now (decimal (c.args.n / 10)) in
    record { room = omega arith }

pub returns-then-n-lt10 : goal.returns-then-n-lt10
returns-then-n-lt10 t c =
    let digit : 48 + c.args.n % 10 ≡ 48 + c.args.n = omega arith in
    c.push.ensures ∙ ap (λ x. c.args.out.now ++ (x ∷ [])) (c.last_digit.ensures ∙ digit) ∙ ap (λ l. c.args.out.now ++ l) (sym (decimal_digit c.args.n (omega arith)))

pub returns-else-n-lt10 : goal.returns-else-n-lt10
returns-else-n-lt10 t c =
    let before = c.write_whole.ensures in
    let step = decimal_step c.args.n c.if-n-lt10.false (omega arith) in
    c.push-else-n-lt10.ensures ∙ ap₂ (λ l x. l ++ (x ∷ [])) before c.last_digit-else-n-lt10.ensures ∙ append_assoc c.args.out.now (decimal (c.args.n / 10)) ((48 + c.args.n % 10) ∷ []) ∙ ap (λ l. c.args.out.now ++ l) (sym step)
