use Rattle.std.proofs.Common.{ℕ, List, ◌∙◌}
use Rattle.std.proofs.lemmas.Result.{err_from_is_err_and}
use Rattle.adx_json.specs.Machine.{Frame, Role, in_text, digits, stop_of, Tells}
use Rattle.adx_json.specs.declared.fault.Stop.{Stop}
use Rattle.adx_json.proofs.TextParts.{handed, tells_same, digit_goes, four_found}
use Rattle.adx_json.proofs.text.unit_at.Goals as goal

abbrev StopsThere : List ℕ → Stop → Type 0
StopsThere bytes e = (role : Role) (fs : List Frame) → Tells e (stop_of 64 (in_text role (digits 3)) fs bytes)

pub returns-in_err-b-clause-stops : goal.returns-in_err-b-clause-stops
returns-in_err-b-clause-stops c =
    let p = err_from_is_err_and c.from_residual-in_err-b.result c.from_residual-in_err-b.ensures.1 in
    let e = c.in_err-b.field-0.0 in
    let bytes = c.args.bytes.now in
    handed c.from_residual-in_err-b.result p.0 e (StopsThere bytes) p.1 p.2 (λ role fs.
    tells_same e (stop_of 64 (in_text role (digits 3)) fs bytes) (stop_of 64 (in_text role (digits 2)) fs c.in_ok-a.rest.now)
    (digit_goes bytes c.in_ok-a.a c.in_ok-a.rest.now c.in_ok-a.ensures.found role fs 3)
    (c.in_err-b.ensures.stops role fs 2))

pub returns-in_err-c-clause-stops : goal.returns-in_err-c-clause-stops
returns-in_err-c-clause-stops c =
    let p = err_from_is_err_and c.from_residual-in_err-c.result c.from_residual-in_err-c.ensures.1 in
    let e = c.in_err-c.field-0.0 in
    let bytes = c.args.bytes.now in
    handed c.from_residual-in_err-c.result p.0 e (StopsThere bytes) p.1 p.2 (λ role fs.
    tells_same e (stop_of 64 (in_text role (digits 3)) fs bytes) (stop_of 64 (in_text role (digits 1)) fs c.in_ok-b.rest.now)
    (digit_goes bytes c.in_ok-a.a c.in_ok-a.rest.now c.in_ok-a.ensures.found role fs 3 ∙ digit_goes c.in_ok-a.rest.now c.in_ok-b.b c.in_ok-b.rest.now c.in_ok-b.ensures.found role fs 2)
    (c.in_err-c.ensures.stops role fs 1))

pub returns-in_err-d-clause-stops : goal.returns-in_err-d-clause-stops
returns-in_err-d-clause-stops c =
    let p = err_from_is_err_and c.from_residual-in_err-d.result c.from_residual-in_err-d.ensures.1 in
    let e = c.in_err-d.field-0.0 in
    let bytes = c.args.bytes.now in
    handed c.from_residual-in_err-d.result p.0 e (StopsThere bytes) p.1 p.2 (λ role fs.
    tells_same e (stop_of 64 (in_text role (digits 3)) fs bytes) (stop_of 64 (in_text role (digits 0)) fs c.in_ok-c.rest.now)
    (digit_goes bytes c.in_ok-a.a c.in_ok-a.rest.now c.in_ok-a.ensures.found role fs 3 ∙ digit_goes c.in_ok-a.rest.now c.in_ok-b.b c.in_ok-b.rest.now c.in_ok-b.ensures.found role fs 2
    ∙ digit_goes c.in_ok-b.rest.now c.in_ok-c.c c.in_ok-c.rest.now c.in_ok-c.ensures.found role fs 1)
    (c.in_err-d.ensures.stops role fs 0))

pub returns-clause-found : goal.returns-clause-found
returns-clause-found c =
    four_found c.args.bytes.now c.in_ok-a.rest.now c.in_ok-b.rest.now c.in_ok-c.rest.now c.in_ok-d.rest.now c.in_ok-a.a c.in_ok-b.b c.in_ok-c.c c.in_ok-d.d c.in_ok-a.ensures.found c.in_ok-b.ensures.found c.in_ok-c.ensures.found c.in_ok-d.ensures.found
