use Rattle.std.proofs.Common.{ℕ, List, None}
use Rattle.std.proofs.lemmas.Result.{err_from_is_err_and}
use Rattle.adx_json.specs.Machine.{Frame, at_name, a_name, in_text, characters, stop_of, Tells}
use Rattle.adx_json.specs.declared.fault.Stop.{Stop}
use Rattle.adx_json.proofs.TextParts.{handed, tells_same}
use Rattle.adx_json.proofs.ReaderParts.{name_unquoted, name_goes, name_uncoloned, name_found}
use Rattle.adx_json.proofs.reader.name_at.Goals as goal

abbrev StopsThere : List ℕ → Stop → Type 0
StopsThere bytes e = (fs : List Frame) → Tells e (stop_of 64 at_name fs bytes)

pub returns-in_default-clause-stops : goal.returns-in_default-clause-stops
returns-in_default-clause-stops c = name_unquoted c.args.bytes.now c.after_space-start.result.now c.after_space-start.ensures c.in_default.ensures

pub returns-in_err-name-clause-stops : goal.returns-in_err-name-clause-stops
returns-in_err-name-clause-stops c =
    let p = err_from_is_err_and c.from_residual.result c.from_residual.ensures.1 in
    let e = c.in_err-name.field-0.0 in
    let bytes = c.args.bytes.now in
    handed c.from_residual.result p.0 e (StopsThere bytes) p.1 p.2 (λ fs.
    tells_same e (stop_of 64 at_name fs bytes) (stop_of 64 (in_text a_name (characters None)) fs c.in-Some.body.now)
    (name_goes bytes c.after_space-start.result.now c.in-Some.body.now c.after_space-start.ensures c.in-Some.ensures fs)
    (c.in_err-name.ensures.stops a_name fs))

pub returns-in_default-after-clause-stops : goal.returns-in_default-after-clause-stops
returns-in_default-after-clause-stops c =
    name_uncoloned c.args.bytes.now c.after_space-start.result.now c.in-Some.body.now c.in_ok-name.name c.in_ok-name.rest.now c.after_space-behind.result.now c.after_space-start.ensures c.in-Some.ensures c.in_ok-name.ensures.found c.after_space-behind.ensures c.in_default-after.ensures

pub returns-clause-found : goal.returns-clause-found
returns-clause-found c =
    name_found c.args.bytes.now c.after_space-start.result.now c.in-Some.body.now c.in_ok-name.name c.in_ok-name.rest.now c.after_space-behind.result.now c.in-Some-after.value.now c.after_space-start.ensures c.in-Some.ensures c.in_ok-name.ensures.found c.after_space-behind.ensures c.in-Some-after.ensures
