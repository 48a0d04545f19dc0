use Rattle.std.proofs.Common.{ℕ, List, ◌++◌, string_bytes, ap, ◌∙◌, subst, sym}
use Rattle.std.proofs.lemmas.Result.{err_from_is_err_and}
use Rattle.adx_json.specs.Machine.{Frame, Role, in_text, characters, escaped, stop_of, Tells}
use Rattle.adx_json.specs.Found.{FoundText}
use Rattle.adx_json.specs.declared.fault.Stop.{Stop}
use Rattle.std.proofs.Common.{None}
use Rattle.adx_json.proofs.TextParts.{handed, tells_same, text_run, text_escape, text_goes, text_closes, text_empty, backslash_goes, control_stops, at_byte}
use Rattle.adx_json.proofs.text.pieces_at.Goals as goal

abbrev StopsThere : List ℕ → Stop → Type 0
StopsThere bytes e = (role : Role) (fs : List Frame) → Tells e (stop_of 64 (in_text role (characters None)) fs bytes)

pub returns-in_err-waiting-clause-stops : goal.returns-in_err-waiting-clause-stops
returns-in_err-waiting-clause-stops c =
    let p = err_from_is_err_and c.from_residual.result c.from_residual.ensures.1 in
    let e = c.in_err-waiting.field-0.0 in
    let bytes = c.args.bytes.now in
    let run = c.bare_run.result.0.now in
    let behind = c.bare_run.result.1.now in
    handed c.from_residual.result p.0 e (StopsThere bytes) p.1 p.2 (λ role fs.
    tells_same e (stop_of 64 (in_text role (characters None)) fs bytes) (stop_of 64 (in_text role (characters None)) fs (run ++ behind))
    (text_goes bytes (string_bytes c.pieces.out) c.pieces.waiting c.pieces.left.now c.pieces.invariant role fs ∙ ap (stop_of 64 (in_text role (characters None)) fs) c.bare_run.ensures.whole)
    (c.in_err-waiting.ensures.stops role fs))

pub returns-in_default-clause-stops : goal.returns-in_default-clause-stops
returns-in_default-clause-stops c role fs =
    let bytes = c.args.bytes.now in
    let behind = c.bare_run.result.1.now in
    let s = text_run bytes (string_bytes c.pieces.out) c.pieces.waiting c.pieces.left.now c.bare_run.result.0.now behind c.in_ok-waiting.waiting (string_bytes c.push_run.new.out) c.pieces.invariant c.bare_run.ensures.whole c.in_ok-waiting.ensures.found in
    text_goes bytes (string_bytes c.push_run.new.out) c.in_ok-waiting.waiting behind s role fs ∙ text_empty role fs behind c.in_default.ensures.cases

pub returns-then-byte-eq34-clause-found : goal.returns-then-byte-eq34-clause-found
returns-then-byte-eq34-clause-found c =
    let bytes = c.args.bytes.now in
    let behind = c.bare_run.result.1.now in
    let s = text_run bytes (string_bytes c.pieces.out) c.pieces.waiting c.pieces.left.now c.bare_run.result.0.now behind c.in_ok-waiting.waiting (string_bytes c.push_run.new.out) c.pieces.invariant c.bare_run.ensures.whole c.in_ok-waiting.ensures.found in
    let closed = text_closes bytes (string_bytes c.push_run.new.out) c.in_ok-waiting.waiting behind c.in-Some.rest.now (string_bytes c.push_unpaired.new.out) s (at_byte behind c.in-Some.byte.now 34 c.in-Some.rest.now c.in-Some.ensures.cases.0 c.if-byte-eq34.true) c.in_ok-push_unpaired.ensures in
    subst (λ t. FoundText bytes t c.in-Some.rest.now) (sym c.from.ensures) closed

pub returns-then-byte-ne92-clause-stops : goal.returns-then-byte-ne92-clause-stops
returns-then-byte-ne92-clause-stops c role fs =
    let bytes = c.args.bytes.now in
    let behind = c.bare_run.result.1.now in
    let s = text_run bytes (string_bytes c.pieces.out) c.pieces.waiting c.pieces.left.now c.bare_run.result.0.now behind c.in_ok-waiting.waiting (string_bytes c.push_run.new.out) c.pieces.invariant c.bare_run.ensures.whole c.in_ok-waiting.ensures.found in
    text_goes bytes (string_bytes c.push_run.new.out) c.in_ok-waiting.waiting behind s role fs
    ∙ control_stops role fs behind c.in-Some.byte.now c.in-Some.rest.now c.in-Some.ensures.cases.0 c.bare_run.ensures.stops c.if-byte-eq34.false c.if-byte-ne92.true

pub returns-in_err-unit-clause-stops : goal.returns-in_err-unit-clause-stops
returns-in_err-unit-clause-stops c =
    let p = err_from_is_err_and c.from_residual-in_err-unit.result c.from_residual-in_err-unit.ensures.1 in
    let e = c.in_err-unit.field-0.0 in
    let bytes = c.args.bytes.now in
    let behind = c.bare_run.result.1.now in
    let s = text_run bytes (string_bytes c.pieces.out) c.pieces.waiting c.pieces.left.now c.bare_run.result.0.now behind c.in_ok-waiting.waiting (string_bytes c.push_run.new.out) c.pieces.invariant c.bare_run.ensures.whole c.in_ok-waiting.ensures.found in
    handed c.from_residual-in_err-unit.result p.0 e (StopsThere bytes) p.1 p.2 (λ role fs.
    tells_same e (stop_of 64 (in_text role (characters None)) fs bytes) (stop_of 64 (in_text role escaped) fs c.in-Some.rest.now)
    (text_goes bytes (string_bytes c.push_run.new.out) c.in_ok-waiting.waiting behind s role fs ∙ backslash_goes behind c.in-Some.rest.now role fs (at_byte behind c.in-Some.byte.now 92 c.in-Some.rest.now c.in-Some.ensures.cases.0 c.if-byte-ne92.false))
    (c.in_err-unit.ensures.stops role fs))

pub pieces-preserved : goal.pieces-preserved
pieces-preserved c =
    let bytes = c.args.bytes.now in
    let behind = c.bare_run.result.1.now in
    let s = text_run bytes (string_bytes c.pieces.out) c.pieces.waiting c.pieces.left.now c.bare_run.result.0.now behind c.in_ok-waiting.waiting (string_bytes c.push_run.new.out) c.pieces.invariant c.bare_run.ensures.whole c.in_ok-waiting.ensures.found in
    text_escape bytes (string_bytes c.push_run.new.out) c.in_ok-waiting.waiting behind c.in-Some.rest.now c.in_ok-unit.unit c.in_ok-unit.rest.now (string_bytes c.push_unit.new.out) c.in_ok-waiting-2.waiting s
    (at_byte behind c.in-Some.byte.now 92 c.in-Some.rest.now c.in-Some.ensures.cases.0 c.if-byte-ne92.false) c.in_ok-unit.ensures.found c.in_ok-waiting-2.ensures.text c.in_ok-waiting-2.ensures.waits
