-- The parts that were judged are the head's.
use Rattle.std.proofs.Common.{take, ap, refl, ◌∙◌}
use Rattle.std.specs.Str.{bytes_eq}
use Rattle.http_grammar.specs.Heads.{pairs_at}
use Rattle.http_grammar.specs.Requests.{pairs, is_post, verb_of_method}
use Rattle.http_grammar.proofs.Forms.{request_fails}
use Rattle.http_grammar.proofs.FirstRequests.{has_parts}
use Rattle.http_grammar.proofs.parts.parts_at.Goals as goal

pub returns-in-Ok-clause-judges : goal.returns-in-Ok-clause-judges
returns-in-Ok-clause-judges c = λ h at.
    has_parts c.args.limit c.args.bytes.now c.args.spans.now c.args.found h (record { verb = c.verb_of.result; target = c.args.found.path; keep = c.stays.result; framing = c.in-Ok.framing }) c.eq-is_post.result at
    (c.eq-is_post.ensures ∙ ap (λ m. bytes_eq m c.as_slice.result.now) (c.of-method.ensures ∙ at.method) ∙ ap (λ w. bytes_eq h.method w) c.as_slice.ensures)
    (c.verb_of.ensures ∙ ap verb_of_method c.of-method.ensures) refl c.stays.ensures c.in-Ok.ensures

pub returns-in-Err-clause-judges : goal.returns-in-Err-clause-judges
returns-in-Err-clause-judges c = λ h at.
    request_fails c.args.limit c.args.found.version h.minor c.eq-is_post.result (is_post h) (pairs_at c.args.bytes.now (take c.args.found.headers c.args.spans.now)) (pairs h) c.in-Err.fault at.version
    (c.eq-is_post.ensures ∙ ap (λ m. bytes_eq m c.as_slice.result.now) (c.of-method.ensures ∙ at.method) ∙ ap (λ w. bytes_eq h.method w) c.as_slice.ensures)
    at.fields c.in-Err.ensures
