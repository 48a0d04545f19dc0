-- Lengths that don't agree frame no body.
use Rattle.http_grammar.specs.Heads.{pairs_at}
use Rattle.http_grammar.proofs.Forms.{unsound}
use Rattle.http_grammar.proofs.judge.form_of.Goals as goal

pub returns-in-Unsound : goal.returns-in-Unsound
returns-in-Unsound c = unsound (pairs_at c.args.head.now c.args.spans.now) c.in-Unsound.ensures.lengths
