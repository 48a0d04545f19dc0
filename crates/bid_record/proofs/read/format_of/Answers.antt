use Rattle.std.proofs.Common.{sym, ◌∙◌, refl, true}
use Rattle.std.proofs.lemmas.Bool.{false≢true}
use Rattle.bid_record.proofs.ReadLines.{head_one, head_two, no_format}
use Rattle.bid_record.proofs.read.format_of.Goals as goal

pub returns-then-is_first : goal.returns-then-is_first
returns-then-is_first c = (refl, c.is_first.ensures.0 c.if-is_first.true ∙ sym head_one)

pub returns-then-is_second : goal.returns-then-is_second
returns-then-is_second c = (refl, c.is_second.ensures.0 c.if-is_second.true ∙ sym head_two)

pub returns-else-is_second : goal.returns-else-is_second
returns-else-is_second c = no_format c.args.line.now (λ e. false≢true (sym c.if-is_first.false ∙ c.is_first.ensures.1 e)) (λ e. false≢true (sym c.if-is_second.false ∙ c.is_second.ensures.1 e))
