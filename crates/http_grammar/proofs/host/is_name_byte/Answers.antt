-- The table says it of each byte.
use Rattle.std.proofs.Common.{arith}
use Rattle.http_grammar.proofs.Marks.{mark_at}
use Rattle.http_grammar.proofs.host.is_name_byte.Goals as goal

pub returns : goal.returns
returns c = mark_at c.args.b (omega arith)
