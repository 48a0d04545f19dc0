use Rattle.std.proofs.Common.{sym}
use Rattle.bid_record.specs.Lines.{imp_line}
use Rattle.command_close.proofs.Steps.{numbered_length}
use Rattle.command_close.proofs.closing.ImpLinesLines.count.Goals as goal

pub returns : goal.returns
returns c = sym (numbered_length imp_line c.args.self.now.imps.now)
