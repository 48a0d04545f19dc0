use Rattle.std.proofs.Common.{◌≡◌, ◌++◌, ◌<◌, ℕ, List, length, sym, subst, arith, OnOk}
use Rattle.std.specs.String.{string_bytes}
use Rattle.formats.specs.Parts.{ended}
use Rattle.bid_record.specs.Lines.{imp_line}
use Rattle.command_close.proofs.Steps.{numbered_at, numbered_length}
use Rattle.command_close.proofs.closing.ImpLinesLines.push_line.Goals as goal

pub returns : goal.returns
returns c =
    let imps = c.args.self.now.imps.now in
    let within : c.args.at < length imps = omega (arith, c.requires, numbered_length imp_line imps) in
    subst (λ (l : List ℕ). OnOk c.push_imp_line.result (string_bytes c.push_imp_line.new.out ≡ string_bytes c.args.out.now ++ ended l))
    (sym (numbered_at imp_line imps c.args.at c.index-self-at.result within))
    c.push_imp_line.ensures
