-- A line of the certificate is one of the document.
use Rattle.std.proofs.Common.{List, ℕ, arith, drop, inr, subst}
use Rattle.std.proofs.lemmas.List.{take_rest}
use Rattle.dual_cert.specs.Refusals.{IsRefusal as RefusesCert}
use Rattle.dual_cert.specs.declared.fault.CertFault.{CertFault}
use Rattle.command_check.proofs.LineNumbers.{line_few}
use Rattle.command_check.proofs.reading.read_behind.Goals as goal

pub line_behind-n-requires : goal.line_behind-n-requires
line_behind-n-requires c =
    let refused = subst (λ (r : List ℕ). RefusesCert r (CertFault.Line c.in-Err-Line.n)) (take_rest c.args.bytes.now c.args.start) (rw c.in-Err-Line.field-0-is at c.in-Err-Line.ensures.fault) in
    let few = line_few c.args.bytes.now (drop c.args.start c.args.bytes.now) c.args.rec.now c.in-Err-Line.n c.requires.begins refused in
    omega (arith, few)

pub returns-in-Err-Line : goal.returns-in-Err-Line
returns-in-Err-Line c =
    let refused = subst (λ (r : List ℕ). RefusesCert r (CertFault.Line c.in-Err-Line.n)) (take_rest c.args.bytes.now c.args.start) (rw c.in-Err-Line.field-0-is at c.in-Err-Line.ensures.fault) in
    inr (c.args.rec.now, drop c.args.start c.args.bytes.now, c.requires.begins, (c.in-Err-Line.n, refused, c.line_behind-n.ensures))

pub returns-in-Err-Cut : goal.returns-in-Err-Cut
returns-in-Err-Cut c =
    let refused = subst (λ (r : List ℕ). RefusesCert r CertFault.Cut) (take_rest c.args.bytes.now c.args.start) (rw c.in-Err-Cut.field-0-is at c.in-Err-Cut.ensures.fault) in
    inr (c.args.rec.now, drop c.args.start c.args.bytes.now, c.requires.begins, refused)
