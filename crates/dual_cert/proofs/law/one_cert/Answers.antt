use Rattle.std.proofs.Common.{refl}
use Rattle.dual_cert.specs.Lines.{document}
use Rattle.dual_cert.proofs.Documents.{only_found}
use Rattle.dual_cert.proofs.law.one_cert.Goals as goal

pub returns : goal.returns
returns c = λ c d ranged also same. only_found (document c) c d (refl, ranged) also same
