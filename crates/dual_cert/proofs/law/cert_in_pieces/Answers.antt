use Rattle.dual_cert.proofs.Pieces.{in_pieces}
use Rattle.dual_cert.proofs.law.cert_in_pieces.Goals as goal

pub returns : goal.returns
returns c = in_pieces
