use Rattle.bid_record.proofs.Pieces.{in_pieces}
use Rattle.bid_record.proofs.law.document_in_pieces.Goals as goal

pub returns : goal.returns
returns c = in_pieces
