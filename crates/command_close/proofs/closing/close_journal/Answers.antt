-- A history has one document.
use Rattle.command_close.proofs.OneDocument.{one_document}
use Rattle.command_close.proofs.closing.close_journal.Goals as goal

pub returns-clause-one_document : goal.returns-clause-one_document
returns-clause-one_document g c = one_document
