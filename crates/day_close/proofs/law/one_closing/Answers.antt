use Rattle.day_close.proofs.OneClosing.{same_certs}
use Rattle.day_close.proofs.law.one_closing.Goals as goal

pub returns : goal.returns
returns c = same_certs
