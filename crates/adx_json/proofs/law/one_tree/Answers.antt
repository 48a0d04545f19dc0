use Rattle.adx_json.proofs.OneTree.{one_json}
use Rattle.adx_json.proofs.law.one_tree.Goals as goal

pub returns : goal.returns
returns c = one_json
