use Rattle.std.proofs.Common.{option_map}
use Rattle.adx_json.specs.View.{tree_of}
use Rattle.adx_json.proofs.Finding.{nulls_out}
use Rattle.adx_json.proofs.member.find_given.Goals as goal

pub returns : goal.returns
returns c = nulls_out (option_map (λ t. tree_of t.now) c.args.object) c.args.names.now 0 _ _ c.leave_out_nulls.ensures c.find_members.ensures
