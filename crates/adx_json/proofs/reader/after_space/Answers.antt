use Rattle.std.proofs.lemmas.List.Sums.{prefix_len-le-length}
use Rattle.adx_json.specs.Grammar.{is_space}
use Rattle.adx_json.proofs.ReaderParts.{space_found}
use Rattle.adx_json.proofs.reader.after_space.Goals as goal

pub split_at-requires : goal.split_at-requires
split_at-requires c = rw c.space_len.ensures (prefix_len-le-length is_space c.args.bytes.now)

pub returns : goal.returns
returns c = space_found c.args.bytes.now c.split_at.result.1.now c.space_len.result c.space_len.ensures c.split_at.ensures.back
